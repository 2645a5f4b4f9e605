-- What instances and their patches add to the counts of a summary.
use Rattle.std.proofs.Common.{◌≡◌, ℕ, ◌+◌, ◌≤◌, zero, suc, Bool, true, false, cond, List, [], ◌∷◌, ◌++◌, length, refl, ap, sym, subst, ◌∙◌, arith, Option, None, Some}
use Rattle.std.specs.Prelude.{◌==◌, ◌-◌, nat_le, if◌then◌else◌, option_map}
use Rattle.std.specs.List.{count_by}
use Rattle.std.specs.Map.{lookup}
use Rattle.std.proofs.lemmas.Bool.Decides.{nat_tests}
use Rattle.std.proofs.lemmas.List.Sums.{sum_by-cons}
use Rattle.nim_patch.specs.declared.kept.Key.{Key}
use Rattle.nim_patch.specs.declared.kept.Kept.{Kept}
use Rattle.nim_patch.specs.declared.patch.PatchCopy.{PatchCopy}
use Rattle.nim_patch.specs.Uses.{Use, hit, is_hit, patch_key, same_key}
use Rattle.nim_reuse.specs.declared.reused.Patched.{Patched}
use Rattle.nim_reuse.specs.declared.reused.Patched.TheVariants.{Not, Repeated, Made}
use Rattle.nim_course.specs.declared.summary.Summary.{Summary}
use Rattle.nim_course.specs.PutLists.{IsByUses, capped_count, hits_in, use_with}
use Rattle.nim_course.specs.Summaries.{reused_counted, single_counted, whole_counted}
use Rattle.nim_course.proofs.PutCounts.{capped_more}

-- the counts of instances and patches, by which instance of its block each move gives, and by the uses of patches
pub record AreCountsOf (nths : List ℕ) (uses : List Use) (s : Summary) : Type 0 where
  pub instances : s.instances ≡ capped_count (count_by (λ (nth : ℕ). nat_le 1 nth) nths)
  pub single : s.single ≡ capped_count (count_by (λ (nth : ℕ). nth == 1) nths)
  pub installed : s.installed ≡ capped_count (count_by (λ (nth : ℕ). nth == 2) nths)
  pub cached : s.cached ≡ capped_count (count_by (λ (nth : ℕ). nat_le 3 nth) nths)
  pub made : s.made ≡ capped_count (length uses - hits_in uses)
  pub repeated : s.repeated ≡ capped_count (hits_in uses)
  pub taken : s.taken ≡ 0
  pub refused : s.refused ≡ 0
  pub edits : s.edits ≡ []
  pub rollbacks : s.rollbacks ≡ []

-- ---- which instances of their blocks they are

-- one that passes no test
count_no : (test : ℕ → Bool) (nth : ℕ) (nths : List ℕ) → test nth ≡ false → count_by test (nth ∷ nths) ≡ count_by test nths
count_no test nth nths fails =
    sum_by-cons (λ (t : ℕ). cond (test t) 1 0) nth nths ∙ ap (λ (b : Bool). cond b 1 0 + count_by test nths) fails ∙ omega arith

-- one that does
count_yes : (test : ℕ → Bool) (nth : ℕ) (nths : List ℕ) → test nth ≡ true → count_by test (nth ∷ nths) ≡ count_by test nths + 1
count_yes test nth nths passes =
    sum_by-cons (λ (t : ℕ). cond (test t) 1 0) nth nths ∙ ap (λ (b : Bool). cond b 1 0 + count_by test nths) passes ∙ omega arith

-- the count stays
stays : (n : ℕ) (test : ℕ → Bool) (nth : ℕ) (nths : List ℕ) → test nth ≡ false → n ≡ capped_count (count_by test nths)
    → n ≡ capped_count (count_by test (nth ∷ nths))
stays n test nth nths fails is = is ∙ ap capped_count (sym (count_no test nth nths fails))

-- or is one more
rises : (n : ℕ) (test : ℕ → Bool) (nth : ℕ) (nths : List ℕ) → test nth ≡ true → n ≡ capped_count (count_by test nths)
    → capped_count (n + 1) ≡ capped_count (count_by test (nth ∷ nths))
rises n test nth nths passes is =
    ap (λ (k : ℕ). capped_count (k + 1)) is ∙ capped_more (count_by test nths) 1 _ ∙ ap capped_count (sym (count_yes test nth nths passes))

-- a move that gives no instance
pub none_counted : (nths : List ℕ) (uses : List Use) (s : Summary) → AreCountsOf nths uses s → AreCountsOf (0 ∷ nths) uses s
none_counted nths uses s are = record {
  instances = stays s.instances (λ (nth : ℕ). nat_le 1 nth) 0 nths refl are.instances;
  single = stays s.single (λ (nth : ℕ). nth == 1) 0 nths refl are.single;
  installed = stays s.installed (λ (nth : ℕ). nth == 2) 0 nths refl are.installed;
  cached = stays s.cached (λ (nth : ℕ). nat_le 3 nth) 0 nths refl are.cached;
  made = are.made;
  repeated = are.repeated;
  taken = are.taken;
  refused = are.refused;
  edits = are.edits;
  rollbacks = are.rollbacks;
}

-- one that gives the first of its block
pub first_counted : (nths : List ℕ) (uses : List Use) (s : Summary) → AreCountsOf nths uses s → AreCountsOf (1 ∷ nths) uses (single_counted s)
first_counted nths uses s are = record {
  instances = rises s.instances (λ (nth : ℕ). nat_le 1 nth) 1 nths refl are.instances;
  single = rises s.single (λ (nth : ℕ). nth == 1) 1 nths refl are.single;
  installed = stays s.installed (λ (nth : ℕ). nth == 2) 1 nths refl are.installed;
  cached = stays s.cached (λ (nth : ℕ). nat_le 3 nth) 1 nths refl are.cached;
  made = are.made;
  repeated = are.repeated;
  taken = are.taken;
  refused = are.refused;
  edits = are.edits;
  rollbacks = are.rollbacks;
}

-- one that gives the second
second_counted : (nths : List ℕ) (uses : List Use) (s : Summary) → AreCountsOf nths uses s → AreCountsOf (2 ∷ nths) uses (whole_counted true s)
second_counted nths uses s are = record {
  instances = rises s.instances (λ (nth : ℕ). nat_le 1 nth) 2 nths refl are.instances;
  single = stays s.single (λ (nth : ℕ). nth == 1) 2 nths refl are.single;
  installed = rises s.installed (λ (nth : ℕ). nth == 2) 2 nths refl are.installed;
  cached = stays s.cached (λ (nth : ℕ). nat_le 3 nth) 2 nths refl are.cached;
  made = are.made;
  repeated = are.repeated;
  taken = are.taken;
  refused = are.refused;
  edits = are.edits;
  rollbacks = are.rollbacks;
}

-- one that gives a later one
later_counted : (more : ℕ) (nths : List ℕ) (uses : List Use) (s : Summary) → AreCountsOf nths uses s
    → AreCountsOf (suc (suc (suc more)) ∷ nths) uses (whole_counted false s)
later_counted more nths uses s are = record {
  instances = rises s.instances (λ (nth : ℕ). nat_le 1 nth) (suc (suc (suc more))) nths (grind (arith, nat_tests)) are.instances;
  single = stays s.single (λ (nth : ℕ). nth == 1) (suc (suc (suc more))) nths (grind (arith, nat_tests)) are.single;
  installed = stays s.installed (λ (nth : ℕ). nth == 2) (suc (suc (suc more))) nths (grind (arith, nat_tests)) are.installed;
  cached = rises s.cached (λ (nth : ℕ). nat_le 3 nth) (suc (suc (suc more))) nths (grind (arith, nat_tests)) are.cached;
  made = are.made;
  repeated = are.repeated;
  taken = are.taken;
  refused = are.refused;
  edits = are.edits;
  rollbacks = are.rollbacks;
}

-- ---- uses

-- no more hits than uses
few_hits : (uses : List Use) → hits_in uses ≤ length uses
few_hits [] = omega arith
few_hits (latest ∷ past) = either (is_hit latest.0 latest.1.patch.copies past) (few_hits past) where
  either : (b : Bool) → hits_in past ≤ length past → (if b then 1 else 0) + hits_in past ≤ suc (length past)
  either true few = omega (arith, few)
  either false few = omega (arith, few)

-- what has a number is a hit
hit_is : (b : Bool) (o : Option ℕ) (number : ℕ) → (if b then o else None) ≡ Some number → b ≡ true
hit_is true o number is = refl
hit_is false o number is = absurd cc

-- the patch before an instance
pub patch_counts : (failing previous block : ℕ) (copies : List PatchCopy) (patched : Patched) (new : Bool) (nths : List ℕ) (uses : List Use) (s : Summary)
    → IsByUses failing uses previous block copies patched → AreCountsOf nths uses (whole_counted new s)
    → AreCountsOf nths (use_with previous block copies patched ++ uses) (reused_counted new patched s)
patch_counts failing previous block copies Not new nths uses s by are = are
patch_counts failing previous block copies (Repeated number) new nths uses s by are =
    let key : Key = patch_key previous block in
    let found : Option ℕ = option_map (λ (k : Kept). k.number) (lookup (same_key key) uses) in
    let hits : is_hit key copies uses ≡ true = hit_is (is_hit key copies uses) found number by.1 in
    let now : ℕ = (if is_hit key copies uses then 1 else 0) + hits_in uses in
    let one : now ≡ hits_in uses + 1 = ap (λ (b : Bool). (if b then 1 else 0) + hits_in uses) hits ∙ omega arith in
    record {
      instances = are.instances;
      single = are.single;
      installed = are.installed;
      cached = are.cached;
      made =
          (let same : length uses - hits_in uses ≡ suc (length uses) - now = omega (arith, one) in are.made ∙ ap capped_count same);
      repeated = ap (λ (k : ℕ). capped_count (k + 1)) are.repeated ∙ capped_more (hits_in uses) 1 _ ∙ ap capped_count (sym one);
      taken = are.taken;
      refused = are.refused;
      edits = are.edits;
      rollbacks = are.rollbacks;
    }
patch_counts failing previous block copies (Made number) new nths uses s by are =
    let key : Key = patch_key previous block in
    let now : ℕ = (if is_hit key copies uses then 1 else 0) + hits_in uses in
    let same : now ≡ hits_in uses = ap (λ (b : Bool). (if b then 1 else 0) + hits_in uses) by.1 ∙ omega arith in
    let few = few_hits uses in
    let one : length uses - hits_in uses + 1 ≡ suc (length uses) - now = omega (arith, same, few) in
    record {
      instances = are.instances;
      single = are.single;
      installed = are.installed;
      cached = are.cached;
      made = ap (λ (k : ℕ). capped_count (k + 1)) are.made ∙ capped_more (length uses - hits_in uses) 1 _ ∙ ap capped_count one;
      repeated = are.repeated ∙ ap capped_count (sym same);
      taken = are.taken;
      refused = are.refused;
      edits = are.edits;
      rollbacks = are.rollbacks;
    }

-- an instance that is asked for as a whole: at the second the template is installed
pub again_counted : (times : ℕ) (nths : List ℕ) (uses : List Use) (s : Summary) → 1 ≤ times → AreCountsOf nths uses s
    → AreCountsOf ((times + 1) ∷ nths) uses (whole_counted (times == 1) s)
again_counted zero nths uses s some are = absurd (omega (arith, some))
again_counted (suc zero) nths uses s some are = second_counted nths uses s are
again_counted (suc (suc more)) nths uses s some are =
    let number : suc (suc (suc more)) ≡ suc (suc more) + 1 = omega arith in
    let apart : (suc (suc more) == 1) ≡ false = grind (arith, nat_tests) in
    subst (λ (b : Bool). AreCountsOf ((suc (suc more) + 1) ∷ nths) uses (whole_counted b s)) (sym apart)
    (subst (λ (n : ℕ). AreCountsOf (n ∷ nths) uses (whole_counted false s)) number (later_counted more nths uses s are))
