-- The patch before an instance, and the patches that are kept then.
use Rattle.std.proofs.Common.{◌≡◌, ℕ, ◌+◌, Bool, true, false, cond, List, [], ◌∷◌, length, get_or, take, refl, ap, sym, subst, ◌∙◌, arith}
use Rattle.std.specs.Prelude.{◌==◌, All, if◌then◌else◌, nat_lt, Option, None, Some}
use Rattle.std.specs.List.{AllByRecursion}
use Rattle.std.specs.Map.{lookup_entry, remove_entry}
use Rattle.std.specs.Option.{option_map_or}
use Rattle.std.proofs.lemmas.Bool.{eq-eqb, eqb-true}
use Rattle.std.proofs.lemmas.List.Elements.{All-cons, All-from_recursion, All-take, All-weaker, recursion_from_All}
use Rattle.nim_base.specs.declared.number.Object.{Object}
use Rattle.nim_base.specs.declared.number.Worker.{Worker}
use Rattle.nim_command.specs.declared.template.WorkerTemplate.{WorkerTemplate}
use Rattle.nim_message.specs.declared.order.ToWorker.{ToWorker}
use Rattle.nim_place.specs.Versions.{Versions}
use Rattle.nim_patch.specs.declared.kept.Key.{Key}
use Rattle.nim_patch.specs.declared.patch.PatchCopy.{PatchCopy}
use Rattle.nim_patch.specs.Cache.{IsValid, after_use, patch_number_kept, number_for, times_kept}
use Rattle.nim_patch.specs.Given.{ArePartsInstalled}
use Rattle.nim_patch.specs.Patches.{patch_copies, failing_in}
use Rattle.nim_patch.specs.Uses.{Use, same_key, use_of}
use Rattle.nim_patch.proofs.Numbers.{valid_again, valid_used}
use Rattle.nim_patch.proofs.Using.{found_kept}
use Rattle.nim_reuse.specs.declared.reused.Patched.{Patched}
use Rattle.nim_reuse.specs.declared.reused.Patched.TheVariants.{Not, Repeated, Made}
use Rattle.nim_reuse.specs.GoesOn.{HasPartsInstalled}
use Rattle.nim_reuse.specs.Reuse.{patched_by, patches_after}
use Rattle.nim_reuse.proofs.Blocks.{KeepPatch, parts_stay}

-- ---- which patch

-- when there is none, one again, or a new one
abbrev pub IsFor : Key → Versions → List Use → List (Worker × Object) → Patched → Type 0
IsFor key versions uses needs Not = failing_in versions needs ≡ 0
IsFor key versions uses needs (Repeated number) = patch_number_kept key (patch_copies versions needs) uses ≡ Some number
IsFor key versions uses needs (Made number) = number ≡ number_for key uses

-- so it is
pub patched_for : (key : Key) (versions : Versions) (uses : List Use) (template : WorkerTemplate)
    → IsFor key versions uses template.preconditions (patched_by key versions uses template)
patched_for key versions uses template =
    by (failing_in versions template.preconditions == 0) (patch_number_kept key (patch_copies versions template.preconditions) uses) refl refl where
      by : (b : Bool) (o : Option ℕ) → (failing_in versions template.preconditions == 0) ≡ b
          → patch_number_kept key (patch_copies versions template.preconditions) uses ≡ o
          → IsFor key versions uses template.preconditions (if b then Not else option_map_or Repeated o (Made (number_for key uses)))
      by true o none is = eqb-true (failing_in versions template.preconditions) 0 none
      by false None some is = refl
      by false (Some number) some is = is

-- ---- what is kept

-- what holds of each pair holds of the one that is found
found_holds : {K X : Type 0} (P : K × X → Type 0) (test : K → Bool) (es : List (K × X)) (e : K × X) → AllByRecursion P es → lookup_entry test es ≡ Some e → P e
found_holds P test [] e all is = absurd cc
found_holds {K} {X} P test (first ∷ es) e all is = by (test first.0) is (found_holds P test es e all.1) where
  by : (b : Bool) → cond b (Some first) (lookup_entry test es) ≡ Some e → (lookup_entry test es ≡ Some e → P e) → P e
  by true is rest = let same : first ≡ e = cc in subst P same all.0
  by false is rest = rest is

-- and of those that are left
left_hold : {K X : Type 0} (P : K × X → Type 0) (test : K → Bool) (es : List (K × X)) → AllByRecursion P es → AllByRecursion P (remove_entry test es)
left_hold P test [] all = tt
left_hold {K} {X} P test (first ∷ es) all = by (test first.0) (left_hold P test es all.1) where
  by : (b : Bool) → AllByRecursion P (remove_entry test es) → AllByRecursion P (cond b es (first ∷ remove_entry test es))
  by true rest = all.1
  by false rest = (all.0, rest)

-- where a number is that of no patch, each has another
others_apart : (number : ℕ) (kept : List Use) → times_kept number kept ≡ 0 → AllByRecursion (λ (one : Use). (one.1.number == number) ≡ false) kept
others_apart number [] none = tt
others_apart number (first ∷ kept) none = by (first.1.number == number) refl none (others_apart number kept) where
  by : (b : Bool) → (first.1.number == number) ≡ b → (if b then 1 else 0) + times_kept number kept ≡ 0
      → (times_kept number kept ≡ 0 → AllByRecursion (λ (one : Use). (one.1.number == number) ≡ false) kept)
      → AllByRecursion (λ (one : Use). (one.1.number == number) ≡ false) (first ∷ kept)
  by true is none rest = absurd (omega (arith, none))
  by false is none rest = (is, rest (omega (arith, none)))

-- the first patch of a valid cache has its number for itself
first_apart : (first : Use) (kept : List Use) → IsValid (first ∷ kept) → times_kept first.1.number kept ≡ 0
first_apart first kept valid = by (nat_lt first.1.number (length (first ∷ kept))) (own ∙ valid.numbered first.1.number) where
  own : 1 + times_kept first.1.number kept ≡ times_kept first.1.number (first ∷ kept)
  own = ap (λ (b : Bool). (if b then 1 else 0) + times_kept first.1.number kept) (sym (eq-eqb first.1.number first.1.number refl))

  by : (b : Bool) → 1 + times_kept first.1.number kept ≡ (if b then 1 else 0) → times_kept first.1.number kept ≡ 0
  by true is = omega (arith, is)
  by false is = absurd (omega (arith, is))

-- ---- installed

-- the number of a patch that is made changes
abbrev pub is_made : Patched → ℕ → Bool
is_made (Made number) other = other == number
is_made _ other = false

-- live workers have the copies of the patch, if there is one
abbrev pub HasCopies : List Bool → List PatchCopy → (ℕ → List ToWorker) → Patched → Type 0
HasCopies live copies lists Not = Unit {0}
HasCopies live copies lists (Repeated number) = ArePartsInstalled live number copies lists
HasCopies live copies lists (Made number) = ArePartsInstalled live number copies lists

-- a patch that is found is installed
pub found_installed : (live : List Bool) (lists : ℕ → List ToWorker) (key : Key) (copies : List PatchCopy) (number : ℕ) (uses : List Use)
    → All (HasPartsInstalled live lists) uses → patch_number_kept key copies uses ≡ Some number → ArePartsInstalled live number copies lists
found_installed live lists key copies number uses all is =
    found_holds (HasPartsInstalled live lists) (same_key key) uses (use_of key number copies) (recursion_from_All (HasPartsInstalled live lists) uses all)
    (found_kept key copies number uses is).entry

-- patches that keep their copies are installed still
pub stay_kept : (live : List Bool) (before after : ℕ → List ToWorker) (uses : List Use) → ((patch : ℕ) → KeepPatch live before after patch)
    → All (HasPartsInstalled live before) uses → All (HasPartsInstalled live after) uses
stay_kept live before after uses kept =
    All-weaker (HasPartsInstalled live before) (HasPartsInstalled live after)
    (λ one. parts_stay live before after one.1.number one.1.patch.copies (kept one.1.number)) uses

-- the patches that are kept then
pub all_kept : (live : List Bool) (before after : ℕ → List ToWorker) (key : Key) (versions : Versions) (uses : List Use) (needs : List (Worker × Object))
    (patched : Patched) → IsFor key versions uses needs patched → IsValid uses
    → ((patch : ℕ) → is_made patched patch ≡ false → KeepPatch live before after patch) → HasCopies live (patch_copies versions needs) after patched
    → All (HasPartsInstalled live before) uses → All (HasPartsInstalled live after) (patches_after key (patch_copies versions needs) uses patched)
all_kept live before after key versions uses needs Not is valid kept has all = stay_kept live before after uses (λ patch. kept patch refl) all
all_kept live before after key versions uses needs (Repeated number) is valid kept has all =
    let copies : List PatchCopy = patch_copies versions needs in
    All-take (HasPartsInstalled live after) 64 (use_of key number copies ∷ remove_entry (same_key key) uses)
    (All-cons (HasPartsInstalled live after) (use_of key number copies) (remove_entry (same_key key) uses) has
    (All-from_recursion (HasPartsInstalled live after) (remove_entry (same_key key) uses)
    (left_hold (HasPartsInstalled live after) (same_key key) uses
    (recursion_from_All (HasPartsInstalled live after) uses (stay_kept live before after uses (λ patch. kept patch refl) all)))))
all_kept live before after key versions uses needs (Made number) is valid kept has all =
    let copies : List PatchCopy = patch_copies versions needs in
    let rest : List Use = take 63 (remove_entry (same_key key) uses) in
    let whole : IsValid (use_of key number copies ∷ rest) =
    subst (λ (n : ℕ). IsValid (after_use (use_of key n copies) uses)) (sym is) (valid_used key copies uses valid) in
    let apart : All (λ (one : Use). (one.1.number == number) ≡ false) rest =
    All-from_recursion (λ (one : Use). (one.1.number == number) ≡ false) rest
    (others_apart number rest (first_apart (use_of key number copies) rest whole)) in
    let left : All (HasPartsInstalled live before) rest =
    All-take (HasPartsInstalled live before) 63 (remove_entry (same_key key) uses)
    (All-from_recursion (HasPartsInstalled live before) (remove_entry (same_key key) uses)
    (left_hold (HasPartsInstalled live before) (same_key key) uses (recursion_from_All (HasPartsInstalled live before) uses all))) in
    All-cons (HasPartsInstalled live after) (use_of key number copies) rest has
    (λ k other below.
    parts_stay live before after (get_or rest k other).1.number (get_or rest k other).1.patch.copies
    (kept (get_or rest k other).1.number (apart k other below)) (left k other below))

-- they are valid
pub kept_valid : (key : Key) (versions : Versions) (uses : List Use) (needs : List (Worker × Object)) (patched : Patched)
    → IsFor key versions uses needs patched → IsValid uses → IsValid (patches_after key (patch_copies versions needs) uses patched)
kept_valid key versions uses needs Not is valid = valid
kept_valid key versions uses needs (Repeated number) is valid =
    valid_again key (patch_copies versions needs) uses (use_of key number (patch_copies versions needs)) valid
    (found_kept key (patch_copies versions needs) number uses is)
kept_valid key versions uses needs (Made number) is valid =
    subst (λ (n : ℕ). IsValid (after_use (use_of key n (patch_copies versions needs)) uses)) (sym is) (valid_used key (patch_copies versions needs) uses valid)
