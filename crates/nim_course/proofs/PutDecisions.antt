-- What was decided rests on the moves so far, and on one more.
use Rattle.std.proofs.Common.{◌≡◌, ℕ, ◌+◌, ◌<◌, ◌≤◌, zero, suc, Bool, true, false, cond, ℤ, List, [], ◌∷◌, ◌++◌, length, refl, ap, sym, subst, ◌∙◌, arith, Option, None, Some}
use Rattle.std.specs.Prelude.{◌==◌, ◌&&◌, if◌then◌else◌, nat_lt, option_map, slice_index_or, slice_set}
use Rattle.std.specs.Map.{lookup}
use Rattle.std.specs.Option.{option_map_or}
use Rattle.std.proofs.lemmas.Bool.{cond-false, cond-true, eqb-false, eqb-true, ne_eqb}
use Rattle.std.proofs.lemmas.List.{get_or-set_other, get_or-set_same, length-set}
use Rattle.std.proofs.lemmas.List.Sums.{sum_by-cons}
use Rattle.nim_command.specs.declared.template.WorkerTemplate.{WorkerTemplate}
use Rattle.nim_place.specs.Versions.{Versions}
use Rattle.nim_patch.specs.declared.kept.Key.{Key}
use Rattle.nim_patch.specs.declared.kept.Kept.{Kept}
use Rattle.nim_patch.specs.declared.patch.PatchCopy.{PatchCopy}
use Rattle.nim_patch.specs.Cache.{number_for}
use Rattle.nim_patch.specs.Patches.{patch_copies, failing_in}
use Rattle.nim_patch.specs.Uses.{StandsFor, Use, hit, is_hit, keys_in, patch_key, same_copies, same_key, since, use_of}
use Rattle.nim_reuse.specs.declared.decided.Decided.{Decided}
use Rattle.nim_reuse.specs.declared.decided.Decided.TheVariants.{Open, Recorded, Installed}
use Rattle.nim_reuse.specs.declared.reused.Patched.{Patched}
use Rattle.nim_reuse.specs.declared.reused.Patched.TheVariants.{Not, Repeated, Made}
use Rattle.nim_reuse.specs.Decisions.{Decisions, after_recording, decided_of, is_recorded, is_reusable}
use Rattle.nim_reuse.specs.Reuse.{decisions_at, is_new, patch_found, patched_by, patches_after}
use Rattle.nim_course.specs.declared.pending.Pending.{Pending}
use Rattle.nim_course.specs.declared.pending.Pending.TheVariants.{Begin, Idle, Block, Cell, Parts, Ended}
use Rattle.nim_course.specs.Controller.{Controller}
use Rattle.nim_course.specs.OrdersGiven.{instance_at, recorded_of}
use Rattle.nim_course.specs.PutLists.{IsByUses, IsDecidedBy, block_after, copies_before, is_instance_of, last_block, nth_given, patched_in_move, template_in, times_given, use_in, use_with, uses_by}
use Rattle.nim_patch.proofs.Hits.{found_hits, stands_used}

-- what was decided of so many blocks rests on moves
pub record RestOn (moves : List Controller) (blocks : ℕ) (decisions : Decisions) : Type 0 where
  pub previous : decisions.previous ≡ last_block moves
  pub uses : StandsFor (uses_by moves) decisions.patches
  pub many : length decisions.blocks ≡ blocks
  pub decided : (block : ℕ) → block < blocks → IsDecidedBy (times_given block moves) (decided_of decisions block)

-- ---- what is known of a block that was given so often

-- it was never given, where it wasn't recorded
pub open_none : (times : ℕ) (decided : Decided) → IsDecidedBy times decided → is_reusable decided ≡ false → times ≡ 0
open_none zero decided is new = refl
open_none (suc zero) decided is new = let not : true ≡ false = sym (ap is_reusable is.1) ∙ new in absurd cc
open_none (suc (suc more)) decided is new = let not : true ≡ false = sym (ap is_reusable is.1) ∙ new in absurd cc

-- it was given before, where it was
pub reusable_some : (times : ℕ) (decided : Decided) → IsDecidedBy times decided → is_reusable decided ≡ true → 1 ≤ times
reusable_some zero decided is old = let not : false ≡ true = sym (ap is_reusable is) ∙ old in absurd cc
reusable_some (suc more) decided is old = omega arith

-- its template is new where it was given once
pub new_once : (times : ℕ) (decided : Decided) → IsDecidedBy times decided → 1 ≤ times → is_new decided ≡ (times == 1)
new_once zero decided is some = absurd (omega (arith, some))
new_once (suc zero) decided is some = ap is_new is.1
new_once (suc (suc more)) decided is some = ap is_new is.1 ∙ sym (ne_eqb (suc (suc more)) 1 (λ one. omega (arith, one)))

-- and installed where it was given twice
pub installed_twice : (times : ℕ) (decided : Decided) → IsDecidedBy times decided → 2 ≤ times → (template : WorkerTemplate) × (decided ≡ Installed template)
installed_twice zero decided is twice = absurd (omega (arith, twice))
installed_twice (suc zero) decided is twice = absurd (omega (arith, twice))
installed_twice (suc (suc more)) decided is twice = is

-- ---- a move that gives no instance

-- what is pending is no instance
pub record IsQuiet (c : Controller) (pending : Pending) : Type 0 where
  pub nth : (earlier : List Controller) → nth_given pending earlier ≡ 0
  pub last : (before : ℕ) → block_after pending before ≡ before
  pub use_none : (previous : ℕ) → use_in c pending previous ≡ []
  pub other : (block : ℕ) → is_instance_of block pending ≡ false

-- the start
pub quiet_begin : (c : Controller) → IsQuiet c Begin
quiet_begin c = record { nth = λ earlier. refl; last = λ before. refl; use_none = λ previous. refl; other = λ block. refl }

-- what the driver asks
pub quiet_idle : (c : Controller) → IsQuiet c Idle
quiet_idle c = record { nth = λ earlier. refl; last = λ before. refl; use_none = λ previous. refl; other = λ block. refl }

-- a cell
pub quiet_cell : (c : Controller) (row cell : ℕ) → IsQuiet c (Cell row cell)
quiet_cell c row cell = record { nth = λ earlier. refl; last = λ before. refl; use_none = λ previous. refl; other = λ block. refl }

-- the parts of a variable
pub quiet_parts : (c : Controller) (var : ℕ) → IsQuiet c (Parts var)
quiet_parts c var = record { nth = λ earlier. refl; last = λ before. refl; use_none = λ previous. refl; other = λ block. refl }

-- the end
pub quiet_ended : (c : Controller) → IsQuiet c Ended
quiet_ended c = record { nth = λ earlier. refl; last = λ before. refl; use_none = λ previous. refl; other = λ block. refl }

-- with one move more
times_more : (block : ℕ) (c : Controller) (moves : List Controller)
    → times_given block (c ∷ moves) ≡ cond (is_instance_of block c.pending) 1 0 + times_given block moves
times_more block c moves = sum_by-cons (λ (d : Controller). cond (is_instance_of block d.pending) 1 0) c moves

-- what was decided rests on it too
pub quiet_rests : (c : Controller) (moves : List Controller) (blocks : ℕ) (decisions : Decisions) → IsQuiet c c.pending → RestOn moves blocks decisions
    → RestOn (c ∷ moves) blocks decisions
quiet_rests c moves blocks decisions quiet rests = record {
  previous = rests.previous ∙ sym (quiet.last (last_block moves));
  uses = subst (λ (us : List Use). StandsFor (us ++ uses_by moves) decisions.patches) (sym (quiet.use_none (last_block moves))) rests.uses;
  many = rests.many;
  decided = λ block below.
      (let same : times_given block moves ≡ times_given block (c ∷ moves) =
      sym (times_more block c moves ∙ ap (λ (b : Bool). cond b 1 0 + times_given block moves) (quiet.other block) ∙ omega arith) in
      subst (λ (n : ℕ). IsDecidedBy n (decided_of decisions block)) same (rests.decided block below));
}

-- ---- an instance

-- what is decided of its block is set, and stays of the others
decided_put : (block other : ℕ) (args : List ℤ) (c : Controller) (moves : List Controller) (decided : Decided) (blocks : List Decided)
    → c.pending ≡ Block block args → block < length blocks
    → IsDecidedBy (suc (times_given block moves)) decided → IsDecidedBy (times_given other moves) (slice_index_or blocks other Open)
    → IsDecidedBy (times_given other (c ∷ moves)) (slice_index_or (slice_set blocks block decided) other Open)
decided_put block other args c moves decided blocks is below own rest =
    let number : times_given other (c ∷ moves) ≡ cond (block == other) 1 0 + times_given other moves =
    times_more other c moves ∙ ap (λ (p : Pending). cond (is_instance_of other p) 1 0 + times_given other moves) is in
    subst (λ (n : ℕ). IsDecidedBy n (slice_index_or (slice_set blocks block decided) other Open)) (sym number) (either (block == other) refl) where
      either : (b : Bool) → (block == other) ≡ b
          → IsDecidedBy (cond b 1 0 + times_given other moves) (slice_index_or (slice_set blocks block decided) other Open)
      either true same =
          let equal : block ≡ other = eqb-true block other same in
          let more : suc (times_given other moves) ≡ 1 + times_given other moves = omega arith in
          subst (λ (n : ℕ). IsDecidedBy n (slice_index_or (slice_set blocks block decided) other Open)) more
          (subst (λ (o : ℕ). IsDecidedBy (suc (times_given o moves)) (slice_index_or (slice_set blocks block decided) o Open)) equal
          (subst (IsDecidedBy (suc (times_given block moves))) (sym (get_or-set_same blocks block decided Open below)) own))
      either false apart =
          let less : times_given other moves ≡ 0 + times_given other moves = omega arith in
          subst (λ (n : ℕ). IsDecidedBy n (slice_index_or (slice_set blocks block decided) other Open)) less
          (subst (IsDecidedBy (times_given other moves))
          (sym (get_or-set_other blocks block other decided Open (λ equal. eqb-false block other apart (sym equal)))) rest)

-- the first of its block, which is recorded then
pub first_rests : (c : Controller) (moves : List Controller) (blocks block : ℕ) (args : List ℤ) → c.pending ≡ Block block args → block < blocks
    → is_recorded c.decisions block ≡ false → RestOn moves blocks c.decisions
    → RestOn (c ∷ moves) blocks (after_recording (recorded_of c block) c.decisions)
first_rests c moves blocks block args is below new rests =
    let times : times_given block moves ≡ 0 = open_none (times_given block moves) (decided_of c.decisions block) (rests.decided block below) new in
    let none : use_in c c.pending (last_block moves) ≡ [] =
    ap (λ (p : Pending). use_in c p (last_block moves)) is
    ∙ cond-false (is_recorded c.decisions block) (use_with (last_block moves) block (copies_before c block) (patched_in_move c block)) [] new in
    record {
      previous = sym (ap (λ (p : Pending). block_after p (last_block moves)) is);
      uses = subst (λ (us : List Use). StandsFor (us ++ uses_by moves) c.decisions.patches) (sym none) rests.uses;
      many = length-set c.decisions.blocks block (Recorded (recorded_of c block)) ∙ rests.many;
      decided = λ other there.
          decided_put block other args c moves (Recorded (recorded_of c block)) c.decisions.blocks is (omega (arith, below, rests.many))
          (subst (λ (n : ℕ). IsDecidedBy (suc n) (Recorded (recorded_of c block))) (sym times) (recorded_of c block, refl)) (rests.decided other there);
    }

-- ---- patches

-- the use with an instance is one more
used_stands : (previous block : ℕ) (copies : List PatchCopy) (patched : Patched) (uses kept : List Use) → StandsFor uses kept
    → StandsFor (use_with previous block copies patched ++ uses) (patches_after (patch_key previous block) copies kept patched)
used_stands previous block copies Not uses kept stands = stands
used_stands previous block copies (Repeated number) uses kept stands = stands_used (use_of (patch_key previous block) number copies) uses kept stands
used_stands previous block copies (Made number) uses kept stands = stands_used (use_of (patch_key previous block) number copies) uses kept stands

-- what has no number is no hit
none_hit : (key : Key) (copies : List PatchCopy) (uses : List Use) → hit key copies uses ≡ None → is_hit key copies uses ≡ false
none_hit key copies uses none = by (lookup (same_key key) uses) (nat_lt (keys_in (since key uses)) 64) none where
  by : (o : Option Kept) (few : Bool)
      → (if option_map_or (λ (k : Kept). same_copies k.patch.copies copies) o false && few then option_map (λ (k : Kept). k.number) o else None) ≡ None
      → (option_map_or (λ (k : Kept). same_copies k.patch.copies copies) o false && few) ≡ false
  by None few is = refl
  by (Some kept) few is = both (same_copies kept.patch.copies copies && few) is where
    both : (b : Bool) → (if b then Some kept.number else None) ≡ None → b ≡ false
    both true is = absurd cc
    both false is = refl

-- the patch before an instance is as the uses say
pub patch_by_uses : (previous block : ℕ) (versions : Versions) (template : WorkerTemplate) (uses kept : List Use) → StandsFor uses kept
    → IsByUses (failing_in versions template.preconditions) uses previous block (patch_copies versions template.preconditions)
    (patched_by (patch_key previous block) versions kept template)
patch_by_uses previous block versions template uses kept stands =
    either (failing_in versions template.preconditions == 0) refl where
      copies : List PatchCopy
      copies = patch_copies versions template.preconditions

      failing : ℕ
      failing = failing_in versions template.preconditions

      key : Key
      key = patch_key previous block

      found_by : 1 ≤ failing → (o : Option ℕ) → hit key copies uses ≡ o
          → IsByUses failing uses previous block copies (option_map_or Repeated o (Made (number_for key kept)))
      found_by some None is = (some, none_hit key copies uses is)
      found_by some (Some number) is = (some, is)

      either : (b : Bool) → (failing == 0) ≡ b → IsByUses failing uses previous block copies (if b then Not else patch_found key copies kept)
      either true none = eqb-true failing 0 none
      either false some =
          let apart : failing ≡ 0 → ⊥ = eqb-false failing 0 some in
          subst (λ (o : Option ℕ). IsByUses failing uses previous block copies (option_map_or Repeated o (Made (number_for key kept))))
          (sym (found_hits key copies uses kept stands))
          (found_by (omega (arith, apart)) (hit key copies uses) refl)

-- an instance that is asked for as a whole: the template is installed then
pub again_rests : (c : Controller) (moves : List Controller) (blocks block : ℕ) (args : List ℤ) → c.pending ≡ Block block args → block < blocks
    → is_recorded c.decisions block ≡ true → RestOn moves blocks c.decisions
    → RestOn (c ∷ moves) blocks (decisions_at c.place c.live (instance_at c block) c.versions c.decisions)
again_rests c moves blocks block args is below old rests =
    let times : 1 ≤ times_given block moves = reusable_some (times_given block moves) (decided_of c.decisions block) (rests.decided block below) old in
    let latest : List Use = use_with (last_block moves) block (copies_before c block) (patched_in_move c block) in
    let one : use_in c c.pending (last_block moves) ≡ latest =
    ap (λ (p : Pending). use_in c p (last_block moves)) is ∙ cond-true (is_recorded c.decisions block) latest [] old in
    record {
      previous = sym (ap (λ (p : Pending). block_after p (last_block moves)) is);
      uses =
          subst (λ (us : List Use). StandsFor (us ++ uses_by moves)
          (patches_after (patch_key c.decisions.previous block) (copies_before c block) c.decisions.patches (patched_in_move c block))) (sym one)
          (subst (λ (n : ℕ). StandsFor (latest ++ uses_by moves)
          (patches_after (patch_key n block) (copies_before c block) c.decisions.patches (patched_in_move c block))) (sym rests.previous)
          (used_stands (last_block moves) block (copies_before c block) (patched_in_move c block) (uses_by moves) c.decisions.patches rests.uses));
      many = length-set c.decisions.blocks block (Installed (template_in c block)) ∙ rests.many;
      decided = λ other there.
          decided_put block other args c moves (Installed (template_in c block)) c.decisions.blocks is (omega (arith, below, rests.many))
          (again (times_given block moves) times) (rests.decided other there);
    } where
      again : (n : ℕ) → 1 ≤ n → IsDecidedBy (suc n) (Installed (template_in c block))
      again zero some = absurd (omega (arith, some))
      again (suc more) some = (template_in c block, refl)
