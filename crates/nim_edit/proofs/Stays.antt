-- What a half leaves stays as it is when tasks move, where the entries of a moved task at its home leave what its run does,
-- and those at its owner nothing.
use Rattle.std.proofs.Common.{◌≡◌, ℕ, zero, suc, ◌+◌, ◌≤◌, ◌<◌, Bool, true, false, List, [], ◌∷◌, length, refl, ap, sym, subst, ◌∙◌, arith}
use Rattle.std.proofs.Common.{None}
use Rattle.std.specs.Prelude.{◌*◌, ◌==◌, nat_le, if◌then◌else◌, slice_index_or}
use Rattle.std.specs.List.{flat_map, list_all, list_any, range_with_len}
use Rattle.std.proofs.lemmas.List.FromFn.{get_or-map-range_with_len}
use Rattle.std.proofs.lemmas.List.Sums.{fold-append}
use Rattle.nim_base.specs.declared.number.Worker.{Worker}
use Rattle.nim_command.specs.declared.edit.Edit.{Edit}
use Rattle.nim_command.specs.declared.edit.Edit.TheVariants.{Away, Here}
use Rattle.nim_command.specs.declared.edit.Spec.{Spec}
use Rattle.nim_command.specs.declared.entry.Entry.{Entry}
use Rattle.nim_command.specs.declared.entry.EntryKind.{EntryKind}
use Rattle.nim_command.specs.declared.template.WorkerTemplate.{WorkerTemplate}
use Rattle.nim_command.specs.Edits.{edited, edited_by, is_of_number, put_by, run_over}
use Rattle.nim_command.specs.Numbers.{entry_number, phase_of, task_of}
use Rattle.nim_place.proofs.Places.{both_true}
use Rattle.nim_template.specs.Ascends.{does_ascend}
use Rattle.nim_edit.specs.Cells.{kind_at}
use Rattle.nim_edit.specs.Form.{IsInForm}
use Rattle.nim_edit.specs.Halves.{edits_at, edits_with, edited_half}
use Rattle.nim_edit.specs.Moves.{mask_for, spec_of, worker_at}
use Rattle.nim_edit.proofs.Between.{HasBetween, after_entries, middle_after}
use Rattle.nim_edit.proofs.Cells.{Ascend, ascend_from, at_rest}
use Rattle.nim_edit.proofs.Migrations.{all_at, phase_from, task_short, with_own}
use Rattle.nim_edit.proofs.Owners.{AllOf, AreEdited, act_other, after_edits, number_of}
use Rattle.nim_edit.proofs.Puts.{IsEdited, IsShort, Own, PutsItsOwn, away_own, edited_is, here_own, own_none, taken_own, takes}

-- From states that pass, the entries of a task that is away leave what its run does, those of one that is here nothing.
pub record LeavesAlike {S : Type 0} (step : S → ℕ → EntryKind → S) (I : S → Type 0) : Type 0 where
  pub stays : (state : S) (number : ℕ) (kind : EntryKind) → I state → I (step state number kind)
  pub away : (state : S) (task : ℕ) (to : Worker) (mask : ℕ) (spec : Spec) → task < 1024 → I state
      → after_entries step state (run_over false task spec ∷ []) ≡ after_entries step state (put_by (Away task to mask spec))
  pub here : (state : S) (task : ℕ) (from : Worker) (mask : ℕ) (spec : Spec) → I state
      → state ≡ after_entries step state (put_by (Here task from mask spec))

-- ---- an edit

-- an edit of a task takes numbers of its later phases alone
abbrev pub TakesLate : ℕ → Edit → Type 0
TakesLate task edit = (number : ℕ) → takes edit number ≡ true → (64 * task + 16 ≤ number) × (number < 64 * task + 64)

-- Where a half has what an edit puts under the numbers that it takes, and of the task's later phases had just what the edit
-- takes, it has of these phases just what the edit puts.
pub edited_between : (task : ℕ) (edit : Edit) (half after those : List Entry) → PutsItsOwn edit → TakesLate task edit
    → HasBetween (64 * task + 16) (64 * task + 64) half those → Own (takes edit) those
    → ((number : ℕ) → 64 * task + 16 ≤ number → number < 64 * task + 64
    → kind_at after number ≡ (if takes edit number then kind_at (put_by edit) number else kind_at half number))
    → HasBetween (64 * task + 16) (64 * task + 64) after (put_by edit)
edited_between task edit half after those puts late has own at = record {
  ascend = puts.ascend;
  inside = λ number above below. at number above below ∙ chosen number above below (takes edit number) refl;
  before = λ number less. none number (λ is. absurd (omega (arith, less, (late number is).0)));
  behind = λ number more. none number (λ is. absurd (omega (arith, more, (late number is).1)));
} where
  none : (number : ℕ) → (takes edit number ≡ true → ⊥) → kind_at (put_by edit) number ≡ None
  none number not_taken = either (takes edit number) refl where
    either : (b : Bool) → takes edit number ≡ b → kind_at (put_by edit) number ≡ None
    either true is = absurd (not_taken is)
    either false is = own_none (takes edit) (put_by edit) number puts.own is

  chosen : (number : ℕ) → 64 * task + 16 ≤ number → number < 64 * task + 64 → (b : Bool) → takes edit number ≡ b
      → (if takes edit number then kind_at (put_by edit) number else kind_at half number) ≡ kind_at (put_by edit) number
  chosen number above below true is = ap (λ (b : Bool). if b then kind_at (put_by edit) number else kind_at half number) is
  chosen number above below false is =
      ap (λ (b : Bool). if b then kind_at (put_by edit) number else kind_at half number) is
      ∙ has.inside number above below ∙ own_none (takes edit) those number own is ∙ sym (own_none (takes edit) (put_by edit) number puts.own is)

-- Where what it puts leaves what was there of the task's later phases, the half leaves the same.
edit_after : {S : Type 0} (step : S → ℕ → EntryKind → S) (I : S → Type 0) → LeavesAlike step I → (task : ℕ) (edit : Edit) (half those : List Entry)
    → Ascend 0 half → PutsItsOwn edit → TakesLate task edit
    → HasBetween (64 * task + 16) (64 * task + 64) half those → Own (takes edit) those
    → ((state : S) → I state → after_entries step state those ≡ after_entries step state (put_by edit))
    → (state : S) → I state → after_entries step state (edited edit half) ≡ after_entries step state half
edit_after step I alike task edit half those are puts late has own same state holds =
    sym (middle_after step I alike.stays (64 * task + 16) (64 * task + 64) half (edited edit half) those (put_by edit) are after.ascend (omega arith)
    (λ number less. sym (outside number (λ is. absurd (omega (arith, less, (late number is).0)))))
    (λ number more. sym (outside number (λ is. absurd (omega (arith, more, (late number is).1)))))
    has (edited_between task edit half (edited edit half) those puts late has own (λ number above below. after.at number)) same state holds) where
      after : IsEdited edit half (edited edit half)
      after = edited_is edit half are puts

      outside : (number : ℕ) → (takes edit number ≡ true → ⊥) → kind_at (edited edit half) number ≡ kind_at half number
      outside number not_taken = after.at number ∙ either (takes edit number) refl where
        either : (b : Bool) → takes edit number ≡ b → (if takes edit number then kind_at (put_by edit) number else kind_at half number) ≡ kind_at half number
        either true is = absurd (not_taken is)
        either false is = ap (λ (b : Bool). if b then kind_at (put_by edit) number else kind_at half number) is

-- ---- a task

pub late_of : (task number : ℕ) (phases : List ℕ) → is_of_number task phases number ≡ true → list_all (nat_le 2) phases ≡ true
    → (64 * task + 16 ≤ number) × (number < 64 * task + 64)
late_of task number phases is late =
    let at : task_of number ≡ task = number_of task number phases is in
    let phase : 2 ≤ phase_of number =
    phase_from (phase_of number) phases (both_true (task_of number == task) (list_any (λ (p : ℕ). phase_of number == p) phases) is).1 late in
    (omega (arith, at, phase), omega (arith, at))

inside_of : (task number : ℕ) → 64 * task + 16 ≤ number → number < 64 * task + 64 → (task_of number ≡ task) × (2 ≤ phase_of number)
inside_of task number above below = (omega (arith, above, below), omega (arith, above, below))

-- a half that is as built under the numbers of a task
abbrev pub IsBuiltAt : WorkerTemplate → Worker → ℕ → List Entry → Type 0
IsBuiltAt template worker task half =
    (number : ℕ) → task_of number ≡ task → kind_at half number ≡ kind_at (slice_index_or template.built worker.0 []) number

-- what it has there of later phases
pub built_between : (template : WorkerTemplate) → IsInForm template → (worker : Worker) (task : ℕ) (half : List Entry) → worker.0 < length template.built
    → task < length template.forms → IsBuiltAt template worker task half → (b : Bool) → (worker.0 == (worker_at template.homes task).0) ≡ b
    → HasBetween (64 * task + 16) (64 * task + 64) half (if b then run_over false task (spec_of template.forms task) ∷ [] else [])
built_between template form worker task half below within built b is = record {
  ascend = ascend b;
  inside = λ number above under.
      let at = inside_of task number above under in
      built number at.0
      ∙ form.runs worker number below (subst (λ (t : ℕ). t < length template.forms) (sym at.0) within) at.1
      ∙ ap (λ (t : ℕ). if worker.0 == (worker_at template.homes t).0 then kind_at (run_over false t (spec_of template.forms t) ∷ []) number else None) at.0
      ∙ ap (λ (c : Bool). if c then kind_at (run_over false task (spec_of template.forms task) ∷ []) number else None) is
      ∙ chosen b number;
  before = λ number less. none b number (λ same. absurd (omega (arith, same, less, few)));
  behind = λ number more. none b number (λ same. absurd (omega (arith, same, more, few)));
} where
  few : task < 1024
  few = omega (arith, within, form.many)

  ascend : (b : Bool) → Ascend 0 (if b then run_over false task (spec_of template.forms task) ∷ [] else [])
  ascend true = (omega arith, tt)
  ascend false = tt

  chosen : (b : Bool) (number : ℕ) → (if b then kind_at (run_over false task (spec_of template.forms task) ∷ []) number else None)
      ≡ kind_at (if b then run_over false task (spec_of template.forms task) ∷ [] else []) number
  chosen true number = refl
  chosen false number = refl

  none : (b : Bool) (number : ℕ) → (entry_number task 4 0 ≡ number → ⊥)
      → kind_at (if b then run_over false task (spec_of template.forms task) ∷ [] else []) number ≡ None
  none true number apart = at_rest (run_over false task (spec_of template.forms task)) [] number apart
  none false number apart = refl

-- The edits of a task leave what was there.
task_after : {S : Type 0} (step : S → ℕ → EntryKind → S) (I : S → Type 0) → LeavesAlike step I → (template : WorkerTemplate) → IsInForm template
    → (worker : Worker) (task : ℕ) (owner : Worker) (half : List Entry)
    → worker.0 < length template.built → task < length template.forms → Ascend 0 half → IsBuiltAt template worker task half
    → (state : S) → I state
    → after_entries step state (edited_by (edits_with template worker task owner) half) ≡ after_entries step state half
task_after step I alike template form worker task owner half below within are built state holds =
    chosen (owner.0 == home.0) (worker.0 == home.0) refl (worker.0 == owner.0) where
      home : Worker
      home = worker_at template.homes task

      spec : Spec
      spec = spec_of template.forms task

      mask : ℕ
      mask = mask_for template task owner

      few : task < 1024
      few = omega (arith, within, form.many)

      short : IsShort spec
      short = task_short template.forms task form.fit within

      chosen : (a b : Bool) → (worker.0 == home.0) ≡ b → (c : Bool)
          → after_entries step state (edited_by (if a then [] else if b then Away task owner mask spec ∷ [] else if c then Here task home mask spec ∷ []
          else []) half)
          ≡ after_entries step state half
      chosen true b is c = refl
      chosen false true is c =
          edit_after step I alike task (Away task owner mask spec) half (run_over false task spec ∷ []) are (away_own task owner mask spec few short)
          (λ number taken. late_of task number (2 ∷ 4 ∷ 6 ∷ []) taken refl) (built_between template form worker task half below within built true is)
          (taken_own task 4 0 (2 ∷ 4 ∷ 6 ∷ []) few (omega arith) (omega arith) refl, tt)
          (λ s passes. alike.away s task owner mask spec few passes) state holds
      chosen false false is true =
          edit_after step I alike task (Here task home mask spec) half [] are (here_own task home mask spec few short)
          (λ number taken. late_of task number (3 ∷ 4 ∷ 5 ∷ []) taken refl) (built_between template form worker task half below within built false is)
          tt (λ s passes. alike.here s task home mask spec passes) state holds
      chosen false false is false = refl

-- those of tasks in order do
tasks_after : {S : Type 0} (step : S → ℕ → EntryKind → S) (I : S → Type 0) → LeavesAlike step I → (template : WorkerTemplate) → IsInForm template
    → (owners : List Worker) (worker : Worker) (from n : ℕ) (half : List Entry)
    → worker.0 < length template.built → from + n ≤ length template.forms → Ascend 0 half
    → ((task : ℕ) → from ≤ task → IsBuiltAt template worker task half) → (state : S) → I state
    → after_entries step state (edited_by (flat_map (edits_at template owners worker) (range_with_len from n)) half) ≡ after_entries step state half
tasks_after step I alike template form owners worker from zero half below within are built state holds = refl
tasks_after step I alike template form owners worker from (suc n) half below within are built state holds =
    ap (after_entries step state)
    (fold-append (λ (h : List Entry) (e : Edit). edited e h) half edits (flat_map (edits_at template owners worker) (range_with_len (from + 1) n)))
    ∙ tasks_after step I alike template form owners worker (from + 1) n (edited_by edits half) below (omega (arith, within)) first.ascend
    (λ task above number at. first.at number
    ∙ act_other from edits number (kind_at half number) own (λ same. absurd (omega (arith, same, at, above)))
    ∙ built task (omega (arith, above)) number at) state holds
    ∙ task_after step I alike template form worker from (worker_at owners from) half below (omega (arith, within)) are (built from (omega arith)) state
    holds where
      edits : List Edit
      edits = edits_at template owners worker from

      own : AllOf from edits
      own =
          with_own template worker from (worker_at owners from) (omega (arith, within, form.many))
          (task_short template.forms from form.fit (omega (arith, within)))

      first : AreEdited edits half (edited_by edits half)
      first = after_edits from edits half are own

-- A half of a template in form leaves what it left as it was built.
pub half_after : {S : Type 0} (step : S → ℕ → EntryKind → S) (I : S → Type 0) → LeavesAlike step I → (template : WorkerTemplate) → IsInForm template
    → (worker : Worker) → worker.0 < length template.built → (state : S) → I state
    → after_entries step state (slice_index_or template.halves worker.0 []) ≡ after_entries step state (slice_index_or template.built worker.0 [])
half_after step I alike template form worker below state holds =
    ap (after_entries step state)
    (ap (λ (hs : List (List Entry)). slice_index_or hs worker.0 []) form.halves
    ∙ get_or-map-range_with_len (λ (n : ℕ). edited_half template template.owners (record { 0 = n })) 0 (length template.built) worker.0 worker.0 [] below
    (omega arith))
    ∙ tasks_after step I alike template form template.owners worker 0 (length template.forms) (slice_index_or template.built worker.0 []) below (omega arith)
    (ascend_from 0 (slice_index_or template.built worker.0 []) (all_at (does_ascend 0) template.built worker.0 [] form.ascend below))
    (λ task above number at. refl) state holds
