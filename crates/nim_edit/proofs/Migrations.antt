-- A move of a task gives the halves of the new owners.
use Rattle.std.proofs.Common.{◌≡◌, ℕ, zero, suc, ◌≤◌, ◌<◌, Bool, true, false, List, [], ◌∷◌, length, map, take, get_or, refl, ap, ap₂, sym, subst, ◌∙◌, arith}
use Rattle.std.proofs.Common.{Option, None}
use Rattle.std.specs.Prelude.{◌==◌, ◌&&◌, ◌||◌, nat_le, if◌then◌else◌, slice_index_or, slice_set}
use Rattle.std.specs.List.{list_all, list_any}
use Rattle.std.proofs.lemmas.Bool.{eqb-true, eqb-false, false≢true, leb-true, ne_eqb}
use Rattle.std.proofs.lemmas.List.{get_or-set_other, get_or-set_same, length-map}
use Rattle.nim_base.specs.declared.number.Worker.{Worker}
use Rattle.nim_base.specs.declared.task.TaskForm.{TaskForm}
use Rattle.nim_command.specs.declared.edit.Edit.{Edit}
use Rattle.nim_command.specs.declared.edit.Edit.TheVariants.{Away, Here, Gone, Home}
use Rattle.nim_command.specs.declared.edit.Spec.{Spec}
use Rattle.nim_command.specs.declared.entry.Entry.{Entry}
use Rattle.nim_command.specs.declared.entry.EntryKind.{EntryKind}
use Rattle.nim_command.specs.declared.template.WorkerTemplate.{WorkerTemplate}
use Rattle.nim_command.specs.Edits.{edited, edited_by, is_of_number, put_by, run_over}
use Rattle.nim_command.specs.Numbers.{phase_of, task_of}
use Rattle.nim_command.specs.Ruled.{entries_by_rule}
use Rattle.nim_place.proofs.Places.{both_true}
use Rattle.nim_template.specs.Ascends.{does_ascend}
use Rattle.nim_template.specs.Fits.{are_below, is_fit}
use Rattle.nim_template.proofs.Fits.{few_reads}
use Rattle.nim_edit.specs.Cells.{kind_at}
use Rattle.nim_edit.specs.Form.{IsInForm}
use Rattle.nim_edit.specs.Halves.{edits_at, edits_with, edited_half}
use Rattle.nim_edit.specs.Moves.{mask_for, no_task, read_behind, spec_for, spec_of, worker_at}
use Rattle.nim_edit.proofs.Cells.{Ascend, ascend_from}
use Rattle.nim_edit.proofs.Owners.{AllOf, act, number_of, one_more}
use Rattle.nim_edit.proofs.Puts.{IsShort, away_own, gone_own, here_own, home_own}

-- ---- items of lists

pub all_at : {X : Type 0} (p : X → Bool) (xs : List X) (i : ℕ) (d : X) → list_all p xs ≡ true → i < length xs → p (get_or xs i d) ≡ true
all_at p [] i d all within = absurd (omega arith)
all_at p (x ∷ xs) zero d all within = (both_true (p x) (list_all p xs) all).0
all_at p (x ∷ xs) (suc i) d all within = all_at p xs i d (both_true (p x) (list_all p xs) all).1 (omega (arith, within))

-- where all items stay as they are, each does
pub same_at : {X : Type 0} (f : X → X) (xs : List X) (i : ℕ) (d : X) → map f xs ≡ xs → i < length xs → f (get_or xs i d) ≡ get_or xs i d
same_at f [] i d same within = absurd (omega arith)
same_at f (x ∷ xs) zero d same within = ap (λ ys. get_or ys 0 d) same
same_at {X} f (x ∷ xs) (suc i) d same within = same_at f xs i d (ap (λ (ys : List X). tail_of ys) same) (omega (arith, within)) where
  tail_of : List X → List X
  tail_of [] = []
  tail_of (y ∷ ys) = ys

-- lists with equal items are equal
pub same_list : {X : Type 0} (d : X) (xs ys : List X) → length xs ≡ length ys → ((i : ℕ) → i < length xs → get_or xs i d ≡ get_or ys i d) → xs ≡ ys
same_list d [] [] long same = refl
same_list d [] (y ∷ ys) long same = absurd (omega (arith, long))
same_list d (x ∷ xs) [] long same = absurd (omega (arith, long))
same_list {X} d (x ∷ xs) (y ∷ ys) long same =
    ap₂ (λ (z : X) (zs : List X). z ∷ zs) (same 0 (omega arith)) (same_list d xs ys (omega (arith, long)) (λ i less. same (suc i) (omega (arith, less))))

-- ---- tasks

-- a form has few reads and writes
form_short : (past : List TaskForm) (form : TaskForm) → is_fit 512 form ≡ true → IsShort (spec_for past form)
form_short past form fit =
    let some : Bool = nat_le 1 (length form.writes) in
    let few : Bool = nat_le (length form.writes) 2 in
    let reads : Bool = nat_le (length form.reads) 8 in
    let front = (both_true (((some && few) && reads) && are_below 512 form.writes) (are_below 512 form.reads) fit).0 in
    let counts = (both_true ((some && few) && reads) (are_below 512 form.writes) front).0 in
    let wrote : length form.writes ≤ 2 = leb-true (length form.writes) 2 (both_true some few (both_true (some && few) reads counts).0).1 in
    record { reads = omega (arith, length-map form.reads (read_behind past), few_reads 512 form fit); writes = wrote }

pub task_short : (forms : List TaskForm) (task : ℕ) → list_all (is_fit 512) forms ≡ true → task < length forms → IsShort (spec_of forms task)
task_short forms task fit within = form_short (take task forms) (slice_index_or forms task no_task) (all_at (is_fit 512) forms task no_task fit within)

-- each edit of a task is one of it
pub with_own : (template : WorkerTemplate) (worker : Worker) (task : ℕ) (owner : Worker) → task < 1024 → IsShort (spec_of template.forms task)
    → AllOf task (edits_with template worker task owner)
with_own template worker task owner few short =
    chosen (owner.0 == home.0) (worker.0 == home.0) (worker.0 == owner.0) where
      home : Worker
      home = worker_at template.homes task

      spec : Spec
      spec = spec_of template.forms task

      chosen : (a b c : Bool)
          → AllOf task (if a then [] else if b then Away task owner (mask_for template task owner) spec ∷ [] else if c then Here task home
          (mask_for template task owner) spec ∷ [] else [])
      chosen true b c = tt
      chosen false true c =
          (record { puts = away_own task owner (mask_for template task owner) spec few short; of = λ number. number_of task number (2 ∷ 4 ∷ 6 ∷ []) }, tt)
      chosen false false true =
          (record { puts = here_own task home (mask_for template task owner) spec few short; of = λ number. number_of task number (3 ∷ 4 ∷ 5 ∷ []) }, tt)
      chosen false false false = tt

pub phase_from : (phase : ℕ) (phases : List ℕ) → list_any (λ (p : ℕ). phase == p) phases ≡ true → list_all (nat_le 2) phases ≡ true → 2 ≤ phase
phase_from phase [] is late = absurd (false≢true is)
phase_from phase (p ∷ ps) is late =
    let both = both_true (nat_le 2 p) (list_all (nat_le 2) ps) late in
    either (phase == p) refl is both.0 (λ later. phase_from phase ps later both.1) where
      either : (b : Bool) → (phase == p) ≡ b → (b || list_any (λ (q : ℕ). phase == q) ps) ≡ true → nat_le 2 p ≡ true
          → (list_any (λ (q : ℕ). phase == q) ps ≡ true → 2 ≤ phase) → 2 ≤ phase
      either true same one here later = omega (arith, eqb-true phase p same, leb-true 2 p here)
      either false same one here later = later one

-- ---- a move

-- A task moves from its owner to another worker.
pub record IsMove (template : WorkerTemplate) (task : ℕ) (to : Worker) : Type 0 where
  pub form : IsInForm template
  pub within : task < length template.forms
  pub below : to.0 < length template.built
  pub apart : ((worker_at template.owners task).0 == to.0) ≡ false

-- what edits of the task make of the half of a worker, if the halves under the task's numbers are those of the new owner
goes_on : (template : WorkerTemplate) (task : ℕ) (to : Worker) → IsMove template task to → (worker : Worker) (edits : List Edit)
    → worker.0 < length template.built → AllOf task edits
    → ((number : ℕ) (under : Option EntryKind) → task_of number ≡ task → kind_at (slice_index_or template.built worker.0 []) number ≡ under
    → act edits number (act (edits_with template worker task (worker_at template.owners task)) number under)
    ≡ act (edits_with template worker task to) number under)
    → edited_by edits (edited_half template template.owners worker) ≡ edited_half template (slice_set template.owners task to) worker
goes_on template task to move worker edits below own here =
    one_more (edits_at template template.owners worker) (edits_at template after worker) (length template.forms) task half edits move.within ascends ruled
    (λ t less. with_own template worker t (worker_at template.owners t) (omega (arith, less, move.form.many)) (task_short template.forms t move.form.fit less))
    (λ t less. with_own template worker t (worker_at after t) (omega (arith, less, move.form.many)) (task_short template.forms t move.form.fit less))
    own
    (λ t other. ap (edits_with template worker t) (sym (get_or-set_other template.owners task t to (record { 0 = 0 }) other)))
    (λ number is. here number (kind_at half number) is refl
    ∙ ap (λ (owner : Worker). act (edits_with template worker task owner) number (kind_at half number)) (sym new)) where
      half : List Entry
      half = slice_index_or template.built worker.0 []

      after : List Worker
      after = slice_set template.owners task to

      new : worker_at after task ≡ to
      new = get_or-set_same template.owners task to (record { 0 = 0 }) (omega (arith, move.form.owners, move.within))

      ascends : Ascend 0 half
      ascends = ascend_from 0 half (all_at (does_ascend 0) template.built worker.0 [] move.form.ascend below)

      ruled : entries_by_rule [] half ≡ half
      ruled = same_at (entries_by_rule []) template.built worker.0 [] move.form.ruled below

-- ---- what a task makes of a half

pub with_home : (template : WorkerTemplate) (worker : Worker) (task : ℕ) (owner : Worker) → (owner.0 == (worker_at template.homes task).0) ≡ true
    → edits_with template worker task owner ≡ []
with_home template worker task owner same = chosen (owner.0 == (worker_at template.homes task).0) _ same where
  chosen : (a : Bool) (rest : List Edit) → a ≡ true → (if a then [] else rest) ≡ []
  chosen true rest is = refl
  chosen false rest is = absurd (false≢true is)

with_away : (template : WorkerTemplate) (worker : Worker) (task : ℕ) (owner : Worker) → (owner.0 == (worker_at template.homes task).0) ≡ false
    → (worker.0 == (worker_at template.homes task).0) ≡ true
    → edits_with template worker task owner ≡ Away task owner (mask_for template task owner) (spec_of template.forms task) ∷ []
with_away template worker task owner apart same =
    ap₂ (λ (a b : Bool). if a then [] else if b then Away task owner (mask_for template task owner) (spec_of template.forms task) ∷ []
    else if worker.0 == owner.0 then Here task (worker_at template.homes task) (mask_for template task owner) (spec_of template.forms task) ∷ []
    else []) apart same

with_here : (template : WorkerTemplate) (worker : Worker) (task : ℕ) (owner : Worker) → (owner.0 == (worker_at template.homes task).0) ≡ false
    → (worker.0 == (worker_at template.homes task).0) ≡ false → (worker.0 == owner.0) ≡ true
    → edits_with template worker task owner
    ≡ Here task (worker_at template.homes task) (mask_for template task owner) (spec_of template.forms task) ∷ []
with_here template worker task owner apart other same =
    ap₂ (λ (a b : Bool). if a then [] else if b then Away task owner (mask_for template task owner) (spec_of template.forms task) ∷ []
    else if worker.0 == owner.0 then Here task (worker_at template.homes task) (mask_for template task owner) (spec_of template.forms task) ∷ []
    else []) apart other
    ∙ ap (λ (c : Bool). if c then Here task (worker_at template.homes task) (mask_for template task owner) (spec_of template.forms task) ∷ [] else []) same

with_none : (template : WorkerTemplate) (worker : Worker) (task : ℕ) (owner : Worker) → (worker.0 == (worker_at template.homes task).0) ≡ false
    → (worker.0 == owner.0) ≡ false → edits_with template worker task owner ≡ []
with_none template worker task owner other apart =
    ap₂ (λ (b c : Bool). if owner.0 == (worker_at template.homes task).0 then [] else if b then Away task owner (mask_for template task owner)
    (spec_of template.forms task) ∷ [] else if c then Here task (worker_at template.homes task) (mask_for template task owner)
    (spec_of template.forms task) ∷ [] else []) other apart
    ∙ none (owner.0 == (worker_at template.homes task).0) where
      none : (a : Bool) → ◌≡◌ {A = List Edit} (if a then [] else []) []
      none true = refl
      none false = refl

-- ---- the workers of a move

-- what is put last counts
twice : (b : Bool) (first second under : Option EntryKind) → (if b then first else (if b then second else under)) ≡ (if b then first else under)
twice true first second under = refl
twice false first second under = refl

-- what is taken away, and was put before
undone : (b : Bool) (first second under : Option EntryKind) → (b ≡ true → first ≡ under) → (if b then first else (if b then second else under)) ≡ under
undone true first second under is = is refl
undone false first second under is = refl

module _ (template : WorkerTemplate) (task : ℕ) (to : Worker) (move : IsMove template task to) where
  -- one that the move doesn't touch
  pub aside_half : (worker : Worker) → worker.0 < length template.built → (worker.0 == (worker_at template.homes task).0) ≡ false
      → (worker.0 == (worker_at template.owners task).0) ≡ false → (worker.0 == to.0) ≡ false
      → edited_half template template.owners worker ≡ edited_half template (slice_set template.owners task to) worker
  aside_half worker below no_home no_owner no_to =
      goes_on template task to move worker [] below tt
      (λ number under is there. ap (λ (es : List Edit). act es number under)
      (with_none template worker task (worker_at template.owners task) no_home no_owner ∙ sym (with_none template worker task to no_home no_to)))

  -- the home, where the new owner is another
  pub away_half : (worker : Worker) → worker.0 < length template.built → (worker.0 == (worker_at template.homes task).0) ≡ true
      → (to.0 == (worker_at template.homes task).0) ≡ false
      → edited (Away task to (mask_for template task to) (spec_of template.forms task)) (edited_half template template.owners worker)
      ≡ edited_half template (slice_set template.owners task to) worker
  away_half worker below is_home no_home =
      goes_on template task to move worker (away to ∷ []) below (
        record {
          puts = away_own task to (mask_for template task to) (spec_of template.forms task) few short;
          of =
              λ number. number_of task number (2 ∷ 4 ∷ 6 ∷ []);
        },
        tt,
      )
      (λ number under is there. before number under ((worker_at template.owners task).0 == (worker_at template.homes task).0) refl
      ∙ ap (λ (es : List Edit). act es number under) (sym (with_away template worker task to no_home is_home))) where
        few : task < 1024
        few = omega (arith, move.within, move.form.many)

        short : IsShort (spec_of template.forms task)
        short = task_short template.forms task move.form.fit move.within

        away : Worker → Edit
        away worker = Away task worker (mask_for template task worker) (spec_of template.forms task)

        before : (number : ℕ) (under : Option EntryKind) (b : Bool) → ((worker_at template.owners task).0 == (worker_at template.homes task).0) ≡ b
            → act (away to ∷ []) number (act (edits_with template worker task (worker_at template.owners task)) number under) ≡ act (away to ∷ []) number under
        before number under true same =
            ap (λ (es : List Edit). act (away to ∷ []) number (act es number under)) (with_home template worker task (worker_at template.owners task) same)
        before number under false apart =
            ap (λ (es : List Edit). act (away to ∷ []) number (act es number under))
            (with_away template worker task (worker_at template.owners task) apart is_home)
            ∙ twice (is_of_number task (2 ∷ 4 ∷ 6 ∷ []) number) (kind_at (put_by (away to)) number)
            (kind_at (put_by (away (worker_at template.owners task))) number) under

  -- the new owner, where it isn't the home
  pub here_half : (worker : Worker) → worker.0 < length template.built → (worker.0 == to.0) ≡ true
      → (worker.0 == (worker_at template.homes task).0) ≡ false
      → edited (Here task (worker_at template.homes task) (mask_for template task to) (spec_of template.forms task))
      (edited_half template template.owners worker)
      ≡ edited_half template (slice_set template.owners task to) worker
  here_half worker below is_to no_home =
      goes_on template task to move worker (here ∷ []) below (
        record {
          puts = here_own task (worker_at template.homes task) (mask_for template task to) (spec_of template.forms task) few short;
          of = λ number. number_of task number (3 ∷ 4 ∷ 5 ∷ []);
        },
        tt,
      )
      (λ number under is there. ap (λ (es : List Edit). act (here ∷ []) number (act es number under))
      (with_none template worker task (worker_at template.owners task) no_home not_owner)
      ∙ ap (λ (es : List Edit). act es number under) (sym (with_here template worker task to to_away no_home is_to))) where
        few : task < 1024
        few = omega (arith, move.within, move.form.many)

        short : IsShort (spec_of template.forms task)
        short = task_short template.forms task move.form.fit move.within

        here : Edit
        here = Here task (worker_at template.homes task) (mask_for template task to) (spec_of template.forms task)

        same : worker.0 ≡ to.0
        same = eqb-true worker.0 to.0 is_to

        to_away : (to.0 == (worker_at template.homes task).0) ≡ false
        to_away = ap (λ (n : ℕ). n == (worker_at template.homes task).0) (sym same) ∙ no_home

        not_owner : (worker.0 == (worker_at template.owners task).0) ≡ false
        not_owner =
            ne_eqb worker.0 (worker_at template.owners task).0 (λ is. eqb-false (worker_at template.owners task).0 to.0 move.apart (sym is ∙ same))

  -- an owner that isn't the home, and that the task leaves
  pub gone_half : (worker : Worker) → worker.0 < length template.built → (worker.0 == (worker_at template.owners task).0) ≡ true
      → (worker.0 == (worker_at template.homes task).0) ≡ false
      → edited (Gone task) (edited_half template template.owners worker) ≡ edited_half template (slice_set template.owners task to) worker
  gone_half worker below is_owner no_home =
      goes_on template task to move worker (Gone task ∷ []) below (record { puts = gone_own task; of = λ number. number_of task number (3 ∷ 4 ∷ 5 ∷ []) }, tt)
      (λ number under is there. ap (λ (es : List Edit). act (Gone task ∷ []) number (act es number under))
      (with_here template worker task (worker_at template.owners task) owner_away no_home is_owner)
      ∙ undone (is_of_number task (3 ∷ 4 ∷ 5 ∷ []) number) None (kind_at (put_by here) number) under
      (λ taken. sym (nothing number is taken) ∙ there)
      ∙ ap (λ (es : List Edit). act es number under) (sym (with_none template worker task to no_home not_to))) where
        here : Edit
        here = Here task (worker_at template.homes task) (mask_for template task (worker_at template.owners task)) (spec_of template.forms task)

        same : worker.0 ≡ (worker_at template.owners task).0
        same = eqb-true worker.0 (worker_at template.owners task).0 is_owner

        owner_away : ((worker_at template.owners task).0 == (worker_at template.homes task).0) ≡ false
        owner_away = ap (λ (n : ℕ). n == (worker_at template.homes task).0) (sym same) ∙ no_home

        not_to : (worker.0 == to.0) ≡ false
        not_to = ap (λ (n : ℕ). n == to.0) same ∙ move.apart

        nothing : (number : ℕ) → task_of number ≡ task → is_of_number task (3 ∷ 4 ∷ 5 ∷ []) number ≡ true
            → kind_at (slice_index_or template.built worker.0 []) number ≡ None
        nothing number is taken =
            move.form.runs worker number below (subst (λ (t : ℕ). t < length template.forms) (sym is) move.within)
            (phase_from (phase_of number) (3 ∷ 4 ∷ 5 ∷ [])
            (both_true (task_of number == task) (list_any (λ (p : ℕ). phase_of number == p) (3 ∷ 4 ∷ 5 ∷ [])) taken).1 refl)
            ∙ ap (λ (b : Bool). if b then kind_at (run_over false (task_of number) (spec_of template.forms (task_of number)) ∷ []) number else None)
            (ap (λ (t : ℕ). worker.0 == (worker_at template.homes t).0) is ∙ no_home)

  -- the home, where the task comes back
  pub home_half : (worker : Worker) → worker.0 < length template.built → (worker.0 == (worker_at template.homes task).0) ≡ true
      → (to.0 == (worker_at template.homes task).0) ≡ true
      → edited (Home task (spec_of template.forms task)) (edited_half template template.owners worker)
      ≡ edited_half template (slice_set template.owners task to) worker
  home_half worker below is_home to_home =
      goes_on template task to move worker (back ∷ []) below (
        record {
          puts = home_own task (spec_of template.forms task) few;
          of = λ number. number_of task number (2 ∷ 4 ∷ 6 ∷ []);
        },
        tt,
      )
      (λ number under is there. ap (λ (es : List Edit). act (back ∷ []) number (act es number under))
      (with_away template worker task (worker_at template.owners task) owner_away is_home)
      ∙ undone (is_of_number task (2 ∷ 4 ∷ 6 ∷ []) number) (kind_at (put_by back) number) (kind_at (put_by away) number) under
      (λ taken. sym (runs number is taken) ∙ there)
      ∙ ap (λ (es : List Edit). act es number under) (sym (with_home template worker task to to_home))) where
        few : task < 1024
        few = omega (arith, move.within, move.form.many)

        back : Edit
        back = Home task (spec_of template.forms task)

        away : Edit
        away = Away task (worker_at template.owners task) (mask_for template task (worker_at template.owners task)) (spec_of template.forms task)

        owner_away : ((worker_at template.owners task).0 == (worker_at template.homes task).0) ≡ false
        owner_away =
            ap (λ (n : ℕ). (worker_at template.owners task).0 == n) (sym (eqb-true to.0 (worker_at template.homes task).0 to_home)) ∙ move.apart

        runs : (number : ℕ) → task_of number ≡ task → is_of_number task (2 ∷ 4 ∷ 6 ∷ []) number ≡ true
            → kind_at (slice_index_or template.built worker.0 []) number ≡ kind_at (put_by back) number
        runs number is taken =
            move.form.runs worker number below (subst (λ (t : ℕ). t < length template.forms) (sym is) move.within)
            (phase_from (phase_of number) (2 ∷ 4 ∷ 6 ∷ [])
            (both_true (task_of number == task) (list_any (λ (p : ℕ). phase_of number == p) (2 ∷ 4 ∷ 6 ∷ [])) taken).1 refl)
            ∙ ap (λ (t : ℕ). if worker.0 == (worker_at template.homes t).0 then kind_at (run_over false t (spec_of template.forms t) ∷ []) number else None) is
            ∙ ap (λ (b : Bool). if b then kind_at (run_over false task (spec_of template.forms task) ∷ []) number else None) is_home
