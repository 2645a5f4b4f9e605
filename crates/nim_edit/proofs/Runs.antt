-- Of a task's phases from 2 on, the halves that are built have just its run, at its home.
use Rattle.std.proofs.Common.{◌≡◌, ℕ, zero, suc, ◌+◌, ◌≤◌, ◌<◌, Bool, true, false, List, [], ◌∷◌, ◌++◌, length, map, get_or, refl, ap, ap₂, sym, ◌∙◌, arith}
use Rattle.std.proofs.Common.{Option, None, Some}
use Rattle.std.specs.Prelude.{◌*◌, ◌==◌, ◌&&◌, if◌then◌else◌}
use Rattle.std.specs.List.{filter, flat_map, fold, list_all}
use Rattle.std.proofs.lemmas.List.Concat.{flat_map-append}
use Rattle.nim_base.specs.declared.number.Worker.{Worker}
use Rattle.nim_base.specs.declared.task.TaskForm.{TaskForm}
use Rattle.nim_command.specs.declared.command.Command.{Command}
use Rattle.nim_command.specs.declared.entry.Entry.{Entry}
use Rattle.nim_command.specs.declared.entry.EntryKind.{EntryKind}
use Rattle.nim_command.specs.Edits.{entry_of}
use Rattle.nim_command.specs.Numbers.{entry_number, main_slot, phase_of, task_of}
use Rattle.nim_place.specs.declared.placement.Placement.{Placement}
use Rattle.nim_place.specs.Schedule.{copies_of, moves, run_of, scheduled}
use Rattle.nim_place.specs.Versions.{Versions, latest_of}
use Rattle.nim_place.proofs.Moves.{AreIndexed, moves_indexed}
use Rattle.nim_place.proofs.Places.{both_true}
use Rattle.nim_template.specs.Built.{entries_for}
use Rattle.nim_template.specs.Fits.{is_fit}
use Rattle.nim_template.specs.Walk.{empty_walk, entry_for, home_of, offset_for, task_for, walked, walked_past, with_need}
use Rattle.nim_template.proofs.Fits.{few_reads}
use Rattle.nim_template.proofs.Numbers.{Between, for_append, need_entries, walk_between}
use Rattle.nim_template.proofs.Sizes.{form_like, like_needs}
use Rattle.nim_edit.specs.Cells.{kind_at}
use Rattle.nim_edit.proofs.Cells.{at_rest, over}
use Rattle.nim_edit.proofs.Puts.{phase_is, task_is}

-- the type of a walk
abbrev TypeOf : {X : Type 0} → X → Type 0
TypeOf {X} x = X

abbrev Walk : Type 0
Walk = TypeOf (empty_walk 0 0)

-- ---- lists of entries

pub joined_at : (xs ys : List Entry) (number : ℕ) → kind_at (xs ++ ys) number ≡ over (kind_at xs number) (kind_at ys number)
joined_at [] ys number = refl
joined_at (x ∷ xs) ys number = either (x.id == number) (joined_at xs ys number) where
  either : (b : Bool) → kind_at (xs ++ ys) number ≡ over (kind_at xs number) (kind_at ys number)
      → (if b then Some x.kind else kind_at (xs ++ ys) number) ≡ over (if b then Some x.kind else kind_at xs number) (kind_at ys number)
  either true rest = refl
  either false rest = rest

-- nothing has a number from the highest on
pub none_above : (low high number : ℕ) (entries : List Entry) → Between low high entries → high ≤ number → kind_at entries number ≡ None
none_above low high number [] are above = refl
none_above low high number (entry ∷ entries) are above =
    at_rest entry entries number (λ same. absurd (apart (entry.id + 1) entries are.1 (omega (arith, same, above))))
    ∙ none_above (entry.id + 1) high number entries are.1 above where
      apart : (low : ℕ) (entries : List Entry) → Between low high entries → high < low → ⊥
      apart low [] are past = absurd (omega (arith, are, past))
      apart low (entry ∷ entries) are past = apart (entry.id + 1) entries are.1 (omega (arith, are.0, past))

-- nor below the lowest
pub none_under : (low high number : ℕ) (entries : List Entry) → Between low high entries → number < low → kind_at entries number ≡ None
none_under low high number [] are under = refl
none_under low high number (entry ∷ entries) are under =
    at_rest entry entries number (λ same. absurd (omega (arith, same, under, are.0)))
    ∙ none_under (entry.id + 1) high number entries are.1 (omega (arith, under, are.0))

-- an entry of another number doesn't count
passed_at : (worker of : Worker) (entry : Entry) (rest : List (Worker × Entry)) (number : ℕ) → (entry.id ≡ number → ⊥)
    → kind_at (entries_for worker ((of, entry) ∷ rest)) number ≡ kind_at (entries_for worker rest) number
passed_at worker of entry rest number apart = either (of.0 == worker.0) where
  either : (b : Bool)
      → kind_at (map (λ (e : Worker × Entry). e.1) (if b then (of, entry) ∷ filter (λ (e : Worker × Entry). e.0.0 == worker.0) rest
      else filter (λ (e : Worker × Entry). e.0.0 == worker.0) rest)) number
      ≡ kind_at (entries_for worker rest) number
  either true = at_rest entry (entries_for worker rest) number apart
  either false = refl

alone_at : (worker of : Worker) (entry : Entry) (number : ℕ)
    → kind_at (entries_for worker ((of, entry) ∷ [])) number ≡ (if of.0 == worker.0 then kind_at (entry ∷ []) number else None)
alone_at worker of entry number = either (of.0 == worker.0) where
  either : (b : Bool)
      → kind_at (map (λ (e : Worker × Entry). e.1) (if b then (of, entry) ∷ [] else [])) number ≡ (if b then kind_at (entry ∷ []) number else None)
  either true = refl
  either false = refl

-- ---- a task

-- a number of an early phase is none of a later one
other_phase : (one number phase : ℕ) → phase_of one ≡ phase → phase < 2 → 2 ≤ phase_of number → one ≡ number → ⊥
other_phase one number phase is early late same =
    let at : phase_of number ≡ phase = ap phase_of (sym same) ∙ is in
    absurd (omega (arith, at, early, late))

-- what is sent and received for a task isn't of a later phase
copies_early : (form : TaskForm) (base : Versions) (task : ℕ) (owner worker : Worker) (low : ℕ) (ms : List _) → task < 1024 → AreIndexed low 8 ms
    → (number : ℕ) → 2 ≤ phase_of number
    → kind_at (entries_for worker (flat_map (entry_for form) (copies_of base task owner ms))) number ≡ None
copies_early form base task owner worker low [] few are number late = refl
copies_early form base task owner worker low (m ∷ ms) few are number late =
    let rest : List (Worker × Entry) = flat_map (entry_for form) (copies_of base task owner ms) in
    let sent : Entry = entry_of (entry_number task 0 m.index) (EntryKind.Send (main_slot m.object) owner (entry_number task 1 m.index)) in
    let got : Entry = entry_of (entry_number task 1 m.index) (EntryKind.Receive (main_slot m.object) (offset_for (latest_of base m.object))) in
    passed_at worker m.from sent ((owner, got) ∷ rest) number
    (other_phase (entry_number task 0 m.index) number 0 (phase_is task 0 m.index few (omega arith) are.1) (omega arith) late)
    ∙ passed_at worker owner got rest number
    (other_phase (entry_number task 1 m.index) number 1 (phase_is task 1 m.index few (omega arith) are.1) (omega arith) late)
    ∙ copies_early form base task owner worker (m.index + 1) ms few are.2 number late

-- the run of a form's task
abbrev pub run_entry : ℕ → TaskForm → Entry
run_entry task form =
    entry_of (entry_number task 4 0) (EntryKind.Run form.func form.params (map main_slot form.reads) (map main_slot form.writes))

-- a worker has under a number of a later phase what a task with this home has there
abbrev pub run_under : Worker → Worker → ℕ → TaskForm → ℕ → Option EntryKind
run_under worker home task form number = if home.0 == worker.0 then kind_at (run_entry task form ∷ []) number else None

task_at : (place : Placement) (live : List Bool) (task : ℕ) (offsets : Versions) (form : TaskForm) (worker : Worker) → task < 1024
    → length form.reads ≤ 8 → (number : ℕ) → 2 ≤ phase_of number
    → kind_at (entries_for worker (flat_map (entry_for form) (scheduled offsets (task_for form) task task place live))) number
    ≡ run_under worker (home_of place offsets.objects live form) task form number
task_at place live task offsets form worker few short number late =
    let owner : Worker = home_of place offsets.objects live form in
    let ms = moves offsets owner [] form.reads in
    let copies : List (Worker × Command) = copies_of offsets task owner ms in
    let command : Command = run_of (task_for form) task task ms in
    let parts : entries_for worker (flat_map (entry_for form) (copies ++ (owner, command) ∷ []))
    ≡ entries_for worker (flat_map (entry_for form) copies) ++ entries_for worker ((owner, run_entry task form) ∷ []) =
    ap (entries_for worker) (flat_map-append (entry_for form) copies ((owner, command) ∷ []))
    ∙ for_append worker (flat_map (entry_for form) copies) ((owner, run_entry task form) ∷ []) in
    ap (λ (es : List Entry). kind_at es number) parts
    ∙ joined_at (entries_for worker (flat_map (entry_for form) copies)) (entries_for worker ((owner, run_entry task form) ∷ [])) number
    ∙ ap (λ (o : Option EntryKind). over o (kind_at (entries_for worker ((owner, run_entry task form) ∷ [])) number))
    (copies_early form offsets task owner worker 0 ms few (moves_indexed offsets owner [] form.reads 8 (omega (arith, short))) number late)
    ∙ alone_at worker owner (run_entry task form) number

-- ---- the walk

-- What a walk from a task on leaves of later phases: what was there of the tasks before it, and the runs of its own.
pub record HasRuns (place : Placement) (live : List Bool) (objects : ℕ) (worker : Worker) (task : ℕ) (forms : List TaskForm)
    (before after : List Entry) : Type 0 where
  pub old : (number : ℕ) → 2 ≤ phase_of number → task_of number < task → kind_at after number ≡ kind_at before number
  pub runs : (number at : ℕ) (form : TaskForm) → 2 ≤ phase_of number → task_of number ≡ task + at → at < length forms → form ≡ get_or forms at form
      → kind_at after number ≡ run_under worker (home_of place objects live form) (task_of number) form number

-- nothing of another task
under_other : (worker home : Worker) (task : ℕ) (form : TaskForm) (number : ℕ) → task < 1024 → (task_of number ≡ task → ⊥)
    → run_under worker home task form number ≡ None
under_other worker home task form number few apart = either (home.0 == worker.0) where
  none : kind_at (run_entry task form ∷ []) number ≡ None
  none = at_rest (run_entry task form) [] number (λ same. apart (ap task_of (sym same) ∙ task_is task 4 0 few (omega arith) (omega arith)))

  either : (b : Bool) → (if b then kind_at (run_entry task form ∷ []) number else None) ≡ None
  either true = none
  either false = refl

pub over_none : (o : Option EntryKind) → over o None ≡ o
over_none None = refl
over_none (Some kind) = refl

-- what a task adds
step_at : (place : Placement) (live : List Bool) (objects : ℕ) (worker : Worker) (task : ℕ) (walk : Walk) (form : TaskForm)
    → walk.offsets.objects ≡ objects → task < 1024 → length form.reads ≤ 8 → (number : ℕ) → 2 ≤ phase_of number
    → kind_at (entries_for worker (walked_past place live task walk form).entries) number
    ≡ over (kind_at (entries_for worker walk.entries) number) (run_under worker (home_of place objects live form) task form number)
step_at place live objects worker task walk form size few short number late =
    let home : Worker = home_of place walk.offsets.objects live form in
    let ready : Walk = fold (with_need home) walk form.reads in
    let more : List (Worker × Entry) = flat_map (entry_for form) (scheduled ready.offsets (task_for form) task task place live) in
    let parts : entries_for worker (walked_past place live task walk form).entries ≡ entries_for worker walk.entries ++ entries_for worker more =
    for_append worker ready.entries more
    ∙ ap (λ (es : List (Worker × Entry)). entries_for worker es ++ entries_for worker more) (need_entries home form.reads walk) in
    let long : ready.offsets.objects ≡ objects = (like_needs home form.reads walk).objects ∙ size in
    ap (λ (es : List Entry). kind_at es number) parts
    ∙ joined_at (entries_for worker walk.entries) (entries_for worker more) number
    ∙ ap (over (kind_at (entries_for worker walk.entries) number)) (task_at place live task ready.offsets form worker few short number late
    ∙ ap (λ (n : ℕ). run_under worker (home_of place n live form) task form number) long)

pub walk_runs : (place : Placement) (live : List Bool) (objects : ℕ) (worker : Worker) (task : ℕ) (walk : Walk) (forms : List TaskForm)
    → walk.offsets.objects ≡ objects → task + length forms ≤ 1024 → list_all (is_fit objects) forms ≡ true
    → Between 0 (64 * task) (entries_for worker walk.entries)
    → HasRuns place live objects worker task forms (entries_for worker walk.entries) (entries_for worker (walked place live task walk forms).entries)
walk_runs place live objects worker task walk [] size few fit are = record {
  old = λ number late below. refl;
  runs = λ number at form late of within is. absurd (omega (arith, within));
}
walk_runs place live objects worker task walk (form ∷ forms) size few fit are =
    both (walk_runs place live objects worker (task + 1) next forms
    ((form_like place live task walk next form refl).objects ∙ size) (omega (arith, few)) each.1
    (walk_between place live objects worker task walk (form ∷ []) (omega (arith, few)) (ap (λ (b : Bool). b && true) each.0) are)) where
      each : (is_fit objects form ≡ true) × (list_all (is_fit objects) forms ≡ true)
      each = both_true (is_fit objects form) (list_all (is_fit objects) forms) fit

      next : Walk
      next = walked_past place live task walk form

      after : List Entry
      after = entries_for worker (walked place live (task + 1) next forms).entries

      step : (number : ℕ) → 2 ≤ phase_of number
          → kind_at (entries_for worker next.entries) number
          ≡ over (kind_at (entries_for worker walk.entries) number) (run_under worker (home_of place objects live form) task form number)
      step number late = step_at place live objects worker task walk form size (omega (arith, few)) (few_reads objects form each.0) number late

      first : (number : ℕ) (f : TaskForm) → kind_at after number ≡ kind_at (entries_for worker next.entries) number → 2 ≤ phase_of number
          → task_of number ≡ task → f ≡ form
          → kind_at after number ≡ run_under worker (home_of place objects live f) (task_of number) f number
      first number f kept late same is =
          kept ∙ step number late
          ∙ ap (λ (o : Option EntryKind). over o (run_under worker (home_of place objects live form) task form number))
          (none_above 0 (64 * task) number (entries_for worker walk.entries) are (omega (arith, same)))
          ∙ ap₂ (λ (t : ℕ) (g : TaskForm). run_under worker (home_of place objects live g) t g number) (sym same) (sym is)

      both : HasRuns place live objects worker (task + 1) forms (entries_for worker next.entries) after
          → HasRuns place live objects worker task (form ∷ forms) (entries_for worker walk.entries) after
      both rest = record {
        old = λ number late below. rest.old number late (omega (arith, below)) ∙ step number late
            ∙ ap (over (kind_at (entries_for worker walk.entries) number))
            (under_other worker (home_of place objects live form) task form number (omega (arith, few)) (λ same. absurd (omega (arith, same, below))))
            ∙ over_none (kind_at (entries_for worker walk.entries) number);
        runs = λ number at f late of within is. chosen number at f late of within is;
      } where
        chosen : (number at : ℕ) (f : TaskForm) → 2 ≤ phase_of number → task_of number ≡ task + at → at < length (form ∷ forms)
            → f ≡ get_or (form ∷ forms) at f
            → kind_at after number ≡ run_under worker (home_of place objects live f) (task_of number) f number
        chosen number zero f late of within is = first number f (rest.old number late (omega (arith, of))) late (omega (arith, of)) is
        chosen number (suc at) f late of within is = rest.runs number at f late (omega (arith, of)) (omega (arith, within)) is
