-- What a legal command leaves in the slots is what the slots hold, with the values of the versions.
use Rattle.std.proofs.Common.{◌≡◌, ℕ, Bool, true, ℤ, List, refl, ap, sym, subst, ◌∙◌, arith, Option, None, Some}
use Rattle.std.specs.Prelude.{slice_get, IsSomeAnd}
use Rattle.std.proofs.lemmas.Bool.{and_from, lt-ltb}
use Rattle.std.proofs.lemmas.Option.{get_or_from_slice_get, slice_get_within}
use Rattle.nim_base.specs.declared.number.Shape.{Shape}
use Rattle.nim_base.specs.declared.number.Slot.{Slot}
use Rattle.nim_base.specs.declared.task.Func.{Func}
use Rattle.nim_base.specs.Value.{Grid, empty_grid}
use Rattle.nim_command.specs.declared.command.Kind.{Kind}
use Rattle.nim_command.specs.declared.command.Kind.TheVariants.{Create, Load, Send, Receive, Copy, Run, Fetch}
use Rattle.nim_command.specs.Created.{created}
use Rattle.nim_command.specs.Holds.{Content, content_at, left_by, put_at, version_after}
use Rattle.nim_command.specs.Slots.{object_of}
use Rattle.nim_job.specs.declared.job.Job.{Job}
use Rattle.nim_job.specs.Objects.{initial_values, objects_of, shapes_of}
use Rattle.nim_job.specs.Serial.{tasks_of}
use Rattle.nim_job.specs.Versions.{version_value}
use Rattle.nim_job.specs.Whole.{is_object_within, is_whole}
use Rattle.nim_job.proofs.Whole.{length_shapes, vars_sizes, whole_vars}
use Rattle.nim_plan.specs.Legal.{IsLegalKind, is_version}
use Rattle.nim_store.specs.declared.held.Held.{Held}
use Rattle.nim_history.specs.Kept.{fitting_shape, held_version, kept_by, results_for}
use Rattle.nim_history.specs.Truth.{IsTrueHeld}
use Rattle.nim_history.proofs.TrueRuns.{run_true, some_gives}
use Rattle.nim_history.proofs.TrueSlots.{IsTrueTo, fitting_there, put_there, put_true, results_true}

-- what a Create makes is the first version
create_right : (job : Job) (slot : Slot) (iota : Bool) (number : ℤ) (shape : Shape) → is_whole job ≡ true
    → slice_get (shapes_of job.vars) (object_of slot).0 ≡ Some shape
    → slice_get (initial_values job.vars) (object_of slot).0 ≡ Some (created shape iota number)
    → (is_object_within (objects_of job.vars) (object_of slot) ≡ true)
    × IsTrueHeld job (held_version slot 0 (created (fitting_shape (shapes_of job.vars) slot) iota number))
create_right job slot iota number shape whole shaped made =
    let there : is_object_within (objects_of job.vars) (object_of slot) ≡ true =
    lt-ltb (object_of slot).0 (objects_of job.vars)
    (omega (arith, slice_get_within (shapes_of job.vars) (object_of slot).0 shape shaped, length_shapes job.vars)) in
    let fitting : fitting_shape (shapes_of job.vars) slot ≡ shape =
    fitting_there job.vars slot (vars_sizes job.vars (whole_vars job whole)).1 there
    ∙ get_or_from_slice_get (shapes_of job.vars) (object_of slot).0 shape (record { width = 1; rows = 0 }) shaped in
    let first : created shape iota number ≡ version_value job (object_of slot) 0 =
    sym (get_or_from_slice_get (initial_values job.vars) (object_of slot).0 (created shape iota number) empty_grid made) in (
      there,
      record {
        version = and_from (is_object_within (objects_of job.vars) (object_of slot)) true there refl;
        value = ap (λ (s : Shape). created s iota number) fitting ∙ first;
      },
    )

-- the slots after a Create
create_true : (job : Job) (frame : Option Grid) (slot : Slot) (iota : Bool) (number : ℤ) (now : Slot → Option Held) (before : Slot → Content)
    → is_whole job ≡ true
    → IsLegalKind job before (Create slot iota number) → ((s : Slot) → IsTrueTo job (now s) (before s))
    → (s : Slot) → IsTrueTo job (kept_by (shapes_of job.vars) frame (Create slot iota number) now s) (left_by (Create slot iota number) before s)
create_true job frame slot iota number now before whole legal are s =
    let held = held_version slot 0 (created (fitting_shape (shapes_of job.vars) slot) iota number) in
    some_gives (IsTrueTo job (kept_by (shapes_of job.vars) frame (Create slot iota number) now s) (left_by (Create slot iota number) before s))
    (slice_get (shapes_of job.vars) (object_of slot).0) legal
    (λ shape is made.
    let right = create_right job slot iota number shape whole is made in
    subst (λ (f : Slot → Option Held). IsTrueTo job (f s) (put_at slot (content_at slot 0) before s))
    (sym (put_there job.vars slot held now (vars_sizes job.vars (whole_vars job whole)).1 right.0))
    (put_true job slot (Some held) (content_at slot 0) now before (record { same = refl; right = right.1 }) are s))

-- the slots after a Run
run_leaves : (job : Job) (frame : Option Grid) (position : ℕ) (func : Func) (params : List ℤ) (reads writes : List Slot) (now : Slot → Option Held)
    (before : Slot → Content) → is_whole job ≡ true
    → IsLegalKind job before (Run position func params reads writes) → ((s : Slot) → IsTrueTo job (now s) (before s))
    → (s : Slot)
    → IsTrueTo job (kept_by (shapes_of job.vars) frame (Run position func params reads writes) now s) (left_by (Run position func params reads writes) before s)
run_leaves job frame position func params reads writes now before whole legal are s =
    some_gives
    (IsTrueTo job (kept_by (shapes_of job.vars) frame (Run position func params reads writes) now s) (left_by (Run position func params reads writes) before s))
    (slice_get (tasks_of job) position) (run_true job now before position func params reads writes whole legal are)
    (λ task is run.
    rw run.counts
    (results_true job (version_after position) writes (results_for (shapes_of job.vars) func params reads writes now) now before
    (vars_sizes job.vars (whole_vars job whole)).1 run.left are s))

-- the frame that a command receives carries the value of the version that it names
abbrev pub IsFrameFor : Job → Kind → Option Grid → Type 0
IsFrameFor job (Receive slot version) frame = IsSomeAnd frame (λ value. value ≡ version_value job (object_of slot) version)
IsFrameFor job kind frame = Unit {0}

-- the slots after a Receive
receive_leaves : (job : Job) (slot : Slot) (version : ℕ) (frame : Option Grid) (now : Slot → Option Held) (before : Slot → Content)
    → is_version job (object_of slot) version ≡ true → IsSomeAnd frame (λ value. value ≡ version_value job (object_of slot) version)
    → ((s : Slot) → IsTrueTo job (now s) (before s)) → (s : Slot)
    → IsTrueTo job (kept_by (shapes_of job.vars) frame (Receive slot version) now s) (left_by (Receive slot version) before s)
receive_leaves job slot version None now before there is are s = absurd is
receive_leaves job slot version (Some value) now before there is are s =
    put_true job slot (Some (held_version slot version value)) (content_at slot version) now before
    (record { same = refl; right = record { version = there; value = is } }) are s

-- after one more command that is legal
pub left_true : (job : Job) (frame : Option Grid) (kind : Kind) (now : Slot → Option Held) (before : Slot → Content) → is_whole job ≡ true
    → IsLegalKind job before kind
    → IsFrameFor job kind frame → ((s : Slot) → IsTrueTo job (now s) (before s)) → (s : Slot)
    → IsTrueTo job (kept_by (shapes_of job.vars) frame kind now s) (left_by kind before s)
left_true job frame (Create slot iota number) now before whole legal is are s = create_true job frame slot iota number now before whole legal are s
left_true job frame (Load slot version value) now before whole legal is are s =
    put_true job slot (Some (held_version slot version value)) (content_at slot version) now before
    (record { same = refl; right = record { version = legal.0; value = legal.1 } }) are s
left_true job frame (Receive slot version) now before whole legal is are s = receive_leaves job slot version frame now before legal is are s
left_true job frame (Copy from to) now before whole legal is are s = put_true job to (now from) (before from) now before (are from) are s
left_true job frame (Run position func params reads writes) now before whole legal is are s =
    run_leaves job frame position func params reads writes now before whole legal are s
left_true job frame (Send slot peer entry) now before whole legal is are s = are s
left_true job frame (Fetch slot ticket) now before whole legal is are s = are s
