-- What a legal command gives is true of the job, where the slots have what they hold.
use Rattle.std.proofs.Common.{◌≡◌, ◌≢◌, ℕ, suc, zero, Bool, true, false, ℤ, List, [], ◌∷◌, length, ◌++◌, map, sym, Option, None, Some, All}
use Rattle.std.specs.Prelude.{slice_get, if◌then◌else◌}
use Rattle.std.specs.Option.{option_map_or}
use Rattle.std.proofs.lemmas.List.Elements.{All-append, All-nil}
use Rattle.nim_base.specs.declared.number.Slot.{Slot}
use Rattle.nim_base.specs.declared.task.Func.{Func}
use Rattle.nim_base.specs.Apply.{has_counts}
use Rattle.nim_base.specs.Value.{empty_grid}
use Rattle.nim_command.specs.declared.command.Kind.{Kind}
use Rattle.nim_command.specs.declared.command.Kind.TheVariants.{Create, Load, Send, Receive, Copy, Run, Fetch}
use Rattle.nim_command.specs.Holds.{Content}
use Rattle.nim_command.specs.Waits.{Group, Source, FromSingle, FromInstance, FromPatch}
use Rattle.nim_message.specs.declared.report.FromWorker.TheVariants.{Ran, Through, Value}
use Rattle.nim_job.specs.declared.job.Job.{Job}
use Rattle.nim_job.specs.Serial.{tasks_of}
use Rattle.nim_job.specs.Whole.{is_whole}
use Rattle.nim_plan.specs.Legal.{IsLegalKind, reads_at}
use Rattle.nim_store.specs.declared.held.Held.{Held}
use Rattle.nim_history.specs.declared.out.Out.{Out}
use Rattle.nim_history.specs.History.{Asked, WorkerState, left_in_group, outs_of, through_outs}
use Rattle.nim_history.specs.Kept.{content_seen, contents_read, frame_of, held_version, is_single, own_outs, held_or_empty}
use Rattle.nim_history.specs.Truth.{IsGoodOut, IsTrueHeld, ReadsRight, values_read}
use Rattle.nim_base.proofs.Lists.{only_one}
use Rattle.nim_history.proofs.TrueRuns.{run_true, some_then}
use Rattle.nim_history.proofs.TrueSlots.{IsTrueTo}

-- a slot that isn't empty has a true version
seen_right : (job : Job) (now : Slot → Option Held) (slot : Slot) (content : Content) → IsTrueTo job (now slot) content → content ≢ None
    → IsTrueHeld job (held_or_empty now slot)
seen_right job now slot content is some = either (now slot) is where
  either : (h : Option Held) → IsTrueTo job h content → IsTrueHeld job (option_map_or (λ (held : Held). held) h (held_version slot 0 empty_grid))
  either None true_to = absurd (some (sym true_to.same))
  either (Some held) true_to = true_to.right

-- what is reported of a Run that is to be reported
told_good : (job : Job) (group : Group) (position : ℕ) (func : Func) (params : List ℤ) (reads writes : List Slot) (now : Slot → Option Held)
    (before : Slot → Content) → is_whole job ≡ true
    → IsLegalKind job before (Run position func params reads writes) → ((s : Slot) → IsTrueTo job (now s) (before s)) → (b : Bool)
    → All (IsGoodOut job) (if b then Out.Report (Ran group.epoch position (contents_read func params reads writes now)) ∷ [] else [])
told_good job group position func params reads writes now before whole legal are true =
    only_one (IsGoodOut job) (Out.Report (Ran group.epoch position (contents_read func params reads writes now)))
    (some_then (λ task. contents_read func params reads writes now ≡ reads_at job position task) (slice_get (tasks_of job) position)
    (run_true job now before position func params reads writes whole legal are) (λ task there run. rw run.counts run.contents))
told_good job group position func params reads writes now before whole legal are false = All-nil (IsGoodOut job)

-- what a command that is legal gives of its own
own_good : (job : Job) (group : Group) (kind : Kind) (now : Slot → Option Held) (before : Slot → Content) → is_whole job ≡ true → IsLegalKind job before kind
    → ((s : Slot) → IsTrueTo job (now s) (before s)) → All (IsGoodOut job) (own_outs group kind now)
own_good job group (Send slot peer entry) now before whole legal are =
    let right = seen_right job now slot (before slot) (are slot) legal in
    only_one (IsGoodOut job) (Out.Data peer (frame_of group entry (held_or_empty now slot))) (right.version, right.value)
own_good job group (Fetch slot ticket) now before whole legal are =
    let right = seen_right job now slot (before slot) (are slot) legal in
    only_one (IsGoodOut job)
    (Out.Report (Value group.epoch ticket (held_or_empty now slot).object (held_or_empty now slot).version (held_or_empty now slot).value))
    (right.version, right.value)
own_good job group (Run position func params reads writes) now before whole legal are =
    told_good job group position func params reads writes now before whole legal are (is_single group.source)
own_good job group (Create slot iota number) now before whole legal are = All-nil (IsGoodOut job)
own_good job group (Load slot version value) now before whole legal are = All-nil (IsGoodOut job)
own_good job group (Receive slot version) now before whole legal are = All-nil (IsGoodOut job)
own_good job group (Copy from to) now before whole legal are = All-nil (IsGoodOut job)

through_good : (job : Job) (source : Source) (group : Group) (left : ℕ) → All (IsGoodOut job) (through_outs source group left)
through_good job (FromInstance base) group zero = only_one (IsGoodOut job) (Out.Report (Through group.epoch group.instance)) tt
through_good job (FromInstance base) group (suc left) = All-nil (IsGoodOut job)
through_good job FromSingle group left = All-nil (IsGoodOut job)
through_good job FromPatch group left = All-nil (IsGoodOut job)

-- all that is given when a legal command is completed
pub outs_good : (job : Job) (state : WorkerState) (place : ℕ) (asked : Asked) (before : Slot → Content) → is_whole job ≡ true
    → IsLegalKind job before asked.command.kind
    → ((s : Slot) → IsTrueTo job (state.slots s) (before s)) → All (IsGoodOut job) (outs_of state place asked)
outs_good job state place asked before whole legal are =
    let left : ℕ = left_in_group state.session.groups asked.number (state.ran ++ place ∷ []) in
    All-append (IsGoodOut job) (own_outs asked.group asked.command.kind state.slots) (through_outs asked.group.source asked.group left)
    (own_good job asked.group asked.command.kind state.slots before whole legal are) (through_good job asked.group.source asked.group left)

-- a Run that is legal reads what its task reads
pub reads_right : (job : Job) (kind : Kind) (now : Slot → Option Held) (before : Slot → Content) → is_whole job ≡ true → IsLegalKind job before kind
    → ((s : Slot) → IsTrueTo job (now s) (before s)) → ReadsRight job now kind
reads_right job (Run position func params reads writes) now before whole legal are =
    some_then
    (λ task. (has_counts func (length params) (length reads) (length writes) ≡ true) × (map (content_seen now) reads ≡ reads_at job position task)
    × (map (λ slot. (held_or_empty now slot).value) reads ≡ values_read job position task))
    (slice_get (tasks_of job) position) (run_true job now before position func params reads writes whole legal are)
    (λ task there run. (run.counts, run.contents, run.values))
reads_right job kind now before whole legal are = tt
