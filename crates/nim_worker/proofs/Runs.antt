-- What the works of a batch have read is what their commands read.
use Rattle.std.proofs.Common.{◌≡◌, ℕ, Bool, true, false, List, [], ◌∷◌, ◌++◌, length, map, refl, ap, ap₂, ◌∙◌, Option, None, Some}
use Rattle.std.specs.Prelude.{if◌then◌else◌}
use Rattle.std.specs.List.{flat_map}
use Rattle.std.specs.Option.{option_map_or}
use Rattle.nim_base.specs.declared.number.Object.{Object}
use Rattle.nim_base.specs.declared.number.Shape.{Shape}
use Rattle.nim_base.specs.declared.number.Slot.{Slot}
use Rattle.nim_base.specs.Apply.{has_counts}
use Rattle.nim_command.specs.declared.command.Kind.{Kind}
use Rattle.nim_command.specs.declared.command.Kind.TheVariants.{Run}
use Rattle.nim_store.specs.declared.held.Held.{Held}
use Rattle.nim_store.specs.Stored.{slot_at}
use Rattle.nim_history.specs.History.{Asked, WorkerState, asked_at}
use Rattle.nim_history.specs.Kept.{content_seen}
use Rattle.nim_worker.specs.declared.batch.Work.{Work}
use Rattle.nim_worker.specs.declared.worker.WorkerCore.{WorkerCore}
use Rattle.nim_worker.specs.Chains.{AreWorks, HaveRead}
use Rattle.nim_worker.specs.Runs.{RunRead, all_read_by, reads_of_work, run_read, run_read_at, runs_read}
use Rattle.nim_worker.specs.Stands.{IsBeginning, begun_of, tickets_of}
use Rattle.nim_worker.specs.Works.{Begun, begun_as, position_of, reads_taken}
use Rattle.nim_worker.proofs.Chains.{works_read}

-- a work has read what its command reads
work_reads : (before : Slot → Option Held) (kind : Kind) (work : Work) → work.position ≡ position_of kind
    → work.inputs.value.contents.items ≡ map (content_seen before) (reads_taken kind) → reads_of_work work ≡ run_read before kind
work_reads before (Run position func params reads writes) work is contents =
    ap (λ (o : Option ℕ). option_map_or (λ (at : ℕ). (at, work.inputs.value.contents.items) ∷ []) o []) is
    ∙ ap (λ (read : List (Object × ℕ)). (position, read) ∷ []) (contents ∙ either (has_counts func (length params) (length reads) (length writes))) where
      either : (b : Bool) → map (content_seen before) (if b then reads else []) ≡ (if b then map (content_seen before) reads else [])
      either true = refl
      either false = refl
work_reads before kind work is contents =
    ap (λ (o : Option ℕ). option_map_or (λ (at : ℕ). (at, work.inputs.value.contents.items) ∷ []) o []) is

-- what the commands of works read
abbrev pub begun_read : (Slot → Option Held) → List Begun → List RunRead
begun_read before begun = flat_map (λ (b : Begun). run_read before b.kind) begun

works_read_so : (shapes : List Shape) (first before now : Slot → Option Held) (begun : List Begun) (works : List Work)
    → AreWorks shapes before now begun works → HaveRead first begun works → all_read_by works ≡ begun_read first begun
works_read_so shapes first before now [] [] are read = refl
works_read_so shapes first before now [] (w ∷ ws) are read = absurd are
works_read_so shapes first before now (b ∷ bs) [] are read = absurd are
works_read_so shapes first before now (b ∷ bs) (w ∷ ws) are read =
    ap₂ (λ (xs ys : List RunRead). xs ++ ys) (work_reads first b.kind w are.1.0.position read.0.contents)
    (works_read_so shapes first are.0 now bs ws are.1.1.1 read.1)

read_one : (before : Slot → Option Held) (place : ℕ) (rest : List Begun) (o : Option Asked)
    → begun_read before (option_map_or (λ (asked : Asked). begun_as place asked.command.kind ∷ []) o [] ++ rest)
    ≡ option_map_or (λ (asked : Asked). run_read before asked.command.kind) o [] ++ begun_read before rest
read_one before place rest None = refl
read_one before place rest (Some asked) = refl

places_read : (state : WorkerState) (places : List ℕ) → begun_read state.slots (begun_of state.session.groups places) ≡ runs_read state places
places_read state [] = refl
places_read state (place ∷ places) =
    read_one state.slots place (begun_of state.session.groups places) (asked_at state.session.groups place)
    ∙ ap (λ (rest : List RunRead). run_read_at state place ++ rest) (places_read state places)

-- the works of a batch that was begun have read what their commands read
pub works_run : (core : WorkerCore) (works : List Work) (state : WorkerState) → IsBeginning core works state
    → all_read_by works ≡ runs_read state (tickets_of works)
works_run core works state begins =
    let begun : List Begun = begun_of state.session.groups (tickets_of works) in
    works_read_so state.session.shapes state.slots state.slots (slot_at core.store) begun works begins.chain
    (works_read state.session.shapes state.slots (slot_at core.store) begun works begins.chain)
    ∙ places_read state (tickets_of works)
