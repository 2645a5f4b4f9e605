-- What a complete command leaves and gives.
use Rattle.std.specs.Prelude.{◌≡◌, Bool, if◌then◌else◌, List, [], ◌∷◌, ◌++◌}
use Rattle.nim_base.specs.declared.number.Shape.{Shape}
use Rattle.nim_message.specs.declared.report.FromWorker.TheVariants.{Through}
use Rattle.nim_store.specs.Stored.{slot_at}
use Rattle.nim_history.specs.declared.out.Out.{Out}
use Rattle.nim_history.specs.History.{Asked, WorkerState, inbox_after, value_received}
use Rattle.nim_history.specs.Kept.{kept_by, own_outs}
use Rattle.nim_worker.specs.declared.batch.Work.{Work}
use Rattle.nim_worker.specs.declared.head.GroupHead.{GroupHead}
use Rattle.nim_worker.specs.declared.worker.WorkerCore.{WorkerCore}
use Rattle.nim_worker.specs.Admitted.{group_head}
use Rattle.nim_worker.specs.Chains.{AreWorks}
use Rattle.nim_worker.specs.Works.{Begun}

-- a group is told to be through
abbrev pub through_of : GroupHead → Bool → List Out
through_of head through = if through then Out.Report (Through head.epoch head.instance) ∷ [] else []

-- A command is complete: it has its frame, it left what it leaves where the other works are out, and gave what it
-- gives.
pub record HasLeft (all : List Shape) (state : WorkerState) (asked : Asked) (more : List Begun) (out : List Work)
    (before : List Out) (through : Bool) (core : WorkerCore) (after : List Out) : Type 0 where
  pub inbox : core.inbox ≡ inbox_after state asked
  pub shapes : core.store.shapes ≡ all
  pub works : AreWorks all (kept_by all (value_received state asked) asked.command.kind state.slots)
      (slot_at core.store)
      more out
  pub given : after ≡ before ++ (own_outs asked.group asked.command.kind state.slots
      ++ through_of (group_head asked.group) through)
