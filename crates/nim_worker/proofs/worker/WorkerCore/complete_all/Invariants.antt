use Rattle.std.proofs.Common.{◌≡◌, ◌+◌, length, reverse}
use Rattle.std.specs.Vec.{vec_capacity, vec_len}
use Rattle.nim_history.specs.History.{WorkerState}
use Rattle.nim_worker.specs.Inputs.{AreIdle}
use Rattle.nim_worker.specs.Stands.{HasState, IsAtWork}
use Rattle.nim_worker.proofs.Finished.{AreCompleted}
use Rattle.nim_worker.proofs.worker.WorkerCore.complete_all.Given as goal

-- the first works are complete, and the others are left, the last first
abbrev pub invariant-loop-work : goal.invariant-loop-work
invariant-loop-work l = record {
  done : (state : WorkerState) → HasState l.fn.self state → IsAtWork l.fn.self l.fn.works.items state
      → AreCompleted state l.fn.works.items (reverse l.works.items) l.outs.items l.self;
  idle : AreIdle l.fn.spare.items → AreIdle l.spare.items;
  count : vec_len l.works + vec_len l.spare ≡ vec_len l.fn.works + vec_len l.fn.spare;
  room : vec_capacity l.works ≡ vec_capacity l.fn.works;
  busy : l.self.busy ≡ l.fn.self.busy;
  stale : l.self.stale ≡ l.fn.self.stale;
  begun : l.self.begun ≡ l.fn.self.begun;
  worker : l.self.worker ≡ l.fn.self.worker;
}

abbrev pub decreases-loop-work : goal.decreases-loop-work
decreases-loop-work l = length l.works.items
