use Rattle.std.proofs.Common.{refl}
use Rattle.nim_worker.proofs.Handed.{no_history}
use Rattle.nim_worker.proofs.worker.WorkerCore.new.Goals as goal

pub returns-clause-stands : goal.returns-clause-stands
returns-clause-stands c = record {
  history = no_history;
  at = record {
    has = record {
      failed = refl;
      session = record { begun = refl; epoch = refl; shapes = c.new.ensures.shapes; installed = c.new-3.ensures };
      admitted = c.new-4.ensures;
      inbox = c.new-2.ensures;
    };
    busy = refl;
    out = (refl, record { slots = c.new.ensures.slots; room = λ begun. absurd cc });
  };
}
