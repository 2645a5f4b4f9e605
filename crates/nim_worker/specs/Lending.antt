-- What a batch is once its works were lent for writing.
use Rattle.std.specs.Prelude.{List}
use Rattle.std.specs.Borrow.{Array, Fml, Lends, MutBor}
use Rattle.std.specs.Vec.{with_items}
use Rattle.nim_worker.specs.contracts.batch.Batch.{the_row}
use Rattle.nim_worker.specs.contracts.batch.Work as work
use Rattle.nim_worker.specs.declared.batch.Batch.{Batch}
use Rattle.nim_worker.specs.declared.batch.Work.{Work}

-- a batch with other works, as many
abbrev pub with_works : Batch → List Work → Batch
with_works batch works = record batch { works = with_items batch.works works }

-- the batch ends with the works as they were left
abbrev pub LendsWorks : MutBor Batch → MutBor (List Work) → Fml
LendsWorks batch works = Lends the_row (Array work.the_row 0) batch works (with_works batch.now)
