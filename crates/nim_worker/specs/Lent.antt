-- What a batch may become while its works are lent.
use Rattle.std.specs.Prelude.{◌≡◌, List, Some}
use Rattle.std.specs.Vec.{vec_capacity}
use Rattle.nim_history.specs.History.{Happening}
use Rattle.nim_worker.specs.declared.batch.Batch.{Batch}
use Rattle.nim_worker.specs.declared.worker.WorkerCore.{WorkerCore}
use Rattle.nim_worker.specs.Chains.{KeepWorks}
use Rattle.nim_worker.specs.Stands.{CoreStands, completions_of}

-- a batch whose works were lent, and each of them left as it was or performed
pub record IsLent (old new : Batch) : Type 0 where
  pub epoch : new.epoch ≡ old.epoch
  pub works : KeepWorks old.works.items new.works.items
  pub room : vec_capacity new.works ≡ vec_capacity old.works
  pub spare : new.spare ≡ old.spare

-- Such a batch is out still, and completes what it did.
abbrev pub LentBatchesStand : Type 0
LentBatchesStand =
    (core : WorkerCore) (old new : Batch) (happened : List Happening) → IsLent old new
    → CoreStands core (Some old) happened
    → CoreStands core (Some new) happened × (completions_of core new ≡ completions_of core old)
