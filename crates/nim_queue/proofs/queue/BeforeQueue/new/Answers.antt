use Rattle.std.proofs.Common.{List, Option, nat_eq, refl, ap}
use Rattle.std.specs.Map.{lookup}
use Rattle.nim_queue.specs.Used.{used_in}
use Rattle.nim_queue.specs.declared.slot_use.SlotUse.{SlotUse}
use Rattle.nim_queue.proofs.Beginning.{begun}
use Rattle.nim_queue.proofs.Opening.{closed}
use Rattle.nim_queue.proofs.queue.BeforeQueue.new.Goals as goal

pub returns : goal.returns
returns c =
    closed (begun _ (λ t. ap (lookup (λ k. nat_eq t k)) c.new.ensures.empty) (λ s. ap (λ (xs : List (Option SlotUse)). used_in xs s) c.new-2.ensures.items)
    c.new-3.ensures refl refl)
