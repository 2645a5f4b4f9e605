use Rattle.std.proofs.Common.{◌∙◌, nat_eq, sym}
use Rattle.std.specs.HashMap.{get}
use Rattle.nim_queue.proofs.Freeing.{removed}
use Rattle.nim_queue.proofs.complete.free.Goals as goal

pub returns-in-Some-clause-released : goal.returns-in-Some-clause-released
returns-in-Some-clause-released c n are =
    c.count_down_all.ensures.released n
    (removed (get nat_eq c.args.waiting.now) (get nat_eq c.remove.new.self) c.args.released.now c.forget.new.released n c.args.ticket c.in-Some.done are
    (sym c.remove.ensures.value ∙ c.in-Some.is) c.remove.ensures.updates.0 c.forget.ensures.items c.forget.ensures.capacity)
