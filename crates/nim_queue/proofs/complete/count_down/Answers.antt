use Rattle.std.proofs.Common.{◌∙◌, nat_eq, sym}
use Rattle.std.specs.HashMap.{get}
use Rattle.nim_queue.proofs.Freeing.{counted_last, counted_other}
use Rattle.nim_queue.proofs.complete.count_down.Goals as goal

pub returns-then-has_last-clause-released : goal.returns-then-has_last-clause-released
returns-then-has_last-clause-released c n are =
    counted_last (get nat_eq c.args.waiting.now) (get nat_eq c.has_last.new.waiting) c.args.released.now c.put.new.self n c.args.ticket are
    c.has_last.ensures.waiting (sym c.has_last.ensures.last ∙ c.if-has_last.true) c.put.ensures.items c.put.ensures.capacity

pub returns-else-has_last-clause-released : goal.returns-else-has_last-clause-released
returns-else-has_last-clause-released c n are =
    counted_other (get nat_eq c.args.waiting.now) (get nat_eq c.has_last.new.waiting) c.args.released.now n c.args.ticket are
    c.has_last.ensures.waiting (sym c.has_last.ensures.last ∙ c.if-has_last.false)
