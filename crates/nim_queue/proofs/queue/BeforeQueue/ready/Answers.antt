use Rattle.std.proofs.Common.{ℕ, Option, IfSome, subst, sym}
use Rattle.nim_command.specs.Waits.{placed_commands}
use Rattle.nim_order.specs.Progress.{IsReleasedAt}
use Rattle.nim_queue.proofs.Looking.{ready_first}
use Rattle.nim_queue.proofs.Released.{ready_is_released}
use Rattle.nim_queue.proofs.Opening.{opened}
use Rattle.nim_queue.proofs.queue.BeforeQueue.ready.Goals as goal

pub returns-clause-first : goal.returns-clause-first
returns-clause-first c groups done stands = ready_first c.args.self.now groups done c.args.after c.after.result (opened stands) c.after.ensures.first

pub returns-clause-released : goal.returns-clause-released
returns-clause-released c groups done stands =
    subst (λ (o : Option ℕ). IfSome o (λ ticket. IsReleasedAt (placed_commands groups) done ticket)) (sym (returns-clause-first c groups done stands))
    (ready_is_released groups done c.args.after)
