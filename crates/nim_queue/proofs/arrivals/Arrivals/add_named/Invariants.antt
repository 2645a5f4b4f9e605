-- those with the numbers so far are reached
use Rattle.std.proofs.Common.{◌≡◌, ℕ, [], take, nat_eq}
use Rattle.std.specs.Prelude.{◌||◌, unwrap_or}
use Rattle.std.specs.HashMap.{get}
use Rattle.std.specs.List.{list_any}
use Rattle.nim_queue.specs.Counts.{is_in}
use Rattle.nim_queue.proofs.arrivals.Arrivals.add_named.Given as goal

abbrev pub invariant-loop-number : goal.invariant-loop-number
invariant-loop-number l =
    (e : ℕ) → is_in e l.tickets
    ≡ (is_in e l.fn.tickets || list_any (λ number. is_in e (unwrap_or (get nat_eq l.self.numbers number) [])) (take l.number-index l.numbers))
