-- those so far that wait are there
use Rattle.std.proofs.Common.{◌≡◌, Bor, ℕ, map, nat_eq}
use Rattle.std.specs.Prelude.{◌||◌, ◌&&◌, is_some}
use Rattle.std.specs.HashMap.{get}
use Rattle.nim_queue.specs.Counts.{is_in}
use Rattle.nim_queue.proofs.arrivals.push_each.Given as goal

abbrev pub invariant-loop-reader : goal.invariant-loop-reader
invariant-loop-reader l =
    (e : ℕ) → is_in e l.tickets ≡ (is_in e l.fn.tickets || (is_in e (map (λ (x : Bor ℕ). x.now) l.yielded) && is_some (get nat_eq l.waiting e)))
