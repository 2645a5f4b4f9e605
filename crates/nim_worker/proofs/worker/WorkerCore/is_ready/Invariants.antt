use Rattle.std.proofs.Common.{◌+◌, ◌-◌, ◌^◌, ℕ, List, [], None}
use Rattle.std.specs.Option.{option_map_or}
use Rattle.nim_history.specs.History.{Happening, state_of}
use Rattle.nim_worker.specs.Stands.{CoreStands}
use Rattle.nim_worker.proofs.Walk.{IsWalked}
use Rattle.nim_worker.proofs.worker.WorkerCore.is_ready.Given as goal

-- none of the released commands so far may be completed
abbrev pub invariant-loop-ticket : goal.invariant-loop-ticket
invariant-loop-ticket l = (history : List Happening) → CoreStands l.self None history → IsWalked (state_of history) 1 l.after l.self []

-- the places behind the given one
abbrev pub decreases-loop-ticket : goal.decreases-loop-ticket
decreases-loop-ticket l = 2 ^ 64 - option_map_or (λ (ticket : ℕ). ticket + 1) l.after 0
