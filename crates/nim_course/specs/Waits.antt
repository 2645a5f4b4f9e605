-- What a controller waits for.
use Rattle.std.specs.Prelude.{ℕ, if◌then◌else◌, List, [], ◌∷◌}
use Rattle.std.specs.List.{position_or_len}
use Rattle.std.specs.Option.{is_some}
use Rattle.nim_course.specs.declared.outcome.Waiting.{Waiting}
use Rattle.nim_course.specs.declared.pending.Pending.{Pending}
use Rattle.nim_course.specs.declared.pending.Pending.TheVariants.{Block, Cell, Parts, Ended}
use Rattle.nim_course.specs.Controller.{Controller, Flight}
use Rattle.nim_course.specs.Moves.{is_open}
use Rattle.nim_course.specs.Summaries.{counted_on}

-- the number of the oldest instance in flight, 0 where there is none
abbrev pub oldest : List Flight → ℕ
oldest [] = 0
oldest (flight ∷ rest) = flight.instance

-- what is awaited for what is pending
abbrev pub awaits : Controller → Pending → Waiting
awaits c (Block block args) = Waiting.Room (oldest c.flight)
awaits c (Cell row cell) = Waiting.Value (counted_on c.first (position_or_len is_open c.fetched))
awaits c (Parts var) = Waiting.Value (counted_on c.first (position_or_len is_open c.fetched))
awaits c Ended = Waiting.End (oldest c.flight)
awaits c _ = Waiting.Turn

-- A turn that is due comes first, and once there is an outcome nothing else is awaited.
abbrev pub waiting_of : Controller → Waiting
waiting_of c = if c.due then Waiting.Turn else (if is_some c.outcome then Waiting.Turn else awaits c c.pending)
