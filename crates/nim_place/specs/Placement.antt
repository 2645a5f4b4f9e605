-- Which worker an object is placed at.
use Rattle.std.specs.Prelude.{ℕ, ◌+◌, ◌*◌, ◌/◌, ◌%◌, ◌^◌, nat_lt, Bool, if◌then◌else◌, List, drop, length}
use Rattle.std.specs.List.{position_or_len}
use Rattle.nim_base.specs.declared.number.Object.{Object}
use Rattle.nim_base.specs.declared.number.Worker.{Worker}
use Rattle.nim_place.specs.declared.placement.Placement.{Placement}
use Rattle.nim_place.specs.declared.placement.Placement.TheVariants.{Cyclic, Block, Mixed}

-- a number of 64 bits that differs much from object to object
abbrev pub mixed : ℕ → ℕ → ℕ
mixed number object = (number + (object + 1) * 6364136223846793005) % 2 ^ 64

-- the worker that an object is meant for, of so many objects and so many workers
abbrev pub preferred : Placement → ℕ → ℕ → ℕ → ℕ
preferred Cyclic object objects workers = object % workers
preferred Block object objects workers = object * workers / objects
preferred (Mixed number) object objects workers = mixed number object / 2 ^ 33 % workers

-- the first live worker from one on, or where there is none the number of workers
abbrev pub live_ahead : List Bool → ℕ → ℕ
live_ahead live from = from + position_or_len (λ (flag : Bool). flag) (drop from live)

-- the first live worker from one on, going round: past the last one it is the first live one of all
abbrev pub live_from : List Bool → ℕ → ℕ
live_from live from = if nat_lt (live_ahead live from) (length live) then live_ahead live from else live_ahead live 0

-- Where an object is placed, of so many objects: at the worker that it is meant for, or where this one isn't live, at
-- the first live one after it.
abbrev pub home : Placement → Object → ℕ → List Bool → Worker
home place object objects live = record { 0 = live_from live (preferred place object.0 objects (length live)) }
