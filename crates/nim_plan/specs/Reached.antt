-- A table of the places that are reached from each place.
use Rattle.std.specs.Prelude.{ℕ, ◌==◌, Bool, false, ◌&&◌, ◌||◌, nat_lt, List, map, slice_get}
use Rattle.std.specs.List.{range_with_len}
use Rattle.std.specs.Option.{option_map_or}
use Rattle.nim_command.specs.declared.command.Command.{Command}
use Rattle.nim_command.specs.Covered.{is_reached}

-- of each earlier place, whether it is reached from this one
abbrev pub row_of : List Command → ℕ → List Bool
row_of commands place = map (is_reached place commands place) (range_with_len 0 place)

-- whether the table has a place as reached from another one
abbrev pub is_marked : List (List Bool) → ℕ → ℕ → Bool
is_marked rows place earlier =
    option_map_or (λ (row : List Bool). option_map_or (λ (reached : Bool). reached) (slice_get row earlier) false)
    (slice_get rows place) false

-- whether a wait of a command at the next place leads to an earlier place
abbrev pub leads_to : List (List Bool) → ℕ → ℕ → ℕ → Bool
leads_to rows later earlier place = nat_lt place later && ((place == earlier) || is_marked rows place earlier)
