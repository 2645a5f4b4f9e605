-- When the waits of commands keep every conflict in order.
use Rattle.std.specs.Prelude.{ℕ, zero, suc, ◌==◌, Bool, false, not, ◌||◌, nat_lt, List, [], filter, length, slice_get}
use Rattle.std.specs.List.{list_all, list_any, range_with_len}
use Rattle.std.specs.Option.{option_map_or}
use Rattle.nim_command.specs.declared.command.Command.{Command}
use Rattle.nim_command.specs.declared.command.Kind.{Kind}
use Rattle.nim_command.specs.Slots.{does_touch, does_write, reads_of, writes_of}

-- two commands touch one slot, and one of them writes it
abbrev pub do_conflict : Kind → Kind → Bool
do_conflict earlier later =
    list_any (does_touch later) (writes_of earlier) || list_any (does_write later) (reads_of earlier)

-- the earlier places that the command at a place waits for: its numbers are places
abbrev pub waits_at : List Command → ℕ → List ℕ
waits_at commands place =
    filter (λ earlier. nat_lt earlier place) (option_map_or (λ (c : Command). c.before) (slice_get commands place) [])

-- whether an earlier place is reached from a later one by at most so many waits
abbrev pub is_reached : ℕ → List Command → ℕ → ℕ → Bool
is_reached zero commands later earlier = false
is_reached (suc most) commands later earlier =
    list_any (λ place. (place == earlier) || is_reached most commands place earlier) (waits_at commands later)

-- whether the commands at two places do not conflict, or the earlier one is reached
abbrev pub is_kept_in_order : List Command → ℕ → ℕ → Bool
is_kept_in_order commands later earlier =
    not (option_map_or (λ (e : Command). option_map_or (λ (l : Command). do_conflict e.kind l.kind)
    (slice_get commands later) false) (slice_get commands earlier) false)
    || is_reached later commands later earlier

-- of two commands that conflict, the earlier is reached from the later; a place has fewer waits than places before it
abbrev pub is_covered : List Command → Bool
is_covered commands =
    list_all (λ later. list_all (is_kept_in_order commands later) (range_with_len 0 later))
    (range_with_len 0 (length commands))
