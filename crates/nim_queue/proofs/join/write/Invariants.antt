-- the slots so far are written
use Rattle.std.proofs.Common.{◌≡◌, ℕ, take}
use Rattle.std.specs.Prelude.{if◌then◌else◌}
use Rattle.std.specs.Option.{option_map}
use Rattle.nim_command.specs.Slots.{is_among}
use Rattle.nim_queue.specs.Used.{used_in}
use Rattle.nim_queue.specs.Joined.{rewritten}
use Rattle.nim_queue.proofs.join.write.Given as goal

abbrev pub invariant-loop-slot : goal.invariant-loop-slot
invariant-loop-slot l =
    (s : ℕ) → used_in l.slots.items s
    ≡ (if is_among (take l.slot-index l.written) (record { 0 = s }) then option_map (rewritten l.ticket) (used_in l.fn.slots.items s)
    else used_in l.fn.slots.items s)
