-- The order of commands in which every wait goes to a smaller one.
use Rattle.std.specs.Prelude.{ℕ, Bool, true, false, nat_le, if◌then◌else◌}
use Rattle.std.specs.Ordering.{bool_cmp, nat_cmp, ordering_then}
use Rattle.std.specs.declared.cmp.Ordering.{Ordering}
use Rattle.nim_command.specs.declared.command.Command.{Command}
use Rattle.nim_command.specs.declared.command.Kind.{Kind}
use Rattle.nim_command.specs.declared.command.Kind.TheVariants.{Create, Load, Send, Receive, Fetch}
use Rattle.nim_command.specs.declared.rank.Rank.{Rank}

-- the copies of a patch are numbered from here
abbrev pub is_patch_number : ℕ → Bool
is_patch_number number = nat_le 131072 number

-- 0 Create and Load, 1 Fetch, 2 a copy of a patch, 3 all else
abbrev pub rank_stage : ℕ → Kind → ℕ
rank_stage number (Create slot iota first) = 0
rank_stage number (Load slot version value) = 0
rank_stage number (Fetch slot ticket) = 1
rank_stage number (Send slot peer entry) = if is_patch_number number then 2 else 3
rank_stage number (Receive slot version) = if is_patch_number number then 2 else 3
rank_stage number _ = 3

-- whether a command comes after the Sends of its number
abbrev pub is_later : Kind → Bool
is_later (Send slot peer entry) = false
is_later _ = true

-- The position is the base of the command's instance; of a Create, Load or Fetch it is the number of tasks before
-- it in program order.
abbrev pub rank_of : ℕ → Command → Rank
rank_of position command = record {
  position = position;
  stage = rank_stage command.id command.kind;
  number = command.id;
  later = is_later command.kind;
}

-- ranks compare by position, then by stage, then by number, and a Send comes before the rest
abbrev pub ranks_compared : Rank → Rank → Ordering
ranks_compared first second =
    ordering_then (nat_cmp first.position second.position)
    (ordering_then (nat_cmp first.stage second.stage)
    (ordering_then (nat_cmp first.number second.number) (bool_cmp first.later second.later)))
