-- What a worker keeps of the commands that it was asked for since its last Reset.
use Rattle.std.specs.Prelude.{◌≡◌, ℕ, zero, suc, ◌-◌, ◌==◌, Bool, true, false, ◌&&◌, nat_lt, if◌then◌else◌, List, ◌∷◌, ◌++◌, [], length, Option, None, Some, slice_get}
use Rattle.std.specs.BTreeMap.{BTreeMap, get}
use Rattle.std.specs.Option.{option_and_then, option_map}
use Rattle.std.specs.Ordering.{nat_cmp}
use Rattle.nim_command.specs.declared.command.Command.{Command}
use Rattle.nim_command.specs.Waits.{Group, Source, FromInstance}
use Rattle.nim_order.specs.Progress.{is_one_of}
use Rattle.nim_queue.specs.Stands as queue
use Rattle.nim_history.specs.History.{Asked, asked_at, left_in_group}
use Rattle.nim_history.specs.Kept.{is_single}
use Rattle.nim_worker.specs.declared.admitted.Admitted.{Admitted}
use Rattle.nim_worker.specs.declared.admitted.Ended.{Ended}
use Rattle.nim_worker.specs.declared.admitted.OpenGroup.{OpenGroup}
use Rattle.nim_worker.specs.declared.head.GroupHead.{GroupHead}

-- whether it is told when all commands of a group are complete: it is an instance of a block
abbrev pub is_told : Source → Bool
is_told (FromInstance base) = true
is_told _ = false

-- what is known of a group
abbrev pub group_head : Group → GroupHead
group_head group = record { epoch = group.epoch; instance = group.instance; single = is_single group.source }

-- a group of which so many commands aren't complete, while there are some
abbrev pub open_with : Group → ℕ → Option OpenGroup
open_with group zero = None
open_with group (suc more) = Some (record { head = group_head group; told = is_told group.source; left = suc more })

-- the group of a number, while commands of it aren't complete
abbrev pub open_of : List Group → List ℕ → ℕ → Option OpenGroup
open_of groups ran number =
    option_and_then (λ (group : Group). open_with group (left_in_group groups number ran)) (slice_get groups number)

-- These groups were asked for, and their commands at these places are complete.
pub record IsAdmitted (admitted : Admitted) (groups : List Group) (ran : List ℕ) : Type 0 where
  pub queue : queue.StandsForGroups admitted.queue groups (is_one_of ran)
  pub given : admitted.given ≡ length groups
  pub table : (number : ℕ) → get nat_cmp admitted.unfinished number ≡ open_of groups ran number

-- a group is of these commands, with what is known of it
pub record IsGroupOf (known : GroupHead) (tells : Bool) (asked : List Command) (group : Group) : Type 0 where
  pub head : known ≡ group_head group
  pub told : tells ≡ is_told group.source
  pub commands : group.commands ≡ asked

-- the head of the group that a command is of, while it isn't complete
abbrev pub head_at : List Group → List ℕ → ℕ → Option GroupHead
head_at groups ran place =
    if is_one_of ran place then None else option_map (λ (asked : Asked). group_head asked.group) (asked_at groups place)

-- a command that has become complete, and whether it is to be told that its group is
abbrev pub ended_at : List Group → List ℕ → ℕ → Option Ended
ended_at groups ran place =
    option_map
    (λ (asked : Asked). record {
      command = asked.command;
      head = group_head asked.group;
      through = is_told asked.group.source && (left_in_group groups asked.number (ran ++ place ∷ []) == 0);
    })
    (asked_at groups place)

-- a group of which one command less is left, and which goes with the last
abbrev pub one_less : OpenGroup → OpenGroup
one_less group = record group { left = group.left - 1 }

-- a group, as long as commands of it are left
abbrev pub while_left : OpenGroup → Option OpenGroup
while_left group = if group.left == 0 then None else Some group

-- a table with a group by its number, where it has commands
abbrev pub Opens : BTreeMap ℕ OpenGroup → ℕ → OpenGroup → BTreeMap ℕ OpenGroup → Type 0
Opens old number group new = (other : ℕ) → get nat_cmp new other
    ≡ (if (other == number) && nat_lt 0 group.left then Some group else get nat_cmp old other)

-- a table with no group of this number
abbrev pub Closes : BTreeMap ℕ OpenGroup → ℕ → BTreeMap ℕ OpenGroup → Type 0
Closes old number new = (other : ℕ) → get nat_cmp new other ≡ (if other == number then None else get nat_cmp old other)

-- a table of the same groups
abbrev pub KeepsTable : BTreeMap ℕ OpenGroup → BTreeMap ℕ OpenGroup → Type 0
KeepsTable old new = (other : ℕ) → get nat_cmp new other ≡ get nat_cmp old other

-- a table in which a group has one command less left
abbrev pub CountsDown : BTreeMap ℕ OpenGroup → ℕ → BTreeMap ℕ OpenGroup → Type 0
CountsDown old number new = (other : ℕ) → get nat_cmp new other
    ≡ (if other == number then option_and_then (λ (group : OpenGroup). while_left (one_less group))
    (get nat_cmp old number) else get nat_cmp old other)
