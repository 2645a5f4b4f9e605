-- A list of commands gets longer, as more orders come.
use Rattle.std.specs.Prelude.{◌≡◌, ℕ, ◌≤◌, Bool, true, false, List, ◌++◌, length, drop}
use Rattle.nim_base.specs.declared.number.Slot.{Slot}
use Rattle.nim_command.specs.declared.command.Command.{Command}
use Rattle.nim_command.specs.Covered.{is_covered}
use Rattle.nim_command.specs.Waits.{Group, placed_commands}
use Rattle.nim_order.specs.Contents.{Leave, held_before}
use Rattle.nim_order.specs.Progress.{IsClosed, IsReleasedAt, held_when}

-- Commands come behind, none of which is complete: all stands that stood.
pub record LongerStands {X : Type 0} (leave : Leave X) (start : Slot → X) (commands more : List Command)
    (done : ℕ → Bool) : Type 0 where
  -- the slots hold the same
  pub held : (slot : Slot) → held_when leave start (commands ++ more) done slot
      ≡ held_when leave start commands done slot
  -- also before each place of the list as it was
  pub before : (place : ℕ) (slot : Slot) → place ≤ length commands
      → held_before leave start (commands ++ more) place slot ≡ held_before leave start commands place slot
  -- the complete places are closed
  pub closed : IsClosed commands done → IsClosed (commands ++ more) done
  -- what is released stays released
  pub released : (place : ℕ) → IsReleasedAt commands done place → IsReleasedAt (commands ++ more) done place

-- So it is for all commands that come behind.
abbrev pub AnyLonger : Type 0 → Type 0
AnyLonger X =
    (leave : Leave X) (start : Slot → X) (commands more : List Command) (done : ℕ → Bool)
    → ((place : ℕ) → length commands ≤ place → done place ≡ false) → LongerStands leave start commands more done

-- The front of a covered list is covered.
abbrev pub FrontIsCovered : Type 0
FrontIsCovered = (commands more : List Command) → is_covered (commands ++ more) ≡ true → is_covered commands ≡ true

-- More groups leave the commands of the groups before them, and what these wait for.
abbrev pub FrontStays : Type 0
FrontStays =
    (groups more : List Group)
    → placed_commands (groups ++ more) ≡ placed_commands groups
    ++ drop (length (placed_commands groups)) (placed_commands (groups ++ more))
