-- Before sets: the numbers that the rule gives an entry or a command, within one Single, half or patch.
use Rattle.std.specs.Prelude.{◌≡◌, ℕ, Bool, not, ◌&&◌, ◌||◌, if◌then◌else◌, List, [], ◌∷◌, ◌++◌, map}
use Rattle.std.specs.List.{list_any}
use Rattle.nim_base.specs.declared.number.Slot.{Slot}
use Rattle.nim_command.specs.declared.command.Command.{Command}
use Rattle.nim_command.specs.Slots.{is_among, reads_of, writes_of}

-- what a before set depends on: a number, and the slots that are read and written
pub record Footprint : Type 0 where
  pub number : ℕ
  pub reads : List Slot
  pub writes : List Slot

-- what the rule looks at in a command: its number and its slots
abbrev pub footprint_of : Command → Footprint
footprint_of command = record { number = command.id; reads = reads_of command.kind; writes = writes_of command.kind }

-- whether one of these writes the slot
abbrev pub is_rewritten : List Footprint → Slot → Bool
is_rewritten between slot = list_any (λ (f : Footprint). is_among f.writes slot) between

-- The earlier one writes a slot that the later one touches, or reads one that the later one writes, and none of those
-- between them writes this slot.
abbrev pub is_before : Footprint → List Footprint → Footprint → Bool
is_before earlier between later =
    list_any (λ slot. (is_among later.reads slot || is_among later.writes slot) && not (is_rewritten between slot))
    earlier.writes
    || list_any (λ slot. is_among later.writes slot && not (is_rewritten between slot)) earlier.reads

-- the before set of one that comes behind these: the numbers of those that it has to wait for, in order
abbrev pub before_of : List Footprint → Footprint → List ℕ
before_of [] later = []
before_of (first ∷ rest) later =
    if is_before first rest later then first.number ∷ before_of rest later else before_of rest later

-- the before sets of a list, behind others
abbrev pub befores_behind : List Footprint → List Footprint → List (List ℕ)
befores_behind past [] = []
befores_behind past (next ∷ rest) = before_of past next ∷ befores_behind (past ++ next ∷ []) rest

-- the before sets of a list
abbrev pub befores_of : List Footprint → List (List ℕ)
befores_of footprints = befores_behind [] footprints

-- each command's before set is that of the rule
abbrev pub IsByRule : List Command → Type 0
IsByRule commands = map (λ (c : Command). c.before) commands ≡ befores_of (map footprint_of commands)
