-- Before sets by the rule keep every conflict in order.
use Rattle.std.specs.Prelude.{◌≡◌, ℕ, true, ◌++◌, List, [], ◌∷◌, All}
use Rattle.nim_command.specs.declared.command.Command.{Command}
use Rattle.nim_command.specs.Before.{Footprint, IsByRule, before_of, footprint_of}
use Rattle.nim_command.specs.Covered.{is_covered}
use Rattle.nim_command.specs.Waits.{Group, placed_commands}
use Rattle.nim_order.specs.Progress.{is_one_of}

-- a command behind others names at least all that the rule names
abbrev pub NamesAll : List Footprint → Command → Type 0
NamesAll past command = (number : ℕ) → is_one_of (before_of past (footprint_of command)) number ≡ true
    → is_one_of command.before number ≡ true

-- each of these commands, behind others, names at least all that the rule names
abbrev pub NameAllBehind : List Footprint → List Command → Type 0
NameAllBehind past [] = Unit {0}
NameAllBehind past (command ∷ commands) =
    NamesAll past command × NameAllBehind (past ++ footprint_of command ∷ []) commands

-- each command of a group names at least all that the rule names
abbrev pub NameAll : List Command → Type 0
NameAll commands = NameAllBehind [] commands

-- Whatever the groups: where each before set is that of the rule, the commands are covered.
abbrev pub RuleCovers : Type 0
RuleCovers = (groups : List Group) → All (λ (g : Group). IsByRule g.commands) groups
    → is_covered (placed_commands groups) ≡ true

-- Names beyond those of the rule do no harm.
abbrev pub MoreNamesCover : Type 0
MoreNamesCover =
    (groups : List Group) → All (λ (g : Group). NameAll g.commands) groups → is_covered (placed_commands groups) ≡ true
