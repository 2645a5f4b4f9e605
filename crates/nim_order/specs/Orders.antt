-- Orders whose before sets are those of the rule.
use Rattle.std.specs.Prelude.{◌≡◌, true, List, map, All}
use Rattle.nim_command.specs.declared.entry.Entry.{Entry}
use Rattle.nim_command.specs.Before.{IsByRule, befores_of}
use Rattle.nim_command.specs.Covered.{is_covered}
use Rattle.nim_command.specs.Ruled.{entry_footprint}
use Rattle.nim_command.specs.Waits.{placed_commands}
use Rattle.nim_message.specs.declared.order.ToWorker.{ToWorker}
use Rattle.nim_message.specs.declared.order.ToWorker.TheVariants.{Single, InstallTemplate}
use Rattle.nim_message.specs.Orders.{session_of}

-- each entry's before set is that of the rule
abbrev pub AreEntriesByRule : List Entry → Type 0
AreEntriesByRule entries = map (λ (e : Entry). e.before) entries ≡ befores_of (map entry_footprint entries)

-- A Single's commands and a template's entries carry the before sets of the rule. All other before sets are made by it.
abbrev pub IsOrderByRule : ToWorker → Type 0
IsOrderByRule (Single epoch instance commands) = IsByRule commands
IsOrderByRule (InstallTemplate epoch block entries) = AreEntriesByRule entries
IsOrderByRule _ = Unit {0}

-- Whatever the orders: where their before sets are those of the rule, what they come to is covered.
abbrev pub OrdersCover : Type 0
OrdersCover = (orders : List ToWorker) → All IsOrderByRule orders
    → is_covered (placed_commands (session_of orders).groups) ≡ true
