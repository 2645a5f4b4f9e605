-- A test of all or some of a list says what it says of the item at each place.
pub mod Items
-- A member has to wait for those that the rule names, and before sets by the rule name them all.
pub mod Named
-- In the commands of groups, one that borders an earlier one of its group names it.
pub mod Groups
-- Of two members that touch a slot with no writer of it between, the later waits for the earlier.
pub mod Direct
-- Two commands conflict where both touch a slot and one of them writes it.
pub mod Conflicts
-- From a place whose waits are complete only complete places are reached.
pub mod Reach
-- A member's waits, as places of the list, reach what its command reaches.
pub mod Listed
-- From the later of two in conflict a chain of waits leads to the earlier: clauses `rule` and `more` of
-- `before_sets_cover`.
pub mod Chain
-- Orders that give before sets by the rule make sessions that have them: the contract of `orders_cover`.
pub mod Sessions
-- A slot holds what its complete writers leave, whatever else is complete.
pub mod Held
-- Nothing complete leaves the start, all complete the list's end, and something is always released: the contracts
-- of `held_at_ends` and `never_stuck`.
pub mod Ends
-- One released command more finds what it finds in the order of the list: the contract of `any_step`.
pub mod AnyStep
-- So do all, one after another, in any order that waits allow: the contract of `any_order`.
pub mod Orders
-- A longer list keeps what its front says: clauses `commands` and `covered` of `front_stays`, and the contract of
-- `longer_list_stands`.
pub mod Longer
-- Objects with their versions are contents that commands leave slot by slot: the contract of `versions_are_local`.
pub mod Versions
-- The commands of the table in docs/WAITS.md have the before sets that the table says.
mod Example
