-- An item passes two tests one after the other just when it passes both.
pub mod Lists
-- A slot is among those that pass a test just when it is among all and passes it.
pub mod Walk
-- The last uses of slots, with one use more, tell whom a later one waits for.
pub mod LastUses
-- Sorted without doubles the places rise and stay the same: clauses `rise` and `met` of `LastUses::places`.
-- They give the before set by the rule: the contract of `before_set`.
pub mod Rises
-- Commands take their before sets one at a time: the contract of `commands_by_rule`.
pub mod ByRule
-- Entries take them in place, those behind keep their own until then: the contract of `entries_by_rule`.
pub mod InPlace
