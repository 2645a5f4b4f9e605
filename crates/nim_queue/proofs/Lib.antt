-- The item behind the front of a list stands at the front's length.
pub mod Lists
-- Room made for more slots leaves each slot's use as it was: clause `uses` of `reach`.
pub mod Slots
-- Tickets that rise still rise with one more and one fewer: clauses `items` of `Tickets::put` and `Tickets::take`,
-- `first` of `Tickets::after`.
pub mod Rising
-- A queue stands for groups and complete commands just when it keeps what these leave.
pub mod Opening
-- A queue tells what is kept of a command, and the first released ticket: clause `first` of `BeforeQueue::ready`.
pub mod Looking
-- A released ticket may be next by the laws of waits: clause `released` of `BeforeQueue::ready`.
pub mod Released
-- A queue that was given nothing stands for no groups: the contract of `BeforeQueue::new`.
pub mod Beginning
-- A ticket counts as often as it stands in a list, and counts of waits fall by as much.
pub mod Counting
-- The released tickets lose the complete one and gain those whose last wait it was: clause `released` of `free`, and
pub mod Freeing
-- each command keeps its open waits: clause `stands` of `BeforeQueue::complete`.
pub mod Completing
-- One more command of a group arrives with its number and its written slots: clause `arrived` of `arrive_all`.
pub mod Arriving
-- Slots get a use that nobody has, and keep those they had: clauses `same` and `covered` of `cover_all`.
pub mod Covering
-- Links and readings taken one by one add what all add: clauses `waiting` and `slots` of `BeforeQueue::join`.
pub mod Linking
-- One more command leaves each slot its last writer and readers, and no list longer than was counted.
pub mod Uses
-- The released tickets and the counts of followers, with one more command.
pub mod Growing
-- What others wait for stays when one more command joins.
pub mod Joining
-- The writers and readers of slots name just those that the joining command waits for.
pub mod Reaching
-- A group with one more command has one member more.
pub mod Stepping
-- None and then one more of the arrived has joined: clauses `midway` of `join_all` and `ok` of `BeforeQueue::admit`.
pub mod Taking
-- Room made for a group leaves the queue what it stood for: clauses `stands` and `room` of `make_room`, `err` of
-- `BeforeQueue::admit`.
pub mod Making
