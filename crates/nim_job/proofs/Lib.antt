-- A special case of division each: clauses `zero`, `least` and `natural` of `division_is_total`.
pub mod Division
-- A list taken or tested one item at a time gives what the whole list gives.
pub mod Lists
-- What is whole in a whole job: its variables, its blocks and their stages.
pub mod Whole
-- An `if` goes on with its second part behind the scalars that its first part sets: the contract of `scan`.
pub mod Scans
-- What a whole job's statements name is there, and they nest at most 16 deep: `DriverMachine::new` may stand on them.
pub mod Sound
-- A part's object is where its variable's span says: clause `each` of `spans`.
pub mod Spans
-- A whole job has at most 1,024 tasks a step, and each reads and writes objects that are there.
pub mod FewTasks
-- What a task reads is what the last task before it that writes the object left: clauses `reads` and `keeps` of
-- `versions_are_read`.
pub mod Versions
-- After each task the objects hold its results, fitted to their shapes, and the others what they held.
pub mod TaskLeaves
-- What is to do at a path of levels, with one level more or less at its end.
pub mod Paths
-- A path has at most one level more than the tree nests deep, so there is room for each level that is entered.
pub mod Depths
-- A level that is left or turned leaves the rest to do: clauses `open` and `todo` of `leave`, `turn` and `step_back`.
pub mod Moves
-- A settled path has a next statement, or further turns of a loop: clauses `open`, `quiet` and `todo` of `pass`.
pub mod Fronts
-- The steps of a driver keep its counts, and what is left to do names what is there.
pub mod Steps
-- A machine takes the items in front that ask nothing, one after another, until one asks, and
pub mod Settles
-- then asks by that item, or that it is done or at its limit: clause `ask` of `DriverMachine::next`.
pub mod Asks
-- A machine that asks nothing more is done, or at its limit.
pub mod Ends
-- A machine follows the steps of its job from any state at which it stands: clauses `starts` and `follows` of
-- `machine_follows`.
pub mod Follows
-- It stays one of its job, and goes back to where it stood: clauses `stays` and `back` of `machine_follows`.
pub mod Returns
