-- One flag more is set, and read: clauses `flags` and `count` of `failing`.
pub mod Flags
-- Each copy is from the lowest worker that holds the latest version: clauses `sources` and `few` of `build_patch`.
pub mod Sources
-- Behind copies of latest versions a map holds these where they went to, and elsewhere what it held.
pub mod Copied
-- Behind the copies of a patch no precondition fails: clause `mends` of `build_patch`.
pub mod Mended
-- A run of a patch asks each worker for its commands of the copies, before sets aside.
pub mod Runs
-- Each copy of a patch goes from a live worker that holds the latest version to a live one that doesn't.
pub mod Due
-- The copies of a patch, given one after another, are legal, and the map stays at its position.
pub mod InTurn
-- One worker's list with the order that installs its ends, and with one that runs them, is legal and by the rule.
pub mod OneWorker
-- The orders that install a patch, and those that run it, extend orders so far: `installs` and `runs` of `build_patch`.
pub mod Given
-- What is found in a list of pairs by a test of the keys, and what is left without it.
pub mod Entries
-- Keys, and copies, that the tests call equal are equal.
pub mod Tests
-- What the kit's cache does is a use: a key that is used stands first, and a new one before the 63 used last.
pub mod Using
-- A cache that stands for uses finds just their hits: clauses `hit` and `stands` of `PatchCache::find`.
pub mod Hits
-- Each number is below 64 and that of one patch: clauses `number`, `below` and `valid` of `PatchCache::keep`.
pub mod Numbers
-- The calls of a cache of patches leave what the kit's cache leaves: clause `kept` of `PatchCache::find` and of `keep`.
pub mod Calls
-- Worked by hand: of two blocks in turn the patch before an instance is made once, and found the next time.
mod WorkedRows
-- Worked by hand: a patch of one copy is installed and run, and behind it the block may begin.
mod WorkedRun
