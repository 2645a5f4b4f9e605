-- Lists made from a number of workers or objects are made from one more by what that one adds.
pub mod Ranges
-- A form that fits reads at most eight objects; these, and the first that it writes, are below the number of objects.
pub mod Fits
-- With one form more a walk has gone one task further.
pub mod Forms
-- The template of a walk has these parts: clause `built` of `build_halves`.
pub mod Templates
-- Entries moved to the lists of their workers one at a time are each worker's own, in order: `entries_by_worker`.
pub mod ByWorker
-- What a walk does leaves the numbers of workers and objects as they are.
pub mod Sizes
-- A task's entries have numbers from 64 times its own on, closing copies behind: clause `ascend` of `build_halves`.
pub mod Numbers
-- No offset in the maps of a walk is above the latest one, and the latest one is there, or nothing is written.
pub mod Offsets
-- Each task of a walk keeps that, and what is needed at entry has some offset.
pub mod Walks
-- Behind the closing copies each main slot that is needed has the latest offset.
pub mod Closes
-- What is current in the offsets is current in the versions that the effect leaves.
pub mod Effects
-- What a block needs at entry holds again behind its effect: clause `again` of `build_halves`.
pub mod Again
-- A map of versions stays like a map of offsets, at a base and from a map at entry on, whatever a task puts into both.
pub mod Alike
-- Single scheduling chooses the same in both.
pub mod Chosen
-- Offset 0 stands in a main slot only where this was needed at entry.
pub mod Zeros
-- The entries of a block's tasks, put at a base, are what single scheduling gives these tasks.
pub mod Instances
-- So an instance asks each worker for the commands of the tasks: clause `tasks` of `build_halves`.
pub mod Halves
-- The effect of a template lists what its halves write: clause `effect` of `build_halves`.
pub mod Written
-- Behind the closing copies of an instance its map is like the offsets behind them.
pub mod Ends
-- Commands that are each worker's in the same order, before sets aside, leave the same map.
pub mod Sames
-- Maps stay before the position that commands reach: the law `maps_stay_before`.
pub mod StaysBefore
-- Each entry of a built template is of one of the workers, and none receives what the block began with.
pub mod Entries
-- An effect leaves the very map that is like the offsets in the end.
pub mod EffectLeft
-- The commands of an instance leave what the effect of its template says: clause `left` of `build_halves`.
pub mod Left
-- Before sets change nothing of what commands hold, send and receive, nor of whether they are legal.
pub mod Bare
-- Where lists send and receive the same as lists that are paired, they are paired.
pub mod SameKeys
-- One worker's list with the order that installs its half, and with one for an instance, is legal and by the rule.
pub mod OneWorker
-- Commands that are given as Singles, step after step, keep lists paired, and the map stands for them all.
pub mod Turns
-- One copy of an object's latest version to another worker is such a step, and legal.
pub mod Copies
-- So are the commands of an instance, one task after another and then one closing copy after another.
pub mod InTurn
-- A template's halves may be installed, and its instances asked for: `installs` and `instances` of `build_halves`.
pub mod Given
-- The preconditions of a built template are main slots of live workers, each once: clause `needs` of `build_halves`.
pub mod MainSlots
-- Commands by rank are in the order of any list that ascends by rank and has each worker's commands in order.
pub mod ByRank
-- The commands of tasks ascend by rank: of each task what is sent, what is received and the run.
pub mod Ranked
-- What is sent in an instance is received once, and what is received is sent once.
pub mod RankedEnds
-- Before sets change nothing of what commands find, leave, send, receive and run.
pub mod Plain
-- By rank the commands of an instance are those of the tasks in their order, and behind them the closing copies.
pub mod InOrder
-- Of slots that meet the preconditions there is a map of versions, in which these are current and nothing else is held.
pub mod AtEntry
-- The commands of a task find by rank what they need, and its home holds then what it writes.
pub mod Planes
-- So do those of all tasks, one after another.
pub mod TasksRun
-- And the closing copies behind them.
pub mod ClosingsRun
-- Main slots hold in the end what the effect says of them, and the others what they held.
pub mod Says
-- So the worker template of a block is sound: clause `sound` of `build_halves`.
pub mod IsSound
-- An instance runs each task of its block once, at its home: clause `runs` of `build_halves`.
pub mod RunOnce
-- Worked by hand: the templates of four blocks on two workers, objects placed in turn.
mod WorkedRows
