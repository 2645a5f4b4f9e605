-- A copy's ends, a worker's awaited runs, and the versions that a half receives: `orders` of `DecisionMap::reuse`.
pub mod Steps
-- Which workers and objects a map has stays behind an instance: `workers` and `objects` of `DecisionMap::reuse`.
pub mod Stays
-- Orders behind orders so far keep them covered and paired, and the halves and patches that aren't renewed.
pub mod Follows
-- What a worker keeps of halves and patches stays behind the orders of a template, and behind Singles.
pub mod Keeps
-- What was decided of a block stands behind more orders that keep its halves.
pub mod Blocks
-- Decisions stand while blocks are recorded and Singles are given: the law `decisions_stand`.
pub mod Stands
-- The patch before an instance is installed where it is found, and the patches that are kept then are valid.
pub mod Uses
-- The template of a block that was recorded may be installed, or is.
pub mod Templates
-- The orders of the patch before an instance mend the preconditions that fail.
pub mod Mended
-- The orders of a reused instance, its template's, the patch's and its own, keep orders legal, covered and paired.
pub mod Instances
-- The orders of an instance make each worker's list longer by its own.
pub mod Lists
-- The commands of a patch run no task.
pub mod NoRuns
-- Reused instances go on from all orders so far, and run each task once, at its home: the law `instances_go_on`.
pub mod GoesOn
-- From the third instance on a worker gets at most two short orders where no patch is new: `later_instances_are_short`.
pub mod Short
