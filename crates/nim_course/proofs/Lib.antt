-- What the machine asks where nothing is unanswered, and where it stands once it is answered.
pub mod Asking
-- A controller without an outcome leads its job just where it goes on.
pub mod Standing
-- A controller that was just made leads its job.
pub mod Starts
-- A task reads at most eight objects, and writes one or two.
pub mod Counts
-- A whole job has few statements, and its blocks have few tasks, which fit.
pub mod Blocks
-- Where a worker is live, so is the home of what a task writes.
pub mod Homes
-- Commands that run nothing, or one position each in turn, run each of so many positions once.
pub mod Runs
-- One command alone among directed orders makes its worker's list longer by itself.
pub mod Lists
-- Orders so far come to what they came to and one command more, and stay right.
pub mod Alone
-- What the parts of variables hold at first may be made, or put there.
pub mod Firsts
-- The orders that begin an epoch lead to the position 0.
pub mod Begins
-- So the move that begins an epoch leads.
pub mod Begun
-- Orders that fetch lead on: where their objects are there, the workers hold what is fetched.
pub mod Fetches
-- What was fetched and is reported is what the objects hold.
pub mod Told
-- The move that asks the driver leads on.
pub mod Asked
-- The orders of a block's tasks lead on.
pub mod Tasks
-- So does the move that gives an instance task by task.
pub mod Instances
-- And the move that asks for one of a recorded block as a whole.
pub mod Reused
-- The moves that answer the driver with what was reported, and the one at its end, lead on.
pub mod Values
-- A controller leads where only what was told to it changes, or what it counted.
pub mod Kept
-- A controller leads its job after a report that is true of the job.
pub mod Reports
-- It does after each move, and so after each turn: the law `controllers_lead`.
pub mod Turns
-- A controller prints nothing but texts of values that were reported to it: the law `prints_what_is_told`.
pub mod Printed
-- What orders add to the counts of a summary.
pub mod PutCounts
-- What instances and their patches add to them.
pub mod PutInstances
-- What was decided of a block rests on how often it was given, behind each move.
pub mod PutDecisions
-- The orders of a worker stand for as many tasks as its Singles run.
pub mod PutTasks
-- But for the start and an instance that is asked for as a whole, a move gives Singles that make no first value.
pub mod PutFirst
-- The orders of an instance that is asked for as a whole stand for the tasks of the worker's half.
pub mod PutAgain
-- Each move that gives no instance gives what it should, and is counted.
pub mod PutMoves
-- So is the one that gives an instance: task by task the first, as a whole each later one.
pub mod PutBlocks
-- All orders of a controller are those of its moves, from its start on: the law `controllers_put`.
pub mod Puts
