-- The tasks of a job's blocks are made once, and those of each block fit.
pub mod Forms
-- Which workers and objects a map of versions has stays, whatever is put into it: the clause of `ControllerCore::new`.
pub mod Kept
-- What objects hold at first is what they hold at the start of the job: the clause of `ControllerCore::checkpoint`.
pub mod Checkpoints
-- Commands given alone follow one another; those of all variables begin an epoch: `begun` of `ControllerCore::begin`.
pub mod Alone
-- The commands of one worker are taken out of a list, and those of the others stay in their order.
pub mod Taken
-- With one task more its orders and its awaited run are those of the instance so far.
pub mod Instances
-- Each form with the arguments put in is the next task, and at the end the runs of all tasks are awaited.
pub mod Tasks
-- A move that asks for a variable's output, or gives a block, is the one that is due: `ControllerCore::ask` and `give`.
pub mod Given
-- An instance is given task by task and its block recorded, or as a whole: `given` and `decided` of `give_block`.
pub mod Reused
-- A variable has as many parts as it says, and none where it isn't there: clause `parts` of `ControllerCore::parts`.
pub mod Parts
-- Objects are fetched one after another, each under the next ticket: clause `fetched` of `ControllerCore::fetch`.
pub mod Fetches
-- An instance is in flight while a run or a worker's report of it is awaited: `ControllerCore::on_report`.
pub mod Flights
-- A machine that asks for something has counted at least one statement more, within the steps of its job.
pub mod Asking
-- Each move leaves fewer to make, and moves in turn are those of a turn: clause `turned` of `ControllerCore::turn`.
pub mod Moving
