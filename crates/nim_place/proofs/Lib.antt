-- Where one is live, the first live worker is there: clauses `within` and `live` of `home`.
pub mod Live
-- A slot that the map has lies within its list, and a holder is found one worker at a time: the contracts of
-- `VersionMap::held` and `VersionMap::holder`.
pub mod Places
-- A version put into slots of a worker is what these hold, and the others hold what they held.
pub mod Puts
-- A map stands for the commands so far, none at first and one more: clause `stands` of `VersionMap::apply_command`.
pub mod History
-- What has to move is read, moves once, and comes from a worker that isn't the owner.
pub mod Moves
-- The map stands for a task's commands too: clause `stands` of `schedule_task`.
pub mod Given
-- The run of a task finds the latest version of what it reads: clause `finds` of `schedule_task`.
pub mod Finds
-- Behind a task's commands the map has the versions that the next task reads: clauses `versions` and `next` of
-- `schedule_task`.
pub mod GoesOn
-- Once each object was put, the map is at the position whose versions were put: the contract of `map_starts`.
pub mod Starts
-- A template of one task at its home is sound: the least one, worked by hand.
pub mod SoundRow
-- Worker by worker, a task's commands have the before sets of the rule: clause `by_rule` of `schedule_task`.
pub mod ByTask
-- Who holds the latest version of an object has it in its main slot, and has commands.
pub mod Held
-- Keys that come in pairs still do with new ones that a test tells from them.
pub mod Pairs
-- Lists of orders that get longer by Singles ask for their commands too: clauses `asked` and `covered` of
-- `schedule_task`.
pub mod Singles
-- A task's commands are legal behind those that the map stands for: clause `legal` of `schedule_task`.
pub mod Legal
-- A longer list of orders sends and receives the keys that it had, and those of its last group.
pub mod Keys
-- Each live worker stands once among all, so what goes to each is counted once.
pub mod LiveOnce
-- The Sends and Receives of a task come in pairs: clause `paired` of `schedule_task`.
pub mod TaskPairs
-- Resets begin an epoch, and Singles extend lists of orders: clauses `resets` and `singles` of `orders_extend`.
pub mod Begins
-- Orders pushed for one worker after another are the list of each. No clause here: `nim_control` and `nim_reuse`
-- push theirs by this.
pub mod Directed
-- Worked by hand: the commands of one task at two workers, their orders, and a walk by rank.
pub mod WorkedRows
