-- What one slot and the others have once something is put.
pub mod Puts
-- What is taken out of slots and given back leaves them as they were: clause `inputs` of `Inputs::take_for`.
pub mod GivenBack
-- A work that is performed and given back leaves what its command leaves, and
pub mod Completes
-- that depends on the slots that the command touches alone;
pub mod Beside
-- it leaves the others as they are, and so does what the command gives.
pub mod KeptBeside
-- Works that touch no common slot are out at once, and the first can be completed: clauses `chain` and `outs` of
-- `complete`.
pub mod Chains
-- Works have read what their commands read: clause `runs` of `WorkerCore::begin`.
pub mod Runs
-- A batch whose works were performed is out still: the contract of `lent_batches_stand`.
pub mod Lent
-- The table of open groups gains a group that comes and counts down at each complete command: clauses `ok` and `err`
-- of `Admitted::admit`, `ended` and `stands` of `Admitted::complete`.
pub mod Opened
-- Two incomplete commands meet just when what is kept of them shares a slot: the contract of `meets_any`.
pub mod Meeting
-- A released command that meets none of a batch is taken into it: clauses `begins` and `taken` of `take_one`.
pub mod OneTaken
-- The walk of the released commands takes those that a batch takes: clause `taken` of `take_ready`.
pub mod Walk
-- The same walk tells whether some command may be completed: the contract of `WorkerCore::is_ready`.
pub mod Ready
-- Those that a batch takes may be completed, each at once and all in turn: clause `empty` of `WorkerCore::begin`.
pub mod Released
-- A batch that is begun is out, and its works have read its slots: clauses `stands` and `reads` of `WorkerCore::begin`.
pub mod Begun
-- An order or a frame that is handed goes behind the history: clauses `stands` of `on_message` and `on_data`.
pub mod Handed
-- One work more of the batch is complete, until all are, and
pub mod Finished
-- the first of them is completed as the history says: clauses `stands` and `good` of `WorkerCore::finish`.
pub mod FirstDone
-- A core has as many commands left as aren't complete. Nothing cites this.
pub mod Left
