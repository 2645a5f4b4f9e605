-- Slots that have what the commands say have a value of the right version; one more put keeps that so.
pub mod TrueSlots
-- A Run of a whole job reads the values of its task's reads and leaves the next version of its writes.
pub mod TrueRuns
-- What a legal command leaves in the slots is right again, and
pub mod LeftTrue
-- what it gives is true of the job.
pub mod Outs
-- Whether a command may be given is a matter of the slots that it reads.
pub mod Found
-- The frames that a worker has carry the values of their versions, with one more and with some gone.
pub mod Inbox
-- The command at a place does the same in each list that it stands in.
pub mod Members
-- Among legal orders each command may be given where the slots hold what those before it leave.
pub mod LegalOrders
-- What stays through all that happens at a worker that is handed what is true; it holds of a new one,
pub mod Right
-- an order or a frame that is handed keeps it, and
pub mod Ordered
-- so does a command that is completed.
pub mod Completed
-- So all that a worker gives is true: the contract of `histories_are_true`.
pub mod Law
-- A history goes on, and what was handed stays true: clauses `history` and `truth` of `history_goes_on`.
pub mod GoesOn
-- Commands that may be completed in turn still may when more comes: the contract of `commands_in_turn`.
pub mod InTurn
-- Of a group one command less is left when one is complete, and all when it comes; other groups keep theirs.
-- Crate `nim_worker` counts by this.
pub mod Left
-- Worked by hand: of two values, one reported and one sent, the second of each is completed first, and may be.
mod Example
