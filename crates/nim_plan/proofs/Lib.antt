-- A list taken or tested one number at a time gives what the whole list gives.
pub mod Lists
-- A list put into a map by number is there, and the others stay. Nothing cites this.
pub mod Installs
-- One more order adds its group to a listing, and one more place its command: clause `listing` of `Listing::take`,
-- and the contract of `commands`.
pub mod Listed
-- One place further down, the free slots and the waits are those of the rule: the contract of `waits`.
pub mod Walk
-- What is reached from a place is the same for any count of waits at least the place: the contract of `covered`.
pub mod Reach
-- Past the end of a list of commands a slot holds what it holds at the end: the contract of `holds`.
pub mod Past
-- Orders are legal where those in front are and the last may follow them: the contract of `legal_by_steps`.
pub mod Steps
-- Worked by hand: what edits, instances and patches of two workers ask for, and how long their orders are.
pub mod WorkedRows
