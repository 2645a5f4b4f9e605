-- A word stands at its first place among others, and what stands twice among the last words stands twice among all.
pub mod Places
-- One more variable adds one, its parts and its cells to the room taken: clause `room` of `var_rule`.
pub mod Room
-- A stage that no rule refuses is whole: clause `whole` of `make_stages`.
pub mod StageTests
-- The first refused line is found a line at a time and a kind at a time: clause `answers` of `check`.
pub mod Refused
-- A scalar's number at a line is its number in the whole driver.
pub mod Counts
-- A statement's scan numbers scalars from one to the next, also in bodies that aren't opened yet.
pub mod Scanned
-- The statements of a driver that no rule refuses are whole: clause `checked` of `check`.
pub mod Checked
-- Values taken one at a time make each variable the loaded one: clause `given` of `gifts_in`, `loaded` of `load`.
pub mod Loads
-- Loaded data leave parts and shapes as they were, so a checked job stays checked, and
pub mod SameFrame
-- parts that no rule refuses fill the variables: clause `whole` of `load`.
pub mod Filled
-- Words with a space between are read as these words, and decimals as their numbers.
pub mod PrintedWords
-- The lines that `output` prints of a part are read as its header and its rows.
pub mod PrintedLines
-- What `output` prints of parts is read as these parts.
pub mod PrintedData
-- What it prints of all variables is loaded as the same job, and
pub mod PrintedJob
-- is short enough for a data file: clauses `accepted` and `same` of `printed_is_loaded`.
pub mod PrintedSize
