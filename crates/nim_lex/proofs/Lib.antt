-- A text has a line for each newline, and one more where its last byte is none: the contract of `line_count`.
pub mod Counts
-- A chain of rules that refuses nothing has no rule that refuses. The crates above read their refusals by this.
pub mod Refusals
-- A recursion on the turns left gives what a loop that counts up gives. The crates above read their lists by this.
pub mod Turns
-- A line is read a piece at a time, and its smallest broken rule stays: clauses `rule` and `tokens` of `read_line`.
pub mod LineSteps
-- A source is read a line at a time, and its first broken line is the refusal: clause `answers` of `tokens`.
pub mod SourceSteps
-- The token at the front of a text has the text of its kind, and a byte at least.
pub mod FrontTexts
-- So have the tokens of a line, in order, and
pub mod LineTexts
-- those of a source: clauses `texts` and `order` of `tokens`.
pub mod SourceTexts
