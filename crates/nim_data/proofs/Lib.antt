-- A line that breaks a rule ends the reading with that rule, and any other line leaves the answer to the rest.
pub mod Steps
-- What the reader keeps after each line is what the parts so far come to, so it gives what they give.
pub mod Kept
-- The same of a whole file: clauses `answers` and `values` of `read_data`.
pub mod Files
