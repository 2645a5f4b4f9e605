-- Pieces appended one after another are the front of all bytes: clauses `ok` and `prefix` of `write_all`.
pub mod Writes
