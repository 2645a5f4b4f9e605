-- A text behind its blanks begins with its first word, or has no word: clauses `some` and `none` of `next_word`.
pub mod Cuts
-- At most nine digits come to less than 1,000,000,000: the contract of `small_number`.
pub mod Digits
-- The first line that breaks a rule is the schedule's refusal: clause `answers` of `read_schedule`.
pub mod Steps
-- Small schedules worked by hand: what they say, or the line that is refused.
mod Examples
