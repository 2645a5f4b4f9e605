-- Tokens are taken a line at a time, and the first line that breaks a rule is the refusal: clause `answers` of `parse`.
pub mod LineSteps
-- The statements of a driver that no rule refuses nest: clause `nest` of `Tree::sections`.
pub mod Nests
