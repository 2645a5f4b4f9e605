-- the lines that are left, and what the lines before them gave
use Rattle.std.proofs.Common.{◌≡◌, ◌-◌, ◌≤◌, drop, length}
use Rattle.nim_parse.specs.Driver.{after_lines, first_refusal, lines}
use Rattle.nim_parse.specs.States.{first}
use Rattle.nim_parse.proofs.driver.parse.Given as goal

abbrev pub invariant-loop-at : goal.invariant-loop-at
invariant-loop-at l = record {
  within : l.at ≤ length l.tokens;
  refusal : first_refusal l.bytes l.state (lines (drop l.at l.tokens)) ≡ first_refusal l.bytes first (lines l.tokens);
  tree : after_lines l.bytes l.state (lines (drop l.at l.tokens)) ≡ after_lines l.bytes first (lines l.tokens);
}

abbrev pub decreases-loop-at : goal.decreases-loop-at
decreases-loop-at l = length l.tokens - l.at
