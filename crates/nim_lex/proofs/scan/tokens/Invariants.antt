-- the lines that are left, and what the lines before them gave
use Rattle.std.proofs.Common.{◌≡◌, ◌-◌, ◌+◌, ◌≤◌, ◌++◌, drop, length}
use Rattle.std.specs.List.{flat_map}
use Rattle.nim_lex.specs.Source.{cut, first_refusal, line_tokens, lines_of, numbered_lines, tokens_of}
use Rattle.nim_lex.proofs.scan.tokens.Given as goal

abbrev pub invariant-loop-at : goal.invariant-loop-at
invariant-loop-at l = record {
  within : l.at ≤ length l.bytes + 1;
  counted : l.number ≤ l.at + 1;
  refusal : first_refusal (numbered_lines l.number l.at (cut (drop l.at l.bytes))) ≡ first_refusal (lines_of l.bytes);
  tokens : l.all.items ++ flat_map line_tokens (numbered_lines l.number l.at (cut (drop l.at l.bytes))) ≡ tokens_of l.bytes;
}

abbrev pub decreases-loop-at : goal.decreases-loop-at
decreases-loop-at l = length l.bytes - l.at
