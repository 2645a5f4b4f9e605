-- what is broken and taken so far, and what is left of the line
use Rattle.std.proofs.Common.{◌≡◌, ◌-◌, ◌+◌, ◌≤◌, ◌++◌, drop, length, None}
use Rattle.std.specs.List.{filter_map}
use Rattle.nim_lex.specs.Pieces.{pieces}
use Rattle.nim_lex.specs.Rules.{broken_by, smaller}
use Rattle.nim_lex.specs.Source.{token_of}
use Rattle.nim_lex.proofs.line.read_line.Given as goal

abbrev pub invariant-loop-at : goal.invariant-loop-at
invariant-loop-at l = record {
  within : l.at ≤ length l.line;
  broken : smaller l.broken (broken_by (pieces (l.start + l.at) 0 (drop l.at l.line))) ≡ broken_by (pieces l.start 0 l.line);
  tokens : l.broken ≡ None → l.tokens.items ++ filter_map (token_of l.number) (pieces (l.start + l.at) 0 (drop l.at l.line))
      ≡ l.initial.tokens.items ++ filter_map (token_of l.number) (pieces l.start 0 l.line);
}

abbrev pub decreases-loop-at : goal.decreases-loop-at
decreases-loop-at l = length l.line - l.at
