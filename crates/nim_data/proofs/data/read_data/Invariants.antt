-- the lines that are left, and what the lines before them gave
use Rattle.std.proofs.Common.{◌≡◌, ◌-◌, ◌+◌, ◌≤◌, drop, length}
use Rattle.nim_lex.specs.Source.{cut, line_count, lines_of, numbered_lines}
use Rattle.nim_data.specs.Reading.{nothing, read_from}
use Rattle.nim_data.proofs.data.read_data.Given as goal

abbrev pub invariant-loop-at : goal.invariant-loop-at
invariant-loop-at l = record {
  within : l.at ≤ length l.bytes + 1;
  counted : l.number ≤ l.at + 1;
  outcome : read_from (line_count l.bytes + 1) l.wanted l.reading (numbered_lines l.number l.at (cut (drop l.at l.bytes)))
      ≡ read_from (line_count l.bytes + 1) l.wanted nothing (lines_of l.bytes);
}

abbrev pub decreases-loop-at : goal.decreases-loop-at
decreases-loop-at l = length l.bytes - l.at
