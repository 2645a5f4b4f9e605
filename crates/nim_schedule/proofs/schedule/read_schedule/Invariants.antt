-- the lines that are left, and what the lines before them said
use Rattle.std.proofs.Common.{◌≡◌, ◌-◌, ◌+◌, ◌≤◌, ◌++◌, drop, length}
use Rattle.std.specs.List.{flat_map}
use Rattle.nim_lex.specs.Source.{cut, lines_of, numbered_lines}
use Rattle.nim_schedule.specs.Lines.{lines_in}
use Rattle.nim_schedule.specs.Schedule.{first_refusal, schedule_of}
use Rattle.nim_schedule.proofs.schedule.read_schedule.Given as goal

abbrev pub invariant-loop-at : goal.invariant-loop-at
invariant-loop-at l = record {
  within : l.at ≤ length l.bytes + 1;
  counted : l.number ≤ l.at + 1;
  refusal : first_refusal (numbered_lines l.number l.at (cut (drop l.at l.bytes))) ≡ first_refusal (lines_of l.bytes);
  said : l.lines.items ++ flat_map (λ line. lines_in line.bytes) (numbered_lines l.number l.at (cut (drop l.at l.bytes))) ≡ schedule_of l.bytes;
}

abbrev pub decreases-loop-at : goal.decreases-loop-at
decreases-loop-at l = length l.bytes - l.at
