-- the table of the places so far, each of which is kept in order
use Rattle.std.proofs.Common.{◌≡◌, map, true}
use Rattle.std.specs.List.{list_all, range_with_len}
use Rattle.nim_command.specs.Covered.{is_kept_in_order}
use Rattle.nim_plan.specs.Reached.{row_of}
use Rattle.nim_plan.proofs.covering.covered.Given as goal

abbrev pub invariant-loop-later : goal.invariant-loop-later
invariant-loop-later l = record {
  rows : l.rows.items ≡ map (row_of l.commands) (range_with_len 0 l.later);
  kept : list_all (λ later. list_all (is_kept_in_order l.commands later) (range_with_len 0 later)) (range_with_len 0 l.later) ≡ true;
}
