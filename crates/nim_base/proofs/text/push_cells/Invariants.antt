-- the cells written so far, and those that are left, are all cells after the first
use Rattle.std.proofs.Common.{◌≡◌, ◌++◌, ◌<◌, ℕ, pos, get_or, drop}
use mir.Syntax.{w64}
use mir.Val.{SFits}
use Rattle.std.specs.List.{flat_map}
use Rattle.nim_base.proofs.Texts.{later}
use Rattle.nim_base.proofs.text.push_cells.Given as goal

abbrev pub invariant-loop-cell : goal.invariant-loop-cell
invariant-loop-cell l = record {
  same : l.text.items ++ flat_map later (drop l.cell-index l.rest) ≡ l.initial.text.items ++ flat_map later l.rest;
  fit : (k : ℕ) → k < l.cell-index → SFits w64 (get_or l.rest k (pos 0));
}
