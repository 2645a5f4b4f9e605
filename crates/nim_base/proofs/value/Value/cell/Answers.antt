use Rattle.std.proofs.Common.{rules, ◌∙◌}
use Rattle.std.proofs.lemmas.Int.{to_z-of_z}
use mir.Syntax.{w64}
use mir.Val.{SFits}
use Rattle.nim_base.proofs.Rows.{cell_seen, no_row_seen, no_column_seen}
use Rattle.nim_base.proofs.value.Value.cell.Goals as goal
use Rattle.nim_base.proofs.value.Value.cell.Goals.{else-row-self-via-then-row-self+else-column-self, else-row-self-via-else-row-self}

pub returns-then-column-self : goal.returns-then-column-self
returns-then-column-self c =
    let fits : SFits w64 c.index.result.now = search rules in
    to_z-of_z w64 c.index.result.now fits
    ∙ cell_seen _ _ _ _ c.self.view_is c.self.invariant.1 c.args.row c.args.column c.if-row-self.true c.if-column-self.true c.index.result.now c.index.ensures

pub returns-else-row-self : goal.returns-else-row-self
returns-else-row-self c =
    elim c.else-row-self.branch [
      | else-row-self-via-then-row-self+else-column-self w ↦ no_column_seen _ _ _ _ c.self.view_is c.args.row c.args.column w.if-column-self.false
      | else-row-self-via-else-row-self w ↦ no_row_seen _ _ _ _ c.self.view_is c.args.row c.args.column w.if-row-self.false
    ]
