use Rattle.std.proofs.Common.{◌∙◌, ap}
use Rattle.std.specs.List.{flat_map}
use Rattle.nim_base.specs.Value.{fit_row, rows_of}
use Rattle.nim_base.proofs.FittedRows.{fit_same}
use Rattle.nim_base.proofs.fitting.fit_buffer.Goals as goal

pub returns-then-width-to : goal.returns-then-width-to
returns-then-width-to c =
    c.truncate.ensures.items
    ∙ fit_same c.args.rows c.args.width c.args.cells.items c.requires
    ∙ ap (λ to. flat_map (fit_row to) (rows_of c.args.rows c.args.width c.args.cells.items)) c.if-width-to.true
