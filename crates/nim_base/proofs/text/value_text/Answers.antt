use Rattle.std.proofs.Common.{rules, arith, ◌≡◌, ◌++◌, ◌^◌, ◌<◌, length}
use Rattle.std.specs.List.{All}
use Rattle.std.proofs.lemmas.List.Elements.{All-same, All-weaker}
use mir.Syntax.{w64}
use mir.Val.{SFits}
use Rattle.nim_base.specs.Text.{text_of}
use Rattle.nim_base.specs.Value.{rows_of}
use Rattle.nim_base.proofs.ReadsBack.{IsSmall, written-read}
use Rattle.nim_base.proofs.text.value_text.Goals as goal

pub returns-clause-read_back : goal.returns-clause-read_back
returns-clause-read_back c =
    let grid = c.args.value.now in
    let cells = c.cells.result.now in
    let is : c.extend_from_slice.new.self.items ≡ c.args.out.now.items ++ text_of c.args.name.now c.args.part grid = search rules in
    let wide : grid.width < 2 ^ 64 = omega (arith, c.width-width.ensures) in
    let fit : All (All (SFits w64)) (rows_of (length grid.rows) grid.width cells) = search rules in
    let small : All (All IsSmall) (rows_of (length grid.rows) grid.width cells) =
    All-weaker (All (SFits w64)) (All IsSmall) (All-weaker (SFits w64) IsSmall (λ cell fits. fits.sfits)) (rows_of (length grid.rows) grid.width cells) fit in
    let rows : All (All IsSmall) grid.rows = All-same (All IsSmall) grid.rows (rows_of (length grid.rows) grid.width cells) c.cells.ensures.rows small in
    written-read c.args.out.now.items _ c.args.name.now c.args.part grid is (omega arith) wide c.cells.ensures.shaped rows
