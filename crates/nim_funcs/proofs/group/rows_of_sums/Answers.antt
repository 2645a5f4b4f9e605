use Rattle.std.proofs.Common.{◌≡◌, ◌++◌, ◌∷◌, [], length, rules}
use mir.Syntax.{w64}
use mir.Val.{SFits}
use Rattle.std.proofs.lemmas.Int.{to_z-of_z}
use Rattle.nim_funcs.proofs.Grouping.{all_cells, cells_added, length-all_cells, made_sums}
use Rattle.nim_funcs.proofs.group.rows_of_sums.Goals as goal

pub loop-key-preserved : goal.loop-key-preserved
loop-key-preserved c =
    let key : SFits w64 c.in-Some.key.now = search rules in
    let sum : SFits w64 c.in-Some.sum.now = search rules in
    let one : c.push.new.self.items ≡ c.loop-key.cells.items ++ c.in-Some.key.now ∷ [] = simp to_z-of_z at c.in_ok-push.ensures.items in
    let two : c.push-in-loop-key.new.self.items ≡ c.push.new.self.items ++ c.in-Some.sum.now ∷ [] = simp to_z-of_z at c.in_ok-push-2.ensures.items in
    cells_added c.loop-key.cells.items c.push.new.self.items c.push-in-loop-key.new.self.items c.in-Some.key.now c.in-Some.sum.now
    c.loop-key.key-iterator c.next.new.self c.args.sums.now.entries c.loop-key.invariant c.in-Some.ensures.steps one two

pub from_cells-requires-clause-whole : goal.from_cells-requires-clause-whole
from_cells-requires-clause-whole c =
    let rows : c.in-Ok.rows ≡ length c.args.sums.now.entries = search rules in
    length-all_cells c.loop-key.cells.items c.in-Ok.rows c.args.sums.now.entries
    (all_cells c.loop-key.cells.items c.loop-key.key-iterator c.args.sums.now.entries c.loop-key.invariant c.in-None.ensures.steps.0) rows

pub returns : goal.returns
returns c =
    let rows : c.in-Ok.rows ≡ length c.args.sums.now.entries = search rules in
    made_sums c.loop-key.cells.items c.in-Ok.rows c.args.sums.now.entries c.from_cells.result
    (all_cells c.loop-key.cells.items c.loop-key.key-iterator c.args.sums.now.entries c.loop-key.invariant c.in-None.ensures.steps.0) rows c.from_cells.ensures
