use Rattle.std.proofs.Common.{arith, rules}
use Rattle.nim_base.proofs.Rows.{count_seen, pushed_seen}
use Rattle.nim_base.proofs.value.Value.push_row.Goals as goal

pub overflow_add-self : goal.overflow_add-self
overflow_add-self c = let fits = count_seen _ _ _ _ c.self.view_is in omega (arith, fits, c.requires.room)

pub returns-clause-ok : goal.returns-clause-ok
returns-clause-ok c =
    pushed_seen c.self.inside.width c.self.inside.rows c.self.inside.cells.items c.args.row.now _ c.args.self.now c.self.view_is c.self.invariant.1
    c.requires.width
    (search rules)
