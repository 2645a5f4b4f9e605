use Rattle.std.proofs.Common.{◌∙◌, ap}
use Rattle.std.specs.Vec.{vec_capacity}
use Rattle.nim_job.specs.Levels.{todo_of}
use Rattle.nim_job.proofs.Moves.{entered_open}
use Rattle.nim_job.proofs.Paths.{enter_todo}
use Rattle.nim_job.proofs.path.enter.Goals as goal

pub put-requires : goal.put-requires
put-requires c =
    entered_open c.args.whole.now (vec_capacity c.args.levels.now) c.args.levels.now.items c.args.stmt.now c.args.kind c.args.turns c.requires.open
    c.requires.behind c.requires.holds

pub returns-clause-todo : goal.returns-clause-todo
returns-clause-todo c =
    ap (todo_of c.args.whole.now) c.put.ensures.items
    ∙ enter_todo c.args.whole.now c.args.levels.now.items c.args.stmt.now c.args.kind c.args.turns c.requires.behind c.requires.holds
