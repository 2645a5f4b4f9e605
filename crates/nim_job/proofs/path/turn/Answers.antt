use Rattle.std.proofs.Common.{◌∙◌, ap}
use Rattle.std.specs.Vec.{vec_capacity}
use Rattle.nim_job.specs.Levels.{todo_of}
use Rattle.nim_job.proofs.Paths.{left_open, turn_open, turn_todo}
use Rattle.nim_job.proofs.path.turn.Goals as goal

pub put-requires : goal.put-requires
put-requires c = turn_open c.args.whole.now (vec_capacity c.args.levels.now) c.args.levels.now.items c.args.last c.requires.open

pub returns-then-last-gt0-clause-todo : goal.returns-then-last-gt0-clause-todo
returns-then-last-gt0-clause-todo c =
    ap (todo_of c.args.whole.now) c.put.ensures.items ∙ turn_todo c.args.whole.now c.args.levels.now.items c.args.last c.requires.kind c.if-last-gt0.true

pub returns-else-last-gt0-clause-open : goal.returns-else-last-gt0-clause-open
returns-else-last-gt0-clause-open c = left_open c.args.whole.now (vec_capacity c.args.levels.now) c.args.levels.now.items c.args.last c.requires.open
