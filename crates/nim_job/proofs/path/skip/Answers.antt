use Rattle.std.proofs.Common.{ap, arith, length}
use Rattle.std.specs.Vec.{vec_capacity}
use Rattle.nim_job.proofs.Fronts.{next_within}
use Rattle.nim_job.proofs.Moves.{moved_open}
use Rattle.nim_job.proofs.path.skip.Goals as goal

pub overflow_add-level : goal.overflow_add-level
overflow_add-level c =
    let within = next_within c.args.whole.now c.args.levels.now.items c.args.last c.args.stmt.now c.requires.next in
    omega (arith, within, ap length c.requires.body)

pub prove-unreachable-requires : goal.prove-unreachable-requires
prove-unreachable-requires c =
    let within = next_within c.args.whole.now c.args.levels.now.items c.args.last c.args.stmt.now c.requires.next in
    omega (arith, within, ap length c.requires.body)

pub put-requires : goal.put-requires
put-requires c =
    moved_open c.args.whole.now (vec_capacity c.args.levels.now) c.args.levels.now.items c.args.last c.args.stmt.now c.requires.open c.requires.next
