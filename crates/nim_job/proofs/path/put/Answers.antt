use Rattle.std.proofs.Common.{◌++◌, ◌∷◌, [], arith}
use Rattle.std.specs.Vec.{vec_capacity}
use Rattle.nim_job.proofs.Depths.{room_left}
use Rattle.nim_job.proofs.Fronts.{same_open}
use Rattle.nim_job.proofs.path.put.Goals as goal

pub push_reserved-requires : goal.push_reserved-requires
push_reserved-requires c =
    omega (arith, room_left c.args.whole.now (vec_capacity c.args.levels.now) c.args.levels.now.items c.args.level c.requires, c.args.levels.now.ok.0)

pub returns-clause-open : goal.returns-clause-open
returns-clause-open c =
    same_open c.args.whole.now (vec_capacity c.args.levels.now) (vec_capacity c.push_reserved.new.self) (c.args.levels.now.items ++ c.args.level ∷ [])
    c.push_reserved.new.self.items
    c.requires c.push_reserved.ensures.capacity c.push_reserved.ensures.items
