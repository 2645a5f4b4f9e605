use Rattle.std.proofs.Common.{ap, arith, length}
use Rattle.std.proofs.lemmas.List.{length-take}
use Rattle.nim_job.proofs.Depths.{levels_few}
use Rattle.nim_job.proofs.path.replace.Goals as goal

pub push_reserved-requires : goal.push_reserved-requires
push_reserved-requires c =
    omega (
      arith,
      levels_few c.args.whole.now c.args.others.now c.requires.path c.requires.open.shallow,
      c.requires.open.roomy,
      c.clear.ensures.capacity,
      c.loop-level.invariant.1,
      c.loop-level.levels.ok.0,
      ap length c.loop-level.invariant.0,
      length-take c.loop-level.level-index c.args.others.now,
      c.loop-level-test.true,
    )
