use Rattle.std.proofs.Common.{sym}
use Rattle.nim_patch.proofs.Numbers.{kept_below}
use Rattle.nim_patch.proofs.cache.PatchCache.number_for.Goals as goal

pub returns-in-Some-clause-below : goal.returns-in-Some-clause-below
returns-in-Some-clause-below c = kept_below c.args.key.now c.in-Some.kept.now c.self.inside.kept.entries c.self.invariant.1 (sym c.in-Some.ensures)
