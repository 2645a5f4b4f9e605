use Rattle.std.proofs.Common.{ap, arith, refl, sym, ◌∙◌}
use Rattle.nim_place.specs.Versions.{Versions}
use Rattle.nim_place.proofs.Places.{holder_more}
use Rattle.nim_place.proofs.versions.VersionMap.holder.Goals as goal

pub loop-number-preserved : goal.loop-number-preserved
loop-number-preserved c =
    let workers = ap (λ (v : Versions). v.workers) c.self.view_is in
    holder_more c.args.self.now c.args.object c.loop-number.number _ _ refl (omega (arith, workers, c.loop-number-test.true))
    (sym c.is_current.ensures ∙ c.if-is_current.false)
    c.loop-number.invariant
