use Rattle.std.proofs.Common.{◌∙◌, ap, ap₂, sym}
use Rattle.nim_job.specs.declared.level.LevelKind.TheVariants as kind
use Rattle.nim_job.specs.Levels.{Spot, body_entered, stmt_before}
use Rattle.nim_job.proofs.Fronts.{spot_more}
use Rattle.nim_job.proofs.path.body_at.Goals as goal

pub loop-level-preserved : goal.loop-level-preserved
loop-level-preserved c =
    let whole = c.args.whole.now in
    let levels = c.args.levels.now in
    let more = spot_more whole levels c.loop-level.level-index (record { next = 0; kind = kind.Driver; turns = 0 }) c.loop-level-test.true in (
      c.entered-body.ensures ∙ ap (body_entered whole _) (c.before-in-loop-level.ensures ∙ ap₂ stmt_before c.loop-level.invariant.0 c.loop-level.invariant.1)
          ∙ sym (ap (λ (s : Spot). s.body) more),
      sym (ap (λ (s : Spot). s.level.next) more),
    )
