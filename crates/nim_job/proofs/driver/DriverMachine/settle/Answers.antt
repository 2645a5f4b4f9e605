use Rattle.std.proofs.Common.{◌≡◌, ◌<◌, ◌∙◌, ap, arith, sym}
use Rattle.std.proofs.lemmas.Bool.{cond-true}
use Rattle.nim_job.specs.Machine.{Machine, before_ask}
use Rattle.nim_job.specs.Quiet.{quiet_step}
use Rattle.nim_job.proofs.Settles.{settle_more}
use Rattle.nim_job.proofs.driver.DriverMachine.settle.Goals as goal

pub loop-self-preserved : goal.loop-self-preserved
loop-self-preserved c =
    let m : Machine = c.loop-self.self in
    let next : c.pass.new.self ≡ record m { driver = quiet_step m.driver } =
    c.pass.ensures.passed ∙ cond-true c.pass.result (record m { driver = quiet_step m.driver }) m c.if-not-pass.false in
    let room : m.driver.count < m.steps =
    omega (arith, ap (λ (k : Machine). k.driver.count) c.self.view_is, ap (λ (k : Machine). k.steps) c.self.view_is, c.loop-self-test.true) in (
      ap before_ask next ∙ settle_more m c.loop-self.invariant.1 room (sym c.pass.ensures.quiet ∙ c.if-not-pass.false)
          ∙ c.loop-self.invariant.0,
      ap (λ (k : Machine). k.full) next ∙ c.loop-self.invariant.1,
    )
