use Rattle.std.proofs.Common.{◌∙◌, ap, sym}
use Rattle.nim_job.specs.Machine.{Machine}
use Rattle.nim_job.proofs.Settles.{settle_asks}
use Rattle.nim_job.proofs.driver.DriverMachine.next.Goals as goal

pub ask-requires-clause-settled : goal.ask-requires-clause-settled
ask-requires-clause-settled c = λ room.
    settle_asks c.args.self.now c.settle.new.self (sym (ap (λ (m : Machine). m.full) c.self.view_is) ∙ c.if-self.false) c.settle.ensures room
