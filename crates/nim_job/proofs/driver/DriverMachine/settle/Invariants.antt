-- the machine before it asks stays the same
use Rattle.std.proofs.Common.{◌≡◌, ◌-◌, false}
use Rattle.nim_job.specs.Machine.{before_ask}
use Rattle.nim_job.proofs.driver.DriverMachine.settle.Given as goal

abbrev pub invariant-loop-self : goal.invariant-loop-self
invariant-loop-self l = (before_ask l.self ≡ before_ask l.initial.self) × (l.self.full ≡ false)

abbrev pub decreases-loop-self : goal.decreases-loop-self
decreases-loop-self l = l.self.steps - l.self.driver.count
