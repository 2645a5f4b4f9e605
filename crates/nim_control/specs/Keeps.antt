-- What stays of a controller in a turn, also where memory is refused.
use Rattle.std.specs.Prelude.{◌≡◌, Some}
use Rattle.nim_course.specs.declared.outcome.Outcome.{Outcome}
use Rattle.nim_course.specs.Controller.{Controller}

-- the job, the rule of placement, which workers are live, and the epoch
pub record Keeps (old new : Controller) : Type 0 where
  pub job : new.job ≡ old.job
  pub place : new.place ≡ old.place
  pub live : new.live ≡ old.live
  pub epoch : new.epoch ≡ old.epoch

-- Memory was refused in a turn: this is the outcome, whatever the orders were that the turn had come to.
pub record HasFailed (old new : Controller) : Type 0 where
  pub outcome : new.outcome ≡ Some Outcome.NoMemory
  pub keeps : Keeps old new
