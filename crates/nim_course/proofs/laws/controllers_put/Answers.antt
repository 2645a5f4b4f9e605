use Rattle.nim_course.proofs.Puts.{controllers_put}
use Rattle.nim_course.proofs.laws.controllers_put.Goals as goal

pub returns : goal.returns
returns c = controllers_put
