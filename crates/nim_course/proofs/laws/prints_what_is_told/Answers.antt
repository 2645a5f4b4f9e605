use Rattle.nim_course.proofs.Printed.{prints_what_is_told}
use Rattle.nim_course.proofs.laws.prints_what_is_told.Goals as goal

pub returns : goal.returns
returns c = prints_what_is_told
