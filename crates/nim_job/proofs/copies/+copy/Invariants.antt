-- what is copied so far
use Rattle.std.proofs.Common.{◌≡◌, take}
use Rattle.nim_job.proofs.copies.+copy.Given as goal

abbrev pub invariant-copy_stmts-loop-stmt : goal.invariant-copy_stmts-loop-stmt
invariant-copy_stmts-loop-stmt l = l.other ≡ take l.stmt-index l.stmts
