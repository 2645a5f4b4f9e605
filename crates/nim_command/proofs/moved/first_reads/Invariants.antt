-- the first reads so far, and those that are to come
use Rattle.std.proofs.Common.{◌≡◌, [], ◌++◌, take, drop}
use Rattle.nim_command.specs.Edits.{first_reads}
use Rattle.nim_command.proofs.moved.first_reads.Given as goal

abbrev pub invariant-loop-index : goal.invariant-loop-index
invariant-loop-index l = l.firsts.items ++ first_reads (take l.index l.reads) l.bits (drop l.index l.reads) ≡ first_reads [] l.mask l.reads
