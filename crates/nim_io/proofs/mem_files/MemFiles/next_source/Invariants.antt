-- of the fails passed over those of this source were taken
use Rattle.std.proofs.Common.{◌≡◌, ◌++◌, drop}
use Rattle.nim_io.specs.MemFiles.{reads_named}
use Rattle.nim_io.proofs.mem_files.MemFiles.next_source.Given as goal

abbrev pub invariant-loop-fail : goal.invariant-loop-fail
invariant-loop-fail l = l.reads.items ++ reads_named (drop l.fail-index l.fail-items) l.self.opened ≡ reads_named l.fail-items l.self.opened
