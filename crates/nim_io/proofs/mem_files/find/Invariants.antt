-- the files passed over have other names
use Rattle.std.proofs.Common.{◌≡◌, drop}
use Rattle.nim_io.specs.Files.{content}
use Rattle.nim_io.specs.MemFiles.{entries}
use Rattle.nim_io.proofs.mem_files.find.Given as goal

abbrev pub invariant-loop-file : goal.invariant-loop-file
invariant-loop-file l = content l.name (entries (drop l.file-index l.files)) ≡ content l.name (entries l.files)
