-- Where a file in memory that was opened fails.
use Rattle.std.specs.Prelude.{ℕ, List}
use Rattle.nim_io.specs.declared.mem_source.MemSource.{MemSource}

-- the numbers of the reads that fail, from 0
abbrev pub fails_of : MemSource → List ℕ
fails_of source = source.fails.items

-- how many reads there were, and so the number of the next one
abbrev pub read_count : MemSource → ℕ
read_count source = source.reads
