-- What a sink in memory was made to do.
use Rattle.std.specs.Prelude.{ℕ, List}
use Rattle.nim_io.specs.declared.mem_sink.MemSink.{MemSink}

-- how many bytes a write takes at most
abbrev pub most_of : MemSink → ℕ
most_of sink = sink.most

-- the numbers of the writes that fail, from 0
abbrev pub fails_of : MemSink → List ℕ
fails_of sink = sink.fails.items

-- how many writes there were, and so the number of the next one
abbrev pub write_count : MemSink → ℕ
write_count sink = sink.writes
