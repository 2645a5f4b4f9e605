use Rattle.std.proofs.Common.{◌≡◌, take}
use Rattle.std.specs.String.{string_bytes}
use Rattle.nim_check.specs.Made.{ascii_text}
use Rattle.nim_check.proofs.names.name.Given as goal

abbrev pub invariant-loop-byte : goal.invariant-loop-byte
invariant-loop-byte l = string_bytes l.text ≡ ascii_text (take l.byte-index l.word)
