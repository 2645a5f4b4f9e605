-- the reads so far
use Rattle.std.proofs.Common.{◌≡◌, map, take}
use Rattle.nim_edit.specs.Moves.{read_behind}
use Rattle.nim_edit.proofs.edits.reads_of.Given as goal

abbrev pub invariant-loop-object : goal.invariant-loop-object
invariant-loop-object l = l.reads.items ≡ map (read_behind l.past) (take l.object-index l.objects)
