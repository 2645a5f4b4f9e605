-- the half after the edits so far
use Rattle.std.proofs.Common.{◌≡◌, take}
use Rattle.nim_command.specs.Edits.{edited_by}
use Rattle.nim_plan.specs.Installed.{halves_of}
use Rattle.nim_plan.proofs.installed.Installed.edited.Given as goal

abbrev pub invariant-loop-edit : goal.invariant-loop-edit
invariant-loop-edit l = l.half ≡ edited_by (take l.edit-index l.edits) (halves_of l.self l.block)
