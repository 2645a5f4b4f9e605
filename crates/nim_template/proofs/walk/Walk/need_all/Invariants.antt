-- what the reads so far need
use Rattle.std.proofs.Common.{◌≡◌, take}
use Rattle.std.specs.List.{fold}
use Rattle.nim_template.specs.Walk.{with_need}
use Rattle.nim_template.proofs.walk.Walk.need_all.Given as goal

abbrev pub invariant-loop-object : goal.invariant-loop-object
invariant-loop-object l = l.self ≡ fold (with_need l.worker) l.initial.self (take l.object-index l.reads)
