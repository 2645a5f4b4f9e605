use Rattle.std.proofs.Common.{◌≡◌, false, map, take}
use Rattle.std.specs.Prelude.{◌==◌}
use Rattle.std.specs.List.{list_any}
use Rattle.nim_base.specs.declared.number.Object.{Object}
use Rattle.nim_job.specs.Tasks.{object_meant}
use Rattle.nim_job.proofs.wholeness.blocks.means_any.Given as goal

abbrev pub invariant-loop-reference : goal.invariant-loop-reference
invariant-loop-reference l = list_any (λ (o : Object). o.0 == l.sought.0) (map (object_meant l.vars l.index) (take l.reference-index l.refs)) ≡ false
