use Rattle.std.proofs.Common.{◌≡◌, true, take}
use Rattle.std.specs.List.{list_all}
use Rattle.nim_job.specs.Whole.{is_atom}
use Rattle.nim_job.proofs.wholeness.statements.are_atoms.Given as goal

abbrev pub invariant-loop-atom : goal.invariant-loop-atom
invariant-loop-atom l = list_all (is_atom l.scalars) (take l.atom-index l.atoms) ≡ true
