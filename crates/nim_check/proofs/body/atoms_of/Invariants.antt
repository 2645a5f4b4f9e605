use Rattle.std.proofs.Common.{◌≡◌, map, take}
use Rattle.nim_check.specs.Body.{atom_of}
use Rattle.nim_check.proofs.body.atoms_of.Given as goal

abbrev pub invariant-loop-atom : goal.invariant-loop-atom
invariant-loop-atom l = l.made ≡ map (atom_of l.names) (take l.atom-index l.atoms)
