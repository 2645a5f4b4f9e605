-- the numbers so far
use Rattle.std.proofs.Common.{◌≡◌, map, take}
use Rattle.nim_job.specs.Driver.{atom_value}
use Rattle.nim_job.proofs.arith.atoms.Given as goal

abbrev pub invariant-loop-one : goal.invariant-loop-one
invariant-loop-one l = l.numbers ≡ map (atom_value l.scalars) (take l.one-index l.atoms)
