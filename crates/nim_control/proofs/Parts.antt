-- How many parts a variable has: as it says where it is there, else none.
use Rattle.std.proofs.Common.{◌≡◌, ℕ, ◌<◌, ◌≤◌, zero, suc, List, [], ◌∷◌, length, get_or, ap, refl, arith}
use Rattle.nim_job.specs.declared.job.Var.{Var}
use Rattle.nim_job.specs.Objects.{parts_of}

pub its_parts : (vars : List Var) (var : ℕ) (v : Var) → var < length vars → v ≡ get_or vars var v → v.parts ≡ parts_of vars var
its_parts [] var v there is = absurd (omega (arith, there))
its_parts (w ∷ vars) zero v there is = ap (λ (found : Var). found.parts) is
its_parts (w ∷ vars) (suc var) v there is = its_parts vars var v (omega (arith, there)) is

pub no_parts : (vars : List Var) (var : ℕ) → length vars ≤ var → 0 ≡ parts_of vars var
no_parts [] var past = refl
no_parts (v ∷ vars) zero past = absurd (omega (arith, past))
no_parts (v ∷ vars) (suc var) past = no_parts vars var (omega (arith, past))
