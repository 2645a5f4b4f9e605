-- The special cases of division.
use Rattle.std.proofs.Common.{◌≡◌, ℕ, ℤ, pos, negsuc, refl}
use Rattle.std.specs.Int.{int_rem_euclid}
use Rattle.std.specs.Ordering.{int_eq}
use Rattle.std.proofs.lemmas.Bool.{cond_both}
use Rattle.nim_job.specs.Arith.{DividesByZero, DividesTheLeast, LeavesNatural}

pub by_zero : DividesByZero
by_zero = λ number. (refl, refl)

pub of_least : DividesTheLeast
of_least = (refl, refl)

euclid_natural : (left right : ℤ) → (rest : ℕ) × (int_rem_euclid left right ≡ pos rest)
euclid_natural (pos a) right = (_, refl)
euclid_natural (negsuc a) right = (_, refl)

pub natural : LeavesNatural
natural = λ left right.
    cond_both (int_eq right (pos 0)) (pos 0) (int_rem_euclid left right) (λ (x : ℤ). (rest : ℕ) × (x ≡ pos rest)) (λ none. (0, refl))
    (λ some. euclid_natural left right)
