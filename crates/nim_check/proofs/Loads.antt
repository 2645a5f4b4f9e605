-- Parts that are loaded one after the other.
use Rattle.std.proofs.Common.{◌≡◌, ℕ, zero, suc, ◌+◌, ◌-◌, ◌<◌, List, [], ◌∷◌, ◌++◌, take, drop, add-one, refl, ap, arith, None, Ok}
use Rattle.std.specs.Prelude.{Result, Err}
use Rattle.nim_base.specs.Value.{Grid}
use Rattle.nim_lex.specs.declared.fault.Refusal.{Refusal}
use Rattle.nim_job.specs.declared.job.Var.{Var}
use Rattle.nim_data.specs.declared.wanted.Wanted.{Wanted}
use Rattle.nim_data.specs.Parts.{Part}
use Rattle.nim_data.specs.Wanted.{first_fault, parts_in, refusal_by}
use Rattle.nim_check.specs.Loading.{with_values_loaded, given_by, parts_by_var, holding, holding_all, values_left, want, wants}

-- the parts of a variable that are still to be loaded, and the next of them
pub wants_more : (v : Var) (i n : ℕ) → i < n → wants v i (n - i) ≡ want v i ∷ wants v (i + 1) (n - (i + 1))
wants_more v i n more =
    let one : n - i ≡ suc (n - (i + 1)) = omega arith in
    rw one refl

-- variables that are given nothing more
pub holding_none : (vars : List Var) → holding_all vars [] ≡ vars
holding_none [] = refl
holding_none (v ∷ vars) = refl

-- what each variable is given makes them the loaded ones
pub holding_parts_by_var : (vars : List Var) (values : List Grid) → holding_all vars (parts_by_var vars values) ≡ with_values_loaded vars values
holding_parts_by_var [] values = refl
holding_parts_by_var (v ∷ vars) values = ap (λ (later : List Var). holding v (given_by v values) ∷ later) (holding_parts_by_var vars (values_left v values))

-- a file that no rule refuses has parts that none refuses
pub parts_sound : (end : ℕ) (ws : List Wanted) (outcome : Result (List Part) Refusal) → refusal_by end ws outcome ≡ None
    → first_fault end ws (parts_in outcome) ≡ None
parts_sound end ws (Ok parts) sound = sound
parts_sound end ws (Err refusal) sound = cc

next_taken : (n : ℕ) (values rest : List Grid) (value : Grid) → drop n values ≡ value ∷ rest
    → (take (suc n) values ≡ take n values ++ value ∷ []) × (drop (suc n) values ≡ rest)
next_taken zero [] rest value is = cc
next_taken zero (v ∷ values) rest value is = (let same : v ≡ value = cc in ap (λ (g : Grid). g ∷ []) same, let left : values ≡ rest = cc in left)
next_taken (suc n) [] rest value is = cc
next_taken (suc n) (v ∷ values) rest value is = let more = next_taken n values rest value is in (ap (λ (vs : List Grid). v ∷ vs) more.0, more.1)

none_taken : (n : ℕ) (values : List Grid) → drop n values ≡ [] → (take (suc n) values ≡ take n values) × (drop (suc n) values ≡ [])
none_taken zero [] is = (refl, refl)
none_taken zero (v ∷ values) is = cc
none_taken (suc n) [] is = (refl, refl)
none_taken (suc n) (v ∷ values) is = let more = none_taken n values is in (ap (λ (vs : List Grid). v ∷ vs) more.0, more.1)

-- one more value, or none any more
pub take_next : (n : ℕ) (values rest : List Grid) (value : Grid) → drop n values ≡ value ∷ rest
    → (take (n + 1) values ≡ take n values ++ value ∷ []) × (drop (n + 1) values ≡ rest)
take_next n values rest value is = rw (add-one n) (next_taken n values rest value is)

pub take_none : (n : ℕ) (values : List Grid) → drop n values ≡ [] → (take (n + 1) values ≡ take n values) × (drop (n + 1) values ≡ [])
take_none n values is = rw (add-one n) (none_taken n values is)
