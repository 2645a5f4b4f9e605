-- Whether a report of an instance is awaited, by how many are.
use Rattle.std.proofs.Common.{◌≡◌, ℕ, ◌+◌, ◌<◌, ◌≤◌, zero, suc, Bool, true, false, List, [], ◌∷◌, length, refl, ap, sym, ◌∙◌, arith, Option, None, Some}
use Rattle.std.specs.Prelude.{◌==◌, ◌||◌, not, nat_lt, cond}
use Rattle.std.specs.List.{count_by, list_any}
use Rattle.std.specs.Option.{is_some}
use Rattle.std.proofs.lemmas.Bool.{lt-ltb, ne_eqb}
use Rattle.std.proofs.lemmas.List.Sums.{sum_by-cons}
use Rattle.nim_base.specs.declared.number.Worker.{Worker}

-- whether any is
pub any_counted : (runs : List (Option Worker)) → nat_lt 0 (count_by is_some runs) ≡ list_any is_some runs
any_counted [] = refl
any_counted (None ∷ runs) = any_counted runs
any_counted (Some worker ∷ runs) =
    let one : count_by is_some (Some worker ∷ runs) ≡ 1 + count_by is_some runs =
    sum_by-cons (λ (run : Option Worker). cond (is_some run) 1 0) (Some worker) runs in
    lt-ltb 0 (count_by is_some (Some worker ∷ runs)) (omega (arith, one))

-- one that is scheduled task by task is open while a run is awaited
pub runs_open : (left : ℕ) (runs : List (Option Worker)) (through : List Worker) → left ≡ count_by is_some runs → 0 < left
    → nat_lt 0 left ≡ (list_any is_some runs || nat_lt 0 (length through))
runs_open left runs through counted some =
    let any : list_any is_some runs ≡ true = sym (any_counted runs) ∙ lt-ltb 0 (count_by is_some runs) (omega (arith, counted, some)) in
    lt-ltb 0 left some ∙ sym (ap (λ (b : Bool). b || nat_lt 0 (length through)) any)

not_nothing : (n : ℕ) → not (n == 0) ≡ nat_lt 0 n
not_nothing zero = refl
not_nothing (suc n) =
    ap not (ne_eqb (suc n) 0 (λ same. omega (arith, same))) ∙ sym (lt-ltb 0 (suc n) (omega arith))

-- where none is, it is open while a worker is to report that it is through
pub through_open : (left many : ℕ) (empty : Bool) (runs : List (Option Worker)) (through : List Worker) → left ≡ count_by is_some runs → left ≤ 0
    → empty ≡ (many == 0) → many ≡ length through → not empty ≡ (list_any is_some runs || nat_lt 0 (length through))
through_open left many empty runs through counted none is long =
    let nothing : count_by is_some runs ≡ 0 = omega (arith, counted, none) in
    let no_run : list_any is_some runs ≡ false = sym (any_counted runs) ∙ ap (nat_lt 0) nothing in
    ap not is ∙ not_nothing many ∙ ap (nat_lt 0) long ∙ sym (ap (λ (b : Bool). b || nat_lt 0 (length through)) no_run)
