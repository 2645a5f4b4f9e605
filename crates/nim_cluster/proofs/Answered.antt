-- What an answer has is known at the answer.
use Rattle.std.proofs.Common.{◌≡◌, true, refl, subst, sym}
use Rattle.std.specs.Prelude.{IfOk, OnOk, Result, Ok, Err, is_ok}

pub when_ok : {A E P Q : Type 0} (r : Result A E) → OnOk r P → (is_ok r ≡ true → P → Q) → OnOk r Q
when_ok (Ok x) holds goes = goes refl holds
when_ok (Err e) holds goes = holds

pub at_ok : {T E : Type 0} {P Q : T → Type 0} (r : Result T E) → ((x : T) → r ≡ Ok x → P x → Q x) → IfOk r P → IfOk r Q
at_ok (Ok x) goes holds = goes x refl holds
at_ok (Err e) goes holds = holds

-- a value that is kept behind a step that went well, as `keep_on_ok` keeps it
pub of_kept : {T U E : Type 0} (Q : T → Result U E → Type 0) (value : T) (step : Result U E) (kept : T × U)
    → (kept.0 ≡ value) × (step ≡ Ok kept.1) → Q value step → Q kept.0 (Ok kept.1)
of_kept Q value step kept is holds = subst (λ v. Q v (Ok kept.1)) (sym is.0) (subst (Q value) is.1 holds)

-- what holds of what a step gives, at what it gave
pub of_given : {U E : Type 0} (P : U → Type 0) (step : Result U E) (given : U) → step ≡ Ok given → IfOk step P → P given
of_given P step given is holds = subst (λ r. IfOk r P) is holds
