-- Chains of rules of which none refuses.
use Rattle.std.proofs.Common.{◌≡◌, ℕ, cond, Bool, true, false, refl, Option, None, Some}
use Rattle.std.specs.Option.{option_or}
use Rattle.nim_lex.specs.declared.fault.Refusal.{Refusal}
use Rattle.nim_lex.specs.Refusals.{refused}

-- the first test of a chain that gives none, and the others
pub passes : (b : Bool) (x : ℕ) (o : Option ℕ) → cond b (Some x) o ≡ None → b ≡ false
passes true x o h = cc
passes false x o h = refl

pub later : (b : Bool) (x : ℕ) (o : Option ℕ) → cond b (Some x) o ≡ None → o ≡ None
later true x o h = cc
later false x o h = h

-- a line that no rule refuses, and those behind it
pub no_rule : (line : ℕ) (rule : Option ℕ) (rest : Option Refusal) → option_or (refused line rule) rest ≡ None → (rule ≡ None) × (rest ≡ None)
no_rule line None rest h = (refl, h)
no_rule line (Some rule) rest h = cc
