-- The lines of a schedule, one at a time.
use Rattle.std.proofs.Common.{◌≡◌, ℕ, List, ◌∷◌, refl, None, Some}
use Rattle.nim_lex.specs.Source.{Line}
use Rattle.nim_schedule.specs.Lines.{line_rule}
use Rattle.nim_schedule.specs.Schedule.{first_refusal}

-- a line that a rule refuses, and one that none does
pub refused_here : (line : Line) (rest : List Line) (rule : ℕ) → line_rule line.bytes ≡ Some rule
    → first_refusal (line ∷ rest) ≡ Some (record { line = line.number; rule = rule })
refused_here line rest rule broken = rw broken refl

pub refused_later : (line : Line) (rest : List Line) → line_rule line.bytes ≡ None → first_refusal (line ∷ rest) ≡ first_refusal rest
refused_later line rest sound = rw sound refl
