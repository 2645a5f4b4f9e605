-- The lines of a data file, one at a time.
use Rattle.std.proofs.Common.{◌≡◌, ℕ, List, ◌∷◌, refl, None, Some}
use Rattle.std.specs.Prelude.{Err}
use Rattle.nim_lex.specs.Source.{Line}
use Rattle.nim_data.specs.declared.reading.Reading.{Reading}
use Rattle.nim_data.specs.declared.wanted.Wanted.{Wanted}
use Rattle.nim_data.specs.Parts.{Loaded, data_after, data_from, data_rule}
use Rattle.nim_data.specs.Reading.{after_data_line, line_rule, read_from}

-- a line that a rule refuses, and one that none does
pub refused_here : (end : ℕ) (ws : List Wanted) (r : Reading) (line : Line) (rest : List Line) (rule : ℕ) → line_rule r line.bytes ≡ Some rule
    → read_from end ws r (line ∷ rest) ≡ Err (record { line = line.number; rule = rule })
refused_here end ws r line rest rule broken = rw broken refl

pub passed_here : (end : ℕ) (ws : List Wanted) (r : Reading) (line : Line) (rest : List Line) → line_rule r line.bytes ≡ None
    → read_from end ws r (line ∷ rest) ≡ read_from end ws (after_data_line ws r line.number line.bytes) rest
passed_here end ws r line rest sound = rw sound refl

-- the same of the parts
pub refused_later : (end : ℕ) (st : Loaded) (line : Line) (rest : List Line) → data_rule st line.bytes ≡ None
    → data_from end st (line ∷ rest) ≡ data_from end (data_after st line.number line.bytes) rest
refused_later end st line rest sound = rw sound refl
