-- What `output` prints of all loaded variables, one after another, is a data file.
use Rattle.std.specs.Prelude.{ℕ, ◌+◌, ◌^◌, ◌<◌, Bool, ℤ, pos, negsuc, List, [], ◌∷◌, ◌++◌, All}
use Rattle.std.specs.List.{flat_map}
use Rattle.nim_base.specs.Text.{text_of}
use Rattle.nim_base.specs.Value.{Grid, IsGrid}
use Rattle.nim_job.specs.declared.job.Init.{Init}
use Rattle.nim_job.specs.declared.job.Init.TheVariants.{Loaded}
use Rattle.nim_job.specs.declared.job.Var.{Var}
use Rattle.nim_data.specs.Lines.{is_short_name}
use Rattle.nim_check.specs.Names.{Word}

-- parts one after another, the first with this number
abbrev pub parts_text : Word → ℕ → List Grid → List ℕ
parts_text name part [] = []
parts_text name part (value ∷ values) = text_of name part value ++ parts_text name (part + 1) values

-- the text of a variable's loaded parts, one after another; none where nothing is loaded
abbrev pub printed_by : Word → Init → List ℕ
printed_by name (Loaded values) = parts_text name 0 values
printed_by name _ = []

-- the text of all loaded variables, in order of declaration
abbrev pub printed : List Var → List ℕ
printed vars = flat_map (λ v. printed_by v.name v.init) vars

-- ---- what the law asks of a job besides that it is whole

-- a number that 64 bits hold
abbrev pub IsCell : ℤ → Type 0
IsCell (pos n) = n < 2 ^ 63
IsCell (negsuc n) = n < 2 ^ 63

-- what any `Value` is
pub record IsValue (grid : Grid) : Type 0 where
  pub shaped : IsGrid grid
  pub cells : All (All IsCell) grid.rows

-- each loaded part is what a value can be; nothing is asked where none are loaded
abbrev pub HasValues : Init → Type 0
HasValues (Loaded values) = All IsValue values
HasValues _ = Unit {0}

-- names as drivers have them
abbrev pub has_name : Var → Bool
has_name v = is_short_name v.name
