-- What the reader keeps of the lines so far: as long as each part was a wanted one the values, then the form alone.
use Rattle.std.specs.Prelude.{◌≡◌, ℕ, ◌-◌, nat_lt, if◌then◌else◌, Bool, is_none, ℤ, List, [], ◌∷◌, ◌++◌, length, slice_get, Option, None, Some, Result, Ok, Err}
use Rattle.nim_base.specs.Value.{Grid}
use Rattle.nim_lex.specs.declared.fault.Refusal.{Refusal}
use Rattle.nim_lex.specs.Refusals.{refused}
use Rattle.nim_lex.specs.Source.{Line}
use Rattle.nim_data.specs.declared.fault.DataFault.{DataFault}
use Rattle.nim_data.specs.declared.fault.DataFault.TheVariants.{At, NoMemory}
use Rattle.nim_data.specs.declared.lines.Header.{Header}
use Rattle.nim_data.specs.declared.reading.Last.{Last}
use Rattle.nim_data.specs.declared.reading.Last.TheVariants.{Kept, Passed}
use Rattle.nim_data.specs.declared.reading.Reading.{Reading}
use Rattle.nim_data.specs.declared.wanted.Wanted.{Wanted}
use Rattle.nim_data.specs.Lines.{header, is_bare, row}
use Rattle.nim_data.specs.Parts.{unless}
use Rattle.nim_data.specs.Wanted.{rule_at}

-- where no part has begun there is no row to come
abbrev pub no_part : Last
no_part = Passed 0 1

-- before the first line: no value is kept, and no header was refused
abbrev pub nothing : Reading
nothing = record { values = []; last = no_part; refused = None }

-- a row is still to come
abbrev pub lacks : Last → Bool
lacks (Kept wanted value) = nat_lt (length value.rows) wanted
lacks (Passed left width) = nat_lt 0 left

-- how many cells a row of the last part has
abbrev pub last_width : Last → ℕ
last_width (Kept wanted value) = value.width
last_width (Passed left width) = width

-- the last part with one more row, which is kept, or only counted off where the part isn't kept
abbrev pub with_row : List ℤ → Last → Last
with_row cells (Kept wanted value) = Kept wanted (record value { rows = value.rows ++ cells ∷ [] })
with_row cells (Passed left width) = Passed (left - 1) width

-- ---- a line

-- the rule that refuses a line in the place of a row, where no row could be read
abbrev pub row_rule : Option (List ℤ) → Option ℕ
row_rule cells = if is_none cells then Some 72 else None

-- the rule that refuses a line in the place of a header, where no header could be read
abbrev pub header_form_rule : Option Header → Option ℕ
header_form_rule h = if is_none h then Some 71 else None

-- the rule that refuses a line; one without words is skipped
unfoldable pub line_rule : Reading → List ℕ → Option ℕ
line_rule r text =
    if is_bare text then None
    else (if lacks r.last then row_rule (row (last_width r.last) text) else header_form_rule (header text))

-- after a row of the last part; where none was read, as before
abbrev pub after_row : Reading → Option (List ℤ) → Reading
after_row r None = r
after_row r (Some cells) = record r { last = with_row cells r.last }

-- the last part behind the others, if it is kept
abbrev pub part_closed : Reading → Reading
part_closed r = close r.last where
  close : Last → Reading
  close (Kept wanted value) = record r { values = r.values ++ value ∷ []; last = no_part }
  close (Passed left width) = record r { last = no_part }

-- a part that isn't kept: as many rows of a width are to come as its header says
abbrev pub part_passed : Header → Last
part_passed h = Passed h.rows h.width

-- a part that is kept where no rule refuses its header
abbrev pub begun_by : Option ℕ → Reading → ℕ → Header → Reading
begun_by None r line h = record r { last = Kept h.rows (record { width = h.width; rows = [] }) }
begun_by (Some rule) r line h =
    record { values = []; last = part_passed h; refused = Some (record { line = line; rule = rule }) }

-- a part begins behind those that are closed
abbrev pub with_part_begun : List Wanted → Reading → ℕ → Header → Reading
with_part_begun ws r line h = begin r.refused where
  begin : Option Refusal → Reading
  begin None = begun_by (rule_at (slice_get ws (length r.values)) h) r line h
  begin (Some refusal) = record r { last = part_passed h }

-- after a header, which ends the part before it; where none was read, as before
abbrev pub after_header : List Wanted → Reading → ℕ → Option Header → Reading
after_header ws r line None = r
after_header ws r line (Some h) = with_part_begun ws (part_closed r) line h

-- after one more line
unfoldable pub after_data_line : List Wanted → Reading → ℕ → List ℕ → Reading
after_data_line ws r line text =
    if is_bare text then r
    else (if lacks r.last then after_row r (row (last_width r.last) text) else after_header ws r line (header text))

-- ---- a file

-- what the parts give where the file ends behind them
abbrev pub given : ℕ → List Wanted → Reading → Result (List Grid) Refusal
given end ws r = give r.refused where
  give : Option Refusal → Result (List Grid) Refusal
  give None = if nat_lt (length r.values) (length ws) then Err (record { line = end; rule = 73 }) else Ok r.values
  give (Some refusal) = Err refusal

-- what a file gives that ends here, which is refused where the last part lacks a row
abbrev pub ended : ℕ → List Wanted → Reading → Result (List Grid) Refusal
ended end ws r = if lacks r.last then Err (record { line = end; rule = 72 }) else given end ws (part_closed r)

-- what the lines give that are left
abbrev pub read_from : ℕ → List Wanted → Reading → List Line → Result (List Grid) Refusal
read_from end ws r [] = ended end ws r
read_from end ws r (line ∷ rest) =
    unless (refused line.number (line_rule r line.bytes))
    (read_from end ws (after_data_line ws r line.number line.bytes) rest)

-- what a call gave is this, unless memory was refused
abbrev pub GaveValues : Result (List Grid) Refusal → Result (List Grid) DataFault → Type 0
GaveValues outcome (Ok values) = outcome ≡ Ok values
GaveValues outcome (Err (At refusal)) = outcome ≡ Err refusal
GaveValues outcome (Err NoMemory) = Unit {0}
