-- The parts that are to be loaded, and the rules that refuse others.
use Rattle.std.specs.Prelude.{ℕ, ◌+◌, ◌==◌, Bool, not, ◌&&◌, nat_lt, if◌then◌else◌, List, [], ◌∷◌, length, drop, map, bytes_eq, Option, None, Some, Result, Ok, Err}
use Rattle.std.specs.Option.{option_or}
use Rattle.nim_base.specs.Value.{Grid}
use Rattle.nim_lex.specs.declared.fault.Refusal.{Refusal}
use Rattle.nim_lex.specs.Refusals.{refused}
use Rattle.nim_lex.specs.Source.{line_count}
use Rattle.nim_data.specs.declared.lines.Header.{Header}
use Rattle.nim_data.specs.declared.wanted.Wanted.{Wanted}
use Rattle.nim_data.specs.Parts.{Part, data_of}

-- ---- the rules of a header

-- a header that isn't that of this part
abbrev pub rule_73 : Wanted → Header → Bool
rule_73 w h = not (bytes_eq w.name h.name && (w.part == h.part))

-- more rows than the variable has
abbrev pub rule_74 : Wanted → Header → Bool
rule_74 w h = nat_lt w.shape.rows h.rows

-- another width than the variable's
abbrev pub rule_75 : Wanted → Header → Bool
rule_75 w h = not (h.width == w.shape.width)

-- the smallest rule that refuses a header, where this part is to be loaded
unfoldable pub header_rule : Wanted → Header → Option ℕ
header_rule w h =
    if rule_73 w h then Some 73 else (if rule_74 w h then Some 74 else (if rule_75 w h then Some 75 else None))

-- where this part is to be loaded, or none any more: one too many isn't the next one either
abbrev pub rule_at : Option Wanted → Header → Option ℕ
rule_at None h = Some 73
rule_at (Some w) h = header_rule w h

-- ---- the parts of a file

-- the header of a part that has all its rows
abbrev pub part_header : Part → Header
part_header part = record
    { name = part.name; part = part.part; rows = length part.value.rows; width = part.value.width }

-- the part that is to be loaded next, if one is left
abbrev pub next_wanted : List Wanted → Option Wanted
next_wanted [] = None
next_wanted (w ∷ ws) = Some w

-- The first part that a rule refuses, where these parts are to be loaded. One that is missing is refused at the line
-- behind the last.
abbrev pub first_fault : ℕ → List Wanted → List Part → Option Refusal
first_fault end [] [] = None
first_fault end (w ∷ ws) [] = Some (record { line = end; rule = 73 })
first_fault end ws (part ∷ parts) =
    option_or (refused part.line (rule_at (next_wanted ws) (part_header part))) (first_fault end (drop 1 ws) parts)

-- the lines of the file come first, then its parts
abbrev pub refusal_by : ℕ → List Wanted → Result (List Part) Refusal → Option Refusal
refusal_by end ws (Err refusal) = Some refusal
refusal_by end ws (Ok parts) = first_fault end ws parts

-- why a data file is refused where these parts are to be loaded, if it is
abbrev pub data_file_refusal : List Wanted → List ℕ → Option Refusal
data_file_refusal ws bytes = refusal_by (line_count bytes + 1) ws (data_of bytes)

-- the values of parts, in order
abbrev pub values_of : List Part → List Grid
values_of parts = map (λ part. part.value) parts

-- the parts that a file gives, none where it is refused
abbrev pub parts_in : Result (List Part) Refusal → List Part
parts_in (Ok parts) = parts
parts_in (Err refusal) = []

-- the values of the parts of a file
abbrev pub values_in : List ℕ → List Grid
values_in bytes = values_of (parts_in (data_of bytes))
