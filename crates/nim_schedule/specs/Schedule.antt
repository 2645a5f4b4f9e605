-- What a schedule file says, and the first of its lines that a rule refuses.
use Rattle.std.specs.Prelude.{ℕ, nat_lt, if◌then◌else◌, List, [], ◌∷◌, length, Option, Some, None}
use Rattle.std.specs.List.{flat_map}
use Rattle.std.specs.Option.{option_or}
use Rattle.nim_lex.specs.declared.fault.Refusal.{Refusal}
use Rattle.nim_lex.specs.Refusals.{refused}
use Rattle.nim_lex.specs.Source.{lines_of}
use Rattle.nim_lex.specs.Source as source
use Rattle.nim_schedule.specs.declared.event.Line.{Line}
use Rattle.nim_schedule.specs.Lines.{line_rule, lines_in}

-- the first of some lines that a rule refuses
abbrev pub first_refusal : List source.Line → Option Refusal
first_refusal [] = None
first_refusal (line ∷ rest) = option_or (refused line.number (line_rule line.bytes)) (first_refusal rest)

-- the lines of a schedule
abbrev pub schedule_of : List ℕ → List Line
schedule_of bytes = flat_map (λ line. lines_in line.bytes) (lines_of bytes)

-- why a schedule is refused, if it is: a schedule has at most 16,777,216 bytes
abbrev pub schedule_refusal : List ℕ → Option Refusal
schedule_refusal bytes =
    if nat_lt 16777216 (length bytes) then Some (record { line = 0; rule = 90 })
    else first_refusal (lines_of bytes)
