-- The lines of a schedule, by their words.
use Rattle.std.specs.Prelude.{ℕ, nat_le, if◌then◌else◌, Bool, true, false, ◌&&◌, List, [], ◌∷◌, bytes_eq, codes, is_none, Option, None, Some}
use Rattle.std.specs.Option.{option_and_then, option_map}
use Rattle.nim_schedule.specs.declared.event.Event.TheVariants as event
use Rattle.nim_schedule.specs.declared.event.Line.{Line}
use Rattle.nim_schedule.specs.declared.event.Line.TheVariants.{Auto, One}
use Rattle.nim_schedule.specs.declared.kind.LineKind.{LineKind}
use Rattle.nim_schedule.specs.declared.kind.LineKind.TheVariants as kind
use Rattle.nim_schedule.specs.Words.{block_word, line_words, small_number}

-- what a first word says that its line is
unfoldable pub line_kind : List ℕ → Option LineKind
line_kind word =
    if bytes_eq word (codes "order") then Some kind.Order
    else (if bytes_eq word (codes "report") then Some kind.Report
    else (if bytes_eq word (codes "data") then Some kind.Data
    else (if bytes_eq word (codes "begin") then Some kind.Begin
    else (if bytes_eq word (codes "finish") then Some kind.Finish
    else (if bytes_eq word (codes "lose") then Some kind.Lose
    else (if bytes_eq word (codes "propose") then Some kind.Propose
    else (if bytes_eq word (codes "auto") then Some kind.Auto
    else None)))))))

-- No worker is lost and no edit is proposed yet, and so their lines are refused.
abbrev pub is_taken_yet : LineKind → Bool
is_taken_yet kind.Lose = false
is_taken_yet kind.Propose = false
is_taken_yet _ = true

-- ---- the words behind the first

-- one number, and nothing behind it
unfoldable pub one_number : List (List ℕ) → Option ℕ
one_number (first ∷ []) = small_number first
one_number _ = None

-- two numbers, and nothing behind them
unfoldable pub two_numbers : List (List ℕ) → Option (ℕ × ℕ)
two_numbers (first ∷ rest) = option_and_then (λ a. option_map (λ b. (a, b)) (one_number rest)) (small_number first)
two_numbers _ = None

-- `begin W N`: a batch has at most 1 to 16 commands
abbrev pub begin_line : ℕ → ℕ → Option Line
begin_line worker most = if nat_le 1 most && nat_le most 16 then Some (One (event.Begin worker most)) else None

-- `propose BLOCK TASK WORKER`
unfoldable pub proposal : List (List ℕ) → Option Line
proposal (first ∷ rest) =
    option_and_then (λ block.
    option_map (λ numbers. One (event.Propose block numbers.0 numbers.1)) (two_numbers rest)) (block_word first)
proposal _ = None

-- what the words behind the first say
unfoldable pub line_as : LineKind → List (List ℕ) → Option Line
line_as kind.Order rest = option_map (λ worker. One (event.Order worker)) (one_number rest)
line_as kind.Report rest = option_map (λ worker. One (event.Report worker)) (one_number rest)
line_as kind.Data rest = option_map (λ workers. One (event.Data workers.0 workers.1)) (two_numbers rest)
line_as kind.Begin rest = option_and_then (λ numbers. begin_line numbers.0 numbers.1) (two_numbers rest)
line_as kind.Finish rest = option_map (λ worker. One (event.Finish worker)) (one_number rest)
line_as kind.Lose rest = option_map (λ worker. One (event.Lose worker)) (one_number rest)
line_as kind.Propose rest = proposal rest
line_as kind.Auto rest = option_map (λ events. Auto events) (one_number rest)

-- ---- a line

-- the same, where such lines are taken
abbrev pub line_if_taken : LineKind → List (List ℕ) → Option Line
line_if_taken kind rest = if is_taken_yet kind then line_as kind rest else None

-- the line that a first word and those behind it say
unfoldable pub line_by : List ℕ → List (List ℕ) → Option Line
line_by first rest = option_and_then (λ kind. line_if_taken kind rest) (line_kind first)

-- what words say: nothing, where there are none
abbrev pub lines_by : List (List ℕ) → List Line
lines_by [] = []
lines_by (first ∷ rest) = option_list (line_by first rest) where
  option_list : Option Line → List Line
  option_list None = []
  option_list (Some line) = line ∷ []

-- words that are none of a line's; a line without words is skipped
abbrev pub rule_by : List (List ℕ) → Option ℕ
rule_by [] = None
rule_by (first ∷ rest) = if is_none (line_by first rest) then Some 91 else None

-- what a line of a schedule says
unfoldable pub lines_in : List ℕ → List Line
lines_in text = lines_by (line_words text)

-- the rule that refuses a line of a schedule
unfoldable pub line_rule : List ℕ → Option ℕ
line_rule text = rule_by (line_words text)
