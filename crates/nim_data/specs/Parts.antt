-- The parts of a data file, and the rules that refuse its lines whatever is to be loaded.
use Rattle.std.specs.Prelude.{ℕ, ◌+◌, nat_lt, if◌then◌else◌, Bool, false, not, ◌&&◌, is_none, ℤ, List, [], ◌∷◌, ◌++◌, length, Option, None, Some, Result, Ok, Err}
use Rattle.nim_base.specs.Value.{Grid}
use Rattle.nim_lex.specs.declared.fault.Refusal.{Refusal}
use Rattle.nim_lex.specs.Refusals.{refused}
use Rattle.nim_lex.specs.Source.{Line, line_count, lines_of}
use Rattle.nim_data.specs.declared.lines.Header.{Header}
use Rattle.nim_data.specs.Lines.{header, is_bare, row}

-- a part: its header's line, the variable's name, the part's number, and its rows
pub record Part : Type 0 where
  pub line : ℕ
  pub name : List ℕ
  pub part : ℕ
  pub value : Grid

-- a part with the rows so far, and how many its header says
pub record Loading : Type 0 where
  pub wanted : ℕ
  pub part : Part

-- what the lines of a file so far were: the parts before the last, and the last
pub record Loaded : Type 0 where
  pub parts : List Part
  pub last : Option Loading

-- ---- the lines so far

-- before the first line: no part has begun
abbrev pub none_loaded : Loaded
none_loaded = record { parts = []; last = None }

-- the last part lacks a row
abbrev pub lacks : Option Loading → Bool
lacks None = false
lacks (Some l) = nat_lt (length l.part.value.rows) l.wanted

-- all the parts
abbrev pub parts_loaded : Loaded → List Part
parts_loaded st = all_parts st.parts st.last where
  all_parts : List Part → Option Loading → List Part
  all_parts parts None = parts
  all_parts parts (Some l) = parts ++ l.part ∷ []

-- a part without rows yet
abbrev pub part_begun : ℕ → Header → Loading
part_begun line h = record {
  wanted = h.rows;
  part = record { line = line; name = h.name; part = h.part; value = record { width = h.width; rows = [] } };
}

-- a part with one more row
abbrev pub with_next_row : Loading → List ℤ → Loading
with_next_row l cells =
    record l { part = record l.part { value = record l.part.value { rows = l.part.value.rows ++ cells ∷ [] } } }

-- a part with the row that was read, if one was
abbrev pub longer_by : Loading → Option (List ℤ) → Option Loading
longer_by l None = None
longer_by l (Some cells) = Some (with_next_row l cells)

-- the row of the last part that a line is
abbrev pub last_part_row : Option Loading → List ℕ → Option (List ℤ)
last_part_row None text = None
last_part_row (Some l) text = row l.part.value.width text

-- ---- the rules

-- a header not of its form
abbrev pub rule_71 : Loaded → List ℕ → Bool
rule_71 st text = not (lacks st.last) && is_none (header text)

-- a row line that isn't as many numbers in the range as the part is wide
abbrev pub rule_72 : Loaded → List ℕ → Bool
rule_72 st text = lacks st.last && is_none (last_part_row st.last text)

-- the rule that refuses a line; one without words is skipped
unfoldable pub data_rule : Loaded → List ℕ → Option ℕ
data_rule st text =
    if is_bare text then None
    else (if rule_71 st text then Some 71 else (if rule_72 st text then Some 72 else None))

-- after one more line
abbrev pub with_header : Loaded → ℕ → Option Header → Loaded
with_header st line None = st
with_header st line (Some h) = record { parts = parts_loaded st; last = Some (part_begun line h) }

-- after a row of the last part; where none was read, as before
abbrev pub with_row : Loaded → Option Loading → Option (List ℤ) → Loaded
with_row st (Some l) (Some cells) = record st { last = Some (with_next_row l cells) }
with_row st _ _ = st

-- after one more line, which is a row where the last part lacks one, and else a header
unfoldable pub data_after : Loaded → ℕ → List ℕ → Loaded
data_after st line text =
    if is_bare text then st
    else (if lacks st.last then with_row st st.last (last_part_row st.last text) else with_header st line (header text))

-- ---- a data file

-- a refusal where there is one, and else what comes without it
abbrev pub unless : {A : Type 0} → Option Refusal → Result A Refusal → Result A Refusal
unless (Some refusal) outcome = Err refusal
unless None outcome = outcome

-- a file that ends before a row has the line behind the last
abbrev pub data_from : ℕ → Loaded → List Line → Result (List Part) Refusal
data_from end st [] = if lacks st.last then Err (record { line = end; rule = 72 }) else Ok (parts_loaded st)
data_from end st (line ∷ rest) =
    unless (refused line.number (data_rule st line.bytes)) (data_from end (data_after st line.number line.bytes) rest)

-- the parts of a data file, or why it is refused
abbrev pub data_of : List ℕ → Result (List Part) Refusal
data_of bytes =
    if nat_lt 33554432 (length bytes) then Err (record { line = 0; rule = 70 })
    else data_from (line_count bytes + 1) none_loaded (lines_of bytes)
