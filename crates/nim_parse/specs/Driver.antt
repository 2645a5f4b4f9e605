-- The tree of a driver, and the first refused line.
use Rattle.std.specs.Prelude.{ℕ, ◌+◌, ◌==◌, if◌then◌else◌, is_some, true, List, [], ◌∷◌, Option, None, Some}
use Rattle.std.specs.Option.{option_or}
use Rattle.nim_lex.specs.declared.fault.Refusal.{Refusal}
use Rattle.nim_lex.specs.declared.token.Token.{Token}
use Rattle.nim_lex.specs.Refusals.{refused}
use Rattle.nim_lex.specs.Source.{line_count, tokens_of}
use Rattle.nim_parse.specs.declared.fault.ParseFault.{ParseFault}
use Rattle.nim_parse.specs.declared.fault.ParseFault.TheVariants.{At, NoMemory}
use Rattle.nim_parse.specs.declared.form.Form.{Form}
use Rattle.nim_parse.specs.declared.form.Found.{Found}
use Rattle.nim_parse.specs.declared.form.Head.{Head}
use Rattle.nim_parse.specs.declared.state.State.{State}
use Rattle.nim_parse.specs.declared.sections.Sections.{Sections}
use Rattle.nim_parse.specs.Grammar.{head_of, line_form}
use Rattle.nim_parse.specs.Input.{Input, Outcome, unread_line}
use Rattle.nim_parse.specs.Rules.{rule_of, rule_at_end}
use Rattle.nim_parse.specs.States.{with_form, first}

-- ---- lines

-- a token before some lines: it begins the first of them if it stands on it
abbrev pub before : Token → List (List Token) → List (List Token)
before t [] = (t ∷ []) ∷ []
before t ([] ∷ lines) = (t ∷ []) ∷ lines
before t ((u ∷ line) ∷ lines) = if u.line == t.line then (t ∷ u ∷ line) ∷ lines else (t ∷ []) ∷ (u ∷ line) ∷ lines

-- the tokens of each line that has some
abbrev pub lines : List Token → List (List Token)
lines [] = []
lines (t ∷ ts) = before t (lines ts)

-- the number of a line
abbrev pub number_of : List Token → ℕ
number_of [] = 0
number_of (t ∷ ts) = t.line

-- ---- what a line is

-- a line by its first word: the form that was read, if it has one, and whether its ints are in range
abbrev pub with_head : Head → Outcome Form → Found
with_head head None = record { head = head; form = None; fits = true }
with_head head (Some (form, rest)) = record { head = head; form = Some form; fits = rest.fits }

-- what a line is of which nothing was read yet, by its first word and whether a block is open
abbrev pub found_in_input : State → ℕ → Input → Found
found_in_input st line i = with_head (head_of i) (line_form (is_some st.block) line (head_of i) i)

-- what a line is, after the lines before it
unfoldable pub found_line : List ℕ → State → List Token → Found
found_line source st line = found_in_input st (number_of line) (unread_line source line)

-- ---- one line after the other

-- after a line of this form; one that has none changes nothing
abbrev pub after_form : State → Option Form → State
after_form st None = st
after_form st (Some form) = with_form st form

-- after one more line, given as its tokens
abbrev pub next_state : List ℕ → State → List Token → State
next_state source st line = after_form st (found_line source st line).form

-- after several lines
abbrev pub after_lines : List ℕ → State → List (List Token) → State
after_lines source st [] = st
after_lines source st (line ∷ rest) = after_lines source (next_state source st line) rest

-- the first of some lines that a rule refuses, and the smallest that does; the end of the file has the line behind the
-- last
abbrev pub first_refusal : List ℕ → State → List (List Token) → Option Refusal
first_refusal source st [] = refused (line_count source + 1) (rule_at_end st)
first_refusal source st (line ∷ rest) =
    option_or (refused (number_of line) (rule_of st (found_line source st line)))
    (first_refusal source (next_state source st line) rest)

-- ---- a driver

-- why the grammar refuses a driver, if it does
abbrev pub grammar_refusal : List ℕ → Option Refusal
grammar_refusal source = first_refusal source first (lines (tokens_of source))

-- the tree that the lines of a driver make
abbrev pub tree_of : List ℕ → Sections
tree_of source = (after_lines source first (lines (tokens_of source))).sections

-- the refused line that a fault of `parse` tells
abbrev pub told : ParseFault → Option Refusal
told (At refusal) = Some refusal
told NoMemory = None
