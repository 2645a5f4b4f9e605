-- The rules of the grammar, by number. Each says which line it refuses, after the lines before it.
use Rattle.std.specs.Prelude.{ℕ, Bool, true, false, not, ◌&&◌, ◌||◌, if◌then◌else◌, is_none, is_some, List, [], ◌∷◌, Option, None, Some}
use Rattle.nim_parse.specs.declared.form.Form.{Form}
use Rattle.nim_parse.specs.declared.form.Form.TheVariants as form
use Rattle.nim_parse.specs.declared.form.Found.{Found}
use Rattle.nim_parse.specs.declared.form.Head.{Head}
use Rattle.nim_parse.specs.declared.form.Head.TheVariants as head
use Rattle.nim_parse.specs.declared.state.Phase.{Phase}
use Rattle.nim_parse.specs.declared.state.Phase.TheVariants.{Start, Header, Blocks, Statements}
use Rattle.nim_parse.specs.declared.state.State.{State}
use Rattle.nim_parse.specs.Nesting.{is_empty, may_stand}

-- ---- what the rules ask of a line

-- `nimbus 1`
abbrev pub is_header : Option Form → Bool
is_header (Some form.Header) = true
is_header _ = false

-- the first word is `steps`
abbrev pub begins_steps : Head → Bool
begins_steps head.Steps = true
begins_steps _ = false

-- the first word is `var`
abbrev pub begins_var : Head → Bool
begins_var head.Var = true
begins_var _ = false

-- the first word is `block`
abbrev pub begins_block : Head → Bool
begins_block head.Block = true
begins_block _ = false

-- a stage, or the `end` of a block
abbrev pub is_of_block : Option Form → Bool
is_of_block (Some (form.Stage s)) = true
is_of_block (Some form.BlockEnd) = true
is_of_block _ = false

-- ---- what the rules ask of the lines before it

-- there are none
abbrev pub is_start : Phase → Bool
is_start Start = true
is_start _ = false

-- there is the header alone
abbrev pub is_second : Phase → Bool
is_second Header = true
is_second _ = false

-- there is no block and no statement
abbrev pub takes_vars : Phase → Bool
takes_vars Blocks = false
takes_vars Statements = false
takes_vars _ = true

-- there is no statement
abbrev pub takes_blocks : Phase → Bool
takes_blocks Statements = false
takes_blocks _ = true

-- a line of the grammar that may stand outside blocks
abbrev pub is_outside : State → Option Form → Bool
is_outside st None = false
is_outside st (Some form.Header) = is_start st.phase
is_outside st (Some (form.Stage s)) = false
is_outside st (Some form.BlockEnd) = false
is_outside st (Some (form.Statement l)) = may_stand st.opened l.statement
is_outside st (Some _) = true

-- ---- the rules

-- the first line with tokens isn't `nimbus 1`
abbrev pub rule_10 : State → Found → Bool
rule_10 st line = is_start st.phase && not (is_header line.form)

-- a `steps` line not of its form, or not the second line with tokens
abbrev pub rule_11 : State → Found → Bool
rule_11 st line = begins_steps line.head && (is_none line.form || not (is_second st.phase))

-- a `var` line not of its form, or after a `block` line or a statement
abbrev pub rule_12 : State → Found → Bool
rule_12 st line = begins_var line.head && (is_none line.form || not (takes_vars st.phase))

-- a `block` line not of its form, or after a statement
abbrev pub rule_13 : State → Found → Bool
rule_13 st line = begins_block line.head && (is_none line.form || not (takes_blocks st.phase))

-- a line inside a block that is neither a stage nor `end` alone
abbrev pub rule_14 : State → Found → Bool
rule_14 st line = is_some st.block && not (is_of_block line.form)

-- a line outside blocks that is none of the grammar's
abbrev pub rule_15 : State → Found → Bool
rule_15 st line = is_none st.block && not (is_outside st line.form)

-- an `int` that is out of the range of 64 bits with a sign
abbrev pub rule_19 : State → Found → Bool
rule_19 st line = not line.fits

-- a row of the table: its number, and which lines it refuses behind the lines before them
pub record LineRule : Type 0 where
  pub number : ℕ
  pub refuses : State → Found → Bool

-- the rules of a line, the smallest number first
abbrev pub line_rules : List LineRule
line_rules =
    record { number = 10; refuses = rule_10 }
    ∷ record { number = 11; refuses = rule_11 }
    ∷ record { number = 12; refuses = rule_12 }
    ∷ record { number = 13; refuses = rule_13 }
    ∷ record { number = 14; refuses = rule_14 }
    ∷ record { number = 15; refuses = rule_15 }
    ∷ record { number = 19; refuses = rule_19 }
    ∷ []

-- the number of the first of these rules that refuses a line, if one does
abbrev pub first_that : List LineRule → State → Found → Option ℕ
first_that [] st line = None
first_that (rule ∷ rules) st line = if rule.refuses st line then Some rule.number else first_that rules st line

-- the smallest rule that refuses a line
unfoldable pub rule_of : State → Found → Option ℕ
rule_of st line = first_that line_rules st line

-- the file ends inside a block, loop, while or if
abbrev pub rule_16 : State → Bool
rule_16 st = is_some st.block || not (is_empty st.opened)

-- the rule that refuses the end of the file: the header is missing, or something is open
unfoldable pub rule_at_end : State → Option ℕ
rule_at_end st = if is_start st.phase then Some 10 else (if rule_16 st then Some 16 else None)
