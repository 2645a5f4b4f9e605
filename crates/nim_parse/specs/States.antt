-- What the lines of a driver so far were, and what they make.
use Rattle.std.specs.Prelude.{List, [], ◌∷◌, ◌++◌, Option, None, Some}
use Rattle.nim_parse.specs.declared.sections.Block.{Block}
use Rattle.nim_parse.specs.declared.sections.Line.{Line}
use Rattle.nim_parse.specs.declared.sections.Stage.{Stage}
use Rattle.nim_parse.specs.declared.form.Form.{Form}
use Rattle.nim_parse.specs.declared.form.Form.TheVariants as form
use Rattle.nim_parse.specs.declared.state.State.{State}
use Rattle.nim_parse.specs.declared.state.Phase.TheVariants.{Start, Header, Vars, Blocks, Statements}
use Rattle.nim_parse.specs.Nesting.{nested}

-- before the first line
abbrev pub first : State
first = record {
  phase = Start;
  opened = [];
  block = None;
  sections =
      record { steps = None; vars = []; blocks = []; statements = [] };
}

-- a block with one more stage
abbrev pub stage_added : Stage → Option Block → Option Block
stage_added s None = None
stage_added s (Some b) = Some (record b { stages = b.stages ++ s ∷ [] })

-- a stage goes into the block that is open
abbrev pub with_stage : Stage → State → State
with_stage s st = record st { block = stage_added s st.block }

-- the block that is open, if one is
abbrev pub block_closed : Option Block → List Block
block_closed None = []
block_closed (Some b) = b ∷ []

-- the block that is open goes to those before it
abbrev pub with_block_end : State → State
with_block_end st = record st {
  phase = Blocks;
  block = None;
  sections =
      record st.sections { blocks = st.sections.blocks ++ block_closed st.block };
}

-- a statement goes behind those before it, and what is open changes with it
abbrev pub with_statement : Line → State → State
with_statement l st = record st {
  phase = Statements;
  opened = nested l.statement st.opened;
  sections = record st.sections { statements = st.sections.statements ++ l ∷ [] };
}

-- after one more line
abbrev pub with_form : State → Form → State
with_form st form.Header = record st { phase = Header }
with_form st (form.Steps s) = record st { phase = Vars; sections = record st.sections { steps = Some s } }
with_form st
    (form.Var v) = record st { phase = Vars; sections = record st.sections { vars = st.sections.vars ++ v ∷ [] } }
with_form st (form.Block b) = record st { phase = Blocks; block = Some b }
with_form st (form.Stage s) = with_stage s st
with_form st form.BlockEnd = with_block_end st
with_form st (form.Statement l) = with_statement l st
