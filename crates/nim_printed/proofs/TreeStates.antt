-- The lines of a printed tree, and the states behind them.
use Rattle.std.proofs.Common.{◌≡◌, ℕ, ◌+◌, cond, Bool, true, false, List, [], ◌∷◌, ◌++◌, length, map, refl, sym, ◌∙◌, ap, append_assoc, append-nil, Option, Some, None}
use Rattle.std.specs.Prelude.{codes, decimal}
use Rattle.std.specs.List.{flat_map, list_all}
use Rattle.std.proofs.lemmas.Bool.{and_parts, false≢true}
use Rattle.nim_parse.specs.declared.form.Form.TheVariants as form
use Rattle.nim_parse.specs.declared.form.Head.TheVariants as head
use Rattle.nim_parse.specs.declared.nest.Open.{Open}
use Rattle.nim_parse.specs.declared.state.Phase.{Phase}
use Rattle.nim_parse.specs.declared.state.Phase.TheVariants as phase
use Rattle.nim_parse.specs.declared.state.State.{State}
use Rattle.nim_parse.specs.declared.sections.Block.{Block}
use Rattle.nim_parse.specs.declared.sections.Line.{Line}
use Rattle.nim_parse.specs.declared.sections.Stage.{Stage}
use Rattle.nim_parse.specs.declared.sections.Statement.{Statement}
use Rattle.nim_parse.specs.declared.sections.Statement.TheVariants.{Do, Let, Get, Loop, While, If, Else, End, Checkpoint, Output}
use Rattle.nim_parse.specs.declared.sections.Steps.{Steps}
use Rattle.nim_parse.specs.declared.sections.Sections.{Sections}
use Rattle.nim_parse.specs.declared.sections.Var.{Var}
use Rattle.nim_parse.specs.Grammar.{on_line}
use Rattle.nim_parse.specs.Nesting.{may_stand, nested, open_after}
use Rattle.nim_parse.specs.Rules.{begins_block, begins_steps, begins_var, is_start, rule_of}
use Rattle.nim_parse.specs.States.{first}
use Rattle.nim_printed.specs.Lines.{block_words, blocks_numbered, lines_numbered, listed_words, stage_words, stages_numbered, statement_words, var_words, vars_numbered}
use Rattle.nim_printed.specs.Spelled.{is_unreserved, is_small}
use Rattle.nim_printed.specs.Trees.{is_printable_block, is_printable_stage, is_statement, is_printable_var}
use Rattle.nim_printed.proofs.TreeForms.{block_end_line, block_line, head_for, header_line, stage_line, statement_line, steps_line, var_line}
use Rattle.nim_printed.proofs.TreeWalk.{Goes, Passes, as_found, begins_with, free_headed, goes_on, goes_same, line_passes, statement_headed}

-- ---- states

-- a state outside blocks
abbrev pub outside : Phase → List Open → Sections → State
outside p opened t = record { phase = p; opened = opened; block = None; sections = t }

-- a state inside a block
abbrev within : Block → Sections → State
within b t = record { phase = phase.Blocks; opened = []; block = Some b; sections = t }

-- the phase behind some lines of a kind
abbrev pub moved : {A : Type 0} → Phase → Phase → List A → Phase
moved p q [] = p
moved p q (x ∷ xs) = q

moved_same : {A : Type 0} (q : Phase) (xs : List A) → moved q q xs ≡ q
moved_same q [] = refl
moved_same q (x ∷ xs) = refl

pub moved_passes : {A : Type 0} (test : Phase → Bool) (p q : Phase) (xs : List A) → test p ≡ true → test q ≡ true → test (moved p q xs) ≡ true
moved_passes test p q [] before now = before
moved_passes test p q (x ∷ xs) before now = now

-- a phase in which a variable may stand, and one in which a block may
abbrev pub is_early : Phase → Bool
is_early phase.Header = true
is_early phase.Vars = true
is_early _ = false

abbrev pub is_middle : Phase → Bool
is_middle phase.Header = true
is_middle phase.Vars = true
is_middle phase.Blocks = true
is_middle _ = false

abbrev pub is_begun : Phase → Bool
is_begun phase.Start = false
is_begun _ = true

pub early_middle : (p : Phase) → is_early p ≡ true → is_middle p ≡ true
early_middle phase.Start early = absurd (false≢true early)
early_middle phase.Header early = refl
early_middle phase.Vars early = refl
early_middle phase.Blocks early = absurd (false≢true early)
early_middle phase.Statements early = absurd (false≢true early)

pub middle_begun : (p : Phase) → is_middle p ≡ true → is_begun p ≡ true
middle_begun phase.Start middle = absurd (false≢true middle)
middle_begun phase.Header middle = refl
middle_begun phase.Vars middle = refl
middle_begun phase.Blocks middle = refl
middle_begun phase.Statements middle = refl

pub begun_no_start : (p : Phase) → is_begun p ≡ true → is_start p ≡ false
begun_no_start phase.Start begun = absurd (false≢true begun)
begun_no_start phase.Header begun = refl
begun_no_start phase.Vars begun = refl
begun_no_start phase.Blocks begun = refl
begun_no_start phase.Statements begun = refl

-- ---- the first lines

abbrev pub empty : Sections
empty = record { steps = None; vars = []; blocks = []; statements = [] }

header_sound : rule_of first (as_found head.Nimbus form.Header) ≡ None
unfolding rule_of
header_sound = refl

pub header_passes : Passes first 1 (codes "nimbus" ∷ codes "1" ∷ []) (outside phase.Header [] empty)
header_passes = line_passes first 1 _ head.Nimbus form.Header (begins_with head.Nimbus (codes "nimbus") _ refl) (header_line 1) header_sound

steps_sound : (t : Sections) (s : Steps) → rule_of (outside phase.Header [] t) (as_found head.Steps (form.Steps s)) ≡ None
unfolding rule_of
steps_sound t s = refl

pub steps_passes : (t : Sections) (most : ℕ) → is_small most ≡ true
    → Passes (outside phase.Header [] t) 2 (codes "steps" ∷ decimal most ∷ [])
    (outside phase.Vars [] (record t { steps = Some (record { line = 2; most = most }) }))
steps_passes t most small =
    line_passes (outside phase.Header [] t) 2 _ head.Steps (form.Steps (record { line = 2; most = most }))
    (begins_with head.Steps (codes "steps") _ refl) (steps_line 2 most small) (steps_sound t (record { line = 2; most = most }))

-- ---- variables

var_sound : (p : Phase) (t : Sections) (v : Var) → is_early p ≡ true → rule_of (outside p [] t) (as_found head.Var (form.Var v)) ≡ None
unfolding rule_of
var_sound phase.Start t v early = absurd (false≢true early)
var_sound phase.Header t v early = refl
var_sound phase.Vars t v early = refl
var_sound phase.Blocks t v early = absurd (false≢true early)
var_sound phase.Statements t v early = absurd (false≢true early)

pub vars_go : (p : Phase) (t : Sections) (line : ℕ) (vars : List Var) → is_early p ≡ true → list_all is_printable_var vars ≡ true
    → Goes (outside p [] t) line (map var_words vars) (outside (moved p phase.Vars vars) [] (record t { vars = t.vars ++ vars_numbered line vars }))
vars_go p t line [] early are = ap (λ (vs : List Var). outside p [] (record t { vars = vs })) (sym (append-nil t.vars))
vars_go p t line (v ∷ vars) early are =
    let both = and_parts (is_printable_var v) (list_all is_printable_var vars) are in
    let here : Var = record v { line = line } in
    let more : List Var = vars_numbered (line + 1) vars in
    let now : Sections = record t { vars = t.vars ++ here ∷ [] } in
    let passes = line_passes (outside p [] t) line (var_words v) head.Var (form.Var here) (begins_with head.Var (codes "var") _ refl) (var_line line v both.0)
    (var_sound p t here early) in
    let later = vars_go phase.Vars now (line + 1) vars refl both.1 in
    let end : outside (moved phase.Vars phase.Vars vars) [] (record now { vars = now.vars ++ more })
    ≡ outside phase.Vars [] (record t { vars = t.vars ++ here ∷ more }) =
    ap (λ q. outside q [] (record now { vars = now.vars ++ more })) (moved_same phase.Vars vars)
    ∙ ap (λ (vs : List Var). outside phase.Vars [] (record t { vars = vs })) (append_assoc t.vars (here ∷ []) more) in
    (outside phase.Vars [] now, passes, goes_same _ (line + 1) (map var_words vars) _ _ end later)

-- ---- blocks

stage_sound : (b : Block) (t : Sections) (s : Stage) → rule_of (within b t) (as_found head.Other (form.Stage s)) ≡ None
unfolding rule_of
stage_sound b t s = refl

stages_go : (b : Block) (t : Sections) (line : ℕ) (stages : List Stage) → list_all is_printable_stage stages ≡ true
    → Goes (within b t) line (map stage_words stages) (within (record b { stages = b.stages ++ stages_numbered line stages }) t)
stages_go b t line [] are = ap (λ (ss : List Stage). within (record b { stages = ss }) t) (sym (append-nil b.stages))
stages_go b t line (s ∷ stages) are =
    let both = and_parts (is_printable_stage s) (list_all is_printable_stage stages) are in
    let a = and_parts _ _ both.0 in
    let d = and_parts _ _ a.0 in
    let e = and_parts (is_unreserved s.function) _ d.0 in
    let here : Stage = record s { line = line } in
    let more : List Stage = stages_numbered (line + 1) stages in
    let now : Block = record b { stages = b.stages ++ here ∷ [] } in
    let passes = line_passes (within b t) line (stage_words s) head.Other (form.Stage here) (free_headed s.function _ e.0) (stage_line line s both.0)
    (stage_sound b t here) in
    let later = stages_go now t (line + 1) stages both.1 in
    let end : within (record now { stages = now.stages ++ more }) t ≡ within (record b { stages = b.stages ++ here ∷ more }) t =
    ap (λ (ss : List Stage). within (record b { stages = ss }) t) (append_assoc b.stages (here ∷ []) more) in
    (within now t, passes, goes_same _ (line + 1) (map stage_words stages) _ _ end later)

block_sound : (p : Phase) (t : Sections) (b : Block) → is_middle p ≡ true → rule_of (outside p [] t) (as_found head.Block (form.Block b)) ≡ None
unfolding rule_of
block_sound phase.Start t b middle = absurd (false≢true middle)
block_sound phase.Header t b middle = refl
block_sound phase.Vars t b middle = refl
block_sound phase.Blocks t b middle = refl
block_sound phase.Statements t b middle = absurd (false≢true middle)

end_sound : (b : Block) (t : Sections) → rule_of (within b t) (as_found head.End form.BlockEnd) ≡ None
unfolding rule_of
end_sound b t = refl

abbrev block_numbered : ℕ → Block → Block
block_numbered line b = record b { line = line; stages = stages_numbered (line + 1) b.stages }

block_goes : (p : Phase) (t : Sections) (line : ℕ) (b : Block) → is_middle p ≡ true → is_printable_block b ≡ true
    → Goes (outside p [] t) line (block_words b) (outside phase.Blocks [] (record t { blocks = t.blocks ++ block_numbered line b ∷ [] }))
block_goes p t line b middle are =
    let both = and_parts _ (list_all is_printable_stage b.stages) are in
    let front = and_parts (is_unreserved b.name) (list_all is_unreserved b.arguments) both.0 in
    let bare : Block = record b { line = line; stages = [] } in
    let whole : Block = block_numbered line b in
    let opens =
    line_passes (outside p [] t) line (codes "block" ∷ b.name ∷ listed_words (map (λ argument. argument ∷ []) b.arguments)) head.Block (form.Block bare)
    (begins_with head.Block (codes "block") _ refl) (block_line line b.name b.arguments front.0 front.1) (block_sound p t bare middle) in
    let last : ℕ = line + 1 + length (map stage_words b.stages) in
    let closes = line_passes (within whole t) last (codes "end" ∷ []) head.End form.BlockEnd (begins_with head.End (codes "end") _ refl) (block_end_line last)
    (end_sound whole t) in (
      within bare t,
      opens,
      goes_on (within bare t) (line + 1) (map stage_words b.stages) (within whole t) last ((codes "end" ∷ []) ∷ []) _ refl
          (stages_go bare t (line + 1) b.stages both.1) (outside phase.Blocks [] (record t { blocks = t.blocks ++ whole ∷ [] }), closes, refl),
    )

pub blocks_go : (p : Phase) (t : Sections) (line : ℕ) (blocks : List Block) → is_middle p ≡ true → list_all is_printable_block blocks ≡ true
    → Goes (outside p [] t) line (flat_map block_words blocks) (outside (moved p phase.Blocks blocks) []
    (record t { blocks = t.blocks ++ blocks_numbered line blocks }))
blocks_go p t line [] middle are = ap (λ (bs : List Block). outside p [] (record t { blocks = bs })) (sym (append-nil t.blocks))
blocks_go p t line (b ∷ blocks) middle are =
    let both = and_parts (is_printable_block b) (list_all is_printable_block blocks) are in
    let here : Block = block_numbered line b in
    let next : ℕ = line + length (block_words b) in
    let more : List Block = blocks_numbered next blocks in
    let now : Sections = record t { blocks = t.blocks ++ here ∷ [] } in
    let later = blocks_go phase.Blocks now next blocks refl both.1 in
    let end : outside (moved phase.Blocks phase.Blocks blocks) [] (record now { blocks = now.blocks ++ more })
    ≡ outside phase.Blocks [] (record t { blocks = t.blocks ++ here ∷ more }) =
    ap (λ q. outside q [] (record now { blocks = now.blocks ++ more })) (moved_same phase.Blocks blocks)
    ∙ ap (λ (bs : List Block). outside phase.Blocks [] (record t { blocks = bs })) (append_assoc t.blocks (here ∷ []) more) in
    goes_on _ line (block_words b) (outside phase.Blocks [] now) next (flat_map block_words blocks) _ refl
    (block_goes p t line b middle both.0) (goes_same _ next (flat_map block_words blocks) _ _ end later)

-- ---- statements

abbrev Plain : Statement → Type 0
Plain s = (begins_steps (head_for s) ≡ false) × (begins_var (head_for s) ≡ false) × (begins_block (head_for s) ≡ false)

plain : (s : Statement) → Plain s
plain (Do called arguments) = (refl, refl, refl)
plain (Let scalar value) = (refl, refl, refl)
plain (Get scalar variable part row column) = (refl, refl, refl)
plain (Loop turns) = (refl, refl, refl)
plain (While test) = (refl, refl, refl)
plain (If test) = (refl, refl, refl)
plain Else = (refl, refl, refl)
plain End = (refl, refl, refl)
plain Checkpoint = (refl, refl, refl)
plain (Output variable) = (refl, refl, refl)

statement_sound : (p : Phase) (opened : List Open) (t : Sections) (l : Line) → is_begun p ≡ true → may_stand opened l.statement ≡ true
    → rule_of (outside p opened t) (as_found (head_for l.statement) (form.Statement l)) ≡ None
unfolding rule_of
statement_sound p opened t l begun may =
    let heads = plain l.statement in
    let no_start = begun_no_start p begun in
    rw (no_start, heads.0, heads.1, heads.2, may) refl

stands : (m : Bool) (o : Option (List Open)) (now : List Open) → cond m o None ≡ Some now → (m ≡ true) × (o ≡ Some now)
stands true o now nests = (refl, nests)
stands false o now nests = cc

pub statements_go : (p : Phase) (opened : List Open) (t : Sections) (line : ℕ) (ls : List Line) (now : List Open) → is_begun p ≡ true
    → list_all (λ (l : Line). is_statement l.statement) ls ≡ true → open_after opened ls ≡ Some now
    → Goes (outside p opened t) line (map (λ (l : Line). statement_words l.statement) ls)
    (outside (moved p phase.Statements ls) now (record t { statements = t.statements ++ lines_numbered line ls }))
statements_go p opened t line [] now begun are nests =
    let same : opened ≡ now = cc in
    ap (λ (os : List Open). outside p os t) same ∙ ap (λ (ls : List Line). outside p now (record t { statements = ls })) (sym (append-nil t.statements))
statements_go p opened t line (l ∷ ls) now begun are nests =
    let both = and_parts (is_statement l.statement) _ are in
    let may = stands (may_stand opened l.statement) (open_after (nested l.statement opened) ls) now nests in
    let here : Line = record l { line = line } in
    let more : List Line = lines_numbered (line + 1) ls in
    let step : Sections = record t { statements = t.statements ++ here ∷ [] } in
    let passes = line_passes (outside p opened t) line (statement_words l.statement) (head_for l.statement) (on_line line l.statement)
    (statement_headed l.statement) (statement_line line l.statement both.0) (statement_sound p opened t here begun may.0) in
    let later = statements_go phase.Statements (nested l.statement opened) step (line + 1) ls now refl both.1 may.1 in
    let end : outside (moved phase.Statements phase.Statements ls) now (record step { statements = step.statements ++ more })
    ≡ outside phase.Statements now (record t { statements = t.statements ++ here ∷ more }) =
    ap (λ q. outside q now (record step { statements = step.statements ++ more })) (moved_same phase.Statements ls)
    ∙ ap (λ (xs : List Line). outside phase.Statements now (record t { statements = xs })) (append_assoc t.statements (here ∷ []) more) in (
      outside phase.Statements (nested l.statement opened) step,
      passes,
      goes_same _ (line + 1) (map (λ (x : Line). statement_words x.statement) ls) _ _ end later,
    )
