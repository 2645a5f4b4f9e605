-- The text of a printed tree is read as that tree.
use Rattle.std.proofs.Common.{◌≡◌, ℕ, ◌+◌, true, List, [], ◌∷◌, ◌++◌, length, length-append, map, refl, ◌∙◌, ap, arith, Option, Some, None}
use Rattle.std.specs.List.{flat_map, list_all}
use Rattle.std.proofs.lemmas.Bool.{and_parts, false≢true}
use Rattle.std.proofs.lemmas.List.{length-map}
use Rattle.nim_lex.specs.declared.token.Token.{Token}
use Rattle.nim_lex.specs.Refusals.{refused}
use Rattle.nim_lex.specs.Source.{line_count, tokens_of}
use Rattle.nim_parse.specs.declared.nest.Open.{Open}
use Rattle.nim_parse.specs.declared.state.Phase.{Phase}
use Rattle.nim_parse.specs.declared.state.Phase.TheVariants as phase
use Rattle.nim_parse.specs.declared.state.State.{State}
use Rattle.nim_parse.specs.declared.sections.Line.{Line}
use Rattle.nim_parse.specs.declared.sections.Steps.{Steps}
use Rattle.nim_parse.specs.declared.sections.Sections.{Sections}
use Rattle.nim_parse.specs.Driver.{after_lines, first_refusal, lines}
use Rattle.nim_parse.specs.Nesting.{open_after}
use Rattle.nim_parse.specs.Rules.{rule_at_end}
use Rattle.nim_parse.specs.States.{first}
use Rattle.nim_printed.specs.Laws.{IsLexed, IsParsed, TreeIsRead, WordsAreRead}
use Rattle.nim_printed.specs.Lines.{block_words, blocks_numbered, numbered, statement_words, steps_lines, steps_numbered, tree_words, var_words, vars_numbered}
use Rattle.nim_printed.specs.Trees.{is_printable_block, is_closed, is_printable, is_statement, is_steps, is_printable_var}
use Rattle.nim_printed.specs.Words.{Word, lines_text, lines_tokens_of}
use Rattle.nim_printed.proofs.TreeSpelled.{tree_words_are}
use Rattle.nim_printed.proofs.TreeStates.{begun_no_start, blocks_go, early_middle, empty, header_passes, is_begun, is_early, is_middle, middle_begun, moved, moved_passes, outside, statements_go, steps_passes, vars_go}
use Rattle.nim_printed.proofs.TreeTokens.{grouped, lines_grouped, lines_spell}
use Rattle.nim_printed.proofs.TreeWalk.{Goes, goes_lines, goes_on, walked}

closed_all : (o : Option (List Open)) → is_closed o ≡ true → o ≡ Some []
closed_all None closed = absurd (false≢true closed)
closed_all (Some []) closed = refl
closed_all (Some (x ∷ xs)) closed = absurd (false≢true closed)

-- the phase in which the variables begin
abbrev begun_in : Option Steps → Phase
begun_in None = phase.Header
begun_in (Some steps) = phase.Vars

begun_early : (steps : Option Steps) → is_early (begun_in steps) ≡ true
begun_early None = refl
begun_early (Some steps) = refl

steps_go : (steps : Option Steps) → is_steps steps ≡ true → Goes (outside phase.Header [] empty) 2 (steps_lines steps)
    (outside (begun_in steps) [] (record empty { steps = steps_numbered steps }))
steps_go None small = refl
steps_go (Some steps) small = (outside phase.Vars [] (record empty { steps = steps_numbered (Some steps) }), steps_passes empty steps.most small, refl)

-- the phase at the end
abbrev last_phase : Sections → Phase
last_phase tree = moved (moved (moved (begun_in tree.steps) phase.Vars tree.vars) phase.Blocks tree.blocks) phase.Statements tree.statements

abbrev at_end : Sections → State
at_end tree = outside (last_phase tree) [] (numbered tree)

-- which lines a tree can be printed in
record Parts (tree : Sections) : Type 0 where
  steps : is_steps tree.steps ≡ true
  vars : list_all is_printable_var tree.vars ≡ true
  blocks : list_all is_printable_block tree.blocks ≡ true
  statements : list_all (λ (line : Line). is_statement line.statement) tree.statements ≡ true
  nest : open_after [] tree.statements ≡ Some []

parts_of : (tree : Sections) → is_printable tree ≡ true → Parts tree
parts_of tree printable =
    let a = and_parts _ _ printable in
    let b = and_parts _ _ a.0 in
    let d = and_parts _ _ b.0 in
    let e = and_parts (is_steps tree.steps) (list_all is_printable_var tree.vars) d.0 in
    record { steps = e.0; vars = e.1; blocks = d.1; statements = b.1; nest = closed_all (open_after [] tree.statements) a.1 }

middle_vars : (tree : Sections) → is_middle (moved (begun_in tree.steps) phase.Vars tree.vars) ≡ true
middle_vars tree = early_middle _ (moved_passes is_early (begun_in tree.steps) phase.Vars tree.vars (begun_early tree.steps) refl)

begun_blocks : (tree : Sections) → is_begun (moved (moved (begun_in tree.steps) phase.Vars tree.vars) phase.Blocks tree.blocks) ≡ true
begun_blocks tree =
    middle_begun _ (moved_passes is_middle (moved (begun_in tree.steps) phase.Vars tree.vars) phase.Blocks tree.blocks (middle_vars tree) refl)

begun_end : (tree : Sections) → is_begun (last_phase tree) ≡ true
begun_end tree = moved_passes is_begun (moved (moved (begun_in tree.steps) phase.Vars tree.vars) phase.Blocks tree.blocks) phase.Statements tree.statements
    (begun_blocks tree) refl

-- no line of a tree is refused, and they make the tree with its lines' numbers
tree_goes : (tree : Sections) → Parts tree → Goes first 1 (tree_words tree) (at_end tree)
tree_goes tree parts =
    let steps : List (List Word) = steps_lines tree.steps in
    let vars : List (List Word) = map var_words tree.vars in
    let blocks : List (List Word) = flat_map block_words tree.blocks in
    let statements : List (List Word) = map (λ (line : Line). statement_words line.statement) tree.statements in
    let at_vars : ℕ = 2 + length steps in
    let at_blocks : ℕ = at_vars + length tree.vars in
    let at_statements : ℕ = at_blocks + length blocks in
    let a : Sections = record empty { steps = steps_numbered tree.steps } in
    let b : Sections = record a { vars = vars_numbered at_vars tree.vars } in
    let d : Sections = record b { blocks = blocks_numbered at_blocks tree.blocks } in
    let p : Phase = begun_in tree.steps in
    let q : Phase = moved p phase.Vars tree.vars in
    let r : Phase = moved q phase.Blocks tree.blocks in
    let to_vars = goes_on (outside phase.Header [] empty) 2 steps (outside p [] a) at_vars vars (outside q [] b) refl
    (steps_go tree.steps parts.steps) (vars_go p a at_vars tree.vars (begun_early tree.steps) parts.vars) in
    let to_blocks = goes_on (outside phase.Header [] empty) 2 (steps ++ vars) (outside q [] b) at_blocks blocks (outside r [] d)
    (omega (arith, length-append steps vars, length-map tree.vars var_words)) to_vars (blocks_go q b at_blocks tree.blocks (middle_vars tree) parts.blocks) in
    let to_end = goes_on (outside phase.Header [] empty) 2 ((steps ++ vars) ++ blocks) (outside r [] d) at_statements statements (at_end tree)
    (omega (arith, length-append (steps ++ vars) blocks, length-append steps vars, length-map tree.vars var_words)) to_blocks
    (statements_go r [] d at_statements tree.statements [] (begun_blocks tree) parts.statements parts.nest) in
    (outside phase.Header [] empty, header_passes, to_end)

sound_end : (p : Phase) (t : Sections) → is_begun p ≡ true → rule_at_end (outside p [] t) ≡ None
unfolding rule_at_end
sound_end p t begun = rw (begun_no_start p begun) refl

pub tree_read : (tree : Sections) → is_printable tree ≡ true → numbered tree ≡ tree → IsLexed (tree_words tree) → IsParsed tree
tree_read tree printable same lexed =
    let all : List (List Word) = tree_words tree in
    let source : List ℕ = lines_text all in
    let tokens : List Token = lines_tokens_of 1 0 all in
    let goes = tree_goes tree (parts_of tree printable) in
    let are = goes_lines first 1 all (at_end tree) goes in
    let groups : lines (tokens_of source) ≡ grouped 1 0 all = ap lines lexed.tokens ∙ lines_grouped 1 0 all are in
    let walk = walked source first 1 all (at_end tree) (grouped 1 0 all) goes (lines_spell source 1 0 all are lexed.texts) in
    record {
      sound = ap (first_refusal source first) groups ∙ walk.1 ∙ ap (refused (line_count source + 1))
          (sound_end (last_phase tree) (numbered tree) (begun_end tree));
      tree_is = ap (λ (tss : List (List Token)). (after_lines source first tss).sections) groups ∙ ap (λ (st : State). st.sections) walk.0 ∙ same;
    }

-- A tree is read back where its words are.
pub tree_read_by_words : (tree : Sections) → WordsAreRead (tree_words tree) → TreeIsRead tree
tree_read_by_words tree words printable same short = tree_read tree printable same (words (tree_words_are tree printable) short)
