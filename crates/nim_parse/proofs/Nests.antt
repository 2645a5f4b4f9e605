-- The statements of a driver that no rule refuses nest.
use Rattle.std.proofs.Common.{◌≡◌, ℕ, ◌+◌, cond, List, [], ◌∷◌, ◌++◌, Bool, true, false, refl, ap, ◌∙◌, Option, None, Some}
use Rattle.std.specs.Prelude.{not, ◌&&◌, ◌||◌, is_none, is_some}
use Rattle.std.specs.Option.{option_or}
use Rattle.nim_lex.specs.declared.token.Token.{Token}
use Rattle.nim_lex.specs.Refusals.{refused}
use Rattle.nim_lex.proofs.Refusals.{later, no_rule, passes}
use Rattle.nim_lex.specs.Source.{line_count, tokens_of}
use Rattle.nim_parse.specs.declared.form.Form.{Form}
use Rattle.nim_parse.specs.declared.form.Form.TheVariants as form
use Rattle.nim_parse.specs.declared.form.Found.{Found}
use Rattle.nim_parse.specs.declared.form.Head.{Head}
use Rattle.nim_parse.specs.declared.nest.Open.{Open}
use Rattle.nim_parse.specs.declared.state.State.{State}
use Rattle.nim_parse.specs.declared.sections.Block.{Block}
use Rattle.nim_parse.specs.declared.sections.Line.{Line}
use Rattle.nim_parse.specs.Driver.{after_form, after_lines, first_refusal, found_line, lines, next_state, number_of, grammar_refusal, tree_of}
use Rattle.nim_parse.specs.Nesting.{is_empty, may_stand, nested, open_after}
use Rattle.nim_parse.specs.Rules.{rule_10, rule_11, rule_12, rule_13, rule_14, rule_15, rule_16, rule_at_end, rule_of, is_start}
use Rattle.nim_parse.specs.States.{first}

-- what rules 14 and 15 leave
taken : (st : State) (f : Found) → rule_of st f ≡ None → (rule_14 st f ≡ false) × (rule_15 st f ≡ false)
unfolding rule_of
taken st f h =
    let a = later (rule_10 st f) 10 _ h in
    let b = later (rule_11 st f) 11 _ a in
    let d = later (rule_12 st f) 12 _ b in
    let e = later (rule_13 st f) 13 _ d in
    (passes (rule_14 st f) 14 _ e, passes (rule_15 st f) 15 _ (later (rule_14 st f) 14 _ e))

stands : (block : Option Block) (m : Bool) → (is_some block && true) ≡ false → (is_none block && not m) ≡ false → m ≡ true
stands None true inside outside = refl
stands None false inside outside = cc
stands (Some b) m inside outside = cc

-- one more statement
one_more : (opened : List Open) (ls : List Line) (l : Line) (now : List Open)
    → open_after opened ls ≡ Some now → may_stand now l.statement ≡ true → open_after opened (ls ++ l ∷ []) ≡ Some (nested l.statement now)
one_more opened [] l now before may =
    let same : opened ≡ now = cc in
    rw (same, may) refl
one_more opened (k ∷ ks) l now before may =
    elim (may_stand opened k.statement) as (λ t. cond t (open_after (nested k.statement opened) ks) None ≡ Some now
    → cond t (open_after (nested k.statement opened) (ks ++ l ∷ [])) None ≡ Some (nested l.statement now)) [
      | true ↦ λ h. one_more (nested k.statement opened) ks l now h may
      | false ↦ λ h. cc
    ] before

-- the statements so far nest, up to those that are open
abbrev Nests : State → Type 0
Nests st = open_after [] st.sections.statements ≡ Some st.opened

one_form : (st : State) (head : Head) (fits : Bool) (f : Option Form) → rule_of st (record { head = head; form = f; fits = fits }) ≡ None → Nests st
    → Nests (after_form st f)
one_form st head fits None sound before = before
one_form st head fits (Some form.Header) sound before = before
one_form st head fits (Some (form.Steps s)) sound before = before
one_form st head fits (Some (form.Var v)) sound before = before
one_form st head fits (Some (form.Block b)) sound before = before
one_form st head fits (Some (form.Stage s)) sound before = before
one_form st head fits (Some form.BlockEnd) sound before = before
one_form st head fits (Some (form.Statement l)) sound before =
    let both = taken st (record { head = head; form = Some (form.Statement l); fits = fits }) sound in
    one_more [] st.sections.statements l st.opened before (stands st.block (may_stand st.opened l.statement) both.0 both.1)

end_only : (n : ℕ) (rule : Option ℕ) → refused n rule ≡ None → option_or (refused n rule) None ≡ None
end_only n None h = refl
end_only n (Some r) h = cc

empty : (block : Option Block) (opened : List Open) → (is_some block || not (is_empty opened)) ≡ false → opened ≡ []
empty None [] h = refl
empty None (o ∷ os) h = cc
empty (Some b) opened h = cc

all_lines : (source : List ℕ) (st : State) (ls : List (List Token)) → first_refusal source st ls ≡ None → Nests st
    → Nests (after_lines source st ls) × (rule_at_end (after_lines source st ls) ≡ None)
all_lines source st [] h before =
    let none = no_rule (line_count source + 1) (rule_at_end st) None (end_only (line_count source + 1) (rule_at_end st) h) in
    (before, none.0)
all_lines source st (line ∷ rest) h before =
    let none = no_rule (number_of line) (rule_of st (found_line source st line)) (first_refusal source (next_state source st line) rest) h in
    all_lines source (next_state source st line) rest none.1
    (one_form st (found_line source st line).head (found_line source st line).fits (found_line source st line).form none.0 before)

closed_all : (st : State) → rule_at_end st ≡ None → st.opened ≡ []
unfolding rule_at_end
closed_all st h = empty st.block st.opened (passes (rule_16 st) 16 None (later (is_start st.phase) 10 _ h))

pub all_nest : (source : List ℕ) → grammar_refusal source ≡ None → open_after [] (tree_of source).statements ≡ Some []
all_nest source sound =
    let all = all_lines source first (lines (tokens_of source)) sound refl in
    all.0 ∙ ap Some (closed_all (after_lines source first (lines (tokens_of source))) all.1)
