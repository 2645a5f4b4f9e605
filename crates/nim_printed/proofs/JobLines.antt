-- Statements without the numbers of their lines: the bodies that they leave, what they did, what is open after them, and
-- what the rules ask of them.
use Rattle.std.proofs.Common.{◌≡◌, ℕ, ◌+◌, ◌≤◌, Bool, true, false, List, [], ◌∷◌, ◌++◌, length, refl, ap, Option, None, Some}
use Rattle.std.specs.Prelude.{◌&&◌, nat_le, if◌then◌else◌}
use Rattle.std.specs.List.{list_all, list_any}
use Rattle.std.proofs.lemmas.Bool.{le-ltb, not_from_true}
use Rattle.nim_parse.specs.declared.nest.Open.{Open}
use Rattle.nim_parse.specs.declared.sections.Block.{Block}
use Rattle.nim_parse.specs.declared.sections.Line.{Line}
use Rattle.nim_parse.specs.declared.sections.Statement.{Statement}
use Rattle.nim_parse.specs.declared.sections.Sections.{Sections}
use Rattle.nim_parse.specs.Nesting.{may_stand, nested, open_after}
use Rattle.nim_check.specs.declared.body.Names.{Names}
use Rattle.nim_check.specs.Body.{Body, bodies_of, no_body, with_line}
use Rattle.nim_check.specs.Made.{var_names}
use Rattle.nim_check.specs.Names.{Word, is_in, reserved}
use Rattle.nim_check.specs.Refusals.{first_refusal}
use Rattle.nim_check.specs.Rules.{has_block, has_variable, is_known, opens, read_by, rule_41, rule_44, rule_47, rule_52, rule_53, rule_54, rule_of, set_by}
use Rattle.nim_check.specs.declared.scope.Scope.{Scope}
use Rattle.nim_check.specs.DriverPlaces.{at_statement, places_of_statements, scope_of, scope_with}
use Rattle.nim_printed.specs.Lines.{lines_numbered}
use Rattle.nim_printed.specs.Printer.{lines_for}
use Rattle.nim_printed.specs.Trees.{is_statement}
use Rattle.nim_printed.proofs.JobLists.{no_rule, passes_on}

-- bodies with statements before them
abbrev pub bodies_with : Names → List Statement → List Body → List Body
bodies_with names [] bodies = bodies
bodies_with names (s ∷ ss) bodies = with_line names s (bodies_with names ss bodies)

pub bodies_of_lines : (names : Names) (line : ℕ) (ss : List Statement) → bodies_of names (lines_for line ss) ≡ bodies_with names ss (no_body ∷ [])
bodies_of_lines names line [] = refl
bodies_of_lines names line (s ∷ ss) = ap (with_line names s) (bodies_of_lines names (line + 1) ss)

pub bodies_with-append : (names : Names) (xs ys : List Statement) (bodies : List Body)
    → bodies_with names (xs ++ ys) bodies ≡ bodies_with names xs (bodies_with names ys bodies)
bodies_with-append names [] ys bodies = refl
bodies_with-append names (x ∷ xs) ys bodies = ap (with_line names x) (bodies_with-append names xs ys bodies)

-- what statements did, after what was done before
abbrev pub scope_after : Scope → List Statement → Scope
scope_after scope [] = scope
scope_after scope (s ∷ ss) = scope_after (scope_with scope s) ss

pub scope_of_lines : (scope : Scope) (line : ℕ) (ss : List Statement) → scope_of scope (lines_for line ss) ≡ scope_after scope ss
scope_of_lines scope line [] = refl
scope_of_lines scope line (s ∷ ss) = scope_of_lines (scope_with scope s) (line + 1) ss

pub scope_after-append : (scope : Scope) (xs ys : List Statement) → scope_after scope (xs ++ ys) ≡ scope_after (scope_after scope xs) ys
scope_after-append scope [] ys = refl
scope_after-append scope (x ∷ xs) ys = scope_after-append (scope_with scope x) xs ys

-- what is open after statements, if each may stand where it stands
abbrev pub opened_after : List Open → List Statement → Option (List Open)
opened_after opened [] = Some opened
opened_after opened (s ∷ ss) = if may_stand opened s then opened_after (nested s opened) ss else None

pub opened_of_lines : (opened : List Open) (line : ℕ) (ss : List Statement) → open_after opened (lines_for line ss) ≡ opened_after opened ss
opened_of_lines opened line [] = refl
opened_of_lines opened line (s ∷ ss) =
    ap (λ (rest : Option (List Open)). if may_stand opened s then rest else None) (opened_of_lines (nested s opened) (line + 1) ss)

pub printed_lines : (line : ℕ) (ss : List Statement) → list_all (λ (l : Line). is_statement l.statement) (lines_for line ss) ≡ list_all is_statement ss
printed_lines line [] = refl
printed_lines line (s ∷ ss) = ap (λ (rest : Bool). is_statement s && rest) (printed_lines (line + 1) ss)

pub lines_at_lines : (line : ℕ) (ss : List Statement) → lines_numbered line (lines_for line ss) ≡ lines_for line ss
lines_at_lines line [] = refl
lines_at_lines line (s ∷ ss) =
    let here : Line = record { line = line; statement = s } in
    ap (λ (rest : List Line). here ∷ rest) (lines_at_lines (line + 1) ss)

-- ---- the rules

-- what the rules ask of a statement, after what was done before
pub record IsSound (vars : List Word) (blocks : List Block) (scope : Scope) (s : Statement) : Type 0 where
  pub free : list_any (is_in reserved) (set_by s) ≡ false
  pub few : length (scope_with scope s).scalars ≤ 64
  pub variable : has_variable vars s ≡ true
  pub block : has_block blocks s ≡ true
  pub known : list_all (is_known scope.scalars) (read_by s) ≡ true
  pub shallow : (opens s && nat_le 16 scope.depth) ≡ false

abbrev pub AreSound : List Word → List Block → Scope → List Statement → Type 0
AreSound vars blocks scope [] = Unit {0}
AreSound vars blocks scope (s ∷ ss) = IsSound vars blocks scope s × AreSound vars blocks (scope_with scope s) ss

pub sound_both : (vars : List Word) (blocks : List Block) (scope : Scope) (xs ys : List Statement) → AreSound vars blocks scope xs
    → AreSound vars blocks (scope_after scope xs) ys
    → AreSound vars blocks scope (xs ++ ys)
sound_both vars blocks scope [] ys first second = second
sound_both vars blocks scope (x ∷ xs) ys first second = (first.0, sound_both vars blocks (scope_with scope x) xs ys first.1 second)

statement_passes : (tree : Sections) (scope : Scope) (line : Line) → IsSound (var_names tree.vars) tree.blocks scope line.statement
    → rule_of (at_statement tree scope line) ≡ None
unfolding rule_of
statement_passes tree scope line sound =
    let place = at_statement tree scope line in
    no_rule (rule_41 place) 41 _ sound.free
    (no_rule (rule_44 place) 44 _ (le-ltb 64 (length (scope_with scope line.statement).scalars) sound.few)
    (no_rule (rule_47 place) 47 _ (not_from_true (has_variable (var_names tree.vars) line.statement) sound.variable)
    (no_rule (rule_52 place) 52 _ (not_from_true (has_block tree.blocks line.statement) sound.block)
    (no_rule (rule_53 place) 53 _ (not_from_true (list_all (is_known scope.scalars) (read_by line.statement)) sound.known)
    (no_rule (rule_54 place) 54 _ sound.shallow refl)))))

pub statements_pass : (tree : Sections) (scope : Scope) (line : ℕ) (ss : List Statement) → AreSound (var_names tree.vars) tree.blocks scope ss
    → first_refusal (places_of_statements tree scope (lines_for line ss)) ≡ None
statements_pass tree scope line [] sound = refl
statements_pass tree scope line (s ∷ ss) sound =
    let here : Line = record { line = line; statement = s } in
    passes_on (at_statement tree scope here) (places_of_statements tree (scope_with scope s) (lines_for (line + 1) ss))
    (statement_passes tree scope here sound.0)
    (statements_pass tree (scope_with scope s) (line + 1) ss sound.1)
