-- The first refused line, one line at a time.
use Rattle.std.proofs.Common.{◌≡◌, ◌∙◌, ℕ, ◌+◌, ◌<◌, List, [], ◌∷◌, ◌++◌, length, get_or, take, drop, refl, ap, sym, subst, None, Some}
use Rattle.std.specs.Prelude.{Option}
use Rattle.std.specs.Option.{option_or}
use Rattle.std.proofs.lemmas.List.{at_drop_more, take_more}
use Rattle.nim_lex.specs.declared.fault.Refusal.{Refusal}
use Rattle.nim_lex.specs.Refusals.{Tells}
use Rattle.nim_parse.specs.declared.sections.Block.{Block}
use Rattle.nim_parse.specs.declared.sections.Line.{Line}
use Rattle.nim_parse.specs.declared.sections.Sections.{Sections}
use Rattle.nim_parse.specs.declared.sections.Var.{Var}
use Rattle.nim_check.specs.declared.scope.Scope.{Scope}
use Rattle.nim_check.specs.Refusals.{first_refusal, tree_refusal, refused_at}
use Rattle.nim_check.specs.Rules.{rule_of}
use Rattle.nim_check.specs.DriverPlaces.{DriverPlace, at_statement, empty_scope, places_of_block, places_of_blocks, places_of_statements, places_of_steps, places_of_vars, scope_of, scope_with}

-- a line that no rule refuses
pub later : (place : DriverPlace) (places : List DriverPlace) → rule_of place ≡ None → first_refusal (place ∷ places) ≡ first_refusal places
later place places sound = rw sound refl

or_assoc : (o p q : Option Refusal) → option_or (option_or o p) q ≡ option_or o (option_or p q)
or_assoc None p q = refl
or_assoc (Some r) p q = refl

-- some lines, and then others
pub joined : (places more : List DriverPlace) → first_refusal (places ++ more) ≡ option_or (first_refusal places) (first_refusal more)
joined [] more = refl
joined (place ∷ places) more = ap (option_or (refused_at place)) (joined places more)
    ∙ sym (or_assoc (refused_at place) (first_refusal places) (first_refusal more))

pub refusal_first : (o p : Option Refusal) (one : Option Refusal) → Tells o one → Tells (option_or o p) one
refusal_first o p None is = tt
refusal_first o p (Some refusal) is = rw is refl

pub blocks_step : (vars : List Var) (blocks : List Block) (at : ℕ) (d : Block) → at < length blocks
    → first_refusal (places_of_blocks vars (take at blocks) (drop at blocks))
    ≡ option_or (first_refusal (places_of_block vars (take at blocks) (get_or blocks at d)))
    (first_refusal (places_of_blocks vars (take (at + 1) blocks) (drop (at + 1) blocks)))
blocks_step vars blocks at d within =
    at_drop_more (λ rest. first_refusal (places_of_blocks vars (take at blocks) rest)) blocks at d within
    ∙ joined (places_of_block vars (take at blocks) (get_or blocks at d))
    (places_of_blocks vars (take at blocks ++ get_or blocks at d ∷ []) (drop (at + 1) blocks))
    ∙ ap (λ before. option_or (first_refusal (places_of_block vars (take at blocks) (get_or blocks at d)))
    (first_refusal (places_of_blocks vars before (drop (at + 1) blocks)))) (sym (take_more blocks at d within))

pub statements_step : (tree : Sections) (scope : Scope) (lines : List Line) (at : ℕ) (d : Line) → at < length lines
    → first_refusal (places_of_statements tree scope (drop at lines))
    ≡ first_refusal
    (at_statement tree scope (get_or lines at d) ∷ places_of_statements tree (scope_with scope (get_or lines at d).statement) (drop (at + 1) lines))
statements_step tree scope lines at d within = at_drop_more (λ rest. first_refusal (places_of_statements tree scope rest)) lines at d within

pub blocks_here : (vars : List Var) (blocks : List Block) (at : ℕ) (block : Block) (one : Option Refusal) → at < length blocks → block ≡ get_or blocks at block
    → Tells (first_refusal (places_of_block vars (take at blocks) block)) one
    → Tells (first_refusal (places_of_blocks vars (take at blocks) (drop at blocks))) one
blocks_here vars blocks at block one within is refused =
    subst (λ o. Tells o one)
    (ap (λ b. option_or (first_refusal (places_of_block vars (take at blocks) b))
    (first_refusal (places_of_blocks vars (take (at + 1) blocks) (drop (at + 1) blocks))))
    is
    ∙ sym (blocks_step vars blocks at block within))
    (refusal_first (first_refusal (places_of_block vars (take at blocks) block))
    (first_refusal (places_of_blocks vars (take (at + 1) blocks) (drop (at + 1) blocks))) one
    refused)

pub blocks_later : (vars : List Var) (blocks : List Block) (at : ℕ) (block : Block) → at < length blocks → block ≡ get_or blocks at block
    → first_refusal (places_of_block vars (take at blocks) block) ≡ None
    → first_refusal (places_of_blocks vars (take at blocks) (drop at blocks))
    ≡ first_refusal (places_of_blocks vars (take (at + 1) blocks) (drop (at + 1) blocks))
blocks_later vars blocks at block within is sound =
    blocks_step vars blocks at block within
    ∙ ap (λ b. option_or (first_refusal (places_of_block vars (take at blocks) b))
    (first_refusal (places_of_blocks vars (take (at + 1) blocks) (drop (at + 1) blocks))))
    (sym is)
    ∙ ap (λ o. option_or o (first_refusal (places_of_blocks vars (take (at + 1) blocks) (drop (at + 1) blocks)))) sound

pub statements_later : (tree : Sections) (scope : Scope) (lines : List Line) (at : ℕ) (line : Line) → at < length lines → line ≡ get_or lines at line
    → rule_of (at_statement tree scope line) ≡ None
    → first_refusal (places_of_statements tree scope (drop at lines))
    ≡ first_refusal (places_of_statements tree (scope_with scope line.statement) (drop (at + 1) lines))
statements_later tree scope lines at line within is sound =
    statements_step tree scope lines at line within
    ∙ ap (λ l. first_refusal (at_statement tree scope l ∷ places_of_statements tree (scope_with scope l.statement) (drop (at + 1) lines))) (sym is)
    ∙ later (at_statement tree scope line) (places_of_statements tree (scope_with scope line.statement) (drop (at + 1) lines)) sound

pub scope_later : (scope : Scope) (lines : List Line) (at : ℕ) (line : Line) → at < length lines → line ≡ get_or lines at line
    → scope_of scope (drop at lines) ≡ scope_of (scope_with scope line.statement) (drop (at + 1) lines)
scope_later scope lines at line within is =
    at_drop_more (λ rest. scope_of scope rest) lines at line within ∙ ap (λ (l : Line). scope_of (scope_with scope l.statement) (drop (at + 1) lines)) (sym is)

-- the lines of a tree, kind by kind
pub kinds : (tree : Sections) → tree_refusal tree
    ≡ option_or (first_refusal (places_of_steps tree.steps)) (option_or (first_refusal (places_of_vars [] tree.vars))
    (option_or (first_refusal (places_of_blocks tree.vars [] tree.blocks)) (first_refusal (places_of_statements tree empty_scope tree.statements))))
kinds tree =
    let blocks = places_of_blocks tree.vars [] tree.blocks in
    let statements = places_of_statements tree empty_scope tree.statements in
    joined (places_of_steps tree.steps) (places_of_vars [] tree.vars ++ (blocks ++ statements))
    ∙ ap (option_or (first_refusal (places_of_steps tree.steps))) (joined (places_of_vars [] tree.vars) (blocks ++ statements)
    ∙ ap (option_or (first_refusal (places_of_vars [] tree.vars))) (joined blocks statements))

pub refused_second : (o p q : Option Refusal) (one : Option Refusal) → o ≡ None → Tells p one → Tells (option_or o (option_or p q)) one
refused_second o p q one none is = rw none (refusal_first p q one is)

pub refused_third : (o p q r : Option Refusal) (one : Option Refusal) → o ≡ None → p ≡ None → Tells q one
    → Tells (option_or o (option_or p (option_or q r))) one
refused_third o p q r one none no_more is = rw (none, no_more) (refusal_first q r one is)

pub refused_fourth : (o p q r : Option Refusal) (one : Option Refusal) → o ≡ None → p ≡ None → q ≡ None → Tells r one
    → Tells (option_or o (option_or p (option_or q r))) one
refused_fourth o p q r one none no_more nor is = rw (none, no_more, nor) is

pub none_refused : (o p q r : Option Refusal) → o ≡ None → p ≡ None → q ≡ None → r ≡ None → option_or o (option_or p (option_or q r)) ≡ None
none_refused o p q r none no_more nor no_last = rw (none, no_more, nor) no_last
