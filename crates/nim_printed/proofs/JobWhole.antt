-- The tree of a checked and spelled job stands for that job.
use Rattle.std.proofs.Common.{◌≡◌, ℕ, ◌+◌, ◌≤◌, zero, suc, Bool, true, false, not, List, [], ◌∷◌, ◌++◌, length, map, refl, ap, ap₂, sym, subst, ◌∙◌, arith, None, Some}
use Rattle.std.specs.Prelude.{◌==◌, is_some, nat_le, slice_get}
use Rattle.std.specs.List.{flat_map, list_all}
use Rattle.std.specs.Option.{option_map_or}
use Rattle.std.proofs.lemmas.Bool.{and_parts, leb-true, not-true, not_from_true}
use Rattle.std.proofs.lemmas.List.{append-nil}
use Rattle.std.proofs.lemmas.List.FromFn.{length-map-range_with_len}
use Rattle.nim_job.specs.declared.block.Block.{Block as job_block}
use Rattle.nim_job.specs.declared.job.Job.{Job}
use Rattle.nim_job.specs.declared.job.Var.{Var as job_var}
use Rattle.nim_job.specs.declared.stmt.Stmt.{Stmt, fold-Stmt}
use Rattle.nim_job.specs.Whole.{are_vars, is_between, is_whole_block, is_checked, is_var, scalars_set}
use Rattle.nim_parse.specs.declared.sections.Block.{Block}
use Rattle.nim_parse.specs.declared.sections.Line.{Line}
use Rattle.nim_parse.specs.declared.sections.Statement.{Statement}
use Rattle.nim_parse.specs.declared.sections.Steps.{Steps}
use Rattle.nim_parse.specs.declared.sections.Var.{Var}
use Rattle.nim_parse.specs.Nesting.{open_after}
use Rattle.nim_check.specs.declared.body.Names.{Names}
use Rattle.nim_check.specs.Body.{body_of, first_body, no_body}
use Rattle.nim_check.specs.Made.{block_of, job_of, names_of}
use Rattle.nim_check.specs.Names.{Word, has_twice}
use Rattle.nim_check.specs.Refusals.{tree_refusal}
use Rattle.nim_check.specs.Rules.{are_few, rule_40, rule_of}
use Rattle.nim_check.specs.declared.scope.Scope.{Scope}
use Rattle.nim_check.specs.DriverPlaces.{at_steps, empty_scope, places_of_blocks, places_of_statements, places_of_steps, places_of_vars}
use Rattle.nim_check.specs.DriverPlaces as places
use Rattle.nim_printed.specs.Laws.{JobStands}
use Rattle.nim_printed.specs.Lines.{block_words, blocks_numbered, lines_numbered, numbered, vars_numbered}
use Rattle.nim_printed.specs.Printer.{blocks_for, blocks_lines, lines_for, statements_of, tree_for, vars_for}
use Rattle.nim_printed.specs.Spelled as spelled
use Rattle.nim_printed.specs.Spelled.{is_unreserved, is_spelled_init, is_small, is_spelled, is_stmt, names_in, unloaded}
use Rattle.nim_printed.specs.Trees as trees
use Rattle.nim_printed.specs.Trees.{is_closed, is_printable}
use Rattle.nim_printed.specs.Printer.{argument_name}
use Rattle.nim_base.proofs.Lists.{and_from_five}
use Rattle.nim_job.proofs.Sound.{set_some}
use Rattle.nim_printed.proofs.JobAtoms.{names_at}
use Rattle.nim_printed.proofs.JobBlocks.{blocks_at_lines, blocks_back, blocks_length, blocks_named, blocks_pass, blocks_printed, names_of_blocks}
use Rattle.nim_printed.proofs.JobCases.{Named}
use Rattle.nim_printed.proofs.JobLines.{AreSound, bodies_of_lines, lines_at_lines, opened_after, opened_of_lines, printed_lines, scope_of_lines, statements_pass}
use Rattle.nim_printed.proofs.JobLists.{all_parts, no_rule, and_five_parts, passes_both, passes_on}
use Rattle.nim_printed.proofs.JobNames.{once_parts}
use Rattle.nim_printed.proofs.JobStages.{AreThere}
use Rattle.nim_printed.proofs.JobStmts.{Shows, put_first}
use Rattle.nim_printed.proofs.JobTrees.{body_shown}
use Rattle.nim_printed.proofs.JobVars.{names_of_vars, small, unloaded_vars, vars_at_lines, vars_back, vars_length, vars_named, vars_pass, vars_printed}

-- what a checked job gives
record IsChecked (job : Job) : Type 0 where
  pub steps : is_between 1 1000000 job.steps ≡ true
  pub few : are_few job.vars ≡ true
  pub vars : list_all is_var job.vars ≡ true
  pub few_blocks : length job.blocks ≤ 32
  pub blocks : list_all (is_whole_block job.vars) job.blocks ≡ true
  pub body : is_some (scalars_set job) ≡ true

checked_job : (job : Job) → is_checked job ≡ true → IsChecked job
checked_job job checked =
    let parts = and_five_parts (is_between 1 1000000 job.steps) (are_vars job.vars) (nat_le (length job.blocks) 32)
    (list_all (is_whole_block job.vars) job.blocks)
    (is_some (scalars_set job)) checked in
    let vars = and_parts (are_few job.vars) (list_all is_var job.vars) parts.1 in
    record { steps = parts.0; few = vars.0; vars = vars.1; few_blocks = leb-true (length job.blocks) 32 parts.2; blocks = parts.3; body = parts.4 }

-- what a spelled job gives
record IsSpelled (job : Job) : Type 0 where
  pub vars_free : list_all is_unreserved (names_of_vars job.vars) ≡ true
  pub blocks_free : list_all is_unreserved (names_of_blocks job.blocks) ≡ true
  pub once : has_twice (names_of_vars job.vars ++ names_of_blocks job.blocks) ≡ false
  pub inits : list_all (λ (v : job_var). is_spelled_init v.init) job.vars ≡ true
  pub stages : list_all (λ (b : job_block). list_all spelled.is_spelled_stage b.stages) job.blocks ≡ true
  pub stmts : list_all (λ (stmt : Stmt). fold-Stmt Bool is_stmt stmt) job.body ≡ true

spelled_job : (job : Job) → is_spelled job ≡ true → IsSpelled job
spelled_job job is =
    let parts = and_five_parts (list_all is_unreserved (names_in job)) (not (has_twice (names_in job)))
    (list_all (λ (v : job_var). is_spelled_init v.init) job.vars)
    (list_all (λ (b : job_block). list_all spelled.is_spelled_stage b.stages) job.blocks)
    (list_all (λ (stmt : Stmt). fold-Stmt Bool is_stmt stmt) job.body) is in
    let free = all_parts is_unreserved (names_of_vars job.vars) (names_of_blocks job.blocks) parts.0 in
    record { vars_free = free.0; blocks_free = free.1; once = not-true (has_twice (names_in job)) parts.1; inits = parts.2; stages = parts.3; stmts = parts.4 }

-- a block of the tree takes as many arguments as the job's
takes_same : (vars : List job_var) (line : ℕ) (blocks : List job_block) (block n : ℕ)
    → option_map_or (λ (b : job_block). n == b.args) (slice_get blocks block) false ≡ true
    → option_map_or (λ (b : Block). n == length b.arguments) (slice_get (blocks_for vars line blocks) block) false ≡ true
takes_same vars line [] block n is = is
takes_same vars line (b ∷ blocks) zero n is = ap (λ (m : ℕ). n == m) (length-map-range_with_len argument_name 0 b.args) ∙ is
takes_same vars line (b ∷ blocks) (suc block) n is = takes_same vars (line + (2 + length b.stages)) blocks block n is

steps_pass : (steps : Steps) → is_between 1 1000000 steps.most ≡ true → rule_of (at_steps steps) ≡ None
unfolding rule_of
steps_pass steps is = no_rule (rule_40 (at_steps steps)) 40 _ (not_from_true (is_between 1 1000000 steps.most) is) refl

steps_small : (n : ℕ) → is_between 1 1000000 n ≡ true → is_small n ≡ true
steps_small n is = small n (leb-true n 1000000 (and_parts (nat_le 1 n) (nat_le n 1000000) is).1)

module _ (job : Job) (checked : IsChecked job) (spells : IsSpelled job) where
  there : AreThere (vars_for 3 job.vars) job.vars
  there = record {
    named = vars_named 3 job.vars;
    back = vars_back 3 job.vars spells.vars_free;
    once = (once_parts (names_of_vars job.vars) (names_of_blocks job.blocks) spells.once).0;
  }

  -- the blocks, which stand behind the variables
  abbrev tree_blocks : List Block
  tree_blocks = blocks_for job.vars (3 + length job.vars) job.blocks

  named : Named job tree_blocks
  named = record {
    vars_once = there.once;
    blocks_once = (once_parts (names_of_vars job.vars) (names_of_blocks job.blocks) spells.once).1;
    vars_free = spells.vars_free;
    blocks_free = spells.blocks_free;
    named = blocks_named job.vars (3 + length job.vars) job.blocks;
    takes = λ block n is. takes_same job.vars (3 + length job.vars) job.blocks block n is;
  }

  -- the statements, which stand behind the blocks
  abbrev first_line : ℕ
  first_line = 3 + length job.vars + blocks_lines job.blocks

  abbrev lines : List Statement
  lines = flat_map (statements_of job) job.body

  -- how many scalars are set
  many : (n : ℕ) × (scalars_set job ≡ Some n)
  many = set_some (scalars_set job) checked.body

  shows : Shows job tree_blocks 0 0 many.0 lines job.body
  shows = body_shown job tree_blocks many.0 named many.1 spells.stmts

  printable : is_printable (tree_for job) ≡ true
  printable =
      let tree = tree_for job in
      and_from_five (trees.is_steps tree.steps) (list_all trees.is_printable_var tree.vars) (list_all trees.is_printable_block tree.blocks)
      (list_all (λ (l : Line). trees.is_statement l.statement) tree.statements) (is_closed (open_after [] tree.statements))
      (steps_small job.steps checked.steps) (vars_printed 3 job.vars spells.vars_free checked.vars spells.inits)
      (blocks_printed job.vars (3 + length job.vars) job.blocks spells.vars_free spells.blocks_free checked.blocks spells.stages)
      (printed_lines first_line lines ∙ shows.printed)
      (ap is_closed (opened_of_lines [] first_line lines ∙ ap (opened_after []) (sym (append-nil lines)) ∙ shows.nests [] []))

  numbers : numbered (tree_for job) ≡ tree_for job
  numbers =
      let tree = tree_for job in
      let with_parts =
      λ (vars : List Var) (blocks : List Block) (statements : List Line). record tree { vars = vars; blocks = blocks; statements = statements } in
      ap (λ (n : ℕ). with_parts (vars_numbered 3 tree.vars) (blocks_numbered (3 + n) tree.blocks)
      (lines_numbered (3 + n + length (flat_map block_words tree.blocks)) tree.statements))
      (vars_length 3 job.vars)
      ∙ ap (λ (n : ℕ). with_parts (vars_numbered 3 tree.vars) (blocks_numbered (3 + length job.vars) tree.blocks)
      (lines_numbered (3 + length job.vars + n) tree.statements))
      (blocks_length job.vars (3 + length job.vars) job.blocks)
      ∙ ap (λ (vars : List Var). with_parts vars (blocks_numbered (3 + length job.vars) tree.blocks) (lines_numbered first_line tree.statements))
      (vars_at_lines 3 job.vars)
      ∙ ap₂ (λ (blocks : List Block) (statements : List Line). with_parts tree.vars blocks statements)
      (blocks_at_lines job.vars (3 + length job.vars) job.blocks) (lines_at_lines first_line lines)

  sound : tree_refusal (tree_for job) ≡ None
  sound =
      let tree = tree_for job in
      let steps : Steps = record { line = 2; most = job.steps } in
      let of_vars = places_of_vars [] tree.vars in
      let of_blocks = places_of_blocks tree.vars [] tree.blocks in
      let of_statements = places_of_statements tree empty_scope tree.statements in
      let once = ap (λ (names : List Word). has_twice (names ++ names_of_blocks job.blocks)) (append-nil (names_of_vars job.vars)) ∙ spells.once in
      passes_on (at_steps steps) (of_vars ++ (of_blocks ++ of_statements)) (steps_pass steps checked.steps)
      (passes_both of_vars (of_blocks ++ of_statements) (vars_pass [] [] job.vars 3 refl refl spells.vars_free there.once checked.vars checked.few)
      (passes_both of_blocks of_statements
      (blocks_pass tree.vars job.vars [] [] job.blocks (3 + length job.vars) there refl once spells.blocks_free checked.blocks checked.few_blocks)
      (statements_pass tree empty_scope first_line lines
      (subst (λ (names : List Word). AreSound names tree.blocks empty_scope lines) (sym there.named) shows.sound))))

  names_are : names_of (tree_for job) ≡ names_at job many.0
  names_are =
      let tree = tree_for job in
      let with_names = λ (vars blocks set : List Word). let names : Names = record { vars = vars; blocks = blocks; scalars = set } in names in
      ap₂ (λ (vars blocks : List Word). with_names vars blocks (places.scalars_of tree.statements)) there.named
      (blocks_named job.vars (3 + length job.vars) job.blocks)
      ∙ ap (λ (scope : Scope). with_names (names_of_vars job.vars) (names_of_blocks job.blocks) scope.scalars)
      (scope_of_lines empty_scope first_line lines ∙ shows.scope)

  body_is : body_of (names_of (tree_for job)) (lines_for first_line lines) ≡ job.body
  body_is =
      let n = many.0 in
      ap (λ (names : Names). body_of names (lines_for first_line lines)) names_are
      ∙ ap first_body (bodies_of_lines (names_at job n) first_line lines ∙ shows.read n (omega arith) shows.few (no_body ∷ []) ∙ put_first job.body no_body [])
      ∙ append-nil job.body

  job_is : job_of (tree_for job) ≡ unloaded job
  job_is =
      let tree = tree_for job in
      let body = body_of (names_of tree) tree.statements in
      ap₂ (λ (vars : List job_var) (blocks : List job_block). record job { vars = vars; blocks = blocks; body = body }) there.back
      (ap (λ (names : List Word). map (block_of names) tree.blocks) there.named
      ∙ blocks_back job.vars (3 + length job.vars) job.blocks there.once spells.blocks_free checked.blocks)
      ∙ ap (λ (stmts : List Stmt). record job { vars = unloaded_vars job.vars; body = stmts }) body_is

-- the tree of a job stands for that job
pub job_stands : (job : Job) → JobStands job
job_stands job = λ checked spells.
    let whole = checked_job job checked in
    let written = spelled_job job spells in
    record { printable = printable job whole written; numbers = numbers job whole written; sound = sound job whole written; job_is = job_is job whole written }
