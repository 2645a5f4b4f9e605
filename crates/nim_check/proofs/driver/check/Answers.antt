use Rattle.std.proofs.Common.{◌≡◌, ◌∙◌, ◌≤◌, true, length, map, ap, sym, rules, arith, [], None}
use Rattle.std.specs.List.{list_all}
use Rattle.std.proofs.lemmas.List.{length-map}
use Rattle.nim_job.specs.declared.job.Job.{Job}
use Rattle.nim_job.specs.Whole.{are_vars, is_whole_block}
use Rattle.nim_check.specs.Body.{body_of}
use Rattle.nim_check.specs.Made.{block_of, var_names, var_of}
use Rattle.std.proofs.lemmas.Grind.{common_steps}
use Rattle.nim_lex.specs.Refusals.{Tells}
use Rattle.nim_check.specs.Faults.{told}
use Rattle.nim_check.specs.Refusals.{first_refusal, tree_refusal}
use Rattle.nim_check.specs.DriverPlaces.{empty_scope, places_of_blocks, places_of_statements, places_of_steps, places_of_vars, scope_of}
use Rattle.nim_check.proofs.Checked.{Ties, body_whole, job_whole, names_for}
use Rattle.nim_check.proofs.Places.{length_names}
use Rattle.nim_check.proofs.Refused.{kinds, none_refused, refused_fourth, refused_second, refused_third}
use Rattle.nim_check.proofs.driver.check.Goals as goal

pub returns-in_err-job_vars-clause-answers : goal.returns-in_err-job_vars-clause-answers
returns-in_err-job_vars-clause-answers c =
    let tree = c.args.tree.now in
    let one = told c.in_err-job_vars.field-0.0 in
    let steps : first_refusal (places_of_steps tree.steps) ≡ None = first_of (search rules, grind (arith, common_steps)) in
    let here : Tells (first_refusal (places_of_vars [] tree.vars)) one = first_of (search rules, grind (arith, common_steps)) in
    let whole : Tells (tree_refusal tree) one = rw (kinds tree) (refused_second _ _ _ one steps here) in
    first_of (search rules, grind (arith, common_steps))

pub returns-in_err-job_blocks-clause-answers : goal.returns-in_err-job_blocks-clause-answers
returns-in_err-job_blocks-clause-answers c =
    let tree = c.args.tree.now in
    let one = told c.in_err-job_blocks.field-0.0 in
    let steps : first_refusal (places_of_steps tree.steps) ≡ None = first_of (search rules, grind (arith, common_steps)) in
    let vars : first_refusal (places_of_vars [] tree.vars) ≡ None = first_of (search rules, grind (arith, common_steps)) in
    let here : Tells (first_refusal (places_of_blocks tree.vars [] tree.blocks)) one = first_of (search rules, grind (arith, common_steps)) in
    let whole : Tells (tree_refusal tree) one = rw (kinds tree) (refused_third _ _ _ _ one steps vars here) in
    first_of (search rules, grind (arith, common_steps))

pub returns-in_err-scalars-clause-answers : goal.returns-in_err-scalars-clause-answers
returns-in_err-scalars-clause-answers c =
    let tree = c.args.tree.now in
    let one = told c.in_err-scalars.field-0.0 in
    let steps : first_refusal (places_of_steps tree.steps) ≡ None = first_of (search rules, grind (arith, common_steps)) in
    let vars : first_refusal (places_of_vars [] tree.vars) ≡ None = first_of (search rules, grind (arith, common_steps)) in
    let blocks : first_refusal (places_of_blocks tree.vars [] tree.blocks) ≡ None = first_of (search rules, grind (arith, common_steps)) in
    let here : Tells (first_refusal (places_of_statements tree empty_scope tree.statements)) one = first_of (search rules, grind (arith, common_steps)) in
    let whole : Tells (tree_refusal tree) one = rw (kinds tree) (refused_fourth _ _ _ _ one steps vars blocks here) in
    first_of (search rules, grind (arith, common_steps))

pub returns-clause-answers : goal.returns-clause-answers
returns-clause-answers c =
    let tree = c.args.tree.now in
    let steps : first_refusal (places_of_steps tree.steps) ≡ None = first_of (search rules, grind (arith, common_steps)) in
    let vars : first_refusal (places_of_vars [] tree.vars) ≡ None = first_of (search rules, grind (arith, common_steps)) in
    let blocks : first_refusal (places_of_blocks tree.vars [] tree.blocks) ≡ None = first_of (search rules, grind (arith, common_steps)) in
    let statements : first_refusal (places_of_statements tree empty_scope tree.statements) ≡ None = first_of (search rules, grind (arith, common_steps)) in
    kinds tree ∙ none_refused _ _ _ _ steps vars blocks statements

pub returns-clause-checked : goal.returns-clause-checked
returns-clause-checked c =
    let tree = c.args.tree.now in
    let job : Job =
    record { steps = c.in_ok-steps.steps; vars = c.in_ok-job_vars.job_vars; blocks = c.in_ok-job_blocks.job_blocks; body = c.in_ok-body.body } in
    let low : 1 ≤ job.steps = c.in_ok-steps.ensures.some in
    let high : job.steps ≤ 1000000 = c.in_ok-steps.ensures.few in
    let made : c.in_ok-job_vars.job_vars ≡ map var_of tree.vars = first_of (cc, search rules, grind (arith, common_steps)) in
    let vars : are_vars c.in_ok-job_vars.job_vars ≡ true = c.in_ok-job_vars.ensures.whole in
    let blocks : c.in_ok-job_blocks.job_blocks ≡ map (block_of (var_names tree.vars)) tree.blocks = first_of (cc, search rules, grind (arith, common_steps)) in
    let number : length c.in_ok-job_blocks.job_blocks ≤ 32 = c.in_ok-job_blocks.ensures.number in
    let each : list_all (is_whole_block c.in_ok-job_vars.job_vars) c.in_ok-job_blocks.job_blocks ≡ true =
    first_of (cc, search rules, grind (arith, common_steps)) in
    let statements : first_refusal (places_of_statements tree empty_scope tree.statements) ≡ None = first_of (cc, search rules, grind (arith, common_steps)) in
    let body : c.in_ok-body.body ≡ body_of (names_for tree (scope_of empty_scope tree.statements).scalars) tree.statements =
    first_of (cc, search rules, grind (arith, common_steps)) in
    let names : length c.in_ok-job_vars.job_vars ≡ length (var_names tree.vars) = ap length made ∙ length-map tree.vars var_of ∙ sym (length_names tree.vars) in
    let ties : Ties tree job = record { vars = names; blocks = blocks } in
    job_whole job low high vars number each (body_whole tree job ties body c.sections-lines.ensures.nest statements)
