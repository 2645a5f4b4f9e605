use Rattle.std.proofs.Common.{◌≡◌, rules, true, false, length, map}
use Rattle.std.specs.Prelude.{unwrap_or}
use Rattle.nim_base.specs.Apply.{has_counts}
use Rattle.nim_base.specs.declared.task.Func.TheVariants as func
use Rattle.nim_check.specs.Names.{func_of}
use Rattle.std.specs.List.{list_all}
use Rattle.nim_job.specs.Whole.{has_distinct}
use Rattle.nim_check.specs.Made.{stage_of, var_names, var_of}
use Rattle.nim_check.specs.Rules.{is_known, refs_of}
use Rattle.nim_check.proofs.StageTests.{named, owned, stage_whole, writes_whole}
use Rattle.nim_check.proofs.stages.stage_rule.Goals as goal

pub has_distinct-requires-clause-writes : goal.has_distinct-requires-clause-writes
has_distinct-requires-clause-writes c =
    let vars = c.args.vars.now in
    let stage = c.args.stage.now in
    let all : named vars (refs_of stage) ≡ true = first_of (cc, search rules) in
    let none : owned stage (refs_of stage) ≡ false = first_of (cc, search rules) in
    rw (c.requires.vars, c.requires.made) (writes_whole vars stage all none)

pub returns-else-tasks-from-gt1024-clause-whole : goal.returns-else-tasks-from-gt1024-clause-whole
returns-else-tasks-from-gt1024-clause-whole c = λ _.
    let vars = c.args.vars.now in
    let stage = c.args.stage.now in
    let args = c.args.block.now.arguments in
    let all : named vars (refs_of stage) ≡ true = first_of (cc, search rules) in
    let none : owned stage (refs_of stage) ≡ false = first_of (cc, search rules) in
    let counts : has_counts (unwrap_or (func_of stage.function) func.Set) (length stage.parameters) (length stage.reads) (length stage.writes) ≡ true =
    first_of (cc, search rules) in
    let known : list_all (is_known args) stage.parameters ≡ true = first_of (cc, search rules) in
    let distinct : has_distinct c.args.job_vars.now c.args.made.now ≡ true = first_of (cc, search rules) in
    let here : has_distinct (map var_of vars) (stage_of (var_names vars) args stage) ≡ true = (rw (c.requires.vars, c.requires.made) at distinct) in
    rw (c.requires.vars, c.requires.made) (stage_whole vars args stage counts all none here known)
