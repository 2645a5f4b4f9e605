use Rattle.std.proofs.Common.{◌∙◌, List, ap}
use Rattle.nim_job.specs.declared.level.Level.{Level}
use Rattle.nim_job.specs.Levels.{spot_of, stmt_behind, todo_of}
use Rattle.nim_job.proofs.Paths.{moved_behind, todo_taken}
use Rattle.nim_job.proofs.path.pass_stmt.Goals as goal

pub returns-then-not-is_quiet-clause-todo : goal.returns-then-not-is_quiet-clause-todo
returns-then-not-is_quiet-clause-todo c =
    ap (todo_of c.args.whole.now) c.put.ensures.items ∙ todo_taken c.args.whole.now c.args.levels.now.items c.args.last c.args.stmt.now c.requires.next

pub take-requires-clause-behind : goal.take-requires-clause-behind
take-requires-clause-behind c =
    ap (λ (levels : List Level). stmt_behind (spot_of c.args.whole.now levels)) c.skip.ensures.items
    ∙ moved_behind c.args.whole.now c.args.levels.now.items c.args.last c.args.stmt.now c.requires.next
