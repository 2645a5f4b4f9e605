use Rattle.std.proofs.Common.{◌∙◌, ◌∷◌, List, ap, sym}
use Rattle.nim_job.specs.declared.item.Item.TheVariants.{Run}
use Rattle.nim_job.specs.declared.level.Level.{Level}
use Rattle.nim_job.specs.Levels.{spot_of, stmt_next, todo_of}
use Rattle.nim_job.proofs.Moves.{todo_taken}
use Rattle.nim_job.proofs.path.skip_first.Goals as goal

pub returns-in-Some-clause-todo : goal.returns-in-Some-clause-todo
returns-in-Some-clause-todo c =
    let whole = c.args.whole.now in
    let outer = c.pop.new.self.items in
    let last = c.in-Some.last in
    ap (λ (levels : List Level). Run c.args.stmt.now ∷ todo_of whole levels) c.skip.ensures.items
    ∙ sym (ap (todo_of whole) c.in-Some.ensures.items
    ∙ todo_taken whole outer last c.args.stmt.now (sym (ap (λ (levels : List Level). stmt_next (spot_of whole levels)) c.in-Some.ensures.items)
    ∙ c.requires.next))
