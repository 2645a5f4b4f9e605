use Rattle.std.proofs.Common.{◌≡◌, ◌<◌, ◌∙◌, List, ap, sym, subst, length, true}
use Rattle.std.specs.Prelude.{if◌then◌else◌, slice_get}
use Rattle.nim_job.specs.declared.item.Item.{Item}
use Rattle.nim_job.specs.declared.level.Level.{Level}
use Rattle.nim_job.specs.declared.stmt.Stmt.{Stmt}
use Rattle.nim_job.specs.Levels.{is_settled, spot_of}
use Rattle.nim_job.specs.Quiet.{is_quiet, items_left, items_scalars}
use Rattle.nim_job.proofs.Fronts.{loop_left, next_at, taken_front, turns_front}
use Rattle.nim_job.proofs.path.pass_first.Goals as goal

pub pass_stmt-requires-clause-next : goal.pass_stmt-requires-clause-next
pass_stmt-requires-clause-next c =
    let whole = c.args.whole.now in
    let last = c.in-Some.last in
    next_at whole c.pop.new.self.items last c.in-Some-stmt_at.stmt.now
    (c.in-Some-stmt_at.ensures ∙ ap (λ (body : List Stmt). slice_get body last.next)
    (c.close-body.ensures.body ∙ ap (λ (levels : List Level). (spot_of whole levels).body) c.in-Some.ensures.items))

pub turn-requires-clause-kind : goal.turn-requires-clause-kind
turn-requires-clause-kind c =
    let whole = c.args.whole.now in
    let items = c.in-Some.ensures.items in
    let last = c.in-Some.last in
    loop_left whole c.pop.new.self.items last
    (subst (λ (levels : List Level). 0 < length levels → is_settled (spot_of whole levels) ≡ true) items c.close-body.ensures.settled)
    (c.in-None-stmt_at.ensures ∙ ap (λ (body : List Stmt). slice_get body last.next)
    (c.close-body.ensures.body ∙ ap (λ (levels : List Level). (spot_of whole levels).body) items))

pub returns-in-Some-stmt_at-clause-quiet : goal.returns-in-Some-stmt_at-clause-quiet
returns-in-Some-stmt_at-clause-quiet c =
    c.pass_stmt.ensures.quiet
    ∙ ap is_quiet
    (sym (taken_front c.args.whole.now c.args.levels.now.items c.close-body.new.levels.items c.pop.new.self.items c.in-Some.last c.in-Some-stmt_at.stmt.now
    c.close-body.result.now
    c.close-body.ensures.todo c.in-Some.ensures.items c.close-body.ensures.body c.in-Some-stmt_at.ensures))

pub returns-in-Some-stmt_at-clause-todo : goal.returns-in-Some-stmt_at-clause-todo
returns-in-Some-stmt_at-clause-todo c =
    c.pass_stmt.ensures.todo
    ∙ ap (λ (items : List Item). if c.pass_stmt.result then items_left c.args.scalars.now items else items)
    (sym (taken_front c.args.whole.now c.args.levels.now.items c.close-body.new.levels.items c.pop.new.self.items c.in-Some.last c.in-Some-stmt_at.stmt.now
    c.close-body.result.now
    c.close-body.ensures.todo c.in-Some.ensures.items c.close-body.ensures.body c.in-Some-stmt_at.ensures))

pub returns-in-Some-stmt_at-clause-scalars : goal.returns-in-Some-stmt_at-clause-scalars
returns-in-Some-stmt_at-clause-scalars c =
    c.pass_stmt.ensures.scalars
    ∙ ap (λ (items : List Item). if c.pass_stmt.result then items_scalars c.args.scalars.now items else c.args.scalars.now)
    (sym (taken_front c.args.whole.now c.args.levels.now.items c.close-body.new.levels.items c.pop.new.self.items c.in-Some.last c.in-Some-stmt_at.stmt.now
    c.close-body.result.now
    c.close-body.ensures.todo c.in-Some.ensures.items c.close-body.ensures.body c.in-Some-stmt_at.ensures))

pub returns-in-None-stmt_at-clause-quiet : goal.returns-in-None-stmt_at-clause-quiet
returns-in-None-stmt_at-clause-quiet c =
    ap is_quiet
    (sym (turns_front c.args.whole.now c.args.levels.now.items c.close-body.new.levels.items c.pop.new.self.items c.in-Some.last c.close-body.result.now
    c.close-body.ensures.todo c.in-Some.ensures.items c.close-body.ensures.body c.close-body.ensures.settled c.in-None-stmt_at.ensures))

pub returns-in-None-stmt_at-clause-todo : goal.returns-in-None-stmt_at-clause-todo
returns-in-None-stmt_at-clause-todo c =
    c.turn.ensures.todo
    ∙ ap (items_left c.args.scalars.now)
    (sym (turns_front c.args.whole.now c.args.levels.now.items c.close-body.new.levels.items c.pop.new.self.items c.in-Some.last c.close-body.result.now
    c.close-body.ensures.todo c.in-Some.ensures.items c.close-body.ensures.body c.close-body.ensures.settled c.in-None-stmt_at.ensures))

pub returns-in-None-stmt_at-clause-scalars : goal.returns-in-None-stmt_at-clause-scalars
returns-in-None-stmt_at-clause-scalars c =
    ap (items_scalars c.args.scalars.now)
    (sym (turns_front c.args.whole.now c.args.levels.now.items c.close-body.new.levels.items c.pop.new.self.items c.in-Some.last c.close-body.result.now
    c.close-body.ensures.todo c.in-Some.ensures.items c.close-body.ensures.body c.close-body.ensures.settled c.in-None-stmt_at.ensures))
