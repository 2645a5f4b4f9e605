use Rattle.std.proofs.Common.{◌≡◌, ◌≤◌, ◌∙◌, ◌++◌, ◌∷◌, [], List, ap, sym, subst, length, true}
use Rattle.std.specs.Vec.{vec_capacity}
use Rattle.nim_job.specs.declared.level.Level.{Level}
use Rattle.nim_job.specs.Levels.{is_path, spot_of, todo_of}
use Rattle.nim_job.proofs.Fronts.{same_open}
use Rattle.nim_job.proofs.Moves.{back_open, back_some, back_todo}
use Rattle.nim_job.proofs.path.step_back.Goals as goal

pub overflow_sub-level : goal.overflow_sub-level
overflow_sub-level c =
    back_some c.args.whole.now c.pop.new.self.items c.in-Some.around c.args.last c.requires.kind
    (subst (λ (levels : List Level). is_path c.args.whole.now (levels ++ c.args.last ∷ []) ≡ true) c.in-Some.ensures.items c.requires.open.path)

pub put-requires : goal.put-requires
put-requires c =
    let whole = c.args.whole.now in
    let outer = c.pop.new.self.items in
    let room = vec_capacity c.args.levels.now in
    let other = vec_capacity c.pop.new.self in
    back_open whole other outer c.in-Some.around c.args.last c.requires.kind
    (same_open whole room other (c.args.levels.now.items ++ c.args.last ∷ []) ((outer ++ c.in-Some.around ∷ []) ++ c.args.last ∷ []) c.requires.open
    c.in-Some.ensures.capacity
    (ap (λ (levels : List Level). levels ++ c.args.last ∷ []) (sym c.in-Some.ensures.items)))

pub returns-in-Some-clause-todo : goal.returns-in-Some-clause-todo
returns-in-Some-clause-todo c =
    let whole = c.args.whole.now in
    let items = c.in-Some.ensures.items in
    ap (todo_of whole) c.put.ensures.items
    ∙ back_todo whole c.pop.new.self.items c.in-Some.around c.args.last c.requires.kind
    (subst (λ (levels : List Level). is_path whole (levels ++ c.args.last ∷ []) ≡ true) items c.requires.open.path)
    (subst (λ (levels : List Level). length (spot_of whole (levels ++ c.args.last ∷ [])).body ≤ c.args.last.next) items c.requires.done)
    ∙ ap (λ (levels : List Level). todo_of whole (levels ++ c.args.last ∷ [])) (sym items)
