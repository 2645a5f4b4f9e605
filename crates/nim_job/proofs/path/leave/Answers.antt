use Rattle.std.proofs.Common.{◌∙◌, ◌++◌, ◌∷◌, [], List, ap, arith, length, sym}
use Rattle.std.specs.Vec.{vec_capacity}
use Rattle.std.proofs.lemmas.List.{length-append}
use Rattle.nim_job.specs.declared.level.Level.{Level}
use Rattle.nim_job.specs.Levels.{is_settled, spot_of, todo_of}
use Rattle.nim_job.proofs.Fronts.{not_loop, not_while, same_open, settled_loop, settled_more}
use Rattle.nim_job.proofs.Moves.{left_open, todo_left}
use Rattle.nim_job.proofs.path.leave.Goals as goal

pub returns-then-last-body-clause-settled : goal.returns-then-last-body-clause-settled
returns-then-last-body-clause-settled c = λ same some.
    let whole = c.args.whole.now in
    let items = c.in-Some.ensures.items in
    ap (λ (levels : List Level). is_settled (spot_of whole levels)) items
    ∙ settled_more whole c.pop.new.self.items c.in-Some.last
    (omega (arith, ap length (c.requires.body ∙ ap (λ (levels : List Level). (spot_of whole levels).body) items)))

pub returns-in-Loop-clause-settled : goal.returns-in-Loop-clause-settled
returns-in-Loop-clause-settled c = λ same some.
    let whole = c.args.whole.now in
    ap (λ (levels : List Level). is_settled (spot_of whole levels)) c.in-Some.ensures.items
    ∙ settled_loop whole c.pop.new.self.items c.in-Some.last c.in-Loop.is

pub returns-in_default-clause-open : goal.returns-in_default-clause-open
returns-in_default-clause-open c =
    let whole = c.args.whole.now in
    let outer = c.pop.new.self.items in
    left_open whole (vec_capacity c.pop.new.self) outer c.in-Some.last
    (same_open whole (vec_capacity c.args.levels.now) (vec_capacity c.pop.new.self) c.args.levels.now.items (outer ++ c.in-Some.last ∷ []) c.requires.open
    c.in-Some.ensures.capacity
    (sym c.in-Some.ensures.items))

pub returns-in_default-clause-todo : goal.returns-in_default-clause-todo
returns-in_default-clause-todo c =
    let whole = c.args.whole.now in
    let items = c.in-Some.ensures.items in
    sym (ap (todo_of whole) items
    ∙ todo_left whole c.pop.new.self.items c.in-Some.last
    (omega (arith, ap length (c.requires.body ∙ ap (λ (levels : List Level). (spot_of whole levels).body) items)))
    (not_loop c.in-Some.last.kind c.in_default.not-Loop) (not_while c.in-Some.last.kind c.in_default.not-While))

pub returns-in_default-clause-fewer : goal.returns-in_default-clause-fewer
returns-in_default-clause-fewer c = λ is. omega (arith, ap length c.in-Some.ensures.items, length-append c.pop.new.self.items (c.in-Some.last ∷ []))
