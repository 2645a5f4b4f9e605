use Rattle.std.proofs.Common.{◌≡◌, ◌<◌, ◌∙◌, ◌∷◌, ℤ, List, ap, ap₂, sym, arith, length}
use Rattle.std.proofs.lemmas.Bool.{both_ways}
use Rattle.nim_job.specs.declared.item.Item.TheVariants.{Run}
use Rattle.nim_job.specs.declared.level.Level.{Level}
use Rattle.nim_job.specs.declared.span.Span.{Span}
use Rattle.nim_job.specs.declared.stmt.Stmt.{Stmt, out-Stmt}
use Rattle.nim_job.specs.Levels.{spot_of, stmt_next, todo_of}
use Rattle.nim_job.specs.Machine.{Machine, stmt_ask}
use Rattle.nim_job.specs.Quiet.{is_quiet}
use Rattle.nim_job.specs.Serial.{is_nil}
use Rattle.nim_job.proofs.Asks.{asks_limit, asks_stmt, some_left}
use Rattle.nim_job.proofs.Fronts.{front}
use Rattle.nim_job.proofs.driver.DriverMachine.ask.Goals as goal

pub returns-then-self-clause-ask : goal.returns-then-self-clause-ask
returns-then-self-clause-ask c =
    let m = c.args.self.now in
    let inside = c.self.inside in
    let body = c.as_slice.result.now in
    let levels = c.close-body.new.levels in
    let left = some_left _ (sym c.is_empty.ensures ∙ c.if-is_empty.false) in
    let some : 0 < length levels.items = omega (arith, left, levels.ok.0) in
    let todo : m.driver.todo ≡ todo_of body levels.items =
    sym (ap (λ (k : Machine). k.driver.todo) c.self.view_is) ∙ ap (λ (b : List Stmt). todo_of b inside.levels.items) (sym c.as_slice.ensures)
    ∙ sym c.close-body.ensures.todo in
    let comes = front body levels.items some (c.close-body.ensures.settled some) in
    asks_limit m c.requires.open (ap is_nil todo ∙ comes.0)
    (omega (arith, c.if-self.true, ap (λ (k : Machine). k.steps) c.self.view_is, ap (λ (k : Machine). k.driver.count) c.self.view_is))

-- further turns of a loop were taken before
never : goal.In-None → ⊥
never c =
    let m = c.args.self.now in
    let inside = c.self.inside in
    let body = c.as_slice.result.now in
    let levels = c.close-body.new.levels in
    let left = some_left _ (sym c.is_empty.ensures ∙ c.if-is_empty.false) in
    let some : 0 < length levels.items = omega (arith, left, levels.ok.0) in
    let todo : m.driver.todo ≡ todo_of body levels.items =
    sym (ap (λ (k : Machine). k.driver.todo) c.self.view_is) ∙ ap (λ (b : List Stmt). todo_of b inside.levels.items) (sym c.as_slice.ensures)
    ∙ sym c.close-body.ensures.todo in
    let comes = front body levels.items some (c.close-body.ensures.settled some) in
    let none = ap₂ (λ (b : List Stmt) (ls : List Level). stmt_next (spot_of b ls)) (c.as_slice.ensures ∙ sym c.as_slice-2.ensures)
    (sym c.as_slice-3.ensures.value) ∙ sym c.in-None.ensures in
    let room : m.driver.count < m.steps =
    omega (arith, c.if-self.false, ap (λ (k : Machine). k.steps) c.self.view_is, ap (λ (k : Machine). k.driver.count) c.self.view_is) in
    both_ways (is_quiet m.driver.todo) (c.requires.settled room) (ap is_quiet todo ∙ comes.1 none)

pub returns-in-None-clause-ask : goal.returns-in-None-clause-ask
returns-in-None-clause-ask c = absurd (never c)

pub returns-in-None-clause-ok : goal.returns-in-None-clause-ok
returns-in-None-clause-ok c = absurd (never c)

pub returns-in_ok-ask-in-Some-clause-ask : goal.returns-in_ok-ask-in-Some-clause-ask
returns-in_ok-ask-in-Some-clause-ask c =
    let m = c.args.self.now in
    let inside = c.self.inside in
    let stmt = c.in-Some.stmt.now in
    let levels = c.close-body.new.levels in
    let todo : m.driver.todo ≡ Run stmt ∷ todo_of c.as_slice-in-Some-2.result.now c.skip_first.new.levels.items =
    sym (ap (λ (k : Machine). k.driver.todo) c.self.view_is) ∙ ap (λ (b : List Stmt). todo_of b inside.levels.items) (sym c.as_slice.ensures)
    ∙ sym c.close-body.ensures.todo
    ∙ ap (λ (b : List Stmt). todo_of b levels.items) (c.as_slice.ensures ∙ sym c.as_slice-in-Some-2.ensures) ∙ sym c.skip_first.ensures.todo in
    let room : m.driver.count < m.steps =
    omega (arith, c.if-self.false, ap (λ (k : Machine). k.steps) c.self.view_is, ap (λ (k : Machine). k.driver.count) c.self.view_is) in
    c.in_ok-ask-in-Some.ensures
    ∙ ap₂ (λ (scalars : List ℤ) (spans : List Span). stmt_ask scalars spans (out-Stmt stmt))
    (c.as_slice-scalars.ensures.value ∙ ap (λ (k : Machine). k.driver.scalars) c.self.view_is)
    (c.as_slice-in-Some.ensures.value ∙ ap (λ (k : Machine). k.spans) c.self.view_is)
    ∙ asks_stmt m _ stmt c.requires.open todo room
