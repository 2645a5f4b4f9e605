use Rattle.std.proofs.Common.{◌≡◌, ℕ, ◌++◌, length, List, refl, subst, IfOk, OnOk}
use Rattle.nim_command.specs.declared.template.WorkerTemplate.{WorkerTemplate}
use Rattle.nim_place.specs.Directed.{Directed}
use Rattle.nim_reuse.specs.declared.decided.Decided.TheVariants.{Installed, Open}
use Rattle.nim_reuse.specs.declared.reused.Reused.{Reused}
use Rattle.nim_reuse.specs.Decisions.{Decisions}
use Rattle.nim_reuse.specs.Reuse.{awaited_of, decisions_at, decisions_by, patch_key_at, orders_at, orders_by, patched_by, reused_at, template_at}
use Rattle.nim_reuse.proofs.Steps.{set_again}
use Rattle.nim_reuse.proofs.decisions.DecisionMap.reuse.Goals as goal

template_is : (c : goal.After-give)
    → c.in_ok-ready.ready ≡ template_at c.args.place.now c.args.live.now c.args.at.now c.args.map.now c.args.self.now
template_is c = rw (c.in_ok-ready.ensures, c.objects.ensures, c.take-decided.ensures.decided) refl

pub returns-clause-orders : goal.returns-clause-orders
returns-clause-orders c =
    let same : orders_by (length c.args.live.now) c.args.at.now c.args.args.now c.is_new-is_new.result
    (patched_by (patch_key_at c.take-decided.new.self c.args.at.now.block) c.args.map.now c.take-decided.new.self.patches c.in_ok-ready.ready)
    c.args.map.now c.in_ok-ready.ready
    ≡ orders_at c.args.place.now c.args.live.now c.args.at.now c.args.args.now c.args.map.now c.args.self.now =
    rw (c.is_new-is_new.ensures, c.take-decided.ensures.left, template_is c, c.take-decided.ensures.decided) refl in
    subst (λ (os : List Directed). OnOk c.give.result (c.give.new.orders.items ≡ c.args.orders.now.items ++ os)) same c.give.ensures.orders

pub returns-clause-reused : goal.returns-clause-reused
returns-clause-reused c =
    let given : Reused = record {
      awaited = awaited_of (length c.args.live.now) c.in_ok-ready.ready;
      is_new = c.is_new-is_new.result;
      patched =
          patched_by (patch_key_at c.take-decided.new.self c.args.at.now.block) c.args.map.now c.take-decided.new.self.patches c.in_ok-ready.ready;
    } in
    let same : given ≡ reused_at c.args.place.now c.args.live.now c.args.at.now c.args.map.now c.args.self.now =
    rw (c.is_new-is_new.ensures, c.take-decided.ensures.left, template_is c, c.take-decided.ensures.decided) refl in
    subst (λ (r : Reused). IfOk c.give.result (λ (reused : Reused). reused ≡ r)) same c.give.ensures.reused

pub returns-clause-decisions : goal.returns-clause-decisions
returns-clause-decisions c =
    let block : ℕ = c.args.at.now.block in
    let template : WorkerTemplate = template_at c.args.place.now c.args.live.now c.args.at.now c.args.map.now c.args.self.now in
    let same : decisions_by block
    (patched_by (patch_key_at c.take-decided.new.self block) c.args.map.now c.take-decided.new.self.patches c.in_ok-ready.ready)
    c.args.map.now c.in_ok-ready.ready c.take-decided.new.self
    ≡ decisions_at c.args.place.now c.args.live.now c.args.at.now c.args.map.now c.args.self.now =
    rw (c.take-decided.ensures.left, template_is c, set_again c.args.self.now.blocks block Open (Installed template)) refl in
    subst (λ (decisions : Decisions). OnOk c.give.result (c.give.new.self ≡ decisions)) same c.give.ensures.decisions
