use Rattle.std.proofs.Common.{◌∙◌, ◌&&◌, Bool, ap, if◌then◌else◌, refl, sym}
use Rattle.nim_history.specs.InTurn.{is_reset}
use Rattle.std.proofs.lemmas.List.{nil_from_length}
use Rattle.nim_cluster.proofs.Answered.{when_ok}
use Rattle.nim_cluster.proofs.Links.{ordered_node, unordered_node}
use Rattle.nim_cluster.proofs.node.Node.take_order.Goals as goal

pub returns-in-Some : goal.returns-in-Some
returns-in-Some c = λ number node is.
    let old = c.args.self.now in
    when_ok c.on_message.result (c.on_message.ensures.stands node.happened old.batch is.core) (λ ok stands.
    ordered_node number old (record old { orders = c.pop_front.new.self; core = c.on_message.new.self }) node c.in-Some.order is c.in-Some.ensures.items
    (record {
      stands = stands;
      stale = c.on_message.ensures.stale ∙ ap (λ (b : Bool). if b && is_reset c.in-Some.order then old.core.busy else old.core.stale) ok;
      worker = c.on_message.ensures.worker;
    })
    refl refl refl refl)

pub returns-in-None : goal.returns-in-None
returns-in-None c = λ number node is.
    let old = c.args.self.now in
    unordered_node number old (record old { orders = c.pop_front.new.self }) node is
    (nil_from_length old.orders.items (sym old.orders.ok.0 ∙ c.in-None.ensures.cases.0))
    (record { core = refl; batch = refl; orders = sym c.in-None.ensures.items; reports = refl; frames = refl; waits = refl })
