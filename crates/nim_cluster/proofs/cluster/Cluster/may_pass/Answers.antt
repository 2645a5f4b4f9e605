use Rattle.std.proofs.Common.{◌≡◌, ◌∙◌, ◌≤◌, Bool, Some, List, ap, length, slice_get, subst, sym}
use Rattle.std.specs.Prelude.{◌&&◌}
use Rattle.nim_cluster.specs.declared.node.Node.{Node}
use Rattle.nim_schedule.specs.declared.event.Event.TheVariants.{Data}
use Rattle.nim_cluster.proofs.Events.{enabled_nowhere, enabled_there, going_on}
use Rattle.nim_cluster.proofs.Nodes.{got}
use Rattle.nim_cluster.proofs.cluster.Cluster.may_pass.Goals as goal

pub returns-then-has_frame : goal.returns-then-has_frame
returns-then-has_frame c = λ s stands.
    let cluster = c.args.self.now in
    let node = c.in-Some.node.now in
    let found = c.in-Some.ensures.lookup in
    let here : slice_get cluster.nodes.items c.args.to ≡ Some node =
    subst (λ (all : List Node). slice_get all c.args.to ≡ Some node) c.deref.ensures.value (got c.deref.result.now c.args.to node found.3.0 found.1) in
    c.goes_on.ensures ∙ ap (going_on cluster) c.worker.ensures
    ∙ ap (λ (b : Bool). b && going_on cluster node.core.worker) (sym c.if-has_frame.true)
    ∙ enabled_there cluster s (Data c.args.from c.args.to) node c.has_frame.result stands here
    c.has_frame.ensures

pub returns-else-has_frame : goal.returns-else-has_frame
returns-else-has_frame c = λ s stands.
    let cluster = c.args.self.now in
    let node = c.in-Some.node.now in
    let found = c.in-Some.ensures.lookup in
    let here : slice_get cluster.nodes.items c.args.to ≡ Some node =
    subst (λ (all : List Node). slice_get all c.args.to ≡ Some node) c.deref.ensures.value (got c.deref.result.now c.args.to node found.3.0 found.1) in
    c.if-has_frame.false ∙ ap (λ (b : Bool). b && going_on cluster node.core.worker) (sym c.if-has_frame.false)
    ∙ enabled_there cluster s (Data c.args.from c.args.to) node c.has_frame.result stands here
    c.has_frame.ensures

pub returns-in-None : goal.returns-in-None
returns-in-None c = λ s stands.
    let cluster = c.args.self.now in
    let past = subst (λ (all : List Node). length all ≤ c.args.to) c.deref.ensures.value c.in-None.ensures.lookup.3 in
    enabled_nowhere cluster s (Data c.args.from c.args.to) stands past
