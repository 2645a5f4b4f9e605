use Rattle.std.proofs.Common.{◌≡◌, ◌∙◌, ◌≤◌, ℕ, Bool, Some, List, ap, length, slice_get, subst, sym}
use Rattle.std.specs.Prelude.{◌&&◌}
use Rattle.nim_cluster.specs.declared.node.Node.{Node}
use Rattle.nim_cluster.specs.Steps.{number_in}
use Rattle.nim_cluster.proofs.Events.{enabled_nowhere, enabled_there, going_on}
use Rattle.nim_cluster.proofs.Nodes.{got}
use Rattle.nim_cluster.proofs.cluster.Cluster.is_enabled.Goals as goal

pub returns-then-may_take : goal.returns-then-may_take
returns-then-may_take c = λ s stands.
    let cluster = c.args.self.now in
    let node = c.in-Some.node.now in
    let found = c.in-Some.ensures.lookup in
    let at : slice_get cluster.nodes.items (number_in c.args.event.now) ≡ Some node =
    subst (λ (n : ℕ). slice_get cluster.nodes.items n ≡ Some node) c.number_in.ensures
    (subst (λ (all : List Node). slice_get all c.number_in.result ≡ Some node) c.deref.ensures.value
    (got c.deref.result.now c.number_in.result node found.3.0 found.1)) in
    c.goes_on.ensures ∙ ap (going_on cluster) c.worker.ensures
    ∙ ap (λ (b : Bool). b && going_on cluster node.core.worker) (sym c.if-may_take.true)
    ∙ enabled_there cluster s c.args.event.now node c.may_take.result stands at c.may_take.ensures

pub returns-else-may_take : goal.returns-else-may_take
returns-else-may_take c = λ s stands.
    let cluster = c.args.self.now in
    let node = c.in-Some.node.now in
    let found = c.in-Some.ensures.lookup in
    let at : slice_get cluster.nodes.items (number_in c.args.event.now) ≡ Some node =
    subst (λ (n : ℕ). slice_get cluster.nodes.items n ≡ Some node) c.number_in.ensures
    (subst (λ (all : List Node). slice_get all c.number_in.result ≡ Some node) c.deref.ensures.value
    (got c.deref.result.now c.number_in.result node found.3.0 found.1)) in
    c.if-may_take.false ∙ ap (λ (b : Bool). b && going_on cluster node.core.worker) (sym c.if-may_take.false)
    ∙ enabled_there cluster s c.args.event.now node c.may_take.result stands at c.may_take.ensures

pub returns-in-None : goal.returns-in-None
returns-in-None c = λ s stands.
    let cluster = c.args.self.now in
    let found = c.in-None.ensures.lookup in
    enabled_nowhere cluster s c.args.event.now stands
    (subst (λ (n : ℕ). length cluster.nodes.items ≤ n) c.number_in.ensures
    (subst (λ (all : List Node). length all ≤ c.number_in.result) c.deref.ensures.value found.3))
