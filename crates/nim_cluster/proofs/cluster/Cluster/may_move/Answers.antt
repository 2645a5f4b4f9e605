use Rattle.std.proofs.Common.{◌≡◌, ◌∙◌, ◌≤◌, ℕ, Bool, Some, List, ap, length, slice_get, subst, sym}
use Rattle.std.specs.Prelude.{◌&&◌}
use Rattle.nim_cluster.specs.declared.node.Node.{Node}
use Rattle.nim_cluster.specs.Runs.{event_of}
use Rattle.nim_cluster.proofs.Events.{enabled_nowhere, enabled_there, going_on, number_of}
use Rattle.nim_cluster.proofs.Nodes.{got}
use Rattle.nim_cluster.proofs.cluster.Cluster.may_move.Goals as goal

pub returns-then-is_open : goal.returns-then-is_open
returns-then-is_open c = λ s stands.
    let cluster = c.args.self.now in
    let node = c.in-Some.node.now in
    let found = c.in-Some.ensures.lookup in
    let here : slice_get cluster.nodes.items c.args.worker ≡ Some node =
    subst (λ (all : List Node). slice_get all c.args.worker ≡ Some node) c.deref.ensures.value (got c.deref.result.now c.args.worker node found.3.0 found.1) in
    c.goes_on.ensures ∙ ap (going_on cluster) c.worker.ensures
    ∙ ap (λ (b : Bool). b && going_on cluster node.core.worker) (sym c.if-is_open.true)
    ∙ enabled_there cluster s (event_of c.args.kind c.args.worker) node c.is_open.result stands
    (subst (λ (n : ℕ). slice_get cluster.nodes.items n ≡ Some node) (sym (number_of c.args.kind c.args.worker)) here)
    (λ number state is. c.is_open.ensures number state is c.args.worker)

pub returns-else-is_open : goal.returns-else-is_open
returns-else-is_open c = λ s stands.
    let cluster = c.args.self.now in
    let node = c.in-Some.node.now in
    let found = c.in-Some.ensures.lookup in
    let here : slice_get cluster.nodes.items c.args.worker ≡ Some node =
    subst (λ (all : List Node). slice_get all c.args.worker ≡ Some node) c.deref.ensures.value (got c.deref.result.now c.args.worker node found.3.0 found.1) in
    c.if-is_open.false ∙ ap (λ (b : Bool). b && going_on cluster node.core.worker) (sym c.if-is_open.false)
    ∙ enabled_there cluster s (event_of c.args.kind c.args.worker) node c.is_open.result stands
    (subst (λ (n : ℕ). slice_get cluster.nodes.items n ≡ Some node) (sym (number_of c.args.kind c.args.worker)) here)
    (λ number state is. c.is_open.ensures number state is c.args.worker)

pub returns-in-None : goal.returns-in-None
returns-in-None c = λ s stands.
    let cluster = c.args.self.now in
    let past = subst (λ (all : List Node). length all ≤ c.args.worker) c.deref.ensures.value c.in-None.ensures.lookup.3 in
    enabled_nowhere cluster s (event_of c.args.kind c.args.worker) stands
    (subst (λ (n : ℕ). length cluster.nodes.items ≤ n) (sym (number_of c.args.kind c.args.worker)) past)
