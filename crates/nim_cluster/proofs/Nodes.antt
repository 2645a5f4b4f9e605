-- Workers of a cluster, one by one, and what a cluster stands for once something changed at one of them.
use Rattle.std.proofs.Common.{◌≡◌, ℕ, zero, suc, ◌+◌, ◌<◌, ◌≤◌, List, [], ◌∷◌, ◌++◌, get_or, length, refl, ap, sym, subst, ◌∙◌, arith, Option, None, Some, Global, Vec}
use Rattle.std.specs.Prelude.{OnOk, Result, Ok, Err, slice_get, slice_set}
use Rattle.std.specs.Option.{option_map_or}
use Rattle.std.proofs.lemmas.List.{length-set, nil_from_length}
use Rattle.nim_lockstep.specs.Cluster.{ClusterState, Node}
use Rattle.nim_lockstep.specs.Events.{at_node}
use Rattle.nim_cluster.specs.declared.cluster.Cluster.{Cluster}
use Rattle.nim_cluster.specs.declared.node.Node.{Node as kept_node}
use Rattle.nim_cluster.specs.Stands.{AreNodes, IsNode, ClusterStands}

-- ---- workers in a list

pub got : {X : Type 0} (xs : List X) (i : ℕ) (x : X) → i < length xs → x ≡ get_or xs i x → slice_get xs i ≡ Some x
got [] i x below is = absurd (omega (arith, below))
got (y ∷ ys) zero x below is = ap Some (sym is)
got (y ∷ ys) (suc i) x below is = got ys i x (omega (arith, below)) is

pub past : {X : Type 0} (xs : List X) (i : ℕ) → length xs ≤ i → slice_get xs i ≡ None
past [] i above = refl
past (x ∷ xs) zero above = absurd (omega (arith, above))
past (x ∷ xs) (suc i) above = past xs i (omega (arith, above))

pub same_got : {X : Type 0} (xs : List X) (i : ℕ) (x y : X) → i < length xs → x ≡ get_or xs i x → y ≡ get_or xs i y → x ≡ y
same_got xs i x y below here there =
    let same : Some x ≡ Some y = sym (got xs i x below here) ∙ got xs i y below there in cc

pub set_same : {X : Type 0} (xs : List X) (i : ℕ) (x : X) → slice_get xs i ≡ Some x → slice_set xs i x ≡ xs
set_same [] i x at = refl
set_same (y ∷ ys) zero x at = let same : x ≡ y = cc in cc
set_same (y ∷ ys) (suc i) x at = let rest = set_same ys i x at in cc

-- a worker has come to this
pub record HasNode (from i : ℕ) (kept : kept_node) (nodes : List Node) : Type 0 where
  pub node : Node
  pub there : slice_get nodes i ≡ Some node
  pub is : IsNode (from + i) kept node

node_from : (from i : ℕ) (kepts : List kept_node) (nodes : List Node) (kept : kept_node) → AreNodes from kepts nodes
    → slice_get kepts i ≡ Some kept → HasNode from i kept nodes
node_from from i [] nodes kept are at = absurd cc
node_from from i (k ∷ ks) [] kept are at = absurd are
node_from from zero (k ∷ ks) (n ∷ ns) kept are at =
    let same : k ≡ kept = cc in
    let here : from ≡ from + 0 = omega arith in
    record { node = n; there = refl; is = subst (λ (number : ℕ). IsNode number kept n) here (subst (λ (x : kept_node). IsNode from x n) same are.0) }
node_from from (suc i) (k ∷ ks) (n ∷ ns) kept are at =
    let rest = node_from (from + 1) i ks ns kept are.1 at in
    let next : from + 1 + i ≡ from + suc i = omega arith in
    record { node = rest.node; there = rest.there; is = subst (λ (number : ℕ). IsNode number kept rest.node) next rest.is }

pub node_at : (i : ℕ) (kepts : List kept_node) (nodes : List Node) (kept : kept_node) → AreNodes 0 kepts nodes
    → slice_get kepts i ≡ Some kept → (node : Node) × (slice_get nodes i ≡ Some node) × IsNode i kept node
node_at i kepts nodes kept are at =
    let found = node_from 0 i kepts nodes kept are at in
    let same : 0 + i ≡ i = omega arith in
    (found.node, found.there, subst (λ (number : ℕ). IsNode number kept found.node) same found.is)

pub same_length : (from : ℕ) (kepts : List kept_node) (nodes : List Node) → AreNodes from kepts nodes → length kepts ≡ length nodes
same_length from [] [] are = refl
same_length from [] (n ∷ ns) are = absurd are
same_length from (k ∷ ks) [] are = absurd are
same_length from (k ∷ ks) (n ∷ ns) are = ap suc (same_length (from + 1) ks ns are.1)

set_from : (from i : ℕ) (kepts : List kept_node) (nodes : List Node) (kept : kept_node) (node : Node) → AreNodes from kepts nodes
    → IsNode (from + i) kept node → AreNodes from (slice_set kepts i kept) (slice_set nodes i node)
set_from from i [] [] kept node are is = record {}
set_from from i [] (n ∷ ns) kept node are is = absurd are
set_from from i (k ∷ ks) [] kept node are is = absurd are
set_from from zero (k ∷ ks) (n ∷ ns) kept node are is =
    let here : from + 0 ≡ from = omega arith in (subst (λ (number : ℕ). IsNode number kept node) here is, are.1)
set_from from (suc i) (k ∷ ks) (n ∷ ns) kept node are is =
    let next : from + suc i ≡ from + 1 + i = omega arith in
    (are.0, set_from (from + 1) i ks ns kept node are.1 (subst (λ (number : ℕ). IsNode number kept node) next is))

pub nodes_set : (i : ℕ) (kepts : List kept_node) (nodes : List Node) (kept : kept_node) (node : Node) → AreNodes 0 kepts nodes
    → IsNode i kept node → AreNodes 0 (slice_set kepts i kept) (slice_set nodes i node)
nodes_set i kepts nodes kept node are is =
    let same : i ≡ 0 + i = omega arith in
    set_from 0 i kepts nodes kept node are (subst (λ (number : ℕ). IsNode number kept node) same is)

more_from : (from : ℕ) (kepts : List kept_node) (nodes : List Node) (kept : kept_node) (node : Node) → AreNodes from kepts nodes
    → IsNode (from + length kepts) kept node → AreNodes from (kepts ++ kept ∷ []) (nodes ++ node ∷ [])
more_from from [] [] kept node are is =
    let here : from + 0 ≡ from = omega arith in (subst (λ (number : ℕ). IsNode number kept node) here is, record {})
more_from from [] (n ∷ ns) kept node are is = absurd are
more_from from (k ∷ ks) [] kept node are is = absurd are
more_from from (k ∷ ks) (n ∷ ns) kept node are is =
    let next : from + suc (length ks) ≡ from + 1 + length ks = omega arith in
    (are.0, more_from (from + 1) ks ns kept node are.1 (subst (λ (number : ℕ). IsNode number kept node) next is))

-- one worker more
pub nodes_more : (number : ℕ) (kepts : List kept_node) (nodes : List Node) (kept : kept_node) (node : Node) → AreNodes 0 kepts nodes
    → length kepts ≡ number → IsNode number kept node → AreNodes 0 (kepts ++ kept ∷ []) (nodes ++ node ∷ [])
nodes_more number kepts nodes kept node are count is =
    let same : number ≡ 0 + length kepts = omega (arith, count) in
    more_from 0 kepts nodes kept node are (subst (λ (n : ℕ). IsNode n kept node) same is)

-- ---- a cluster

-- something changed at a worker
pub changed : (old : Cluster) (nodes : Vec kept_node Global) (s : ClusterState) (number : ℕ) (kept new : kept_node) (change : Node → Node)
    → ClusterStands old s → slice_get old.nodes.items number ≡ Some kept → nodes.items ≡ slice_set old.nodes.items number new
    → ((node : Node) → slice_get s.nodes number ≡ Some node → IsNode number kept node → IsNode number new (change node))
    → ClusterStands (record old { nodes = nodes }) (at_node change number s)
changed old nodes s number kept new change stands at is goes =
    let here = node_at number old.nodes.items s.nodes kept stands.nodes at in
    subst (λ (o : Option Node). ClusterStands (record old { nodes = nodes })
    (option_map_or (λ (node : Node). record s { nodes = slice_set s.nodes number (change node) }) o s)) (sym here.1)
    (record {
      whole = stands.whole;
      job = stands.job;
      setup = stands.setup;
      control = stands.control;
      count = length-set s.nodes number (change here.0) ∙ stands.count;
      nodes = subst (λ (kepts : List kept_node). AreNodes 0 kepts (slice_set s.nodes number (change here.0))) (sym is)
          (nodes_set number old.nodes.items s.nodes new (change here.0) stands.nodes (goes here.0 here.1 here.2));
      trace = stands.trace;
      given = stands.given;
    })

-- a worker took something, where memory wasn't refused
pub stands_at : {A E : Type 0} (r : Result A E) (old : Cluster) (nodes : Vec kept_node Global) (s : ClusterState) (number : ℕ) (kept new : kept_node)
    (change : Node → Node)
    → ClusterStands old s → number < length old.nodes.items → kept ≡ get_or old.nodes.items number kept → nodes.items ≡ slice_set old.nodes.items number new
    → ((n : ℕ) (node : Node) → IsNode n kept node → OnOk r (IsNode n new (change node)))
    → OnOk r (ClusterStands (record old { nodes = nodes }) (at_node change number s))
stands_at (Ok x) old nodes s number kept new change stands below at is goes =
    changed old nodes s number kept new change stands (got old.nodes.items number kept below at) is (λ node there node_is. goes number node node_is)
stands_at (Err e) old nodes s number kept new change stands below at is goes = tt

-- there is no such worker
pub nobody : (old : Cluster) (s : ClusterState) (number : ℕ) → ClusterStands old s → length old.nodes.items ≤ number → slice_get s.nodes number ≡ None
nobody old s number stands above =
    let same = same_length 0 old.nodes.items s.nodes stands.nodes in
    past s.nodes number (omega (arith, same, above))

pub unchanged : (old : Cluster) (s : ClusterState) (number : ℕ) (change : Node → Node) → ClusterStands old s → length old.nodes.items ≤ number
    → ClusterStands old (at_node change number s)
unchanged old s number change stands above =
    subst (λ (o : Option Node). ClusterStands old (option_map_or (λ (node : Node). record s { nodes = slice_set s.nodes number (change node) }) o s))
    (sym (nobody old s number stands above)) stands
