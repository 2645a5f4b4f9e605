use Rattle.std.proofs.Common.{Result, refl, ◌∙◌}
use Rattle.std.specs.Prelude.{OnOk}
use Rattle.std.proofs.lemmas.List.{length-replicate}
use Rattle.nim_base.specs.declared.memory.NoMemory.{NoMemory}
use Rattle.nim_lockstep.specs.Cluster.{ClusterState, new_node, unbegun}
use Rattle.nim_lockstep.specs.Events.{HasTurned}
use Rattle.nim_cluster.specs.Stands.{ClusterStands}
use Rattle.nim_cluster.specs.declared.cluster.Cluster.{Cluster}
use Rattle.nim_cluster.proofs.Answered.{of_given, of_kept}
use Rattle.nim_cluster.proofs.cluster.Cluster.new.Goals as goal

pub returns : goal.returns
returns c =
    let first = unbegun c.args.job c.args.setup in
    let Turns : Cluster → Result (Unit {0}) NoMemory → Type 0 = λ cluster result.
    OnOk result ((t : ClusterState) × (HasTurned first t × ClusterStands cluster t)) in
    of_kept Turns _ c.turn-turned.result _ c.in_ok-cluster.ensures.kept
    (c.turn-turned.ensures.turned first
    (record {
      whole = refl;
      job = refl;
      setup = refl;
      control = c.in_ok-control-2.ensures.kept.0 ∙ c.in_ok-control.ensures;
      count = length-replicate c.args.setup.workers (new_node c.args.setup.workers);
      nodes = of_given _ _ _ c.in_ok-control-2.ensures.kept.1 c.new_nodes.ensures;
      trace = c.new-2.ensures.items;
      given = c.new-3.ensures.items;
    }))
