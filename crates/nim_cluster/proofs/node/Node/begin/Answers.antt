use Rattle.std.proofs.Common.{Option, refl, subst}
use Rattle.nim_place.specs.Extends.{worker_of}
use Rattle.nim_worker.specs.declared.batch.Batch.{Batch}
use Rattle.nim_worker.specs.Stands as worker
use Rattle.nim_cluster.proofs.Links.{begin_none, begun_node, none_out}
use Rattle.nim_cluster.proofs.node.Node.begin.Goals as goal

pub returns-then-not-busy : goal.returns-then-not-busy
returns-then-not-busy c = λ number node is may.
    let old = c.args.self.now in
    let none = none_out (worker_of number) old.core.stale old.batch node.batch is.batch (begin_none c.args.most node may) in
    let stands = subst (λ (out : Option Batch). worker.CoreStands old.core out node.happened) none is.core in
    begun_node number c.args.most old _ c.begin.result node is none
    (record {
      stands = c.begin.ensures.stands node.happened stands;
      taken = c.begin.ensures.taken node.happened stands;
      runs = c.begin.ensures.runs node.happened stands;
      epoch = c.begin.ensures.epoch;
      stale = c.begin.ensures.stale;
      worker = c.begin.ensures.worker;
    })
    refl refl refl refl refl
