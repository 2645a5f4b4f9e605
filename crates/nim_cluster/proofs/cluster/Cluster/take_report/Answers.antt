use Rattle.std.proofs.Common.{◌≡◌, ◌∙◌, ◌<◌, Some, ap, arith, length, refl, slice_get, subst, sym}
use Rattle.std.specs.Vec.{with_item}
use Rattle.nim_base.specs.declared.number.Worker.{Worker}
use Rattle.nim_schedule.specs.declared.event.Event.TheVariants.{Report}
use Rattle.nim_course.specs.Controller.{Controller}
use Rattle.nim_course.specs.Reports.{after_report}
use Rattle.nim_lockstep.specs.Events.{passed}
use Rattle.nim_cluster.specs.declared.node.Node.{Node}
use Rattle.nim_cluster.specs.Stands.{ClusterStands, queued_frames}
use Rattle.nim_cluster.proofs.Events.{reported, reported_nobody, unreported}
use Rattle.nim_cluster.proofs.Links.{reported_node, same_node}
use Rattle.nim_cluster.proofs.Nodes.{got, same_got}
use Rattle.nim_cluster.proofs.cluster.Cluster.take_report.Goals as goal

pub returns-clause-stands : goal.returns-clause-stands
returns-clause-stands c = λ s stands.
    let old = c.args.self.now in
    let kept = c.index_mut.result.now in
    let new = c.take_report.new.self in
    let below : c.args.worker < length old.nodes.items = omega (arith, c.if-index-len.false, c.len.ensures, old.nodes.ok.0) in
    let at : slice_get old.nodes.items c.args.worker ≡ Some kept = got old.nodes.items c.args.worker kept below c.index_mut.ensures.value in
    let same = same_got old.nodes.items c.args.worker c.index.result.now kept below c.index.ensures c.index_mut.ensures.value in
    let control : c.on_report.new.self ≡ after_report old.control kept.core.worker c.in-Some.report =
    c.on_report.ensures ∙ ap (λ (w : Worker). after_report old.control w c.in-Some.report) (c.worker-from.ensures ∙ ap (λ (n : Node). n.core.worker) same) in
    subst (λ (k : Controller). ClusterStands (record old { nodes = with_item old.nodes c.args.worker new; control = k }) (passed s (Report c.args.worker)))
    (sym control)
    (reported old (with_item old.nodes c.args.worker new) s c.args.worker kept new c.in-Some.report new.reports.items stands at c.in-Some.ensures.took refl
    (λ node is. reported_node c.args.worker kept new node is c.take_report.ensures.rest))

pub returns-in_default-clause-stands : goal.returns-in_default-clause-stands
returns-in_default-clause-stands c = λ s stands.
    let old = c.args.self.now in
    let kept = c.index_mut.result.now in
    let new = c.take_report.new.self in
    let below : c.args.worker < length old.nodes.items = omega (arith, c.if-index-len.false, c.len.ensures, old.nodes.ok.0) in
    let at : slice_get old.nodes.items c.args.worker ≡ Some kept = got old.nodes.items c.args.worker kept below c.index_mut.ensures.value in
    let rest = c.take_report.ensures.rest in
    unreported old (with_item old.nodes c.args.worker new) s c.args.worker kept new stands at c.in_default.ensures.took.0 refl
    (λ node is. same_node c.args.worker kept new node is (record {
      core = ap (λ (n : Node). n.core) rest;
      batch = ap (λ (n : Node). n.batch) rest;
      orders = ap (λ (n : Node). n.orders.items) rest;
      reports = c.in_default.ensures.took.1 ∙ sym c.in_default.ensures.took.0;
      frames = ap (λ (n : Node). queued_frames n.frames.items) rest;
      waits = ap (λ (n : Node). n.frames_wait) rest;
    }))

pub returns-then-index-len-clause-stands : goal.returns-then-index-len-clause-stands
returns-then-index-len-clause-stands c = λ s stands.
    let old = c.args.self.now in
    reported_nobody old s c.args.worker stands (omega (arith, c.if-index-len.true, c.len.ensures, old.nodes.ok.0))
