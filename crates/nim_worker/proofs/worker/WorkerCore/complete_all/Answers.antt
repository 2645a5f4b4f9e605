use Rattle.std.proofs.Common.{◌≡◌, ◌∙◌, List, [], ◌∷◌, length, reverse, Box, Global, ap, sym, subst, arith}
use Rattle.std.proofs.lemmas.List.{length_push, reverse-append}
use Rattle.std.proofs.lemmas.List.Elements.{All-push}
use Rattle.nim_worker.specs.declared.batch.Work.{Work}
use Rattle.nim_worker.specs.declared.inputs.Inputs.{Inputs}
use Rattle.nim_worker.specs.Inputs.{AreIdle, IsIdle}
use Rattle.nim_worker.proofs.Finished.{AreCompleted, one_completed}
use Rattle.nim_worker.proofs.worker.WorkerCore.complete_all.Goals as goal

pub loop-work-preserved : goal.loop-work-preserved
loop-work-preserved c =
    let inv = c.loop-work.invariant in
    let left : List Work = reverse c.pop.new.self.items in
    let next : reverse c.loop-work.works.items ≡ c.in-Some.work ∷ left =
    ap reverse c.in-Some.ensures.items ∙ reverse-append c.pop.new.self.items (c.in-Some.work ∷ []) in
    let one = c.in_ok-inputs.ensures in
    record {
      done = λ state has at.
          one_completed state c.args.works.now.items left c.in-Some.work c.loop-work.outs.items c.complete_one.new.outs.items c.loop-work.self
          c.complete_one.new.self
          (subst (λ (works : List Work). AreCompleted state c.args.works.now.items works c.loop-work.outs.items c.loop-work.self) next (inv.done state has at))
          (λ s h a. one.at s left h a) (λ s h a. one.works s left h a) (λ s h a. one.outs s left h a);
      idle = λ all.
          subst AreIdle (sym c.in_ok-push.ensures.items)
          (All-push (λ (inputs : Box Inputs Global). IsIdle inputs.value) c.loop-work.spare.items c.in_ok-inputs.inputs (inv.idle all) one.idle);
      count = omega (
        arith,
        inv.count,
        c.loop-work.works.ok.0,
        c.pop.new.self.ok.0,
        ap length c.in-Some.ensures.items,
        length_push c.pop.new.self.items
            c.in-Some.work,
        c.in_ok-push.ensures.len,
      );
      room = c.in-Some.ensures.capacity ∙ inv.room;
      busy = one.busy ∙ inv.busy;
      stale = one.stale ∙ inv.stale;
      begun = one.begun ∙ inv.begun;
      worker = one.worker ∙ inv.worker;
    }
