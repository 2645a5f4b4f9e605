use Rattle.std.proofs.Common.{◌∙◌, [], Option, ap, sym, subst, arith, false}
use Rattle.nim_history.specs.History.{WorkerState, state_of}
use Rattle.nim_worker.specs.declared.room.Room.{Room}
use Rattle.nim_worker.specs.declared.worker.WorkerCore.{WorkerCore}
use Rattle.nim_worker.specs.Stands.{HasState, IsAtWork, IsOut, after_completions, tickets_of}
use Rattle.nim_worker.proofs.Finished.{stands_finished}
use Rattle.nim_worker.proofs.worker.WorkerCore.end.Goals as goal

-- what a core has doesn't depend on whether a batch is out, or on the room that there is
has_busy : (core : WorkerCore) (state : WorkerState) → HasState core state → HasState (record core { busy = false }) state
has_busy core state has = record {
  failed = has.failed;
  session = record { begun = has.session.begun; epoch = has.session.epoch; shapes = has.session.shapes; installed = has.session.installed };
  admitted = has.admitted;
  inbox = has.inbox;
}

has_room : (core : WorkerCore) (room : Option Room) (state : WorkerState) → HasState core state → HasState (record core { room = room }) state
has_room core room state has = record {
  failed = has.failed;
  session = record { begun = has.session.begun; epoch = has.session.epoch; shapes = has.session.shapes; installed = has.session.installed };
  admitted = has.admitted;
  inbox = has.inbox;
}

pub returns-clause-stands : goal.returns-clause-stands
returns-clause-stands c = λ history stands.
    let old = c.args.self.now in
    let works = c.args.batch.works.items in
    let state = state_of history in
    let ok = c.in_ok-outs.ensures in
    let rest = c.put_back.ensures.rest in
    let out = subst (λ s. IsOut old s c.args.batch state) c.if-self.false stands.at.out in
    let has = has_busy old state stands.at.has in
    let at : IsAtWork (record old { busy = false }) works state = record { may = out.0.may; chain = out.0.chain } in
    let after = after_completions state (tickets_of works) in
    let work = ok.work state has at in
    stands_finished old c.put_back.new.self c.args.batch history c.in_ok-outs.outs.items stands c.if-self.false
    (record {
      has =
          subst (λ (core : WorkerCore). HasState core after) (sym rest) (has_room c.complete_all.new.self c.put_back.new.self.room after (ok.at state has at));
      work = subst (λ (core : WorkerCore). IsAtWork core [] after) (sym rest) (record { may = work.may; chain = work.chain });
      gave = ok.outs state has at;
    })
    (ap (λ (core : WorkerCore). core.busy) rest ∙ ok.busy)
    (ap (λ (core : WorkerCore). core.stale) rest ∙ ok.stale ∙ c.if-self.false)
    (λ begun.
    let room = out.1 (sym ok.begun ∙ sym (ap (λ (core : WorkerCore). core.begun) rest) ∙ begun) in
    c.put_back.ensures.room (omega (arith, ok.room, room.works)) (omega (arith, ok.count, room.inputs, c.args.batch.works.ok.0, c.args.batch.spare.ok.0)))
