use Rattle.std.proofs.Common.{◌∙◌, ap, refl, sym}
use Rattle.nim_worker.specs.declared.admitted.Ended.{Ended}
use Rattle.nim_worker.specs.Stands.{begun_of, tickets_of}
use Rattle.nim_worker.specs.Works.{begun_as}
use Rattle.nim_base.proofs.Lists.{ok_more}
use Rattle.nim_worker.proofs.Finished.{first_out}
use Rattle.nim_worker.proofs.FirstDone.{chain_out, ended_same, given_then, has_then, work_then}
use Rattle.nim_worker.proofs.worker.WorkerCore.complete_one.Goals as goal

pub returns-in-Some-clause-at : goal.returns-in-Some-clause-at
returns-in-Some-clause-at c = λ state works has at.
    let first = first_out c.args.self.now c.args.work works state at in
    let ended = ended_same state.session.groups state.ran c.args.work.ticket first.asked c.in-Some.ended first.found
    (sym c.in-Some.is ∙ c.complete.ensures.ended state.session.groups state.ran has.admitted first.within first.waiting) in
    ok_more c.leave.result
    (c.leave.ensures.left state first.asked (begun_as c.args.work.ticket first.asked.command.kind)
    (begun_of state.session.groups (tickets_of works)) works has.inbox
    (ap (λ (e : Ended). e.command) ended) (ap (λ (e : Ended). e.head) ended) refl (chain_out c.args.self.now state c.args.work works first has))
    (has_then c.args.self.now c.leave.new.self c.complete.new.self state c.args.work works c.args.outs.now.items c.leave.new.outs.items c.in-Some.ended.through
    first has
    c.leave.ensures.rest (c.complete.ensures.stands state.session.groups state.ran has.admitted first.within first.waiting))

pub returns-in-Some-clause-works : goal.returns-in-Some-clause-works
returns-in-Some-clause-works c = λ state works has at.
    let first = first_out c.args.self.now c.args.work works state at in
    let ended = ended_same state.session.groups state.ran c.args.work.ticket first.asked c.in-Some.ended first.found
    (sym c.in-Some.is ∙ c.complete.ensures.ended state.session.groups state.ran has.admitted first.within first.waiting) in
    ok_more c.leave.result
    (c.leave.ensures.left state first.asked (begun_as c.args.work.ticket first.asked.command.kind)
    (begun_of state.session.groups (tickets_of works)) works has.inbox
    (ap (λ (e : Ended). e.command) ended) (ap (λ (e : Ended). e.head) ended) refl (chain_out c.args.self.now state c.args.work works first has))
    (work_then c.args.self.now c.leave.new.self state c.args.work works c.args.outs.now.items c.leave.new.outs.items c.in-Some.ended.through first has)

pub returns-in-Some-clause-outs : goal.returns-in-Some-clause-outs
returns-in-Some-clause-outs c = λ state works has at.
    let first = first_out c.args.self.now c.args.work works state at in
    let ended = ended_same state.session.groups state.ran c.args.work.ticket first.asked c.in-Some.ended first.found
    (sym c.in-Some.is ∙ c.complete.ensures.ended state.session.groups state.ran has.admitted first.within first.waiting) in
    ok_more c.leave.result
    (c.leave.ensures.left state first.asked (begun_as c.args.work.ticket first.asked.command.kind)
    (begun_of state.session.groups (tickets_of works)) works has.inbox
    (ap (λ (e : Ended). e.command) ended) (ap (λ (e : Ended). e.head) ended) refl (chain_out c.args.self.now state c.args.work works first has))
    (given_then c.args.self.now c.leave.new.self state c.args.work works c.args.outs.now.items c.leave.new.outs.items c.in-Some.ended.through first
    (ap (λ (e : Ended). e.through) ended))
