use Rattle.std.proofs.Common.{◌≡◌, ◌∙◌, Bool, Some, subst, sym}
use Rattle.std.specs.Prelude.{IfSome}
use Rattle.nim_order.specs.Progress.{is_one_of}
use Rattle.nim_queue.specs.Stands.{ready_of}
use Rattle.nim_history.specs.History.{asked_at, has_frame, state_of}
use Rattle.nim_worker.proofs.Begun.{begins_none}
use Rattle.nim_worker.proofs.Ready.{next_is, one_released, walked_by, walked_past}
use Rattle.nim_worker.proofs.Walk.{walk_begins}
use Rattle.nim_worker.proofs.worker.WorkerCore.is_ready.Goals as goal

pub loop-ticket-init : goal.loop-ticket-init
loop-ticket-init c = λ history stands.
    walk_begins (state_of history) 1 c.args.self.now (begins_none c.args.self.now (state_of history) stands.at.has stands.at.out.1.slots)

pub returns-then-has_frame : goal.returns-then-has_frame
returns-then-has_frame c = λ history stands.
    let state = state_of history in
    let walked = c.loop-ticket.invariant history stands in
    let ready : ready_of state.session.groups (is_one_of state.ran) c.loop-ticket.after ≡ Some c.in-Some.ticket =
    sym (c.ready.ensures.first state.session.groups state.ran walked.begins.has.admitted) ∙ c.in-Some.is in
    let next = next_is state c.loop-ticket.after c.in-Some.ticket ready in
    sym (one_released state c.in-Some.ticket next
    (subst (λ (b : Bool). IfSome (asked_at state.session.groups c.in-Some.ticket) (λ asked. b ≡ has_frame state asked)) c.if-has_frame.true
    (c.has_frame.ensures state walked.begins.has next.waiting)))

pub loop-ticket-preserved : goal.loop-ticket-preserved
loop-ticket-preserved c = λ history stands.
    let state = state_of history in
    let walked = c.loop-ticket.invariant history stands in
    let ready : ready_of state.session.groups (is_one_of state.ran) c.loop-ticket.after ≡ Some c.in-Some.ticket =
    sym (c.ready.ensures.first state.session.groups state.ran walked.begins.has.admitted) ∙ c.in-Some.is in
    let next = next_is state c.loop-ticket.after c.in-Some.ticket ready in
    walked_by state c.loop-ticket.after c.in-Some.ticket c.args.self.now walked ready next
    (subst (λ (b : Bool). IfSome (asked_at state.session.groups c.in-Some.ticket) (λ asked. b ≡ has_frame state asked)) c.if-has_frame.false
    (c.has_frame.ensures state walked.begins.has next.waiting))

pub returns : goal.returns
returns c = λ history stands.
    let state = state_of history in
    let walked = c.loop-ticket.invariant history stands in
    sym (walked_past state c.loop-ticket.after c.args.self.now walked
    (sym (c.ready.ensures.first state.session.groups state.ran walked.begins.has.admitted) ∙ c.in_default.is))
