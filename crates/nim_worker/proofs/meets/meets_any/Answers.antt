use Rattle.std.proofs.Common.{◌≡◌, ◌∙◌, ℕ, false, add-one, ap, sym, take}
use Rattle.std.specs.List.{list_any}
use Rattle.nim_order.specs.Progress.{is_one_of}
use Rattle.nim_worker.specs.Stands.{tickets_of}
use Rattle.nim_worker.specs.Taken.{do_meet}
use Rattle.nim_worker.proofs.Meeting.{none_so_far, one_passes, ticket_within}
use Rattle.nim_worker.proofs.meets.meets_any.Goals as goal

pub returns-then-do_meet : goal.returns-then-do_meet
returns-then-do_meet c = λ groups ran admitted waiting here.
    let command = c.command-command.ensures groups ran admitted in
    let key = c.key_in-key.ensures groups ran admitted command here in
    let work = c.work-item.result in
    let index = c.loop-work.work-index in
    let there = ticket_within (λ (earlier : ℕ). is_one_of ran earlier ≡ false) c.args.works.now index work c.loop-work-test.true c.work-item.is waiting in
    sym (one_passes (λ (earlier : ℕ). do_meet groups earlier c.args.ticket) c.args.works.now index work c.loop-work-test.true c.work-item.is
    (sym (c.do_meet.ensures groups ran c.args.ticket admitted command key there here) ∙ c.if-do_meet.true))

pub loop-work-preserved : goal.loop-work-preserved
loop-work-preserved c = λ groups ran admitted waiting here.
    let command = c.command-command.ensures groups ran admitted in
    let key = c.key_in-key.ensures groups ran admitted command here in
    let work = c.work-item.result in
    let index = c.loop-work.work-index in
    let there = ticket_within (λ (earlier : ℕ). is_one_of ran earlier ≡ false) c.args.works.now index work c.loop-work-test.true c.work-item.is waiting in
    ap (λ (n : ℕ). list_any (λ (earlier : ℕ). do_meet groups earlier c.args.ticket) (take n (tickets_of c.args.works.now))) (add-one index)
    ∙ none_so_far (λ (earlier : ℕ). do_meet groups earlier c.args.ticket) c.args.works.now index work c.loop-work-test.true c.work-item.is
    (sym (c.do_meet.ensures groups ran c.args.ticket admitted command key there here) ∙ c.if-do_meet.false) (c.loop-work.invariant groups ran admitted waiting here)
