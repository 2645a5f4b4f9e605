use Rattle.std.proofs.Common.{◌≡◌, ◌∙◌, ℕ, Bool, false, List, All, ap, refl, sym, subst}
use Rattle.std.specs.Prelude.{IfSome}
use Rattle.std.specs.List.{list_any}
use Rattle.nim_order.specs.Progress.{is_one_of}
use Rattle.nim_history.specs.History.{asked_at, has_frame}
use Rattle.nim_worker.specs.declared.batch.Work.{Work}
use Rattle.nim_worker.specs.Stands.{tickets_of}
use Rattle.nim_worker.specs.Taken.{do_meet}
use Rattle.nim_worker.proofs.OneTaken.{maybe_taken, not_ran}
use Rattle.nim_worker.proofs.worker.WorkerCore.take_one.Goals as goal

pub returns-then-not-meets_any-clause-begins : goal.returns-then-not-meets_any-clause-begins
returns-then-not-meets_any-clause-begins c = λ state begins released.
    let groups = state.session.groups in
    let waiting = not_ran groups state.ran c.args.ticket released in
    let framed = subst (λ (b : Bool). IfSome (asked_at groups c.args.ticket) (λ asked. b ≡ has_frame state asked)) c.if-has_frame.true
    (c.has_frame.ensures state begins.has waiting) in
    let all =
    subst (λ (works : List Work). All (λ earlier. is_one_of state.ran earlier ≡ false) (tickets_of works)) (sym c.as_slice.ensures.value) begins.waiting in
    let none : list_any (λ (earlier : ℕ). do_meet groups earlier c.args.ticket) (tickets_of c.args.works.now.items) ≡ false =
    ap (λ (works : List Work). list_any (λ (earlier : ℕ). do_meet groups earlier c.args.ticket) (tickets_of works)) (sym c.as_slice.ensures.value)
    ∙ sym (c.meets_any.ensures groups state.ran begins.has.admitted all waiting)
    ∙ c.if-not-meets_any.true in
    (maybe_taken c.args.self.now (record c.args.self.now { store = c.begin_work.new.store }) c.args.works.now.items c.begin_work.new.works.items state
    c.args.ticket begins refl c.begin_work.ensures.shapes released framed none
    (c.begin_work.ensures.work groups state.ran begins.has.admitted)).1

pub returns-then-not-meets_any-clause-taken : goal.returns-then-not-meets_any-clause-taken
returns-then-not-meets_any-clause-taken c = λ state begins released.
    let groups = state.session.groups in
    let waiting = not_ran groups state.ran c.args.ticket released in
    let framed = subst (λ (b : Bool). IfSome (asked_at groups c.args.ticket) (λ asked. b ≡ has_frame state asked)) c.if-has_frame.true
    (c.has_frame.ensures state begins.has waiting) in
    let all =
    subst (λ (works : List Work). All (λ earlier. is_one_of state.ran earlier ≡ false) (tickets_of works)) (sym c.as_slice.ensures.value) begins.waiting in
    let none : list_any (λ (earlier : ℕ). do_meet groups earlier c.args.ticket) (tickets_of c.args.works.now.items) ≡ false =
    ap (λ (works : List Work). list_any (λ (earlier : ℕ). do_meet groups earlier c.args.ticket) (tickets_of works)) (sym c.as_slice.ensures.value)
    ∙ sym (c.meets_any.ensures groups state.ran begins.has.admitted all waiting)
    ∙ c.if-not-meets_any.true in
    (maybe_taken c.args.self.now (record c.args.self.now { store = c.begin_work.new.store }) c.args.works.now.items c.begin_work.new.works.items state
    c.args.ticket begins refl
    c.begin_work.ensures.shapes released framed none (c.begin_work.ensures.work groups state.ran begins.has.admitted)).0
