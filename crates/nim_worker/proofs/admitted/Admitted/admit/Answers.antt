use Rattle.std.proofs.Common.{rules, subst, sym}
use Rattle.nim_order.specs.Progress.{is_one_of}
use Rattle.nim_queue.specs.declared.queue.BeforeQueue.{BeforeQueue}
use Rattle.nim_queue.specs.Stands as queue
use Rattle.nim_worker.proofs.Opened.{admitted_err, admitted_ok}
use Rattle.nim_worker.proofs.admitted.Admitted.admit.Goals as goal

pub returns-clause-ok : goal.returns-clause-ok
returns-clause-ok c = λ groups ran next is group.
    admitted_ok c.enqueue.result c.args.self.now c.open_group.new.self c.enqueue.new.self groups ran c.args.head c.args.told c.args.commands.items c.len.result
    next is group (search rules)
    c.in_ok-open_group.ensures.ok c.in_ok-open_group.ensures.given
    (c.enqueue.ensures.queue groups ran next
    (subst (λ (q : BeforeQueue). queue.StandsForGroups q groups (is_one_of ran)) (sym c.in_ok-open_group.ensures.queue) is.queue) group.commands)
    c.enqueue.ensures.given c.enqueue.ensures.table

pub returns-clause-err : goal.returns-clause-err
returns-clause-err c = λ groups ran is.
    admitted_err c.enqueue.result c.args.self.now c.open_group.new.self c.enqueue.new.self groups ran
    (record { head = c.args.head; told = c.args.told; left = c.len.result }) is c.in_ok-open_group.ensures.ok c.in_ok-open_group.ensures.given
    (c.enqueue.ensures.err groups ran
    (subst (λ (q : BeforeQueue). queue.StandsForGroups q groups (is_one_of ran)) (sym c.in_ok-open_group.ensures.queue) is.queue))
    c.enqueue.ensures.same c.enqueue.ensures.closed
