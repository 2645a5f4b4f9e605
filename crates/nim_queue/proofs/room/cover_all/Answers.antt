use Rattle.std.proofs.Common.{rules, take}
use Rattle.nim_queue.specs.Used.{used_in}
use Rattle.nim_queue.specs.Joined.{are_covered}
use Rattle.nim_queue.proofs.Covering.{all_more, all_stay, covered_still, same_again}
use Rattle.nim_queue.proofs.room.cover_all.Goals as goal

pub returns-in_err-cover_arrival-clause-same : goal.returns-in_err-cover_arrival-clause-same
returns-in_err-cover_arrival-clause-same c = same_again _ _ _ _ c.loop-arrival.invariant.same c.cover_arrival.ensures.same

pub loop-arrival-preserved : goal.loop-arrival-preserved
loop-arrival-preserved c = record {
  same = same_again _ _ _ _ c.loop-arrival.invariant.same c.cover_arrival.ensures.same;
  covered =
      all_more (are_covered (used_in c.cover_arrival.new.slots.items)) c.args.arrived.now c.loop-arrival.arrival-index c.arrival-item.result
      (search rules)
      (all_stay (are_covered (used_in c.loop-arrival.slots.items)) (are_covered (used_in c.cover_arrival.new.slots.items))
      (take c.loop-arrival.arrival-index c.args.arrived.now)
      (λ a there. covered_still _ _ _ a c.cover_arrival.ensures.same there) c.loop-arrival.invariant.covered)
      (search rules);
}
