use Rattle.std.proofs.Common.{◌∷◌, [], ◌++◌, ◌==◌, nat_eq, ap, sym, ◌∙◌}
use Rattle.std.specs.Prelude.{if◌then◌else◌}
use Rattle.std.specs.HashMap.{get}
use Rattle.std.specs.Option.{option_map}
use Rattle.nim_queue.specs.Counts.{fewer, times}
use Rattle.nim_queue.proofs.Counting.{fewer_none, fewer_twice, times_last}
use Rattle.nim_queue.proofs.complete.count_down_all.Goals as goal

pub loop-follower-init : goal.loop-follower-init
loop-follower-init c = record {
  waiting = λ t. sym (fewer_none (get nat_eq c.args.waiting.now t));
  released = λ n are. are;
}

pub loop-follower-preserved : goal.loop-follower-preserved
loop-follower-preserved c =
    let past = c.loop-follower.yielded in
    let follower = c.in-Some.follower in
    record {
      waiting = λ t.
          let one = if follower == t then 1 else 0 in
          c.count_down.ensures.waiting t ∙ ap (option_map (fewer one)) (c.loop-follower.invariant.waiting t)
          ∙ fewer_twice (times t past) one (times t (past ++ follower ∷ [])) (get nat_eq c.args.waiting.now t) (times_last t past follower);
      released = λ n are. c.count_down.ensures.released n (c.loop-follower.invariant.released n are);
    }
