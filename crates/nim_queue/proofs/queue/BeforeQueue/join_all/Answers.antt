use Rattle.std.proofs.Common.{◌≡◌, ◌∙◌, ◌∷◌, [], ◌++◌, List, length, ap, sym, arith, rules, subst}
use Rattle.std.proofs.lemmas.List.{append-nil, append_assoc, length-append, nil_from_length}
use Rattle.nim_queue.specs.Midway.{HasRoomForArrived, IsMidway}
use Rattle.nim_queue.specs.declared.arrivals.Arrival.{Arrival}
use Rattle.nim_queue.proofs.Taking.{begun_midway, stepped}
use Rattle.nim_queue.proofs.queue.BeforeQueue.join_all.Goals as goal

pub loop-arrival-init : goal.loop-arrival-init
loop-arrival-init c = record {
  midway = λ groups done any room stands. begun_midway c.args.self.now groups done stands;
  given = omega arith;
  groups = search rules;
  whole = search rules;
}

pub loop-arrival-preserved : goal.loop-arrival-preserved
loop-arrival-preserved c =
    let past = c.loop-arrival.yielded in
    let a = c.in-Some.arrival in
    let rest = c.next.new.self.rest.items in
    let whole : past ++ a ∷ rest ≡ c.args.arrived.items = search rules in
    record {
      midway = λ groups done any room stands.
          stepped c.args.self.now c.loop-arrival.self c.join.new.self past rest a groups done any
          (subst (HasRoomForArrived c.args.self.now) (sym whole) room) stands
          (c.loop-arrival.invariant.midway groups done any room stands) c.join.ensures.waiting
          c.join.ensures.slots
          c.join.ensures.released c.join.ensures.capacity c.join.ensures.spare c.join.ensures.given c.join.ensures.groups;
      given = omega (arith, c.join.ensures.given, c.loop-arrival.invariant.given, length-append past (a ∷ []));
      groups = c.join.ensures.groups ∙ c.loop-arrival.invariant.groups;
      whole = append_assoc past (a ∷ []) rest ∙ whole;
    }

pub returns-clause-midway : goal.returns-clause-midway
returns-clause-midway c groups done any room stands =
    let past = c.loop-arrival.yielded in
    let none : length c.loop-arrival.arrival-iterator.rest.items ≡ 0 = search rules in
    let all : past ≡ c.args.arrived.items = sym (append-nil past) ∙ ap (λ ys. past ++ ys) (sym (nil_from_length _ none)) ∙ c.loop-arrival.invariant.whole in
    subst (λ (xs : List Arrival). IsMidway c.args.self.now c.loop-arrival.self xs groups done) all (c.loop-arrival.invariant.midway groups done any room stands)
