use Rattle.std.proofs.Common.{◌≡◌, ◌≤◌, [], ℕ, Option, nat_eq, refl, sym, subst, arith}
use Rattle.std.specs.HashMap.{get}
use Rattle.std.specs.VecDeque.{deque_capacity}
use Rattle.std.proofs.Math.Path.{fun_ext}
use Rattle.nim_queue.specs.Used.{used_in}
use Rattle.nim_queue.specs.Arrived.{HaveArrived}
use Rattle.nim_queue.specs.declared.waiting.Waiting.{Waiting}
use Rattle.nim_base.proofs.Lists.{ok_more}
use Rattle.nim_queue.proofs.Making.{arrivals_same, kept_at_most, still_stands}
use Rattle.nim_queue.proofs.Opening.{closed, opened}
use Rattle.nim_queue.proofs.queue.BeforeQueue.make_room.Goals as goal

pub returns-in_err-cover_all-clause-stands : goal.returns-in_err-cover_all-clause-stands
returns-in_err-cover_all-clause-stands c groups done stands =
    let old = c.args.self.now in
    let same : deque_capacity old.released.items ≤ deque_capacity old.released.items = omega arith in
    closed
    (still_stands old (record old { slots = c.cover_all.new.slots }) groups done (opened stands) (λ t. refl) c.cover_all.ensures.same refl same refl refl refl)

pub returns-in_err-reserve-clause-stands : goal.returns-in_err-reserve-clause-stands
returns-in_err-reserve-clause-stands c groups done stands =
    let old = c.args.self.now in
    let same : deque_capacity old.released.items ≤ deque_capacity old.released.items = omega arith in
    closed
    (still_stands old (record old { slots = c.cover_all.new.slots; waiting = c.reserve.new.self }) groups done (opened stands) c.reserve.ensures.entries.2
    c.cover_all.ensures.same refl same refl refl refl)

pub returns-clause-stands : goal.returns-clause-stands
returns-clause-stands c groups done stands =
    let old = c.args.self.now in
    closed
    (still_stands old (record old { slots = c.cover_all.new.slots; waiting = c.reserve.new.self; released = c.make_room.new.self }) groups done (opened stands)
    c.reserve.ensures.entries.2 c.cover_all.ensures.same c.make_room.ensures.items c.make_room.ensures.capacity refl refl refl)

pub returns-clause-room : goal.returns-clause-room
returns-clause-room c =
    let old = c.args.self.now in
    let new = record old { slots = c.cover_all.new.slots; waiting = c.reserve.new.self; released = c.make_room.new.self } in
    let kept : get nat_eq old.waiting ≡ get nat_eq new.waiting = sym (fun_ext c.reserve.ensures.entries.2) in
    ok_more c.make_room.result c.make_room.ensures.room
    (λ enough have few. record {
      arrived =
          subst (λ (k : ℕ → Option Waiting). HaveArrived k (used_in new.slots.items) old.given [] c.args.arrived.now) kept
          (arrivals_same (get nat_eq old.waiting) (used_in old.slots.items) (used_in new.slots.items) old.given [] c.args.arrived.now c.cover_all.ensures.same
          have);
      covered = c.in_ok-cover_all.ensures.covered;
      few = few;
      spare = c.in_ok-reserve.ensures.ok;
      room = omega (arith, kept_at_most new old.given, enough, c.saturating_add-count.ensures, c.len.ensures.len);
    })
