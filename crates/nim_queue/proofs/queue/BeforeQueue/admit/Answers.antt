use Rattle.std.proofs.Common.{◌≡◌, ◌∙◌, ◌<◌, ◌^◌, ◌+◌, ◌++◌, ◌∷◌, [], ℕ, List, length, nat_eq, ap, sym, subst}
use Rattle.std.specs.HashMap.{get}
use Rattle.nim_queue.specs.Used.{used_in}
use Rattle.nim_queue.specs.Arrived.{HaveArrived}
use Rattle.nim_queue.specs.Joined.{link_count}
use Rattle.nim_queue.specs.Midway.{HasRoomForArrived}
use Rattle.nim_queue.specs.Stands.{KeepsGroups}
use Rattle.nim_queue.specs.declared.arrivals.Arrival.{Arrival}
use Rattle.nim_queue.proofs.Opening.{closed, opened}
use Rattle.nim_queue.proofs.queue.BeforeQueue.admit.Goals as goal

pub returns-clause-ok : goal.returns-clause-ok
returns-clause-ok c groups done next stands same =
    let old = c.args.self.now in
    let start = c.make_room.new.self in
    let now = c.join_all.new.self in
    let arrived = c.in_ok-arrived.arrived.items in
    let count : c.in_ok-links.links ≡ old.links + link_count arrived =
    c.in_ok-links.ensures.count ∙ ap (λ (xs : List Arrival). old.links + link_count xs) c.as_slice.ensures.value in
    let few : old.links + link_count arrived < 2 ^ 62 = subst (λ (n : ℕ). n < 2 ^ 62) count c.in_ok-links.ensures.few in
    let have : HaveArrived (get nat_eq old.waiting) (used_in old.slots.items) old.given [] c.as_slice-2.result.now =
    subst (HaveArrived (get nat_eq old.waiting) (used_in old.slots.items) old.given []) (sym c.as_slice-2.ensures.value) c.in_ok-arrived.ensures.arrived in
    let room : HasRoomForArrived start arrived =
    subst (HasRoomForArrived start) c.as_slice-2.ensures.value
    (c.in_ok-make_room.ensures.room have (subst (λ (xs : List Arrival). old.links + link_count xs < 2 ^ 62) (sym c.as_slice-2.ensures.value) few)) in
    let stood = (c.join_all.ensures.midway groups done next room (opened (c.make_room.ensures.stands groups done stands))).stands next
    (same ∙ sym c.in_ok-arrived.ensures.commands) in
    let links : start.links + link_count arrived ≡ c.in_ok-links.links = ap (λ (n : ℕ). n + link_count arrived) c.make_room.ensures.links ∙ sym count in
    let number : length groups + 1 ≡ now.groups + 1 =
    ap (λ (n : ℕ). n + 1) (sym (c.join_all.ensures.groups ∙ c.make_room.ensures.groups ∙ (opened stands).numbered)) in
    closed
    (subst (λ (n : ℕ). KeepsGroups (record now { groups = n; links = c.in_ok-links.links }) (groups ++ next ∷ []) done) number
    (subst (λ (n : ℕ). KeepsGroups (record now { groups = length groups + 1; links = n }) (groups ++ next ∷ []) done) links stood))
