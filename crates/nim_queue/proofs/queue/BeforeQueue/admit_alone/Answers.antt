use Rattle.std.proofs.Common.{◌≡◌, ◌∙◌, ◌<◌, ◌^◌, ◌+◌, ◌++◌, ◌∷◌, [], ℕ, Bool, List, length, nat_eq, ap, ap₂, arith, sym, subst}
use Rattle.std.specs.HashMap.{get}
use Rattle.std.proofs.Math.Path.{fun_ext}
use Rattle.nim_command.specs.declared.command.Command.{Command}
use Rattle.nim_queue.specs.Used.{used_in}
use Rattle.nim_queue.specs.Arrived.{HasArrived, HaveArrived, Sight, sight_of}
use Rattle.nim_queue.specs.Joined.{link_count}
use Rattle.nim_queue.specs.Midway.{HasRoomForArrived}
use Rattle.nim_queue.specs.Stands.{KeepsGroups}
use Rattle.nim_queue.specs.declared.arrivals.Arrival.{Arrival}
use Rattle.nim_queue.proofs.Opening.{closed, opened}
use Rattle.nim_queue.proofs.Taking.{begun_midway, stepped}
use Rattle.nim_queue.proofs.queue.BeforeQueue.admit_alone.Goals as goal

pub returns-clause-ok : goal.returns-clause-ok
returns-clause-ok c groups done next stands same =
    let old = c.args.self.now in
    let start = c.make_room.new.self in
    let now = c.join.new.self in
    let a = c.in_ok-arrival.arrival in
    let kept = get nat_eq old.waiting in
    let used = used_in old.slots.items in
    let past : List Command = [] in
    let sight : (named : ℕ → List ℕ) → (written : ℕ → Bool) → Sight = λ named written. record { kept = kept; used = used; named = named; written = written } in
    let first : old.given ≡ old.given + length past = omega arith in
    let has : HasArrived (sight_of kept used old.given past) (old.given + length past) a =
    subst (λ (n : ℕ). HasArrived (sight_of kept used old.given past) n a) first
    (subst (λ (s : Sight). HasArrived s old.given a) (ap₂ sight (fun_ext c.new-nothing.ensures.numbers) (fun_ext c.new-nothing.ensures.written))
    c.in_ok-arrival.ensures.arrival) in
    let count : c.in_ok-links.links ≡ old.links + link_count (a ∷ []) = omega (arith, c.in_ok-links.ensures.count) in
    let few : old.links + link_count (a ∷ []) < 2 ^ 62 = subst (λ (n : ℕ). n < 2 ^ 62) count c.in_ok-links.ensures.few in
    let have : HaveArrived kept used old.given [] c.from_ref.result.now =
    subst (HaveArrived kept used old.given []) (sym c.from_ref.ensures.value) (has, tt) in
    let room : HasRoomForArrived start (a ∷ []) =
    subst (HasRoomForArrived start) c.from_ref.ensures.value
    (c.in_ok-make_room.ensures.room have (subst (λ (xs : List Arrival). old.links + link_count xs < 2 ^ 62) (sym c.from_ref.ensures.value) few)) in
    let keeps = opened (c.make_room.ensures.stands groups done stands) in
    let stood = (stepped start start now [] [] a groups done next room keeps (begun_midway start groups done keeps) c.join.ensures.waiting c.join.ensures.slots
    c.join.ensures.released c.join.ensures.capacity c.join.ensures.spare c.join.ensures.given c.join.ensures.groups).stands next
    (same ∙ ap (λ (x : Command). x ∷ []) (sym c.in_ok-arrival.ensures.same)) in
    let links : start.links + link_count (a ∷ []) ≡ c.in_ok-links.links = ap (λ (n : ℕ). n + link_count (a ∷ [])) c.make_room.ensures.links ∙ sym count in
    let number : length groups + 1 ≡ now.groups + 1 =
    ap (λ (n : ℕ). n + 1) (sym (c.join.ensures.groups ∙ c.make_room.ensures.groups ∙ (opened stands).numbered)) in
    closed
    (subst (λ (n : ℕ). KeepsGroups (record now { groups = n; links = c.in_ok-links.links }) (groups ++ next ∷ []) done) number
    (subst (λ (n : ℕ). KeepsGroups (record now { groups = length groups + 1; links = n }) (groups ++ next ∷ []) done) links stood))
