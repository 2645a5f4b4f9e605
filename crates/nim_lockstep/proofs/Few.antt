-- However events come, no more of them are done than the orders, the commands that they ask for and the workers come to.
use Rattle.std.proofs.Common.{◌≡◌, ℕ, zero, suc, ◌+◌, ◌*◌, ◌≤◌, ◌<◌, Bool, true, false, cond, List, [], ◌∷◌, ◌++◌, length, refl, ap, sym, subst, ◌∙◌, arith, Some}
use Rattle.std.specs.Prelude.{slice_get}
use Rattle.std.specs.List.{range_with_len, sum_by}
use Rattle.std.proofs.lemmas.List.{length-append}
use Rattle.std.proofs.lemmas.List.Sums.{fold-append, sum_by_push}
use Rattle.std.proofs.lemmas.Option.{slice_get_within}
use Rattle.nim_command.specs.Waits.{Group, commands_of}
use Rattle.nim_message.specs.declared.order.ToWorker.{ToWorker}
use Rattle.nim_message.specs.Orders.{Session, after_order, no_session, session_of}
use Rattle.nim_schedule.specs.declared.event.Event.{Event}
use Rattle.nim_schedule.specs.declared.event.Event.TheVariants.{Order, Report, Data, Begin, Finish, Lose, Propose}
use Rattle.nim_job.specs.declared.job.Job.{Job}
use Rattle.nim_course.specs.declared.pending.Pending.{Pending}
use Rattle.nim_course.specs.declared.setup.Setup.{Setup}
use Rattle.nim_place.specs.Directed.{Directed}
use Rattle.nim_history.specs.History.{orders_in}
use Rattle.nim_history.proofs.GoesOn.{history_goes_on}
use Rattle.nim_lockstep.specs.declared.given.Given.{Given}
use Rattle.nim_lockstep.specs.Cluster.{ClusterState, Node, new_node, unbegun}
use Rattle.nim_lockstep.specs.Events.{HasTurned, IsPassed, IsStep, noted, order_sent, passed}
use Rattle.nim_lockstep.specs.Few.{HasFewDone, EventsAreFew, commands_to, done_in}
use Rattle.nim_lockstep.specs.InStep.{AreSteps, IsReached}
use Rattle.nim_base.proofs.Lists.{All_behind}
use Rattle.nim_lockstep.proofs.FewEvents.{Takes, event_takes}
use Rattle.nim_lockstep.proofs.FewLists.{sum_replicate, sums_le}
use Rattle.nim_lockstep.proofs.FewNodes.{done_at, dones, load, loads, new_load}
use Rattle.nim_lockstep.proofs.FewRan.{few_ran, more_commands}
use Rattle.nim_lockstep.proofs.FewSent.{Adds, adds_all, adds_order}
use Rattle.nim_lockstep.proofs.Keeping.{turned_to}
use Rattle.nim_lockstep.proofs.NodesOnce.{NoReset, groups_grow, once_of}
use Rattle.nim_lockstep.proofs.UnderWay.{BeginOnce, IsUnderWay, NodesGoOn}
use Rattle.nim_lockstep.proofs.UnderWayGoes.{enabled_noted, noted_goes, step_goes, turn_goes, unbegun_goes}

-- ---- what was done, and what still waits

-- What was done and what waits is no more than the orders, what the completed commands come to, and the workers; but for
-- so many more.
abbrev IsFewBut : ℕ → ClusterState → Type 0
IsFewBut more s = done_in s.given + loads s.nodes ≤ length s.put + 4 * dones s.nodes + s.setup.workers + more

-- one thing is used up
few_taken : (before after : ClusterState) → Takes before after → IsFewBut 1 before → IsFewBut 0 after
few_taken before after takes few =
    omega (
      arith,
      few,
      takes.used,
      ap (λ (given : List Given). done_in given) takes.given,
      ap (λ (put : List Directed). length put) takes.put,
      ap (λ (setup : Setup). setup.workers) takes.setup,
    )

-- a turn gives as many orders as then wait at most
few_turned : (before after : ClusterState) → HasTurned before after → IsFewBut 0 before → IsFewBut 0 after
few_turned before after turned few =
    let to : ClusterState = turned_to before turned.control turned.orders in
    let sent : Adds (length turned.orders) to after =
    subst (Adds (length turned.orders) to) (sym turned.state) (adds_all order_sent adds_order turned.orders to) in
    omega (
      arith,
      few,
      sent.loads,
      sent.dones,
      ap (λ (given : List Given). done_in given) sent.given,
      ap (λ (put : List Directed). length put) sent.put,
      length-append before.put turned.orders,
      ap (λ (setup : Setup). setup.workers) sent.setup,
    )

few_passed : (s : ClusterState) (event : Event) (after : ClusterState) → IsPassed s event after → IsFewBut 0 (passed s event) → IsFewBut 0 after
few_passed s (Order worker) after is few = subst (IsFewBut 0) (sym is) few
few_passed s (Report worker) after is few = few_turned (passed s (Report worker)) after is few
few_passed s (Data from to) after is few = subst (IsFewBut 0) (sym is) few
few_passed s (Begin worker most) after is few = subst (IsFewBut 0) (sym is) few
few_passed s (Finish worker) after is few = subst (IsFewBut 0) (sym is) few
few_passed s (Lose worker) after is few = subst (IsFewBut 0) (sym is) few
few_passed s (Propose block task to) after is few = subst (IsFewBut 0) (sym is) few

-- that an event was given counts where it is done
few_noted : (s : ClusterState) (event : Event) (done : Bool) → IsFewBut 0 s → IsFewBut (cond done 1 0) (noted event done s)
few_noted s event done few = omega (arith, few, sum_by_push (λ (g : Given). cond g.done 1 0) s.given (record { event = event; done = done }))

few_step : (before : ClusterState) (event : Event) (done : Bool) (after : ClusterState) → IsUnderWay before → IsStep before event done after
    → IsFewBut 0 before → IsFewBut 0 after
few_step before event true after under step few =
    let s : ClusterState = noted event true before in
    few_passed s event after (step.passed refl)
    (few_taken s (passed s event)
    (event_takes s event (noted_goes before event true under) (enabled_noted before event event true (sym step.enabled)))
    (few_noted before event true few))
few_step before event false after under step few = subst (IsFewBut 0) (sym (step.passed_over refl)) (few_noted before event false few)

-- ---- from event to event

-- a cluster is under way, and what was done is few
record IsFewSoFar (s : ClusterState) : Type 0 where
  under : IsUnderWay s
  few : IsFewBut 0 s

few_unbegun : (job : Job) (setup : Setup) → IsFewBut 0 (unbegun job setup)
few_unbegun job setup = omega (arith, sum_replicate load setup.workers (new_node setup.workers) 1 (new_load setup.workers))

steps_few : NodesGoOn → (count : ℕ) (before after : ClusterState) → IsFewSoFar before → AreSteps count before after → IsFewSoFar after
steps_few go zero before after few is = subst IsFewSoFar (sym is) few
steps_few go (suc count) before after few (between, (steps, (event, (done, step)))) =
    let so_far = steps_few go count before between few steps in
    record {
      under = step_goes go between event done after so_far.under step;
      few = few_step between event done after so_far.under step so_far.few;
    }

reached_few : NodesGoOn → (s : ClusterState) → IsReached s → IsFewSoFar s
reached_few go s reached =
    let none : ClusterState = unbegun s.job s.setup in
    let under : IsUnderWay none = unbegun_goes go s.job s.setup reached.whole reached.least reached.most in
    steps_few go reached.count reached.first s
    (record {
      under = turn_goes go none reached.first under reached.new;
      few = few_turned none reached.first reached.new (few_unbegun s.job s.setup);
    })
    reached.steps

-- ---- no more is completed than is asked for

-- orders that aren't taken yet ask for more only
front_asks : (pending : Pending) (front rest : List ToWorker) → BeginOnce pending (front ++ rest)
    → length (commands_of (session_of front).groups) ≤ length (commands_of (session_of (front ++ rest)).groups)
front_asks pending [] rest once = omega arith
front_asks pending (first ∷ front) rest once =
    let none = All_behind NoReset front rest (once_of pending first (front ++ rest) once).1 in
    let grows = groups_grow (session_of (first ∷ front)) rest none in
    let all : (session_of (first ∷ (front ++ rest))).groups ≡ (session_of (first ∷ front)).groups ++ grows.0 =
    ap (λ (session : Session). session.groups) (fold-append after_order no_session (first ∷ front) rest) ∙ grows.1 in
    subst (λ (groups : List Group). length (commands_of (session_of (first ∷ front)).groups) ≤ length (commands_of groups)) (sym all)
    (more_commands (session_of (first ∷ front)).groups grows.0)

asked_at_node : (s : ClusterState) (number : ℕ) (node : Node) → IsUnderWay s → slice_get s.nodes number ≡ Some node
    → done_at node ≤ commands_to s.put number
asked_at_node s number node under there =
    let own = under.nodes.each number node there in
    let within : number < s.setup.workers = omega (arith, slice_get_within s.nodes number node there, under.nodes.nodes) in
    let front : List ToWorker = orders_in node.happened in
    let once : BeginOnce s.control.pending (front ++ node.orders) = subst (BeginOnce s.control.pending) (sym own.link) (under.course.once number within) in
    let all : length (commands_of (session_of front).groups) ≤ commands_to s.put number =
    subst (λ (orders : List ToWorker). length (commands_of (session_of front).groups) ≤ length (commands_of (session_of orders).groups)) own.link
    (front_asks s.control.pending front node.orders once) in
    omega (
      arith,
      all,
      few_ran node.happened own.history,
      ap (λ (session : Session). length (commands_of session.groups)) (history_goes_on.session node.happened),
    )

few_events : (s : ClusterState) → IsFewSoFar s → HasFewDone s
few_events s is =
    let asked = sums_le done_at (commands_to s.put) 0 s.nodes
    (λ number node there. from_none number (done_at node) (asked_at_node s number node is.under there)) in
    omega (arith, is.few, subst (λ (n : ℕ). dones s.nodes ≤ sum_by (commands_to s.put) (range_with_len 0 n)) is.under.nodes.nodes asked) where
      from_none : (number n : ℕ) → n ≤ commands_to s.put number → n ≤ commands_to s.put (0 + number)
      from_none number n le = let same : number ≡ 0 + number = omega arith in subst (λ (m : ℕ). n ≤ commands_to s.put m) same le

pub are_few : NodesGoOn → EventsAreFew
are_few go s reached = few_events s (reached_few go s reached)
