-- Each run that a worker of a cluster is asked for stands at its task's home.
use Rattle.std.proofs.Common.{◌≡◌, ℕ, ◌<◌, Bool, true, false, List, [], ◌∷◌, length, map, refl, ap, sym, subst, arith}
use Rattle.std.specs.Prelude.{◌==◌, All, cond, replicate}
use Rattle.std.specs.List.{AllByRecursion, filter}
use Rattle.std.proofs.lemmas.Bool.{eqb-true}
use Rattle.std.proofs.lemmas.List.{length-replicate}
use Rattle.std.proofs.lemmas.List.Elements.{All-from_recursion, All-nil, recursion_from_All}
use Rattle.nim_base.specs.declared.number.Worker.{Worker}
use Rattle.nim_command.specs.declared.command.Command.{Command}
use Rattle.nim_command.specs.Waits.{commands_of}
use Rattle.nim_message.specs.declared.order.ToWorker.{ToWorker}
use Rattle.nim_message.specs.Orders.{session_of}
use Rattle.nim_job.specs.declared.job.Job.{Job}
use Rattle.nim_plan.specs.Paired.{Key}
use Rattle.nim_place.specs.declared.placement.Placement.{Placement}
use Rattle.nim_place.specs.Extends.{is_live, worker_of}
use Rattle.nim_place.specs.Stands.{commands_for}
use Rattle.nim_place.specs.Versions.{Versions}
use Rattle.nim_reuse.specs.Decisions.{Decisions}
use Rattle.nim_course.specs.declared.pending.Pending.{Pending}
use Rattle.nim_course.specs.declared.pending.Pending.TheVariants.{Begin, Idle, Block, Cell, Parts, Ended}
use Rattle.nim_course.specs.Controller.{Controller}
use Rattle.nim_place.specs.Directed.{Directed, orders_to}
use Rattle.nim_course.specs.Leads.{AreLeading, AreLeadingFor, Leads, is_key_from}
use Rattle.nim_place.specs.TaskRuns.{RunsAtHome}
use Rattle.nim_lockstep.specs.Cluster.{ClusterState}
use Rattle.nim_lockstep.specs.InStep.{AreAtHomes}
use Rattle.nim_place.proofs.LiveOnce.{live_within}
use Rattle.nim_lockstep.proofs.UnderWay.{BeginOnce, IsOnCourse}

-- those of one worker are at its tasks' homes
own_homes : (job : Job) (place : Placement) (live : List Bool) (worker : Worker) (commands : List (Worker × Command))
    → AllByRecursion (λ (one : Worker × Command). RunsAtHome job place live one.0 one.1.kind) commands
    → AllByRecursion (λ (command : Command). RunsAtHome job place live worker command.kind) (commands_for worker commands)
own_homes job place live worker [] all = tt
own_homes job place live worker (c ∷ commands) all = either (c.0.0 == worker.0) refl (own_homes job place live worker commands all.1) where
  either : (b : Bool) → (c.0.0 == worker.0) ≡ b
      → AllByRecursion (λ (command : Command). RunsAtHome job place live worker command.kind) (commands_for worker commands)
      → AllByRecursion (λ (command : Command). RunsAtHome job place live worker command.kind)
      (map (λ (d : Worker × Command). d.1)
      (cond b (c ∷ filter (λ (d : Worker × Command). d.0.0 == worker.0) commands) (filter (λ (d : Worker × Command). d.0.0 == worker.0) commands)))
  either true own rest =
      let same : c.0 ≡ worker = ap (λ (n : ℕ). worker_of n) (eqb-true c.0.0 worker.0 own) in
      (subst (λ (w : Worker). RunsAtHome job place live w c.1.kind) same all.0, rest)
  either false own rest = rest

leading_homes : (job : Job) (place : Placement) (live : List Bool) (epoch position : ℕ) (to_come : Key → Bool) (given : List Directed)
    (versions : Versions) (decisions : Decisions) → AreLeading job place live epoch position to_come given versions decisions
    → (worker : Worker) → is_live live worker ≡ true
    → All (λ (command : Command). RunsAtHome job place live worker command.kind) (commands_of (session_of (orders_to worker.0 given)).groups)
leading_homes job place live epoch position to_come given versions decisions leading worker there =
    let Home : Command → Type 0 = λ command. RunsAtHome job place live worker command.kind in
    subst (All Home) (sym (leading.so_far.ask.asked worker there))
    (All-from_recursion Home (commands_for worker leading.commands)
    (own_homes job place live worker leading.commands
    (recursion_from_All (λ (one : Worker × Command). RunsAtHome job place live one.0 one.1.kind) leading.commands leading.homes)))

homes_for : (job : Job) (c : Controller) (given : List Directed) (workers : ℕ) (pending : Pending) → c.live ≡ replicate workers true
    → AreLeadingFor job c given pending → ((number : ℕ) → number < workers → BeginOnce pending (orders_to number given))
    → AreAtHomes job c given
homes_for job c given workers Begin are leading once = λ worker there.
    let Home : Command → Type 0 = λ command. RunsAtHome job c.place c.live worker command.kind in
    let below : worker.0 < workers =
    omega (arith, live_within c.live worker there, ap (λ (flags : List Bool). length flags) are, length-replicate workers true) in
    subst (λ (os : List ToWorker). All Home (commands_of (session_of os).groups)) (sym (once worker.0 below)) (All-nil Home)
homes_for job c given workers Idle are leading once =
    leading_homes job c.place c.live c.epoch c.position (is_key_from c.epoch c.instance) given c.versions c.decisions leading
homes_for job c given workers (Block block args) are leading once =
    leading_homes job c.place c.live c.epoch c.position (is_key_from c.epoch c.instance) given c.versions c.decisions leading
homes_for job c given workers (Cell row cell) are leading once =
    leading_homes job c.place c.live c.epoch c.position (is_key_from c.epoch c.instance) given c.versions c.decisions leading
homes_for job c given workers (Parts var) are leading once =
    leading_homes job c.place c.live c.epoch c.position (is_key_from c.epoch c.instance) given c.versions c.decisions leading
homes_for job c given workers Ended are leading once =
    leading_homes job c.place c.live c.epoch c.position (is_key_from c.epoch c.instance) given c.versions c.decisions leading

pub are_at_homes : (s : ClusterState) → Leads s.job s.control s.put → IsOnCourse s → AreAtHomes s.job s.control s.put
are_at_homes s leads course = homes_for s.job s.control s.put s.setup.workers s.control.pending course.live leads.leading course.once
