-- Events lead from cluster to cluster, of the same job and run in the same way.
use Rattle.std.proofs.Common.{◌≡◌, ℕ, zero, suc, ◌≤◌, Bool, true, false, List, [], ◌∷◌, refl, sym, subst, ◌∙◌, Option, None, Some}
use Rattle.std.specs.Prelude.{slice_get}
use Rattle.std.specs.Option.{option_map_or}
use Rattle.nim_message.specs.declared.report.FromWorker.{FromWorker}
use Rattle.nim_schedule.specs.declared.event.Event.{Event}
use Rattle.nim_schedule.specs.declared.event.Event.TheVariants.{Order, Report, Data, Begin, Finish, Lose, Propose}
use Rattle.nim_schedule.specs.declared.event.Line.{Line}
use Rattle.nim_schedule.specs.declared.event.Line.TheVariants.{One, Auto}
use Rattle.nim_job.specs.declared.job.Job.{Job}
use Rattle.nim_job.specs.Whole.{is_whole}
use Rattle.nim_place.specs.Extends.{worker_of}
use Rattle.nim_course.specs.declared.setup.Setup.{Setup}
use Rattle.nim_lockstep.specs.Cluster.{Batched, ClusterState, Node, has_ended, unbegun}
use Rattle.nim_lockstep.specs.Events.{HasTurned, IsNew, IsPassed, IsStep, at_node, batch_finished, noted, passed, report_taken}
use Rattle.nim_lockstep.specs.InStep.{AreSteps, IsReached}
use Rattle.nim_lockstep.specs.Law.{EventsGoOn, HasFollowed}
use Rattle.nim_lockstep.specs.Nodes.{batch_begun, frame_taken, frames_from, order_taken}
use Rattle.nim_lockstep.specs.Schedules.{AreLines, IsLine, IsOne, IsRunBy, Reaches}
use Rattle.nim_lockstep.proofs.Keeping.{HasOtherNodes, finish_beside, finished_to, node_beside, turn_beside, turned_to}

-- ---- what stays

-- the job, and how it is run
record IsOfSame (before after : ClusterState) : Type 0 where
  job : after.job ≡ before.job
  setup : after.setup ≡ before.setup

node_same : (change : Node → Node) (number : ℕ) (s : ClusterState) → IsOfSame s (at_node change number s)
node_same change number s =
    let beside : HasOtherNodes s (at_node change number s) = node_beside change number s in record { job = beside.job; setup = beside.setup }

turn_same : (before after : ClusterState) → HasTurned before after → IsOfSame before after
turn_same before after turned =
    let beside : HasOtherNodes (turned_to before turned.control turned.orders) after = turn_beside before after turned in
    record { job = beside.job; setup = beside.setup }

batch_same : (s : ClusterState) (number : ℕ) (node : Node) (batch : Option Batched)
    → IsOfSame s (option_map_or (λ (b : Batched). batch_finished number node s b) batch s)
batch_same s number node None = record { job = refl; setup = refl }
batch_same s number node (Some b) =
    let beside : HasOtherNodes (finished_to number node s b) (batch_finished number node s b) = finish_beside number node s b in
    record { job = beside.job; setup = beside.setup }

finish_same : (s : ClusterState) (number : ℕ) → IsOfSame s (passed s (Finish number))
finish_same s number = either (slice_get s.nodes number) where
  either : (o : Option Node)
      → IsOfSame s (option_map_or (λ (node : Node). option_map_or (λ (b : Batched). batch_finished number node s b) node.batch s) o s)
  either None = record { job = refl; setup = refl }
  either (Some node) = batch_same s number node node.batch

taken_same : (s : ClusterState) (number : ℕ) (node : Node) (reports : List FromWorker) → IsOfSame s (report_taken number node reports s)
taken_same s number node [] = record { job = refl; setup = refl }
taken_same s number node (report ∷ rest) = record { job = refl; setup = refl }

report_same : (s : ClusterState) (number : ℕ) → IsOfSame s (passed s (Report number))
report_same s number = either (slice_get s.nodes number) where
  either : (o : Option Node) → IsOfSame s (option_map_or (λ (node : Node). report_taken number node node.reports s) o s)
  either None = record { job = refl; setup = refl }
  either (Some node) = taken_same s number node node.reports

passed_same : (s : ClusterState) (event : Event) → IsOfSame s (passed s event)
passed_same s (Order number) = node_same (λ (node : Node). order_taken node.orders node) number s
passed_same s (Report number) = report_same s number
passed_same s (Data from to) = node_same (λ (node : Node). frame_taken from (frames_from from node) node) to s
passed_same s (Begin number most) = node_same (batch_begun (worker_of number) most) number s
passed_same s (Finish number) = finish_same s number
passed_same s event = record { job = refl; setup = refl }

same_on : (first second third : ClusterState) → IsOfSame first second → IsOfSame second third → IsOfSame first third
same_on first second third one two = record { job = two.job ∙ one.job; setup = two.setup ∙ one.setup }

turned_same : (s : ClusterState) (event : Event) (after : ClusterState) → IsPassed s event after → IsOfSame s after
turned_same s (Report number) after is =
    same_on s (passed s (Report number)) after (passed_same s (Report number)) (turn_same (passed s (Report number)) after is)
turned_same s (Order number) after is = subst (IsOfSame s) (sym is) (passed_same s (Order number))
turned_same s (Data from to) after is = subst (IsOfSame s) (sym is) (passed_same s (Data from to))
turned_same s (Begin number most) after is = subst (IsOfSame s) (sym is) (passed_same s (Begin number most))
turned_same s (Finish number) after is = subst (IsOfSame s) (sym is) (passed_same s (Finish number))
turned_same s (Lose number) after is = subst (IsOfSame s) (sym is) (passed_same s (Lose number))
turned_same s (Propose block task to) after is = subst (IsOfSame s) (sym is) (passed_same s (Propose block task to))

noted_same : (s : ClusterState) (event : Event) (done : Bool) → IsOfSame s (noted event done s)
noted_same s event done = record { job = refl; setup = refl }

step_same : (before : ClusterState) (event : Event) (done : Bool) (after : ClusterState) → IsStep before event done after → IsOfSame before after
step_same before event true after step =
    same_on before (noted event true before) after (noted_same before event true) (turned_same (noted event true before) event after (step.passed refl))
step_same before event false after step = subst (IsOfSame before) (sym (step.passed_over refl)) (noted_same before event false)

-- ---- one step more

-- of a whole job, on 1 to 16 workers
record IsRunnable (job : Job) (setup : Setup) : Type 0 where
  whole : is_whole job ≡ true
  least : 1 ≤ setup.workers
  most : setup.workers ≤ 16

-- events lead to a cluster from one that was made of this job, and run in this way
record IsLedTo (job : Job) (setup : Setup) (s : ClusterState) : Type 0 where
  first : ClusterState
  new : IsNew job setup first
  count : ℕ
  steps : AreSteps count first s
  is_job : s.job ≡ job
  is_setup : s.setup ≡ setup

from_followed : (job : Job) (setup : Setup) (s : ClusterState) → IsRunnable job setup → IsLedTo job setup s → HasFollowed job setup s
from_followed job setup s runs from = record {
  reached = record {
    whole = subst (λ (j : Job). is_whole j ≡ true) (sym from.is_job) runs.whole;
    least = subst (λ (given : Setup). 1 ≤ given.workers) (sym from.is_setup) runs.least;
    most = subst (λ (given : Setup). given.workers ≤ 16) (sym from.is_setup) runs.most;
    first = from.first;
    new = subst (λ (j : Job). IsNew j s.setup from.first) (sym from.is_job)
        (subst (λ (given : Setup). IsNew job given from.first) (sym from.is_setup) from.new);
    count = from.count;
    steps = from.steps;
  };
  is_job = from.is_job;
  is_setup = from.is_setup;
}

new_from : (job : Job) (setup : Setup) (s : ClusterState) → IsNew job setup s → IsLedTo job setup s
new_from job setup s new =
    let same : IsOfSame (unbegun job setup) s = turn_same (unbegun job setup) s new in
    record { first = s; new = new; count = 0; steps = refl; is_job = same.job; is_setup = same.setup }

step_from : (job : Job) (setup : Setup) (before : ClusterState) (event : Event) (done : Bool) (after : ClusterState) → IsLedTo job setup before
    → IsStep before event done after → IsLedTo job setup after
step_from job setup before event done after from step =
    let same : IsOfSame before after = step_same before event done after step in
    record {
      first = from.first;
      new = from.new;
      count = suc from.count;
      steps = (before, (from.steps, (event, (done, step))));
      is_job = same.job ∙ from.is_job;
      is_setup = same.setup ∙ from.is_setup;
    }

reached_from : (s : ClusterState) → IsReached s → IsLedTo s.job s.setup s
reached_from s reached =
    record { first = reached.first; new = reached.new; count = reached.count; steps = reached.steps; is_job = refl; is_setup = refl }

-- ---- a schedule

reaches_from : (job : Job) (setup : Setup) (count : ℕ) (before after : ClusterState) → IsLedTo job setup before → Reaches count before after
    → IsLedTo job setup after
reaches_from job setup zero before after from is = subst (IsLedTo job setup) (sym is) from
reaches_from job setup (suc count) before after from (between, (reaches, (event, (next, step)))) =
    step_from job setup between event true after (reaches_from job setup count before between from reaches) step

one_from : (job : Job) (setup : Setup) (ended : Bool) (event : Event) (before after : ClusterState) → IsLedTo job setup before
    → IsOne ended event before after → IsLedTo job setup after
one_from job setup true event before after from is = subst (IsLedTo job setup) (sym is) from
one_from job setup false event before after from (done, step) = step_from job setup before event done after from step

line_from : (job : Job) (setup : Setup) (line : Line) (before after : ClusterState) → IsLedTo job setup before → IsLine line before after
    → IsLedTo job setup after
line_from job setup (One event) before after from is = one_from job setup (has_ended before) event before after from is
line_from job setup (Auto most) before after from is = reaches_from job setup is.count before after from is.reaches

lines_from : (job : Job) (setup : Setup) (lines : List Line) (before after : ClusterState) → IsLedTo job setup before → AreLines lines before after
    → IsLedTo job setup after
lines_from job setup [] before after from is = subst (IsLedTo job setup) (sym is) from
lines_from job setup (line ∷ lines) before after from (between, (one, rest)) =
    lines_from job setup lines between after (line_from job setup line before between from one) rest

run_from : (job : Job) (setup : Setup) (lines : List Line) (s : ClusterState) → IsRunBy job setup lines s → IsLedTo job setup s
run_from job setup lines s run =
    let follows = run.follows in
    reaches_from job setup follows.count follows.behind s
    (lines_from job setup lines run.first follows.behind (new_from job setup run.first run.new) follows.by_lines) follows.reaches

pub go_on : EventsGoOn
go_on = record {
  new = λ job setup s whole least most new.
      from_followed job setup s (record { whole = whole; least = least; most = most }) (new_from job setup s new);
  step = λ before event done after reached step.
      from_followed before.job before.setup after (record { whole = reached.whole; least = reached.least; most = reached.most })
      (step_from before.job before.setup before event done after (reached_from before reached) step);
  run = λ job setup lines s whole least most run.
      from_followed job setup s (record { whole = whole; least = least; most = most }) (run_from job setup lines s run);
}
