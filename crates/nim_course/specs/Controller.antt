-- What a controller has come to.
use Rattle.std.specs.Prelude.{ℕ, Bool, true, ◌||◌, nat_lt, List, [], length, replicate, Option, None}
use Rattle.std.specs.List.{list_any}
use Rattle.std.specs.Option.{is_some}
use Rattle.nim_base.specs.declared.number.Worker.{Worker}
use Rattle.nim_job.specs.declared.job.Job.{Job}
use Rattle.nim_job.specs.Machine.{Machine, start_machine}
use Rattle.nim_job.specs.Objects.{objects_of}
use Rattle.nim_place.specs.declared.placement.Placement.{Placement}
use Rattle.nim_place.specs.Versions.{Versions, no_versions}
use Rattle.nim_reuse.specs.Decisions.{Decisions, no_decisions}
use Rattle.nim_course.specs.declared.fetched.Fetched.{Fetched}
use Rattle.nim_course.specs.declared.outcome.Outcome.{Outcome}
use Rattle.nim_course.specs.declared.pending.Pending.{Pending}
use Rattle.nim_course.specs.declared.setup.Setup.{Setup}
use Rattle.nim_course.specs.declared.summary.Summary.{Summary}
use Rattle.nim_course.specs.Summaries.{new_summary}

-- An instance in flight: its number; the position of its task 0; of each task that was scheduled by itself the worker
-- that is to report it, or nothing once it was reported; and where the instance was asked for as a whole, the workers
-- that are to report that they are through.
pub record Flight : Type 0 where
  pub instance : ℕ
  pub base : ℕ
  pub runs : List (Option Worker)
  pub through : List Worker

-- whether a report of an instance is awaited
abbrev pub is_in_flight : Flight → Bool
is_in_flight flight =
    list_any (λ (run : Option Worker). is_some run) flight.runs || nat_lt 0 (length flight.through)

-- A controller: its job, the rule of placement and a flag for each live worker; where its driver's machine stands;
-- which versions lie where; what it decided of its blocks; the epoch; how many tasks, and in this epoch how many
-- instances and tickets, were given; what it has to do before the driver goes on; what was fetched last, the first of
-- it under this ticket; the instances in flight, oldest first; whether a turn is due; the outcome, once it came; and
-- what it counted.
pub record Controller : Type 0 where
  pub job : Job
  pub place : Placement
  pub live : List Bool
  pub machine : Machine
  pub versions : Versions
  pub decisions : Decisions
  pub epoch : ℕ
  pub position : ℕ
  pub instance : ℕ
  pub ticket : ℕ
  pub pending : Pending
  pub first : ℕ
  pub fetched : List Fetched
  pub flight : List Flight
  pub due : Bool
  pub outcome : Option Outcome
  pub summary : Summary

-- A controller that was just made: all workers are live, and nothing was given.
abbrev pub new_controller : Job → Setup → Controller
new_controller job setup = record {
  job = job;
  place = setup.place;
  live = replicate setup.workers true;
  machine = start_machine job;
  versions = no_versions setup.workers (objects_of job.vars);
  decisions = no_decisions (length job.blocks);
  epoch = 0;
  position = 0;
  instance = 0;
  ticket = 0;
  pending = Pending.Begin;
  first = 0;
  fetched = [];
  flight = [];
  due = true;
  outcome = None;
  summary = new_summary setup.workers;
}
