-- What a cluster has come to: its controller, and what happened at each worker and waits on its links.
use Rattle.std.specs.Prelude.{ℕ, Bool, List, [], replicate, Option, None}
use Rattle.std.specs.Option.{is_some}
use Rattle.nim_message.specs.declared.frame.Data.{Data}
use Rattle.nim_message.specs.declared.order.ToWorker.{ToWorker}
use Rattle.nim_message.specs.declared.report.FromWorker.{FromWorker}
use Rattle.nim_job.specs.declared.job.Job.{Job}
use Rattle.nim_course.specs.declared.setup.Setup.{Setup}
use Rattle.nim_course.specs.Controller.{Controller, new_controller}
use Rattle.nim_place.specs.Directed.{Directed}
use Rattle.nim_history.specs.History.{Happening}
use Rattle.nim_lockstep.specs.declared.given.Given.{Given}
use Rattle.nim_lockstep.specs.declared.ran.Ran.{Ran}

-- A batch that is out: the places of its commands, the runs among them with what they read, and whether a Reset came
-- since it was begun.
pub record Batched : Type 0 where
  pub places : List ℕ
  pub runs : List Ran
  pub stale : Bool

-- A worker with its links: all that happened at it, the batch that is out, the orders that it didn't take yet, its
-- reports that the controller didn't take yet, and from each worker the frames of data that it didn't take yet.
pub record Node : Type 0 where
  pub happened : List Happening
  pub batch : Option Batched
  pub orders : List ToWorker
  pub reports : List FromWorker
  pub frames : List (List Data)

-- A cluster: its job and how it is run, where its controller stands, all orders that the controller gave, its workers
-- with their links, the Runs that were performed, and the events that it was given.
pub record ClusterState : Type 0 where
  pub job : Job
  pub setup : Setup
  pub control : Controller
  pub put : List Directed
  pub nodes : List Node
  pub trace : List Ran
  pub given : List Given

-- whether its job has ended
abbrev pub has_ended : ClusterState → Bool
has_ended s = is_some s.control.outcome

-- one of so many workers that nothing happened at
abbrev pub new_node : ℕ → Node
new_node workers =
    record { happened = []; batch = None; orders = []; reports = []; frames = replicate workers [] }

-- a cluster whose controller took no turn yet
abbrev pub unbegun : Job → Setup → ClusterState
unbegun job setup = record {
  job = job;
  setup = setup;
  control = new_controller job setup;
  put = [];
  nodes = replicate setup.workers (new_node setup.workers);
  trace = [];
  given = [];
}
