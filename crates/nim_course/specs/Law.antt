-- The law of controllers: whatever they are handed, so long as it is true of the job, they lead it.
use Rattle.std.specs.Prelude.{◌≡◌, ◌≤◌, true, List, [], ◌++◌}
use Rattle.nim_base.specs.declared.number.Worker.{Worker}
use Rattle.nim_message.specs.declared.report.FromWorker.{FromWorker}
use Rattle.nim_job.specs.declared.job.Job.{Job}
use Rattle.nim_job.specs.Whole.{is_whole}
use Rattle.nim_plan.specs.Good.{IsGood}
use Rattle.nim_course.specs.declared.setup.Setup.{Setup}
use Rattle.nim_course.specs.Controller.{Controller, new_controller}
use Rattle.nim_place.specs.Directed.{Directed}
use Rattle.nim_course.specs.Leads.{Leads}
use Rattle.nim_course.specs.Moves.{IsTurned}
use Rattle.nim_course.specs.Reports.{after_report}

-- Controllers lead their jobs.
pub record ControllersLead : Type 0 where
  -- one that was just made does
  pub starts : (job : Job) (setup : Setup) → is_whole job ≡ true → 1 ≤ setup.workers → setup.workers ≤ 16
      → Leads job (new_controller job setup) []
  -- it does after a turn, with the orders of this turn
  pub turns : (job : Job) (before after : Controller) (given orders : List Directed) → Leads job before given
      → IsTurned before orders after → Leads job after (given ++ orders)
  -- and after a report that is true of the job
  pub reports : (job : Job) (c : Controller) (given : List Directed) (from : Worker) (report : FromWorker)
      → Leads job c given → IsGood job report → Leads job (after_report c from report) given
