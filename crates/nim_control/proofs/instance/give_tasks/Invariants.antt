-- the tasks so far
use Rattle.std.proofs.Common.{◌≡◌, [], drop, map, take}
use Rattle.nim_job.specs.Tasks.{task_with_args}
use Rattle.nim_course.specs.Controller.{Controller}
use Rattle.nim_control.specs.Given.{IsToRun}
use Rattle.nim_control.specs.Sites.{SitesStay}
use Rattle.nim_control.proofs.Instances.{AreOnTheWay, runs_at}
use Rattle.nim_control.proofs.instance.give_tasks.Given as goal

abbrev pub invariant-loop-form : goal.invariant-loop-form
invariant-loop-form l = record {
  number : l.number ≡ l.form-index;
  way : (c : Controller) → IsToRun c l.instance l.initial.sites
      → AreOnTheWay c (map (task_with_args l.args) l.forms) l.initial.orders.items l.initial.sites l.number
      (drop l.form-index (map (task_with_args l.args) l.forms))
      l.orders.items l.sites;
  flight : l.flight ≡ record {
    instance = l.instance.instance;
    base = l.instance.base;
    runs = runs_at l.initial.sites (take l.form-index (map (task_with_args l.args) l.forms));
    through = [];
  };
  stay : SitesStay l.initial.sites l.sites;
}
