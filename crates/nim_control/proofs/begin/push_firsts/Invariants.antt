-- the variables so far
use Rattle.std.proofs.Common.{◌≡◌, drop, take}
use Rattle.nim_job.specs.Objects.{objects_of}
use Rattle.nim_course.specs.Controller.{Controller}
use Rattle.nim_control.specs.Sites.{HasSites, SitesStay}
use Rattle.nim_control.proofs.Alone.{AreBegun}
use Rattle.nim_control.proofs.begin.push_firsts.Given as goal

abbrev pub invariant-loop-var : goal.invariant-loop-var
invariant-loop-var l = record {
  first : l.first ≡ objects_of (take l.var-index l.vars);
  begun : (c : Controller) → HasSites c l.initial.sites
      → AreBegun c l.epoch l.vars l.initial.orders.items l.initial.sites l.first (drop l.var-index l.vars) l.orders.items l.sites;
  stay : SitesStay l.initial.sites l.sites;
}
