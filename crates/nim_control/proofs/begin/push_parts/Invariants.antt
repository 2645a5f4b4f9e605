-- the parts so far
use Rattle.std.proofs.Common.{map}
use Rattle.std.specs.List.{range_with_len}
use Rattle.nim_course.specs.Controller.{Controller}
use Rattle.nim_course.specs.OrdersGiven.{first_command}
use Rattle.nim_control.specs.Given.{AreAlone}
use Rattle.nim_control.specs.Sites.{HasSites, SitesStay}
use Rattle.nim_control.proofs.begin.push_parts.Given as goal

abbrev pub invariant-loop-part : goal.invariant-loop-part
invariant-loop-part l = record {
  given : (c : Controller) → HasSites c l.initial.sites
      → AreAlone l.epoch (map (first_command c l.var l.first) (range_with_len 0 l.part)) l.initial.orders.items l.initial.sites l.orders.items l.sites;
  stay : SitesStay l.initial.sites l.sites;
}
