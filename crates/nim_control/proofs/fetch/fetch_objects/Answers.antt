use Rattle.std.proofs.Common.{◌+◌, ◌≤◌, ℕ, None, ap, arith, refl}
use Rattle.nim_base.specs.declared.number.Object.{Object}
use Rattle.nim_course.specs.declared.fetched.Fetched.{Fetched}
use Rattle.nim_control.proofs.Fetches.{one_fetched}
use Rattle.nim_control.proofs.fetch.fetch_objects.Goals as goal

pub loop-part-preserved : goal.loop-part-preserved
loop-part-preserved c =
    let object : Object = record { 0 = c.args.first + c.loop-part.part } in
    let one : ℕ → Fetched = λ (version : ℕ). record { object = object; version = version; value = None } in
    let fits : c.args.ticket ≤ 4294967295 = omega (arith, c.ranges.ticket) in
    one_fetched c.args.sites.now.versions c.args.epoch c.args.ticket c.args.first c.args.orders.now.items c.loop-part.next c.saturating_add-next.result
    c.loop-part.part c.loop-part.orders.items c.push_fetch.new.orders.items c.loop-part.fetched.items c.push.new.self.items object (one c.latest.result) fits
    refl
    (ap one c.latest.ensures) c.in_ok-push_fetch.ensures c.in_ok-push.ensures.items c.saturating_add-next.ensures c.loop-part.invariant
