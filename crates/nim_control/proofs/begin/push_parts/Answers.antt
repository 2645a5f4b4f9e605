use Rattle.std.proofs.Common.{◌+◌, arith, refl}
use Rattle.nim_control.proofs.Alone.{has_still, part_given, stay_on}
use Rattle.nim_control.proofs.begin.push_parts.Goals as goal

pub overflow_add-object : goal.overflow_add-object
overflow_add-object c = omega (arith, c.requires.within, c.requires.few, c.loop-part-test.true)

pub loop-part-preserved : goal.loop-part-preserved
loop-part-preserved c = record {
  given = λ d has.
      part_given d c.args.epoch c.args.var.now c.args.first c.loop-part.part (record { 0 = c.args.first + c.loop-part.part }) c.in_ok-kind.kind
      c.args.orders.now.items c.loop-part.orders.items c.push_first.new.orders.items c.args.sites.now c.loop-part.sites c.push_first.new.sites
      (has_still d c.args.sites.now c.loop-part.sites has c.loop-part.invariant.stay) refl c.in_ok-kind.ensures (c.loop-part.invariant.given d has)
      c.in_ok-push_first.ensures.given;
  stay = stay_on c.args.sites.now c.loop-part.sites c.push_first.new.sites c.loop-part.invariant.stay c.in_ok-push_first.ensures.stay;
}
