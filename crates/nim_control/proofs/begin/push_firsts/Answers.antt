use Rattle.std.proofs.Common.{drop, arith}
use Rattle.std.proofs.lemmas.List.{drop_all}
use Rattle.nim_job.proofs.Whole.{objects_more}
use Rattle.nim_control.proofs.Alone.{all_begun, has_still, stay_on, var_begun}
use Rattle.nim_control.proofs.begin.push_firsts.Goals as goal

pub loop-var-preserved : goal.loop-var-preserved
loop-var-preserved c = record {
  first = omega (
    arith,
    objects_more c.args.vars.now c.loop-var.var-index c.var-item.result c.loop-var-test.true c.var-item.is,
    c.loop-var.invariant.first,
  );
  begun = λ d has.
      var_begun d c.args.epoch c.args.vars.now c.args.orders.now.items c.loop-var.orders.items c.push_parts.new.orders.items c.args.sites.now c.loop-var.sites
      c.push_parts.new.sites c.loop-var.first c.args.vars.now c.loop-var.var-index c.var-item.result c.loop-var-test.true c.var-item.is
      (c.loop-var.invariant.begun d has)
      (c.in_ok-push_parts.ensures.given d (has_still d c.args.sites.now c.loop-var.sites has c.loop-var.invariant.stay));
  stay = stay_on c.args.sites.now c.loop-var.sites c.push_parts.new.sites c.loop-var.invariant.stay c.in_ok-push_parts.ensures.stay;
}

pub returns-clause-given : goal.returns-clause-given
returns-clause-given c = λ d has.
    all_begun d c.args.epoch c.args.vars.now c.args.orders.now.items c.loop-var.orders.items c.args.sites.now c.loop-var.sites c.loop-var.first
    (drop c.loop-var.var-index c.args.vars.now) (drop_all c.loop-var.var-index c.args.vars.now (omega (arith, c.loop-var-test.false)))
    (c.loop-var.invariant.begun d has)
