use Rattle.std.proofs.Common.{◌≡◌, ℕ, ◌+◌, ◌∙◌, ap, arith, length, map}
use Rattle.std.specs.List.{list_all, range_with_len}
use Rattle.nim_job.specs.Machine.{is_span, span_of}
use Rattle.nim_job.proofs.Spans.{all_spans, span_at, spans_more}
use Rattle.nim_job.proofs.Whole.{vars_sizes, objects_more, objects_some}
use Rattle.nim_job.proofs.span.spans.Goals as goal

pub overflow_add-first : goal.overflow_add-first
overflow_add-first c =
    let sizes = vars_sizes c.args.vars.now c.requires in
    let more = objects_more c.args.vars.now c.loop-var.var-index c.var-item.result c.loop-var-test.true c.var-item.is in
    omega (arith, sizes.0, more, objects_some c.args.vars.now (c.loop-var.var-index + 1), c.loop-var.invariant.first)

pub loop-var-preserved : goal.loop-var-preserved
loop-var-preserved c =
    let vars = c.args.vars.now in
    let i = c.loop-var.var-index in
    let v = c.var-item.result in
    record {
      spans = spans_more vars c.loop-var.spans.items c.push.new.self.items (record { first = c.loop-var.first; parts = v.parts }) i c.in_ok-push.ensures.items
          c.loop-var.invariant.spans
          (span_at vars i c.loop-var.first v c.loop-var-test.true c.var-item.is c.loop-var.invariant.first);
      first = (let more = objects_more vars i v c.loop-var-test.true c.var-item.is in omega (arith, more, c.loop-var.invariant.first));
    }

pub returns-clause-each : goal.returns-clause-each
returns-clause-each c =
    let vars = c.args.vars.now in
    let index : c.loop-var.var-index ≡ length vars = omega arith in
    ap (list_all is_span) (c.loop-var.invariant.spans ∙ ap (λ (n : ℕ). map (span_of vars) (range_with_len 0 n)) index) ∙ all_spans vars c.requires
