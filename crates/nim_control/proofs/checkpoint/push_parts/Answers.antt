use Rattle.std.proofs.Common.{◌≡◌, ◌∙◌, ℕ, ◌++◌, List, ap, arith, map}
use Rattle.std.specs.List.{range_with_len}
use Rattle.nim_base.specs.Value.{Grid}
use Rattle.nim_job.proofs.Lists.{pushed}
use Rattle.nim_control.specs.Checkpoints.{at_first, first_value}
use Rattle.nim_control.proofs.Checkpoints.{parts_by_number}
use Rattle.nim_control.proofs.checkpoint.push_parts.Goals as goal

pub loop-part-preserved : goal.loop-part-preserved
loop-part-preserved c =
    pushed (λ (part : ℕ). at_first (first_value c.args.var.now.shape c.args.var.now.init part)) c.args.objects.now.items c.loop-part.objects.items
    c.push.new.self.items (at_first c.in_ok-first_value.field-0) c.loop-part.part c.in_ok-push.ensures.items c.loop-part.invariant
    (ap at_first c.in_ok-first_value.ensures)

pub returns : goal.returns
returns c =
    let all : c.loop-part.part ≡ c.args.var.now.parts = omega (arith, c.loop-part-test.false, c.loop-part.auto.part-end) in
    c.loop-part.invariant
    ∙ ap (λ (values : List (ℕ × Grid)). c.args.objects.now.items ++ values)
    (ap (λ (n : ℕ). map (λ (part : ℕ). at_first (first_value c.args.var.now.shape c.args.var.now.init part)) (range_with_len 0 n)) all
    ∙ parts_by_number c.args.var.now c.args.var.now.init c.requires.values)
