use Rattle.std.proofs.Common.{◌∙◌, sym}
use Rattle.std.specs.List.{list_all, range_with_len}
use Rattle.nim_command.specs.Covered.{is_kept_in_order}
use Rattle.nim_plan.specs.Reached.{row_of}
use Rattle.nim_plan.proofs.Lists.{all_more, all_not, pushed}
use Rattle.nim_plan.proofs.covering.covered.Goals as goal

pub returns-then-not-keeps_order : goal.returns-then-not-keeps_order
returns-then-not-keeps_order c =
    let commands = c.args.commands.now in
    all_not (λ later. list_all (is_kept_in_order commands later) (range_with_len 0 later)) _ c.loop-later.later c.loop-later-test.true
    (sym c.keeps_order.ensures ∙ c.if-not-keeps_order.true)

pub loop-later-preserved : goal.loop-later-preserved
loop-later-preserved c =
    let commands = c.args.commands.now in
    record {
      rows = pushed (row_of commands) c.loop-later.rows.items c.push.new.self.items c.in_ok-row.row c.loop-later.later c.in_ok-push.ensures.items
          c.loop-later.invariant.rows c.in_ok-row.ensures;
      kept =
          all_more (λ later. list_all (is_kept_in_order commands later) (range_with_len 0 later)) c.loop-later.later c.loop-later.invariant.kept
          (sym c.keeps_order.ensures ∙ c.if-not-keeps_order.false);
    }
