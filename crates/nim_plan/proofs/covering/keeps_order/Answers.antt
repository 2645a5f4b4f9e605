use Rattle.std.proofs.Common.{◌∙◌, length, sym, ap, arith}
use Rattle.nim_command.specs.Covered.{is_kept_in_order}
use Rattle.nim_plan.proofs.Lists.{all_more, all_not}
use Rattle.nim_plan.proofs.Reach.{kept_at, length_row}
use Rattle.nim_plan.proofs.covering.keeps_order.Goals as goal

pub bounds-row-earlier : goal.bounds-row-earlier
bounds-row-earlier c = omega (arith, ap length c.requires.row, length_row c.args.commands.now c.args.later)

pub returns-then-not-is_kept : goal.returns-then-not-is_kept
returns-then-not-is_kept c =
    let commands = c.args.commands.now in
    all_not (is_kept_in_order commands c.args.later) c.args.later c.loop-earlier.earlier c.loop-earlier-test.true
    (sym (kept_at commands c.args.later c.loop-earlier.earlier c.index-commands-later.result c.index-commands-earlier.result c.args.row.now _ c.requires.later
    c.loop-earlier-test.true c.requires.row)
    ∙ sym c.is_kept.ensures ∙ c.if-not-is_kept.true)

pub loop-earlier-preserved : goal.loop-earlier-preserved
loop-earlier-preserved c =
    let commands = c.args.commands.now in
    all_more (is_kept_in_order commands c.args.later) c.loop-earlier.earlier c.loop-earlier.invariant
    (sym (kept_at commands c.args.later c.loop-earlier.earlier c.index-commands-later.result c.index-commands-earlier.result c.args.row.now _ c.requires.later
    c.loop-earlier-test.true c.requires.row)
    ∙ sym c.is_kept.ensures ∙ c.if-not-is_kept.false)
