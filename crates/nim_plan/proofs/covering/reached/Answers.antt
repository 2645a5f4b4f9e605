use Rattle.std.proofs.Common.{◌∙◌, refl}
use Rattle.std.proofs.lemmas.Option.{slice_get_read}
use Rattle.nim_command.specs.Covered.{is_reached}
use Rattle.nim_plan.proofs.Lists.{pushed}
use Rattle.nim_plan.proofs.Reach.{reached_by_rows}
use Rattle.nim_plan.proofs.covering.reached.Goals as goal

pub loop-earlier-preserved : goal.loop-earlier-preserved
loop-earlier-preserved c =
    pushed (is_reached c.args.later c.args.commands.now c.args.later) c.loop-earlier.row c.push.new.self c.is_reached.result c.loop-earlier.earlier
    c.in_ok-push.ensures.ok c.loop-earlier.invariant
    (c.is_reached.ensures ∙ reached_by_rows c.args.commands.now c.args.rows.now c.args.later c.loop-earlier.earlier c.index-commands-later.result
    c.requires.rows
    (slice_get_read c.args.commands.now _ c.args.later c.index-commands-later.result refl c.requires.later c.index-commands-later.is))
