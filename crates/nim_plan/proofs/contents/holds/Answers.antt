use Rattle.std.proofs.Common.{◌∙◌}
use Rattle.nim_plan.proofs.Past.{holds_cut}
use Rattle.nim_plan.proofs.contents.holds.Goals as goal

pub returns : goal.returns
returns c = c.held.ensures ∙ holds_cut c.args.commands.now c.args.before c.min.result c.args.slot c.min.ensures
