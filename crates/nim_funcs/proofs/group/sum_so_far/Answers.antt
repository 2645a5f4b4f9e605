use Rattle.std.proofs.Common.{◌∙◌, ap, pos}
use mir.Syntax.{w64}
use Rattle.std.specs.Option.{unwrap_or}
use Rattle.std.proofs.lemmas.Int.{to_z-of_z}
use Rattle.nim_funcs.specs.Groups.{sum_under}
use Rattle.nim_funcs.proofs.group.sum_so_far.Goals as goal

pub returns-in-None : goal.returns-in-None
returns-in-None c =
    ap (λ found. unwrap_or found (pos 0)) c.in-None.ensures.value
    ∙ ap (sum_under c.args.sums.now.entries) (to_z-of_z w64 c.args.key c.ranges.key)
