use Rattle.std.proofs.Common.{rules}
use mir.Syntax.{w64}
use mir.Val.{SFits}
use Rattle.std.proofs.lemmas.Int.{to_z-of_z}
use Rattle.nim_base.specs.Functions.{param_at}
use Rattle.nim_funcs.proofs.stencil.stencil_by.Goals as goal

pub returns : goal.returns
returns c =
    let first : SFits w64 (param_at c.args.params.now 0) = search rules in
    let second : SFits w64 (param_at c.args.params.now 1) = search rules in
    simp to_z-of_z at c.stencil.ensures
