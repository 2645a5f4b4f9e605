use Rattle.std.proofs.Common.{◌≡◌, map, take}
use Rattle.nim_check.specs.Made.{ref_of, var_names}
use Rattle.nim_check.proofs.stages.refs_of.Given as goal

abbrev pub invariant-loop-part : goal.invariant-loop-part
invariant-loop-part l = l.made ≡ map (ref_of (var_names l.vars)) (take l.part-index l.refs)
