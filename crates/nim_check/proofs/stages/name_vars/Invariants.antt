use Rattle.std.proofs.Common.{◌≡◌, true, take}
use Rattle.std.specs.List.{list_all}
use Rattle.nim_parse.specs.declared.sections.Ref.{Ref}
use Rattle.nim_check.specs.Made.{var_names}
use Rattle.nim_check.specs.Names.{is_in}
use Rattle.nim_check.proofs.stages.name_vars.Given as goal

abbrev pub invariant-loop-part : goal.invariant-loop-part
invariant-loop-part l = list_all (λ (ref : Ref). is_in (var_names l.vars) ref.name) (take l.part-index l.refs) ≡ true
