use Rattle.std.proofs.Common.{◌≡◌, false, take}
use Rattle.std.specs.List.{list_any}
use Rattle.nim_parse.specs.declared.sections.Ref.{Ref}
use Rattle.nim_check.specs.Rules.{is_own}
use Rattle.nim_check.proofs.stages.name_own.Given as goal

abbrev pub invariant-loop-part : goal.invariant-loop-part
invariant-loop-part l = list_any (λ (ref : Ref). is_own ref.index) (take l.part-index l.refs) ≡ false
