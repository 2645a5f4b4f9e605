use Rattle.std.proofs.Common.{◌≡◌, true, take}
use Rattle.std.specs.List.{list_all}
use Rattle.nim_job.specs.Whole.{is_ref}
use Rattle.nim_job.proofs.wholeness.blocks.are_refs.Given as goal

abbrev pub invariant-loop-part : goal.invariant-loop-part
invariant-loop-part l = list_all (is_ref l.vars l.each) (take l.part-index l.refs) ≡ true
