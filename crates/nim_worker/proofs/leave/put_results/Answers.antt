use Rattle.std.proofs.Common.{◌≡◌, [], sym, ◌∙◌, rules}
use Rattle.std.proofs.lemmas.List.{nil_from_length}
use Rattle.nim_worker.proofs.Completes.{put_none}
use Rattle.nim_worker.proofs.leave.put_results.Goals as goal

pub returns-then-is_empty-clause-slots : goal.returns-then-is_empty-clause-slots
returns-then-is_empty-clause-slots c =
    let none : c.loop-slot.results.items ≡ [] = nil_from_length c.loop-slot.results.items (search rules) in
    sym (put_none _ _ _ _ _ none) ∙ c.loop-slot.invariant.same_end
