use Rattle.std.proofs.Common.{◌∙◌, is_some, ap, sym}
use Rattle.std.specs.List.{list_all}
use Rattle.std.proofs.lemmas.Bool.{and_from}
use Rattle.nim_base.specs.declared.number.Slot.{Slot}
use Rattle.nim_command.specs.Slots.{reads_of, writes_of}
use Rattle.nim_queue.specs.Used.{used_in}
use Rattle.nim_queue.proofs.Covering.{all_stay, same_again}
use Rattle.nim_queue.proofs.room.cover_arrival.Goals as goal

pub returns-in_err-cover-2-clause-same : goal.returns-in_err-cover-2-clause-same
returns-in_err-cover-2-clause-same c = same_again _ _ _ _ c.cover.ensures.same c.cover-2.ensures.same

pub returns-clause-same : goal.returns-clause-same
returns-clause-same c = same_again _ _ _ _ c.cover.ensures.same c.cover-2.ensures.same

pub returns-clause-covered : goal.returns-clause-covered
returns-clause-covered c =
    let was = λ (slot : Slot). is_some (used_in c.cover.new.slots.items slot.0) in
    let now = λ (slot : Slot). is_some (used_in c.cover-2.new.slots.items slot.0) in
    let kind = c.args.arrival.now.command.kind in
    and_from (list_all now (reads_of kind)) (list_all now (writes_of kind))
    (all_stay was now (reads_of kind) (λ slot there. c.cover-2.ensures.same.stays slot.0 there)
    (sym (ap (list_all was) c.reads.ensures) ∙ c.in_ok-cover.ensures.covered))
    (sym (ap (list_all now) c.writes.ensures) ∙ c.in_ok-cover-2.ensures.covered)
