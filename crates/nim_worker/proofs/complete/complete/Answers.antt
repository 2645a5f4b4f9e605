use Rattle.std.proofs.Common.{◌≡◌, ◌∙◌, Box, Global, Option, ap, sym, subst}
use Rattle.nim_base.specs.declared.number.Slot.{Slot}
use Rattle.nim_command.specs.declared.command.Kind.{Kind}
use Rattle.nim_store.specs.declared.held.Held.{Held}
use Rattle.nim_store.specs.Stored.{slot_at}
use Rattle.nim_history.specs.Kept.{kept_by}
use Rattle.nim_worker.specs.declared.inputs.Inputs.{Inputs}
use Rattle.nim_worker.specs.Chains.{AreWorks}
use Rattle.nim_worker.specs.Inputs.{given_back}
use Rattle.nim_worker.specs.Leaves.{told_with}
use Rattle.nim_worker.proofs.Beside.{beside}
use Rattle.nim_worker.proofs.Chains.{first_of}
use Rattle.nim_worker.proofs.Completes.{left_is, told_is}
use Rattle.nim_worker.proofs.KeptBeside.{outs_same}
use Rattle.nim_worker.proofs.complete.complete.Goals as goal

pub returns-clause-chain : goal.returns-clause-chain
returns-clause-chain c = λ before begun more works same are.
    let shapes = c.args.store.now.shapes in
    let now = slot_at c.args.store.now in
    let first = first_of shapes c.args.frame before now begun more c.args.work works are in
    let returned = c.in_ok-give_back.ensures.slots ∙ ap (λ (i : Inputs). given_back i.taken.items i.values.items now) c.deref_mut.ensures.value in
    let left = left_is shapes c.give_back.new.store.shapes (beside begun.kind before now) now (slot_at c.give_back.new.store) (slot_at c.leave.new.store) begun
    c.args.work c.perform.new.self
    c.args.frame c.args.command.kind first.is c.in_ok-perform.ensures.ok same c.in_ok-give_back.ensures.shapes returned c.in_ok-out.ensures.slots in
    subst (λ (f : Slot → Option Held). AreWorks shapes (kept_by shapes c.args.frame begun.kind before) f more works) (sym left) first.rest

pub returns-clause-outs : goal.returns-clause-outs
returns-clause-outs c = λ before begun more works group same are head.
    let shapes = c.args.store.now.shapes in
    let now = slot_at c.args.store.now in
    let mixed = beside begun.kind before now in
    let first = first_of shapes c.args.frame before now begun more c.args.work works are in
    let inputs = ap (λ (b : Box Inputs Global). b.value) c.in_ok-perform.ensures.ok.inputs in
    let returned : slot_at c.give_back.new.store ≡ mixed =
    c.in_ok-give_back.ensures.slots ∙ ap (λ (i : Inputs). given_back i.taken.items i.values.items now) (c.deref_mut.ensures.value ∙ inputs)
    ∙ first.is.inputs.back in
    c.in_ok-out.ensures.out group head
    ∙ ap (told_with group c.args.command.kind c.in_ok-contents.contents.items) returned
    ∙ ap (λ (k : Kind). told_with group k c.in_ok-contents.contents.items mixed) (sym same)
    ∙ told_is group mixed begun.kind c.in_ok-contents.contents.items
    (λ single. c.in_ok-contents.ensures (head.single ∙ single) ∙ c.as_slice.ensures.value ∙ ap (λ (i : Inputs). i.contents.items) (c.deref.ensures ∙ inputs)
    ∙ first.is.inputs.contents)
    ∙ outs_same group begun.kind mixed before first.same
