use Rattle.std.proofs.Common.{◌≡◌, ◌+◌, ◌-◌, ◌<◌, ◌≤◌, ◌∙◌, List, length, ap, arith}
use Rattle.nim_base.specs.declared.number.Slot.{Slot}
use Rattle.nim_command.specs.Waits.{Member, waits_for}
use Rattle.nim_plan.specs.Free.{is_waited_free, kept_free, touched_by}
use Rattle.nim_plan.proofs.Walk.{free_first, free_step, waited_at, waits_first, waits_step}
use Rattle.nim_plan.proofs.waits.waits.Goals as goal

pub loop-at-init : goal.loop-at-init
loop-at-init c = record {
  within = omega arith;
  free =
      free_first c.args.members.now c.args.place c.index-members-place.result.command.kind c.in_ok-free.free.items
      (c.in_ok-free.ensures ∙ ap (λ (m : Member). touched_by m.command.kind) c.later.view_is);
  waits = waits_first (waits_for c.args.members.now c.args.place) c.args.place c.new-waits.result.items c.new-waits.ensures.items;
}

pub loop-at-preserved : goal.loop-at-preserved
loop-at-preserved c =
    let members = c.args.members.now in
    let place = c.args.place in
    let old = c.loop-at.at in
    let next = c.loop-at.at - 1 in
    let later = c.index-members-place.result in
    let earlier = c.index-members-at.result in
    let free = c.loop-at.free.items in
    let above : old ≡ next + 1 = omega arith in
    let within : old ≤ place = c.loop-at.invariant.within in
    let there : place < length members = c.requires.place in
    let there_too : place ≤ length members = omega arith in
    let waited =
    waited_at members next old place earlier later free above within there c.index-members-at.is c.index-members-place.is c.loop-at.invariant.free in
    record {
      within = omega arith;
      free =
          free_step members next old place later.command.kind earlier free c.keep_free.new.slots.items above within there_too c.index-members-at.is
          c.loop-at.invariant.free
          (c.keep_free.ensures ∙ ap (λ (m : Member). kept_free m.command.kind free) c.earlier.view_is);
      waits =
          waits_step (waits_for members place) next old place c.loop-at.waits.items c.push_if.new.waits.items c.is_waited-waited.result above within
          c.loop-at.invariant.waits
          (c.is_waited-waited.ensures ∙ ap (λ (slots : List Slot). is_waited_free earlier slots later) c.as_slice.ensures.value ∙ waited)
          c.in_ok-push_if.ensures;
    }
