use Rattle.std.proofs.Common.{◌≡◌, List, ap, arith, length, subst}
use Rattle.std.specs.Prelude.{IsSomeAnd, slice_get}
use Rattle.nim_command.specs.Waits.{Member, waits_of}
use Rattle.nim_message.specs.Orders.{session_of}
use Rattle.nim_plan.proofs.Listed.{length_members, placed_more}
use Rattle.nim_plan.proofs.listing.commands.Goals as goal

pub loop-place-preserved : goal.loop-place-preserved
loop-place-preserved c =
    let members = c.in_ok-members.members.items in
    placed_more members c.loop-place.commands.items c.push.new.self.items c.in_ok-placed.field-0 c.loop-place.place (omega (arith, c.as_slice.ensures.len))
    (subst (λ (ms : List Member). IsSomeAnd (slice_get ms c.loop-place.place)
    (λ m. c.in_ok-placed.field-0 ≡ record m.command { id = c.loop-place.place; before = waits_of ms c.loop-place.place }))
    c.as_slice.ensures.value c.in_ok-placed.ensures)
    c.loop-place.invariant c.in_ok-push.ensures.items

pub placed-requires-clause-few : goal.placed-requires-clause-few
placed-requires-clause-few c =
    let groups = (session_of c.args.orders.now).groups in
    omega (arith, ap length c.as_slice.ensures.value, ap length c.in_ok-members.ensures, length_members 0 groups, c.requires)
