use Rattle.std.proofs.Common.{rules, refl}
use Rattle.nim_template.proofs.Templates.{template_is}
use Rattle.nim_template.proofs.build.template_of.Goals as goal

pub returns : goal.returns
returns c =
    template_is c.args.template c.args.workers c.args.slots.items c.args.walk c.args.homes.items c.from_vec-3.result c.from_vec-4.result
    c.args.template.forms c.from_vec-halves.result c.in_ok-built.built c.from_vec.result c.from_vec-2.result c.new.result c.in_ok-copies.copies.items
    c.push_closings.new.entries c.closings.new.offsets
    refl
    (search (rules, c.from_vec.ensures, c.in_ok-needs.ensures, c.as_slice.ensures.value))
    (search (rules, c.in_ok-copies.ensures.copies, c.as_slice-2.ensures.value, c.from_vec.ensures))
    (search (rules, c.in_ok-copies.ensures.closed, c.as_slice-2.ensures.value, c.from_vec.ensures))
    (search (rules, c.in_ok-push_closings.ensures, c.as_slice-3.ensures.value))
    (search (rules, c.from_vec-halves.ensures, c.in_ok-all_halves.ensures, c.into_vec.ensures))
    (search (rules, c.in_ok-built.ensures))
    (search (rules, c.from_vec-2.ensures, c.in_ok-effect.ensures, c.as_slice-4.ensures.value))
    c.from_vec-3.ensures
    (search (rules, c.from_vec-4.ensures, c.in_ok-owners.ensures.items, c.as_slice-5.ensures.value))
    c.new.ensures
