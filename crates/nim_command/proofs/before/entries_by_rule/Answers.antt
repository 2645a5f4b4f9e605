use Rattle.std.proofs.Common.{rules, ◌≡◌, ◌<◌, length}
use Rattle.nim_command.proofs.InPlace.{turned}
use Rattle.nim_command.proofs.before.entries_by_rule.Goals as goal

pub loop-index-preserved : goal.loop-index-preserved
loop-index-preserved c =
    let many : c.loop-index.entries.len ≡ length c.loop-index.entries.items = search rules in
    let inside : c.loop-index.index < length c.args.entries.items = search rules in
    let turn =
    turned c.args.entries.items c.loop-index.entries.items c.put_before.new.entries c.loop-index.entries.len c.loop-index.index c.put_before.new.uses many
    inside c.loop-index.invariant.ruled (search (rules, c.in_ok-put_before.ensures.ruled, c.as_mut_slice.ensures.value))
    (search (rules, c.in_ok-put_before.ensures.noted, c.as_mut_slice.ensures.value)) in
    record { ruled = turn.0; uses = turn.1 }
