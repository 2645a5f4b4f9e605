use Rattle.std.proofs.Common.{Some, ap, ◌∙◌}
use Rattle.nim_command.specs.Holds.{put_at}
use Rattle.nim_store.proofs.Slots.{set_put}
use Rattle.nim_store.proofs.store.put_into.Goals as goal

pub returns-clause-ok : goal.returns-clause-ok
returns-clause-ok c =
    rw c.from.ensures (set_put c.reach.new.slots.items c.args.slot (Some c.args.held) c.in_ok-reach.ensures.there)
    ∙ ap (put_at c.args.slot (Some c.args.held)) c.reach.ensures.slots
