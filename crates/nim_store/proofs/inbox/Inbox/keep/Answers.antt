use Rattle.std.proofs.Common.{ap, ◌∙◌}
use Rattle.std.specs.FinMap as map
use Rattle.nim_store.proofs.Frames.{one_kept}
use Rattle.nim_store.specs.Keys.{key_of}
use Rattle.nim_store.proofs.inbox.Inbox.keep.Goals as goal

pub returns-clause-ok : goal.returns-clause-ok
returns-clause-ok c =
    let before = c.self.inside.values.entries in
    one_kept before c.insert.new.self.entries c.of-key.result c.args.frame.value c.in_ok-insert.ensures.updates.0
    ∙ ap (λ k. map.insert (map.from_entries before) k c.args.frame.value) c.of-key.ensures
    ∙ ap (λ m. map.insert m (key_of c.args.frame) c.args.frame.value) c.self.view_is
