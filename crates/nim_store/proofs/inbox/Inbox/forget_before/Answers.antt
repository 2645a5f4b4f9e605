use Rattle.std.proofs.Common.{ap, ◌∙◌}
use Rattle.std.specs.FinMap as map
use Rattle.nim_store.proofs.Frames.{forgotten}
use Rattle.nim_store.specs.Keys.{is_not_before}
use Rattle.nim_store.proofs.inbox.Inbox.forget_before.Goals as goal

pub returns : goal.returns
returns c =
    ap map.from_entries c.retain_from.ensures ∙ forgotten c.self.inside.values.entries c.args.epoch
    ∙ ap (λ m. map.retain_keys m (is_not_before c.args.epoch)) c.self.view_is
