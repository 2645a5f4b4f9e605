use Rattle.std.proofs.Common.{ap, sym, ◌∙◌}
use Rattle.std.specs.FinMap as map
use Rattle.std.specs.Option.{is_some}
use Rattle.nim_store.proofs.Frames.{get_found}
use Rattle.nim_store.proofs.inbox.Inbox.has.Goals as goal

pub returns : goal.returns
returns c =
    c.contains_key.ensures
    ∙ ap is_some (sym (get_found c.self.inside.values.entries c.args.key.now) ∙ ap (λ m. map.get m c.args.key.now) c.self.view_is)
