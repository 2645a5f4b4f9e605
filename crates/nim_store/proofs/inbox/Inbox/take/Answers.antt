use Rattle.std.proofs.Common.{ap, sym, ◌∙◌}
use Rattle.std.specs.FinMap as map
use Rattle.nim_store.proofs.Frames.{get_found, one_taken}
use Rattle.nim_store.proofs.inbox.Inbox.take.Goals as goal

pub returns-clause-value : goal.returns-clause-value
returns-clause-value c =
    c.remove.ensures.value ∙ sym (get_found c.self.inside.values.entries c.args.key.now) ∙ ap (λ m. map.get m c.args.key.now) c.self.view_is

pub returns-clause-rest : goal.returns-clause-rest
returns-clause-rest c =
    one_taken c.self.inside.values.entries c.remove.new.self.entries c.args.key.now c.remove.ensures.updates.0
    ∙ ap (λ m. map.remove m c.args.key.now) c.self.view_is
