use Rattle.std.proofs.Common.{rules}
use Rattle.std.proofs.lemmas.Map.Made.{filter_same_pairs}
use Rattle.nim_store.specs.Keys.{is_not_before}
use Rattle.nim_store.proofs.inbox.retain_from.Goals as goal

pub returns : goal.returns
returns c =
    filter_same_pairs _ (λ entry. is_not_before c.args.epoch entry.0) _ (λ k v b w f' t. search rules) c.args.values.now.entries c.retain.new.self.entries
    c.retain.ensures.filtered
