use Rattle.nim_order.proofs.Chain.{more_names_cover, rule_covers}
use Rattle.nim_order.proofs.laws.before_sets_cover.Goals as goal

pub returns-clause-rule : goal.returns-clause-rule
returns-clause-rule c = rule_covers

pub returns-clause-more : goal.returns-clause-more
returns-clause-more c = more_names_cover
