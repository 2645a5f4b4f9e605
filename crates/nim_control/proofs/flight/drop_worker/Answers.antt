use Rattle.std.proofs.Common.{◌==◌, rules, not}
use Rattle.std.proofs.lemmas.Fn.{filter_same}
use Rattle.nim_control.proofs.flight.drop_worker.Goals as goal

pub returns : goal.returns
returns c = filter_same _ (λ worker. not (worker.0 == c.args.from.0)) _ (λ x b f' called. search rules) _ _ c.retain.ensures.filtered
