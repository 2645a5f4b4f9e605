use Rattle.std.proofs.Common.{rules, not}
use Rattle.std.proofs.lemmas.Fn.{filter_same}
use Rattle.nim_command.specs.Slots.{does_write}
use Rattle.nim_plan.proofs.waits.keep_free.Goals as goal

pub returns : goal.returns
returns c = filter_same _ (λ slot. not (does_write c.args.kind.now slot)) _ (λ x b f' called. search rules) _ _ c.retain.ensures.filtered
