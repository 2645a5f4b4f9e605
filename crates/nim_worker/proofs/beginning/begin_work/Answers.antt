use Rattle.std.proofs.Common.{Box, Global, Some, subst}
use Rattle.std.proofs.lemmas.List.Elements.{All-pop}
use Rattle.nim_worker.specs.declared.inputs.Inputs.{Inputs}
use Rattle.nim_worker.specs.Beginning.{MayBeBegun}
use Rattle.nim_worker.specs.Inputs.{IsIdle}
use Rattle.nim_worker.proofs.beginning.begin_work.Goals as goal

pub returns-in-Some-pop-clause-work : goal.returns-in-Some-pop-clause-work
returns-in-Some-pop-clause-work c = λ groups ran admitted.
    subst (MayBeBegun c.args.store.now c.args.works.now.items c.args.ticket c.new.new.store c.push_reserved.new.self.items)
    (c.in-Some.ensures groups ran admitted) (record { work = c.new.result; last = c.push_reserved.ensures.items; is = c.new.ensures.work })

pub returns-in-Some-pop-clause-idle : goal.returns-in-Some-pop-clause-idle
returns-in-Some-pop-clause-idle c =
    (All-pop (λ (inputs : Box Inputs Global). IsIdle inputs.value) c.args.spare.now.items c.pop.new.self.items (Some c.in-Some-pop.inputs)
    c.in-Some-pop.ensures.items c.requires.idle).0
