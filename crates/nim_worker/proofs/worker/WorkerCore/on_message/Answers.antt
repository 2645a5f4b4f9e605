use Rattle.std.proofs.Common.{◌∙◌, [], ◌∷◌, sym}
use Rattle.nim_history.specs.History.{Ordered, state_of}
use Rattle.nim_base.proofs.Lists.{ok_more}
use Rattle.nim_worker.proofs.Handed.{stands_on, stands_passed}
use Rattle.nim_worker.proofs.worker.WorkerCore.on_message.Goals as goal

pub returns-then-passes_over-clause-stands : goal.returns-then-passes_over-clause-stands
returns-then-passes_over-clause-stands c = λ history out stands.
    stands_on c.args.self.now out history (Ordered c.args.order ∷ []) stands.history (record {}, record {})
    (stands_passed c.args.self.now out (state_of history) c.args.order (sym c.passes_over.ensures ∙ c.if-passes_over.true) stands.at)

pub returns-clause-stands : goal.returns-clause-stands
returns-clause-stands c = λ history out stands.
    ok_more c.take.result (c.take.ensures.at (state_of history) out stands.at) (λ at.
    stands_on c.take.new.self out history (Ordered c.args.order ∷ []) stands.history (record {}, record {}) at)
