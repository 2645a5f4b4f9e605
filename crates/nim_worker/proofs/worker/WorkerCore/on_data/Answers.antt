use Rattle.std.proofs.Common.{[], ◌∷◌}
use Rattle.std.proofs.lemmas.Bool.{lt-ltb}
use Rattle.nim_history.specs.History.{Framed, state_of}
use Rattle.nim_base.proofs.Lists.{ok_more}
use Rattle.nim_worker.proofs.Handed.{not_less, stands_framed, stands_late, stands_on}
use Rattle.nim_worker.proofs.worker.WorkerCore.on_data.Goals as goal

pub returns-then-frame-self-clause-stands : goal.returns-then-frame-self-clause-stands
returns-then-frame-self-clause-stands c = λ history out stands.
    stands_on c.args.self.now out history (Framed c.args.frame ∷ []) stands.history (record {}, record {})
    (stands_late c.args.self.now out (state_of history) c.args.frame (lt-ltb c.args.frame.epoch c.args.self.now.epoch c.if-frame-self.true) stands.at)

pub returns-clause-stands : goal.returns-clause-stands
returns-clause-stands c = λ history out stands.
    ok_more c.keep.result c.keep.ensures.ok (λ kept.
    stands_on (record c.args.self.now { inbox = c.keep.new.self }) out history (Framed c.args.frame ∷ []) stands.history (record {}, record {})
    (stands_framed c.args.self.now c.keep.new.self out (state_of history) c.args.frame (not_less c.args.frame.epoch c.args.self.now.epoch c.if-frame-self.false)
    kept stands.at))
