-- Two values are loaded, one is reported and the other sent. The second of each is completed first, and may be.
use Rattle.std.proofs.Common.{◌≡◌, ℕ, List, [], ◌∷◌, pos, refl, arith}
use Rattle.nim_base.specs.declared.number.Shape.{Shape}
use Rattle.nim_base.specs.declared.number.Slot.{Slot}
use Rattle.nim_base.specs.declared.number.Worker.{Worker}
use Rattle.nim_base.specs.Value.{Grid}
use Rattle.nim_command.specs.declared.command.Command.{Command}
use Rattle.nim_command.specs.declared.command.Kind.{Kind}
use Rattle.nim_command.specs.declared.command.Kind.TheVariants.{Load, Send, Fetch}
use Rattle.nim_message.specs.declared.order.ToWorker.TheVariants.{Single, Reset}
use Rattle.nim_message.specs.declared.report.FromWorker.TheVariants.{Value}
use Rattle.nim_history.specs.declared.out.Out.{Out}
use Rattle.nim_history.specs.History.{Happening, IsHistory, Ordered, Completed, state_of}

slot : ℕ → Slot
slot n = record { 0 = n }

worker : ℕ → Worker
worker n = record { 0 = n }

-- a value of one cell
cell : ℕ → Grid
cell n = record { width = 1; rows = (pos n ∷ []) ∷ [] }

numbered : ℕ → Kind → List ℕ → Command
numbered id kind before = record { id = id; kind = kind; before = before }

-- the commands, in the order of the list
commands : List Command
unfolding slot worker cell numbered
commands =
    numbered 0 (Load (slot 0) 0 (cell 10)) [] ∷ numbered 1 (Load (slot 1) 0 (cell 11)) []
    ∷ numbered 2 (Send (slot 0) (worker 1) 7) (0 ∷ []) ∷ numbered 3 (Fetch (slot 1) 9) (1 ∷ []) ∷ []

history : List Happening
unfolding commands worker
history =
    let shape : Shape = record { width = 1; rows = 1 } in
    Ordered (Reset 4 (worker 0) 2 (shape ∷ shape ∷ [])) ∷ Ordered (Single 4 5 commands) ∷ Completed 1 ∷ Completed 3 ∷ Completed 0 ∷ Completed 2 ∷ []

-- each waits for nothing that isn't complete when its turn comes
may_be : IsHistory history
unfolding IsHistory history commands slot worker cell numbered
may_be = (
  tt,
  (
    tt,
    (
      record { released = record { within = omega arith; waiting = refl; waits = refl }; frame = refl },
      (
        record { released = record { within = omega arith; waiting = refl; waits = refl }; frame = refl },
        (
          record { released = record { within = omega arith; waiting = refl; waits = refl }; frame = refl },
          (record { released = record { within = omega arith; waiting = refl; waits = refl }; frame = refl }, tt),
        ),
      ),
    ),
  ),
)

-- the report comes first
gives : (state_of history).gave
    ≡ Out.Report (Value 4 9 (record { 0 = 1 }) 0 (cell 11))
    ∷ Out.Data (worker 1) (record { epoch = 4; instance = 5; entry = 7; object = record { 0 = 0 }; version = 0; value = cell 10 }) ∷ []
unfolding history commands slot worker cell numbered
gives = refl
