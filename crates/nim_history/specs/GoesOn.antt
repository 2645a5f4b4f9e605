-- What a longer history comes to, and when it is true of a job.
use Rattle.std.specs.Prelude.{◌≡◌, ℕ, true, List, [], ◌∷◌, ◌++◌, map}
use Rattle.std.specs.List.{fold}
use Rattle.nim_command.specs.Covered.{is_covered}
use Rattle.nim_command.specs.Waits.{placed_commands}
use Rattle.nim_message.specs.declared.frame.Data.{Data}
use Rattle.nim_message.specs.declared.order.ToWorker.{ToWorker}
use Rattle.nim_message.specs.Orders.{after_order, session_of}
use Rattle.nim_job.specs.declared.job.Job.{Job}
use Rattle.nim_plan.specs.Good.{IsGoodFrame}
use Rattle.nim_plan.specs.Legal.{MayFollow}
use Rattle.nim_history.specs.History.{Happening, IsHistory, MayAllHappen, Ordered, Framed, Completed, after_happening, orders_in, state_of}
use Rattle.nim_history.specs.Truth.{IsHandedTruth}

-- A history goes on.
pub record HistoryGoesOn : Type 0 where
  -- it comes to what its front comes to and what happens behind it
  pub state : (history more : List Happening)
      → state_of (history ++ more) ≡ fold after_happening (state_of history) more
  -- it may be where its front may be and what is behind it may happen there
  pub may : (history more : List Happening) → IsHistory history → MayAllHappen (state_of history) more
      → IsHistory (history ++ more)
  -- what counts of its orders is what they come to by themselves
  pub session : (history : List Happening) → (state_of history).session ≡ session_of (orders_in history)

-- What a worker was handed stays true of a job.
pub record TruthGoesOn : Type 0 where
  -- with an order that may be given and whose commands are covered
  pub ordered : (job : Job) (history : List Happening) (order : ToWorker) → IsHandedTruth job history
      → MayFollow job (orders_in history) order
      → is_covered (placed_commands (after_order (session_of (orders_in history)) order).groups) ≡ true
      → IsHandedTruth job (history ++ Ordered order ∷ [])
  -- with a frame that is true of the job
  pub framed : (job : Job) (history : List Happening) (frame : Data) → IsHandedTruth job history → IsGoodFrame job frame
      → IsHandedTruth job (history ++ Framed frame ∷ [])
  -- whatever it completes
  pub completed : (job : Job) (history : List Happening) (places : List ℕ) → IsHandedTruth job history
      → IsHandedTruth job (history ++ map Completed places)
