-- Whatever happens at a worker that is handed what is true, in any order that may be, what it gives is true.
use Rattle.std.proofs.Common.{◌≡◌, true, List, [], ◌∷◌, sym, subst, All}
use Rattle.std.specs.List.{fold}
use Rattle.std.proofs.lemmas.List.Elements.{All-head, All-tail}
use Rattle.nim_message.specs.Orders.{Session}
use Rattle.nim_job.specs.declared.job.Job.{Job}
use Rattle.nim_job.specs.Whole.{is_whole}
use Rattle.nim_plan.specs.Good.{IsGoodFrame}
use Rattle.nim_plan.specs.Legal.{AreLegalFrom, IsLegal}
use Rattle.nim_history.specs.History.{Happening, Ordered, Framed, Completed, IsHistory, MayAllHappen, WorkerState, after_happening, completed, framed, frames_in, new_state, ordered, orders_in, state_of}
use Rattle.nim_history.specs.Truth.{AreCovered, AreCoveredFrom, HistoriesAreTrue}
use Rattle.nim_history.proofs.Completed.{completed_right, completed_session, found_right}
use Rattle.nim_history.proofs.Ordered.{framed_right, framed_session, ordered_right, ordered_session}
use Rattle.nim_history.proofs.Right.{IsRight, new_right}

-- what is handed to a worker in a session is true of a job
record IsTrueFrom (job : Job) (session : Session) (history : List Happening) : Type 0 where
  legal : AreLegalFrom job session (orders_in history)
  covered : AreCoveredFrom session (orders_in history)
  frames : All (IsGoodFrame job) (frames_in history)

-- and so it is in the same session
true_in : (job : Job) (first second : Session) (history : List Happening) → second ≡ first → IsTrueFrom job first history → IsTrueFrom job second history
true_in job first second history same is = subst (λ (session : Session). IsTrueFrom job session history) (sym same) is

all_right : (job : Job) (state : WorkerState) (history : List Happening) → is_whole job ≡ true → IsRight job state → MayAllHappen state history
    → IsTrueFrom job state.session history → IsRight job (fold after_happening state history)
all_right job state [] whole right may is = right
all_right job state (Ordered order ∷ history) whole right may is =
    all_right job (ordered state order) history whole (ordered_right job state order is.legal.0 is.covered.0 right) may.1
    (true_in job _ (ordered state order).session history (ordered_session state order)
    (record { legal = is.legal.1; covered = is.covered.1; frames = is.frames }))
all_right job state (Framed frame ∷ history) whole right may is =
    all_right job (framed state frame) history whole (framed_right job state frame (All-head (IsGoodFrame job) frame (frames_in history) is.frames) right) may.1
    (true_in job state.session (framed state frame).session history (framed_session state frame)
    (record { legal = is.legal; covered = is.covered; frames = All-tail (IsGoodFrame job) frame (frames_in history) is.frames }))
all_right job state (Completed place ∷ history) whole right may is =
    all_right job (completed state place) history whole (completed_right job state place whole right may.0) may.1
    (true_in job state.session (completed state place).session history (completed_session state place)
    (record { legal = is.legal; covered = is.covered; frames = is.frames }))

pub histories_are_true : HistoriesAreTrue
unfolding IsHistory IsLegal AreCovered
histories_are_true job history whole is handed =
    let right : IsRight job (state_of history) =
    all_right job new_state history whole (new_right job) is (record { legal = handed.legal; covered = handed.covered; frames = handed.frames }) in
    record { gave = right.gave; slots = right.slots; next = λ place may. found_right job (state_of history) place whole right may }
