-- A history goes on, and what was handed stays true.
use Rattle.std.proofs.Common.{◌≡◌, ℕ, true, List, [], ◌∷◌, ◌++◌, map, refl, ap, subst, sym, ◌∙◌, All}
use Rattle.std.specs.List.{flat_map, fold}
use Rattle.std.proofs.lemmas.List.{append-nil}
use Rattle.std.proofs.lemmas.List.Concat.{flat_map-append}
use Rattle.std.proofs.lemmas.List.Elements.{All-push}
use Rattle.std.proofs.lemmas.List.Sums.{fold-append}
use Rattle.nim_command.specs.Covered.{is_covered}
use Rattle.nim_command.specs.Waits.{placed_commands}
use Rattle.nim_message.specs.declared.frame.Data.{Data}
use Rattle.nim_message.specs.declared.order.ToWorker.{ToWorker}
use Rattle.nim_message.specs.Orders.{Session, after_order, no_session, session_of}
use Rattle.nim_job.specs.declared.job.Job.{Job}
use Rattle.nim_plan.specs.Good.{IsGoodFrame}
use Rattle.nim_plan.specs.Legal.{IsLegal, MayFollow}
use Rattle.nim_plan.proofs.Steps.{by_steps}
use Rattle.nim_history.specs.GoesOn.{HistoryGoesOn, TruthGoesOn}
use Rattle.nim_history.specs.History.{Happening, IsHistory, MayAllHappen, Ordered, Framed, Completed, WorkerState, after_happening, completed, frame_in, framed, frames_in, new_state, order_in, ordered, orders_in, state_of}
use Rattle.nim_history.specs.Truth.{AreCovered, AreCoveredFrom, IsHandedTruth}
use Rattle.nim_history.proofs.Completed.{completed_session}
use Rattle.nim_history.proofs.Ordered.{framed_session, ordered_session}

may_all : (state : WorkerState) (history more : List Happening) → MayAllHappen state history → MayAllHappen (fold after_happening state history) more
    → MayAllHappen state (history ++ more)
may_all state [] more first second = second
may_all state (happening ∷ history) more first second = (first.0, may_all (after_happening state happening) history more first.1 second)

may_on : (history more : List Happening) → IsHistory history → MayAllHappen (state_of history) more → IsHistory (history ++ more)
unfolding IsHistory
may_on history more first second = may_all new_state history more first second

session_from : (state : WorkerState) (history : List Happening)
    → (fold after_happening state history).session ≡ fold after_order state.session (orders_in history)
session_from state [] = refl
session_from state (Ordered order ∷ history) =
    session_from (ordered state order) history ∙ ap (λ (session : Session). fold after_order session (orders_in history)) (ordered_session state order)
session_from state (Framed frame ∷ history) =
    session_from (framed state frame) history ∙ ap (λ (session : Session). fold after_order session (orders_in history)) (framed_session state frame)
session_from state (Completed place ∷ history) =
    session_from (completed state place) history ∙ ap (λ (session : Session). fold after_order session (orders_in history)) (completed_session state place)

pub history_goes_on : HistoryGoesOn
history_goes_on = record { state = λ history more. fold-append after_happening new_state history more; may = may_on; session = session_from new_state }

-- histories with the same orders and frames
handed_alike : (job : Job) (first second : List Happening) → orders_in second ≡ orders_in first → frames_in second ≡ frames_in first → IsHandedTruth job first
    → IsHandedTruth job second
handed_alike job first second orders frames handed = record {
  legal = subst (IsLegal job) (sym orders) handed.legal;
  covered = subst AreCovered (sym orders) handed.covered;
  frames = subst (All (IsGoodFrame job)) (sym frames) handed.frames;
}

-- nothing is handed where commands are completed
none_in : {X : Type 0} (f : Happening → List X) (places : List ℕ) → ((place : ℕ) → f (Completed place) ≡ []) → flat_map f (map Completed places) ≡ []
none_in f [] none = refl
none_in {X} f (place ∷ places) none = ap (λ (front : List X). front ++ flat_map f (map Completed places)) (none place) ∙ none_in f places none

still_in : {X : Type 0} (f : Happening → List X) (history : List Happening) (places : List ℕ) → ((place : ℕ) → f (Completed place) ≡ [])
    → flat_map f (history ++ map Completed places) ≡ flat_map f history
still_in {X} f history places none =
    flat_map-append f history (map Completed places) ∙ ap (λ (more : List X). flat_map f history ++ more) (none_in f places none)
    ∙ append-nil (flat_map f history)

-- one more order
covered_more : (session : Session) (orders : List ToWorker) (order : ToWorker) → AreCoveredFrom session orders
    → is_covered (placed_commands (after_order (fold after_order session orders) order).groups) ≡ true → AreCoveredFrom session (orders ++ order ∷ [])
covered_more session [] order are is = (is, tt)
covered_more session (first ∷ orders) order are is = (are.0, covered_more (after_order session first) orders order are.1 is)

covered_on : (orders : List ToWorker) (order : ToWorker) → AreCovered orders
    → is_covered (placed_commands (after_order (session_of orders) order).groups) ≡ true
    → AreCovered (orders ++ order ∷ [])
unfolding AreCovered
covered_on orders order are is = covered_more no_session orders order are is

handed_order : (job : Job) (history : List Happening) (order : ToWorker) → IsHandedTruth job history → MayFollow job (orders_in history) order
    → is_covered (placed_commands (after_order (session_of (orders_in history)) order).groups) ≡ true → IsHandedTruth job (history ++ Ordered order ∷ [])
handed_order job history order handed may covered =
    let orders : orders_in (history ++ Ordered order ∷ []) ≡ orders_in history ++ order ∷ [] = flat_map-append order_in history (Ordered order ∷ []) in
    let frames : frames_in (history ++ Ordered order ∷ []) ≡ frames_in history =
    flat_map-append frame_in history (Ordered order ∷ []) ∙ append-nil (frames_in history) in
    record {
      legal = subst (IsLegal job) (sym orders) (by_steps.longer job (orders_in history) order handed.legal may);
      covered = subst AreCovered (sym orders) (covered_on (orders_in history) order handed.covered covered);
      frames = subst (All (IsGoodFrame job)) (sym frames) handed.frames;
    }

handed_frame : (job : Job) (history : List Happening) (frame : Data) → IsHandedTruth job history → IsGoodFrame job frame
    → IsHandedTruth job (history ++ Framed frame ∷ [])
handed_frame job history frame handed good =
    let orders : orders_in (history ++ Framed frame ∷ []) ≡ orders_in history =
    flat_map-append order_in history (Framed frame ∷ []) ∙ append-nil (orders_in history) in
    let frames : frames_in (history ++ Framed frame ∷ []) ≡ frames_in history ++ frame ∷ [] = flat_map-append frame_in history (Framed frame ∷ []) in
    record {
      legal = subst (IsLegal job) (sym orders) handed.legal;
      covered = subst AreCovered (sym orders) handed.covered;
      frames = subst (All (IsGoodFrame job)) (sym frames) (All-push (IsGoodFrame job) (frames_in history) frame handed.frames good);
    }

pub truth_goes_on : TruthGoesOn
truth_goes_on = record {
  ordered = handed_order;
  framed = handed_frame;
  completed = λ job history places.
      handed_alike job history (history ++ map Completed places) (still_in order_in history places (λ place. refl))
      (still_in frame_in history places (λ place. refl));
}
