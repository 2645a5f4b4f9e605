-- A worker completes no more commands than it is asked for.
use Rattle.std.proofs.Common.{◌≡◌, ℕ, ◌+◌, ◌≤◌, ◌<◌, Bool, true, false, List, [], ◌∷◌, ◌++◌, length, refl, ap, sym, subst, ◌∙◌, arith, Option, None, Some, inl, inr}
use Rattle.std.specs.Prelude.{◌==◌, nat_lt, if◌then◌else◌}
use Rattle.std.specs.FinMap as finite
use Rattle.std.specs.List.{IsDistinct, fold}
use Rattle.std.specs.Option.{option_map_or}
use Rattle.std.proofs.lemmas.Bool.{both_ways, eqb-true, or_cases}
use Rattle.std.proofs.lemmas.List.{length-append}
use Rattle.std.proofs.lemmas.List.Concat.{flat_map-append}
use Rattle.nim_command.specs.Waits.{Group, commands_of}
use Rattle.nim_message.specs.declared.frame.Data.{Data}
use Rattle.nim_message.specs.declared.order.ToWorker.{ToWorker}
use Rattle.nim_message.specs.declared.order.ToWorker.TheVariants.{Reset}
use Rattle.nim_order.specs.Progress.{is_one_of}
use Rattle.nim_order.proofs.Orders.{one_more}
use Rattle.nim_store.specs.Keys.{key_of}
use Rattle.nim_history.specs.History.{Asked, Completed, Framed, Happening, IsHistory, MayAllHappen, MayComplete, MayHappen, Ordered, WorkerState, after_asked, after_happening, asked_at, completed, framed, has_frame, new_state, ordered, state_of}
use Rattle.nim_history.specs.InTurn.{is_reset}
use Rattle.nim_plan.proofs.Listed.{length_members}
use Rattle.nim_history.proofs.Ordered.{order_grows, ordered_is}
use Rattle.nim_worker.proofs.Released.{within_all}
use Rattle.nim_lockstep.proofs.FewLists.{differ_more, few_below, is_same_number}

-- ---- how many commands groups have

-- groups that come behind take none away
pub more_commands : (groups more : List Group) → length (commands_of groups) ≤ length (commands_of (groups ++ more))
more_commands groups more =
    omega (
      arith,
      ap length (flat_map-append (λ (group : Group). group.commands) groups more),
      length-append (commands_of groups) (commands_of more),
    )

-- ---- what was completed

-- Places that are complete differ, and a command was asked for at each.
record AreAsked (groups : List Group) (ran : List ℕ) : Type 0 where
  differ : IsDistinct is_same_number ran
  within : (place : ℕ) → is_one_of ran place ≡ true → place < length (commands_of groups)

none_ran : (groups : List Group) → AreAsked groups []
unfolding IsDistinct
none_ran groups = record { differ = tt; within = λ place is. absurd (both_ways false refl is) }

-- more is asked for
asked_more : (groups more : List Group) (ran : List ℕ) → AreAsked groups ran → AreAsked (groups ++ more) ran
asked_more groups more ran are = record {
  differ = are.differ;
  within = λ place is. omega (arith, are.within place is, more_commands groups more);
}

-- one more is complete
ran_more : (groups : List Group) (ran : List ℕ) (place : ℕ) → place < length (commands_of groups) → is_one_of ran place ≡ false → AreAsked groups ran
    → AreAsked groups (ran ++ place ∷ [])
ran_more groups ran place below waiting are = record {
  differ = differ_more ran place are.differ waiting;
  within = λ other is. elim (or_cases (is_one_of ran other) (place == other) (sym (one_more ran place other) ∙ is)) [
    | inl early ↦ are.within other early
    | inr same ↦ subst (λ (n : ℕ). n < length (commands_of groups)) (eqb-true place other same) below
  ];
}

-- ---- whatever happens

-- what a worker completed was asked for
abbrev IsAsked : WorkerState → Type 0
IsAsked state = AreAsked state.session.groups state.ran

pub reset_ran : (state : WorkerState) (order : ToWorker) → is_reset order ≡ true → (ordered state order).ran ≡ []
reset_ran state (Reset epoch worker workers shapes) is = refl
reset_ran state order is = absurd (both_ways false refl is)

asked_ordered : (state : WorkerState) (order : ToWorker) → IsAsked state → IsAsked (ordered state order)
asked_ordered state order are = either (is_reset order) refl where
  either : (reset : Bool) → is_reset order ≡ reset → IsAsked (ordered state order)
  either true reset =
      subst (AreAsked (ordered state order).session.groups) (sym (reset_ran state order reset)) (none_ran (ordered state order).session.groups)
  either false other =
      let grows = order_grows state.session order other in
      subst IsAsked (sym (ordered_is state order other))
      (subst (λ (groups : List Group). AreAsked groups state.ran) (sym grows.1) (asked_more state.session.groups grows.0 state.ran are))

asked_framed : (state : WorkerState) (frame : Data) → IsAsked state → IsAsked (framed state frame)
asked_framed state frame are = either (nat_lt frame.epoch state.session.epoch) where
  either : (b : Bool) → IsAsked (if b then state else record state { inbox = finite.insert state.inbox (key_of frame) frame.value })
  either true = are
  either false = are

asked_completed : (state : WorkerState) (place : ℕ) → MayComplete state place → IsAsked state → IsAsked (completed state place)
asked_completed state place may are = either (asked_at state.session.groups place) may.frame where
  either : (o : Option Asked) → option_map_or (has_frame state) o false ≡ true → IsAsked (option_map_or (after_asked state place) o state)
  either None frame = absurd (both_ways false refl frame)
  either (Some asked) frame =
      ran_more state.session.groups state.ran place
      (subst (λ (n : ℕ). place < n) (length_members 0 state.session.groups) (within_all state.session.groups place may.released.within))
      may.released.waiting are

asked_happening : (state : WorkerState) (happening : Happening) → MayHappen state happening → IsAsked state → IsAsked (after_happening state happening)
asked_happening state (Ordered order) may are = asked_ordered state order are
asked_happening state (Framed frame) may are = asked_framed state frame are
asked_happening state (Completed place) may are = asked_completed state place may are

asked_all : (state : WorkerState) (history : List Happening) → MayAllHappen state history → IsAsked state → IsAsked (fold after_happening state history)
asked_all state [] may are = are
asked_all state (happening ∷ history) may are =
    asked_all (after_happening state happening) history may.1 (asked_happening state happening may.0 are)

asked_history : (history : List Happening) → IsHistory history → IsAsked (state_of history)
unfolding IsHistory
asked_history history may = asked_all new_state history may (none_ran [])

-- So it completes no more than it is asked for.
pub few_ran : (history : List Happening) → IsHistory history
    → length (state_of history).ran ≤ length (commands_of (state_of history).session.groups)
few_ran history may =
    let are : IsAsked (state_of history) = asked_history history may in
    few_below (state_of history).ran (length (commands_of (state_of history).session.groups)) are.differ are.within
