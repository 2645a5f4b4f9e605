-- A batch that is finished gives at most two messages for each of its commands.
use Rattle.std.proofs.Common.{◌≡◌, ◌≢◌, ℕ, zero, ◌+◌, ◌*◌, ◌≤◌, Bool, true, false, List, [], ◌∷◌, ◌++◌, drop, length, map, refl, ap, sym, subst, ◌∙◌, arith, Option, None, Some}
use Rattle.std.specs.Prelude.{if◌then◌else◌}
use Rattle.std.specs.Option.{option_map_or}
use Rattle.std.proofs.lemmas.Bool.{cond-false}
use Rattle.std.proofs.lemmas.List.{length-append}
use Rattle.nim_base.specs.declared.number.Slot.{Slot}
use Rattle.nim_command.specs.declared.command.Kind.{Kind}
use Rattle.nim_command.specs.declared.command.Kind.TheVariants.{Fetch, Run, Send}
use Rattle.nim_command.specs.Waits.{Group, Source, FromInstance}
use Rattle.nim_store.specs.declared.held.Held.{Held}
use Rattle.nim_history.specs.declared.out.Out.{Out}
use Rattle.nim_history.specs.History.{Asked, Completed, Happening, WorkerState, asked_at, completed, left_in_group, outs_of, state_of, through_outs}
use Rattle.nim_history.specs.InTurn.{MayAllComplete}
use Rattle.nim_history.specs.Kept.{is_single, own_outs}
use Rattle.nim_worker.specs.Stands.{after_completions, outs_at}
use Rattle.nim_lockstep.specs.Cluster.{Batched, Node}
use Rattle.nim_lockstep.specs.Nodes.{batch_completions, finished, outs_by}
use Rattle.nim_lockstep.proofs.NodesOuts.{finish_state, given_by, outs_from, ran_after}

-- ---- what one command gives

few_if : {X : Type 0} (x : X) (b : Bool) → length (if b then x ∷ [] else []) ≤ 1
few_if x true = omega arith
few_if x false = omega arith

few_own : (group : Group) (kind : Kind) (slots : Slot → Option Held) → length (own_outs group kind slots) ≤ 1
few_own group (Send slot peer entry) slots = omega arith
few_own group (Fetch slot ticket) slots = omega arith
few_own group (Run position func params reads writes) slots = few_if _ (is_single group.source)
few_own group kind slots = omega arith

few_through : (source : Source) (group : Group) (left : ℕ) → length (through_outs source group left) ≤ 1
few_through (FromInstance base) group zero = omega arith
few_through source group left = omega arith

few_at : (state : WorkerState) (place : ℕ) → length (outs_at state place) ≤ 2
few_at state place = either (asked_at state.session.groups place) where
  either : (o : Option Asked) → length (option_map_or (outs_of state place) o []) ≤ 2
  either None = omega arith
  either (Some asked) =
      let left : ℕ = left_in_group state.session.groups asked.number (state.ran ++ place ∷ []) in
      omega (
        arith,
        length-append (own_outs asked.group asked.command.kind state.slots) (through_outs asked.group.source asked.group left),
        few_own asked.group asked.command.kind state.slots,
        few_through asked.group.source asked.group left,
      )

-- ---- what all of them give

few_outs : (state : WorkerState) (places : List ℕ) → length (outs_from state places) ≤ 2 * length places
few_outs state [] = omega arith
few_outs state (place ∷ places) =
    omega (
      arith,
      length-append (outs_at state place) (outs_from (completed state place) places),
      few_at state place,
      few_outs (completed state place) places,
    )

-- a batch that no Reset came behind completes its commands
all_complete : (b : Batched) → b.stale ≡ false → batch_completions b ≡ map Completed b.places
all_complete b fresh = cond-false b.stale [] (map Completed b.places) fresh

finishes_to : (node : Node) (b : Batched) → b.stale ≡ false
    → state_of (node.happened ++ batch_completions b) ≡ after_completions (state_of node.happened) b.places
finishes_to node b fresh =
    ap (λ (more : List Happening). state_of (node.happened ++ more)) (all_complete b fresh) ∙ finish_state node.happened b.places

pub few_given : (node : Node) (b : Batched) → b.stale ≡ false → length (outs_by b node) ≤ 2 * length b.places
few_given node b fresh =
    let state : WorkerState = state_of node.happened in
    let is : outs_by b node ≡ outs_from state b.places =
    ap (λ (after : WorkerState). drop (length state.gave) after.gave) (finishes_to node b fresh) ∙ given_by state b.places in
    subst (λ (outs : List Out). length outs ≤ 2 * length b.places) (sym is) (few_outs state b.places)

-- as many more are complete
pub ran_finished : (node : Node) (b : Batched) → b.stale ≡ false → MayAllComplete (state_of node.happened) b.places
    → length (state_of (finished b node).happened).ran ≡ length (state_of node.happened).ran + length b.places
ran_finished node b fresh may =
    let state : WorkerState = state_of node.happened in
    ap (λ (after : WorkerState). length after.ran) (finishes_to node b fresh)
    ∙ ap length (ran_after state b.places may) ∙ length-append state.ran b.places

-- a batch with commands has one at least
pub some_places : (places : List ℕ) → places ≢ [] → 1 ≤ length places
some_places [] some = absurd (some refl)
some_places (place ∷ places) some = omega arith
