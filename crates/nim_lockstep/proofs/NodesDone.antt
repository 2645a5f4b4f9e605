-- The runs of a batch that is finished are done.
use Rattle.std.proofs.Common.{◌≡◌, ℕ, true, List, [], ◌∷◌, ◌++◌, get_or, map, refl, ap, sym, subst, ◌∙◌, Option, None, Some, All}
use Rattle.std.specs.Prelude.{◌==◌, slice_get, slice_set}
use Rattle.std.specs.List.{flat_map}
use Rattle.std.specs.Option.{option_map_or}
use Rattle.std.proofs.lemmas.Bool.{eq-eqb, or_left, or_right}
use Rattle.std.proofs.lemmas.List.Elements.{All-cons, All-nil, All-weaker}
use Rattle.std.proofs.lemmas.Option.{slice_get_within}
use Rattle.nim_command.specs.declared.command.Kind.{Kind}
use Rattle.nim_command.specs.declared.command.Kind.TheVariants.{Run}
use Rattle.nim_message.specs.Orders.{Session}
use Rattle.nim_order.specs.Progress.{is_one_of}
use Rattle.nim_job.specs.declared.job.Job.{Job}
use Rattle.nim_place.specs.TaskRuns.{position_run}
use Rattle.nim_history.specs.History.{Asked, Completed, WorkerState, asked_at, state_of}
use Rattle.nim_history.specs.InTurn.{MayAllComplete}
use Rattle.nim_history.proofs.InTurn.{session_stays}
use Rattle.nim_lockstep.specs.declared.ran.Ran.{Ran as ran_type}
use Rattle.nim_lockstep.specs.Cluster.{Batched, Node}
use Rattle.nim_lockstep.proofs.NodesAt.{IsPast}
use Rattle.nim_lockstep.proofs.NodesLists.{All_flat_map, All_unmap, get_set_same, is_some_and}
use Rattle.nim_lockstep.proofs.NodesOnce.{position_in}
use Rattle.nim_lockstep.proofs.NodesOuts.{among_later, finish_past, finish_state, ran_after}
use Rattle.nim_lockstep.proofs.UnderWay.{IsBatchRight, IsDone, IsDoneBy, position_at}

-- a worker that has completed its batch
abbrev pub finished_with : Node → List ℕ → Node
finished_with node places = record node { happened = node.happened ++ map Completed places; batch = None }

-- a position is that of the run at one of these places
record IsPlaced (state : WorkerState) (places : List ℕ) (position : ℕ) : Type 0 where
  place : ℕ
  among : is_one_of places place ≡ true
  runs : position_at state place ≡ position ∷ []

single_kind : (kind : Kind) → All (λ position. position_run kind ≡ position ∷ []) (position_run kind)
single_kind (Run position func params reads writes) =
    All-cons (λ at. position_run (Run position func params reads writes) ≡ at ∷ []) position [] refl
    (All-nil (λ at. position_run (Run position func params reads writes) ≡ at ∷ []))
single_kind kind = All-nil (λ position. position_run kind ≡ position ∷ [])

single_at : (state : WorkerState) (place : ℕ) → All (λ position. position_at state place ≡ position ∷ []) (position_at state place)
single_at state place = either (asked_at state.session.groups place) where
  either : (o : Option Asked)
      → All (λ position. option_map_or (λ (asked : Asked). position_run asked.command.kind) o [] ≡ position ∷ [])
      (option_map_or (λ (asked : Asked). position_run asked.command.kind) o [])
  either None = All-nil (λ position. [] ≡ position ∷ [])
  either (Some asked) = single_kind asked.command.kind

among_all : (places : List ℕ) → All (λ place. is_one_of places place ≡ true) places
among_all [] = All-nil (λ place. is_one_of [] place ≡ true)
among_all (first ∷ places) =
    All-cons (λ place. is_one_of (first ∷ places) place ≡ true) first places
    (or_left (first == first) (is_one_of places first) (eq-eqb first first refl))
    (All-weaker (λ place. is_one_of places place ≡ true) (λ place. is_one_of (first ∷ places) place ≡ true)
    (λ place is. or_right (first == place) (is_one_of places place) is) places (among_all places))

all_placed : (state : WorkerState) (places : List ℕ) → All (IsPlaced state places) (flat_map (position_at state) places)
all_placed state places =
    All_flat_map (IsPlaced state places) (position_at state) places
    (All-weaker (λ place. is_one_of places place ≡ true) (λ place. All (IsPlaced state places) (position_at state place))
    (λ place among. All-weaker (λ position. position_at state place ≡ position ∷ []) (IsPlaced state places)
    (λ position is. record { place = place; among = among; runs = is }) (position_at state place) (single_at state place))
    places (among_all places))

placed_done : (node : Node) (places : List ℕ) (ran : ran_type) → MayAllComplete (state_of node.happened) places
    → IsPlaced (state_of node.happened) places ran.position → IsDoneBy ran (finished_with node places)
placed_done node places ran may is =
    let state : WorkerState = state_of node.happened in
    record {
      place = is.place;
      complete = ap (λ (after : WorkerState). is_one_of after.ran is.place) (finish_state node.happened places)
          ∙ ap (λ (all : List ℕ). is_one_of all is.place) (ran_after state places may) ∙ among_later state.ran places is.place is.among;
      runs = ap (λ (after : WorkerState). position_at after is.place) (finish_state node.happened places)
          ∙ ap (λ (session : Session). position_in session.groups is.place) (session_stays state places) ∙ is.runs;
    }

pub runs_done : (job : Job) (nodes : List Node) (number : ℕ) (node : Node) (b : Batched) → slice_get nodes number ≡ Some node
    → IsBatchRight job number (state_of node.happened) b
    → All (IsDone (slice_set nodes number (finished_with node b.places))) b.runs
runs_done job nodes number node b there right =
    let placed : All (λ (ran : ran_type). IsPlaced (state_of node.happened) b.places ran.position) b.runs =
    All_unmap (IsPlaced (state_of node.happened) b.places) (λ (ran : ran_type). ran.position) b.runs
    (subst (All (IsPlaced (state_of node.happened) b.places)) (sym right.runs) (all_placed (state_of node.happened) b.places)) in
    λ k d within. one (get_or b.runs k d) (right.workers k d within) (right.epochs k d within) (placed k d within) where
      one : (ran : ran_type) → ran.worker.0 ≡ number → ran.epoch ≡ 0 → IsPlaced (state_of node.happened) b.places ran.position
          → IsDone (slice_set nodes number (finished_with node b.places)) ran
      one ran worker epoch is = record {
        epoch = epoch;
        by = is_some_and (IsDoneBy ran) (slice_get (slice_set nodes number (finished_with node b.places)) ran.worker.0) (finished_with node b.places)
            (ap (slice_get (slice_set nodes number (finished_with node b.places))) worker
            ∙ get_set_same nodes number (finished_with node b.places) (slice_get_within nodes number node there))
            (placed_done node b.places ran right.may is);
      }

pub finished_past : (node : Node) (places : List ℕ) → MayAllComplete (state_of node.happened) places
    → IsPast (state_of node.happened) (state_of (finished_with node places).happened)
finished_past node places may =
    subst (IsPast (state_of node.happened)) (sym (finish_state node.happened places)) (finish_past (state_of node.happened) places may)
