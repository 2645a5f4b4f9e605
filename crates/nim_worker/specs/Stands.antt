-- What a worker's core stands for: what it was handed and which commands it completed, and the batch that is out.
use Rattle.std.specs.Prelude.{◌≡◌, ◌≤◌, ◌+◌, ℕ, ◌==◌, Bool, true, false, not, ◌&&◌, List, [], ◌∷◌, ◌++◌, length, map, if◌then◌else◌, Option, None, Some, All}
use Rattle.std.specs.List.{flat_map, fold}
use Rattle.std.specs.Option.{is_some, option_map_or}
use Rattle.std.specs.Vec.{vec_capacity}
use Rattle.nim_command.specs.Waits.{Group}
use Rattle.nim_message.specs.declared.order.ToWorker.{ToWorker}
use Rattle.nim_message.specs.Orders.{Session, epoch_named}
use Rattle.nim_order.specs.Progress.{is_one_of}
use Rattle.nim_plan.specs.Installed.{Has}
use Rattle.nim_store.specs.Stored.{slot_at}
use Rattle.nim_history.specs.declared.out.Out.{Out}
use Rattle.nim_history.specs.History.{Asked, Happening, Completed, IsHistory, MayAllHappen, WorkerState, after_happening, asked_at, outs_of, state_of}
use Rattle.nim_worker.specs.declared.batch.Batch.{Batch}
use Rattle.nim_worker.specs.declared.batch.Work.{Work}
use Rattle.nim_worker.specs.declared.worker.WorkerCore.{WorkerCore}
use Rattle.nim_worker.specs.Admitted.{IsAdmitted}
use Rattle.nim_worker.specs.Chains.{AreWorks}
use Rattle.nim_worker.specs.Works.{Begun, begun_as}

-- the tickets that works were begun for
abbrev pub tickets_of : List Work → List ℕ
tickets_of works = map (λ (w : Work). w.ticket) works

-- what happens when the commands at these places are complete, in order
abbrev pub completions : List ℕ → List Happening
completions places = map Completed places

-- a worker once the commands at these places are complete too, one after another
abbrev pub after_completions : WorkerState → List ℕ → WorkerState
after_completions state places = fold after_happening state (completions places)

-- what the works of commands at these places were begun for
abbrev pub begun_at : List Group → ℕ → List Begun
begun_at groups place =
    option_map_or (λ (asked : Asked). begun_as place asked.command.kind ∷ []) (asked_at groups place) []

-- what the works of these commands were begun for, in order
abbrev pub begun_of : List Group → List ℕ → List Begun
begun_of groups places = flat_map (begun_at groups) places

-- The core has what a session has.
pub record HasSession (core : WorkerCore) (session : Session) : Type 0 where
  pub begun : core.begun ≡ session.begun
  pub epoch : core.epoch ≡ session.epoch
  pub shapes : core.store.shapes ≡ session.shapes
  pub installed : Has core.installed session.halves session.patches

-- The core has what a worker has, but for its slots.
pub record HasState (core : WorkerCore) (state : WorkerState) : Type 0 where
  pub failed : core.failed ≡ false
  pub session : HasSession core state.session
  pub admitted : IsAdmitted core.admitted state.session.groups state.ran
  pub inbox : core.inbox ≡ state.inbox

-- No work is out: the slots are the worker's, and from the first Reset on there is room for a batch.
pub record IsAtRest (core : WorkerCore) (state : WorkerState) : Type 0 where
  pub slots : slot_at core.store ≡ state.slots
  pub room : core.begun ≡ true → is_some core.room ≡ true

-- These works are out: their commands may be complete, one after another, and their inputs were taken out of the
-- worker's slots.
pub record IsAtWork (core : WorkerCore) (works : List Work) (state : WorkerState) : Type 0 where
  pub may : MayAllHappen state (completions (tickets_of works))
  pub chain : AreWorks state.session.shapes state.slots (slot_at core.store)
      (begun_of state.session.groups (tickets_of works)) works

-- The works of a batch that is being begun are out, of commands that aren't complete.
pub record IsBeginning (core : WorkerCore) (works : List Work) (state : WorkerState) : Type 0 where
  pub has : HasState core state
  pub chain : AreWorks state.session.shapes state.slots (slot_at core.store)
      (begun_of state.session.groups (tickets_of works)) works
  pub waiting : All (λ place. is_one_of state.ran place ≡ false) (tickets_of works)

-- a batch has room for the most works
pub record HasRoom (batch : Batch) : Type 0 where
  pub works : 16 ≤ vec_capacity batch.works
  pub inputs : 16 ≤ length batch.works.items + length batch.spare.items

-- A batch that is out: one that was begun before the last Reset is dropped.
abbrev pub IsOut : WorkerCore → Bool → Batch → WorkerState → Type 0
IsOut core true batch state = IsAtRest core state
IsOut core false batch state = IsAtWork core batch.works.items state × (core.begun ≡ true → HasRoom batch)

-- A batch may be out: the core is at rest where none is.
abbrev pub MayBeOut : WorkerCore → Option Batch → WorkerState → Type 0
MayBeOut core None state = (core.stale ≡ false) × IsAtRest core state
MayBeOut core (Some batch) state = IsOut core core.stale batch state

-- The core has come to what a worker has come to, with this batch out. A core that has failed has come to nothing.
pub record CoreStandsAt (core : WorkerCore) (batch : Option Batch) (state : WorkerState) : Type 0 where
  pub has : HasState core state
  pub busy : core.busy ≡ is_some batch
  pub out : MayBeOut core batch state

-- All this has happened at the core, and this batch is out.
pub record CoreStands (core : WorkerCore) (batch : Option Batch) (happened : List Happening) : Type 0 where
  pub history : IsHistory happened
  pub at : CoreStandsAt core batch (state_of happened)

-- what happens when a batch is finished: nothing where it was begun before the last Reset
abbrev pub completions_of : WorkerCore → Batch → List Happening
completions_of core batch = if core.stale then [] else completions (tickets_of batch.works.items)

-- what is given when the command at a place is completed
abbrev pub outs_at : WorkerState → ℕ → List Out
outs_at state place = option_map_or (outs_of state place) (asked_at state.session.groups place) []

-- what a worker gave from one state to another
abbrev pub Gave : WorkerState → List Out → WorkerState → Type 0
Gave before outs after = after.gave ≡ before.gave ++ outs

-- whether an order of this epoch counts
abbrev pub is_current : WorkerCore → ℕ → Bool
is_current core epoch = core.begun && (epoch == core.epoch)

-- whether an order asks for nothing: a Stop does, and one of another epoch
abbrev pub is_passed : WorkerCore → ToWorker → Bool
is_passed core (ToWorker.Reset epoch worker workers shapes) = false
is_passed core order = not (option_map_or (is_current core) (epoch_named order) false)
