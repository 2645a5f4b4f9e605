-- What a worker comes to: what it was handed and which commands it completed, in the order in which that happened.
use Rattle.std.specs.Prelude.{◌≡◌, ℕ, zero, ◌==◌, nat_lt, Bool, true, false, not, ◌&&◌, if◌then◌else◌, List, [], ◌∷◌, ◌++◌, length, Option, None, Some, slice_get}
use Rattle.std.specs.FinMap as map
use Rattle.std.specs.List.{filter, flat_map, fold, range_with_len}
use Rattle.std.specs.Option.{option_and_then, option_map, option_map_or}
use Rattle.nim_base.specs.declared.number.Object.{Object}
use Rattle.nim_base.specs.declared.number.Slot.{Slot}
use Rattle.nim_base.specs.Value.{Grid}
use Rattle.nim_command.specs.declared.command.Command.{Command}
use Rattle.nim_command.specs.declared.command.Kind.{Kind}
use Rattle.nim_command.specs.declared.command.Kind.TheVariants.{Receive}
use Rattle.nim_command.specs.Slots.{object_of}
use Rattle.nim_command.specs.Waits.{Group, Member, Source, FromInstance, members_of, placed_commands}
use Rattle.nim_message.specs.declared.frame.Data.{Data}
use Rattle.nim_message.specs.declared.order.ToWorker.{ToWorker}
use Rattle.nim_message.specs.declared.order.ToWorker.TheVariants.{Reset}
use Rattle.nim_message.specs.declared.report.FromWorker.TheVariants.{Through}
use Rattle.nim_message.specs.Orders.{Session, after_order, new_session, no_session}
use Rattle.nim_order.specs.Progress.{IsReleasedAt, is_one_of}
use Rattle.nim_store.specs.declared.held.Held.{Held}
use Rattle.nim_store.specs.declared.key.Key.{Key}
use Rattle.nim_store.specs.Keys.{is_not_before, key_cmp, key_of}
use Rattle.nim_history.specs.declared.out.Out.{Out}
use Rattle.nim_history.specs.Kept.{kept_by, own_outs}

-- One thing that happened at a worker: it was handed an order or a frame of data, or it completed the command at a
-- place, of those that it was asked for since its last Reset.
pub data Happening : Type 0 where
  Ordered : (order : ToWorker) → Happening
  Framed : (frame : Data) → Happening
  Completed : (place : ℕ) → Happening

-- What a worker has come to: what its orders come to, the frames that it has and no command received so far, what its
-- slots have, the places of the commands that are complete since its last Reset, in the order in which they were
-- completed, and all that it gave since the start.
pub record WorkerState : Type 0 where
  pub session : Session
  pub inbox : map.FinMap key_cmp Grid
  pub slots : Slot → Option Held
  pub ran : List ℕ
  pub gave : List Out

-- a worker that nothing happened at
abbrev pub new_state : WorkerState
new_state = record { session = no_session; inbox = map.empty; slots = λ (slot : Slot). None; ran = []; gave = [] }

-- A worker that was handed an order. A Reset empties its slots, and lets go of the frames of earlier epochs.
abbrev pub ordered : WorkerState → ToWorker → WorkerState
ordered state (Reset epoch number workers shapes) = record {
  session = new_session epoch shapes;
  inbox = map.retain_keys state.inbox (is_not_before epoch);
  slots = λ (slot : Slot). None;
  ran = [];
  gave = state.gave;
}
ordered state order = record state { session = after_order state.session order }

-- a worker that was handed a frame; one of an earlier epoch is dropped
abbrev pub framed : WorkerState → Data → WorkerState
framed state frame =
    if nat_lt frame.epoch state.session.epoch then state
    else record state { inbox = map.insert state.inbox (key_of frame) frame.value }

-- a command that a worker was asked for: its group, that group's number, and itself
pub record Asked : Type 0 where
  pub number : ℕ
  pub group : Group
  pub command : Command

-- the command at a place, of those that a worker was asked for since its last Reset
abbrev pub asked_at : List Group → ℕ → Option Asked
asked_at groups place =
    option_and_then
    (λ (m : Member).
    option_map (λ (group : Group). record { number = m.group; group = group; command = m.command })
    (slice_get groups m.group))
    (slice_get (members_of groups) place)

-- the key of the frame that a command receives, if it receives one
abbrev pub key_received : Group → ℕ → Kind → Option Key
key_received group number (Receive slot version) =
    let object : Object = object_of slot in
    Some (record { epoch = group.epoch; instance = group.instance; entry = number; object = object; version = version })
key_received group number kind = None

-- the key of the frame that a command asked of a worker receives, if it receives one
abbrev pub key_for : Asked → Option Key
key_for asked = key_received asked.group asked.command.id asked.command.kind

-- the value of the frame that a command receives, if it receives one and the frame is there
abbrev pub value_received : WorkerState → Asked → Option Grid
value_received state asked = option_and_then (λ (key : Key). map.get state.inbox key) (key_for asked)

-- what is in the inbox once a command has its frame
abbrev pub inbox_after : WorkerState → Asked → map.FinMap key_cmp Grid
inbox_after state asked = option_map_or (λ (key : Key). map.remove state.inbox key) (key_for asked) state.inbox

-- whether a place is of a group
abbrev pub is_of_group : List Group → ℕ → ℕ → Bool
is_of_group groups number place =
    option_map_or (λ (m : Member). m.group == number) (slice_get (members_of groups) place) false

-- how many commands of a group aren't among these places
abbrev pub left_in_group : List Group → ℕ → List ℕ → ℕ
left_in_group groups number ran =
    let places : List ℕ = range_with_len 0 (length (members_of groups)) in
    length (filter (λ place. is_of_group groups number place && not (is_one_of ran place)) places)

-- once these places are complete an instance of a block is told to be through, where all of its commands are
abbrev pub through_outs : Source → Group → ℕ → List Out
through_outs (FromInstance base) group zero = Out.Report (Through group.epoch group.instance) ∷ []
through_outs source group left = []

-- all that is given when a command is completed behind these: what it gives of its own, and whether its instance is
-- through
abbrev pub outs_of : WorkerState → ℕ → Asked → List Out
outs_of state place asked =
    own_outs asked.group asked.command.kind state.slots
    ++ through_outs asked.group.source asked.group
    (left_in_group state.session.groups asked.number (state.ran ++ place ∷ []))

-- a worker that completed a command
abbrev pub after_asked : WorkerState → ℕ → Asked → WorkerState
after_asked state place asked = record {
  session = state.session;
  inbox = inbox_after state asked;
  slots = kept_by state.session.shapes (value_received state asked) asked.command.kind state.slots;
  ran = state.ran ++ place ∷ [];
  gave = state.gave ++ outs_of state place asked;
}

-- a worker that completed the command at a place, if there is one
abbrev pub completed : WorkerState → ℕ → WorkerState
completed state place = option_map_or (after_asked state place) (asked_at state.session.groups place) state

-- a worker that one more thing happened at
abbrev pub after_happening : WorkerState → Happening → WorkerState
after_happening state (Ordered order) = ordered state order
after_happening state (Framed frame) = framed state frame
after_happening state (Completed place) = completed state place

-- a worker from its start on
abbrev pub state_of : List Happening → WorkerState
state_of history = fold after_happening new_state history

-- whether the frame that a command receives is there, if it receives one
abbrev pub has_frame : WorkerState → Asked → Bool
has_frame state asked = option_map_or (λ (key : Key). map.contains_key state.inbox key) (key_for asked) true

-- The command at a place may be completed: it isn't, all that it waits for is, and the frame that it receives is there.
pub record MayComplete (state : WorkerState) (place : ℕ) : Type 0 where
  pub released : IsReleasedAt (placed_commands state.session.groups) (is_one_of state.ran) place
  pub frame : option_map_or (has_frame state) (asked_at state.session.groups place) false ≡ true

-- this may happen next: anything may be handed to a worker at any time
abbrev pub MayHappen : WorkerState → Happening → Type 0
MayHappen state (Completed place) = MayComplete state place
MayHappen state happening = Unit {0}

-- each of these may happen behind those before it
abbrev pub MayAllHappen : WorkerState → List Happening → Type 0
MayAllHappen state [] = Unit {0}
MayAllHappen state (happening ∷ more) = MayHappen state happening × MayAllHappen (after_happening state happening) more

-- what may happen at a worker from its start on
unfoldable pub IsHistory : List Happening → Type 0
IsHistory history = MayAllHappen new_state history

-- the orders that a worker was handed, and the frames
abbrev pub order_in : Happening → List ToWorker
order_in (Ordered order) = order ∷ []
order_in happening = []

-- all orders that a worker was handed, in the order in which they came
abbrev pub orders_in : List Happening → List ToWorker
orders_in history = flat_map order_in history

-- the frame that a worker was handed, where that is what happened
abbrev pub frame_in : Happening → List Data
frame_in (Framed frame) = frame ∷ []
frame_in happening = []

-- all frames that a worker was handed, in the order in which they came
abbrev pub frames_in : List Happening → List Data
frames_in history = flat_map frame_in history
