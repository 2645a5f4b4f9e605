-- When what live workers are to send and to receive comes in pairs.
use Rattle.std.specs.Prelude.{◌≡◌, ℕ, ◌==◌, Bool, ◌&&◌, List, [], ◌∷◌, length, count_by, slice_get, All}
use Rattle.std.specs.List.{filter, flat_map, range_with_len}
use Rattle.std.specs.Option.{option_map_or}
use Rattle.nim_base.specs.declared.number.Object.{Object}
use Rattle.nim_base.specs.declared.number.Slot.{Slot}
use Rattle.nim_base.specs.declared.number.Worker.{Worker}
use Rattle.nim_command.specs.declared.command.Kind.{Kind}
use Rattle.nim_command.specs.declared.command.Kind.TheVariants.{Send, Receive}
use Rattle.nim_command.specs.Holds.{Content, holds}
use Rattle.nim_command.specs.Slots.{object_of}
use Rattle.nim_command.specs.Waits.{Group, Member, commands_of, members_of}
use Rattle.nim_message.specs.declared.order.ToWorker.{ToWorker}
use Rattle.nim_message.specs.Orders.{session_of}

-- a live worker, and all orders that it was given
pub record Given : Type 0 where
  pub worker : Worker
  pub orders : List ToWorker

-- by what a frame is found: the group and the entry that receives it, and what it carries
pub record Key : Type 0 where
  pub epoch : ℕ
  pub instance : ℕ
  pub entry : ℕ
  pub object : Object
  pub version : ℕ

-- whether two keys are the same
abbrev pub is_key : Key → Key → Bool
is_key first second =
    (first.epoch == second.epoch) && (first.instance == second.instance) && (first.entry == second.entry)
    && (first.object.0 == second.object.0) && (first.version == second.version)

-- the key of an entry's frame, in its group
abbrev pub entry_key : Group → ℕ → Object → ℕ → Key
entry_key group entry object version =
    record { epoch = group.epoch; instance = group.instance; entry = entry; object = object; version = version }

-- the key of what a Send to a worker sends, by what its slot holds; an empty one holds version 0
abbrev pub sent : Worker → Group → (Slot → Content) → Kind → List Key
sent worker group before (Send slot peer entry) =
    filter (λ (key : Key). peer.0 == worker.0) (entry_key group entry (object_of slot)
    (option_map_or (λ (c : Object × ℕ). c.1) (before slot) 0) ∷ [])
sent worker group before _ = []

-- the key of what a Receive takes
abbrev pub received : Group → ℕ → Kind → List Key
received group number (Receive slot version) = entry_key group number (object_of slot) version ∷ []
received group number _ = []

-- what a function gives for each command of groups, by its group, its place among all and itself
abbrev pub of_members : {X : Type 0} → (Group → ℕ → Member → List X) → List Group → List X
of_members {X} f groups =
    flat_map
    (λ (place : ℕ). option_map_or (λ (m : Member). option_map_or (λ (group : Group). f group place m)
    (slice_get groups m.group) []) (slice_get (members_of groups) place) [])
    (range_with_len 0 (length (members_of groups)))

-- the keys of what a worker's commands send to another one
abbrev pub keys_sent : Worker → List ToWorker → List Key
keys_sent worker orders =
    let groups : List Group = (session_of orders).groups in
    of_members (λ (group : Group) (place : ℕ) (m : Member). sent worker group (holds (commands_of groups) place)
    m.command.kind) groups

-- the keys of what a worker's commands receive
abbrev pub keys_received : List ToWorker → List Key
keys_received orders =
    of_members (λ (group : Group) (place : ℕ) (m : Member). received group m.command.id m.command.kind)
    (session_of orders).groups

-- each of these keys is among those once
abbrev pub EachOnce : List Key → List Key → Type 0
EachOnce keys those = All (λ key. count_by (is_key key) those ≡ 1) keys

-- what is sent to a live worker it receives once, and what it receives is sent once
pub record IsPairedAt (all : List Given) (given : Given) : Type 0 where
  pub sent : EachOnce (flat_map (λ (g : Given). keys_sent given.worker g.orders) all) (keys_received given.orders)
  pub received : EachOnce (keys_received given.orders) (flat_map (λ (g : Given). keys_sent given.worker g.orders) all)

-- the lists of orders of all live workers are paired
abbrev pub ArePaired : List Given → Type 0
ArePaired all = All (IsPairedAt all) all
