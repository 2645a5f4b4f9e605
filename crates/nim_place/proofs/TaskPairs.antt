-- The Sends and Receives of a task come in pairs.
use Rattle.std.proofs.Common.{◌≡◌, ℕ, ◌+◌, ◌<◌, ◌≤◌, Bool, true, false, List, [], ◌∷◌, ◌++◌, length, map, refl, ap, ap₂, sym, ◌∙◌, arith, Option, None, Some}
use Rattle.std.specs.Prelude.{◌==◌, if◌then◌else◌, count_by}
use Rattle.std.specs.List.{AllByRecursion, filter, flat_map}
use Rattle.std.specs.Option.{option_map_or}
use Rattle.std.proofs.lemmas.Bool.{eq-eqb, false_from_ne_true}
use Rattle.std.proofs.lemmas.List.{append-nil, length-append}
use Rattle.nim_base.specs.declared.number.Object.{Object}
use Rattle.nim_base.specs.declared.number.Worker.{Worker}
use Rattle.nim_base.specs.declared.task.Task.{Task}
use Rattle.nim_command.specs.declared.command.Command.{Command}
use Rattle.nim_command.specs.Holds.{Content}
use Rattle.nim_command.specs.Numbers.{entry_number, main_slot, task_of}
use Rattle.nim_command.specs.Slots.{object_of}
use Rattle.nim_command.specs.Waits.{Group, single_group}
use Rattle.nim_plan.specs.Paired.{Key, is_key, entry_key, keys_received, keys_sent}
use Rattle.nim_place.specs.declared.schedule.Moved.{Moved}
use Rattle.nim_place.specs.Extends.{is_live, live_workers, singles_of}
use Rattle.nim_place.specs.Schedule.{copies_of, moved_first, moves, receive_of, run_of, send_of, source_of}
use Rattle.nim_place.specs.Stands.{commands_for}
use Rattle.nim_place.specs.TaskOrders.{StaysPaired, is_key_of}
use Rattle.nim_place.specs.Versions.{Versions, is_current, latest_of}
use Rattle.nim_base.proofs.Lists.{each_all}
use Rattle.nim_place.proofs.ByTask.{elsewhere, for_other, for_owner}
use Rattle.nim_place.proofs.Held.{AreHeld, HeldIn, held_here, held_still, holder_lives, moves_held}
use Rattle.nim_place.proofs.History.{for_more}
use Rattle.nim_place.proofs.Keys.{keys_received_more, keys_sent_more, new_received, new_sent}
use Rattle.nim_place.proofs.LiveOnce.{all_routed, live_once}
use Rattle.nim_place.proofs.Moves.{AreMoves, moves_facts}
use Rattle.nim_place.proofs.Pairs.{Once, count_first, each_flat, each_weaker, longer_paired, same_keys}

-- ---- the indexes of what moves

-- they rise, from one on and below another one
abbrev Ascend : ℕ → ℕ → List Moved → Type 0
Ascend low top [] = Unit {0}
Ascend low top (m ∷ ms) = (low ≤ m.index) × (m.index < top) × Ascend (m.index + 1) top ms

from_lower : (less low top : ℕ) (ms : List Moved) → less ≤ low → Ascend low top ms → Ascend less top ms
from_lower less low top [] below rise = tt
from_lower less low top (m ∷ ms) below rise = (omega (arith, below, rise.0), rise.1, rise.2)

moves_ascend : (versions : Versions) (owner : Worker) (past reads : List Object) (low top : ℕ) → low ≡ length past → top ≡ length past + length reads
    → Ascend low top (moves versions owner past reads)
moves_ascend versions owner past [] low top first last = tt
moves_ascend versions owner past (next ∷ reads) low top first last =
    let long = length-append past (next ∷ []) in
    either (moves_ascend versions owner (past ++ next ∷ []) reads (low + 1) top (omega (arith, first, long)) (omega (arith, last, long)))
    (source_of versions owner past next) where
      either : Ascend (low + 1) top (moves versions owner (past ++ next ∷ []) reads) → (o : Option Worker)
          → Ascend low top (moved_first (length past) next o (moves versions owner (past ++ next ∷ []) reads))
      either rest None = from_lower low (low + 1) top (moves versions owner (past ++ next ∷ []) reads) (omega arith) rest
      either rest (Some from) = (
        omega (arith, first),
        omega (arith, last),
        from_lower (length past + 1) (low + 1) top (moves versions owner (past ++ next ∷ []) reads)
            (omega (arith, first)) rest,
      )

to_higher : (low top more : ℕ) (ms : List Moved) → top ≤ more → Ascend low top ms → Ascend low more ms
to_higher low top more [] above rise = tt
to_higher low top more (m ∷ ms) above rise = (rise.0, omega (arith, above, rise.1), to_higher (m.index + 1) top more ms above rise.2)

-- ---- keys

-- the key of what moves
abbrev key_for : ℕ → ℕ → Versions → ℕ → Moved → Key
key_for epoch instance versions number m = record {
  epoch = epoch;
  instance = instance;
  entry = entry_number number 1 m.index;
  object = object_of (main_slot m.object);
  version = latest_of versions m.object;
}

pub itself : (key : Key) → is_key key key ≡ true
itself key = rw (
  eq-eqb key.epoch key.epoch refl,
  eq-eqb key.instance key.instance refl,
  eq-eqb key.entry key.entry refl,
  eq-eqb key.object.0 key.object.0 refl,
  eq-eqb key.version key.version refl,
) refl

key_is_new : (epoch instance : ℕ) (versions : Versions) (number : ℕ) (m : Moved) → number < 65536 → m.index < 8
    → is_key_of epoch instance number (key_for epoch instance versions number m) ≡ true
key_is_new epoch instance versions number m small few =
    let of_task : task_of (entry_number number 1 m.index) ≡ number = omega (arith, small, few) in
    rw (eq-eqb epoch epoch refl, eq-eqb instance instance refl, eq-eqb (task_of (entry_number number 1 m.index)) number of_task) refl

keys_are_new : (epoch instance : ℕ) (versions : Versions) (number low : ℕ) (ms : List Moved) → number < 65536 → Ascend low 8 ms
    → AllByRecursion (λ (m : Moved). is_key_of epoch instance number (key_for epoch instance versions number m) ≡ true) ms
keys_are_new epoch instance versions number low [] small rise = tt
keys_are_new epoch instance versions number low (m ∷ ms) small rise =
    (key_is_new epoch instance versions number m small rise.1, keys_are_new epoch instance versions number (m.index + 1) ms small rise.2)

-- of different reads they are different
keys_apart : (epoch instance : ℕ) (versions : Versions) (number : ℕ) (m n : Moved) → number < 65536 → m.index < n.index → n.index < 8
    → (is_key (key_for epoch instance versions number m) (key_for epoch instance versions number n) ≡ false)
    × (is_key (key_for epoch instance versions number n) (key_for epoch instance versions number m) ≡ false)
keys_apart epoch instance versions number m n small less few =
    let first = key_for epoch instance versions number m in
    let second = key_for epoch instance versions number n in (
      false_from_ne_true (is_key first second)
          (λ is. let same : entry_number number 1 m.index ≡ entry_number number 1 n.index = ap (λ (k : Key). k.entry) (same_keys first second is) in omega
          (arith, same, small, less, few)),
      false_from_ne_true (is_key second first)
          (λ is. let same : entry_number number 1 n.index ≡ entry_number number 1 m.index = ap (λ (k : Key). k.entry) (same_keys second first is) in omega
          (arith, same, small, less, few)),
    )

none_later : (epoch instance : ℕ) (versions : Versions) (number low : ℕ) (m : Moved) (ms : List Moved) → number < 65536 → m.index < low → Ascend low 8 ms
    → count_by (is_key (key_for epoch instance versions number m)) (map (key_for epoch instance versions number) ms) ≡ 0
none_later epoch instance versions number low m [] small less rise = refl
none_later epoch instance versions number low m (n ∷ ms) small less rise =
    let key = key_for epoch instance versions number in
    let first = count_first (is_key (key m)) (key n) (map key ms) false (keys_apart epoch instance versions number m n small
    (omega (arith, less, rise.0)) rise.1).0 in
    let rest = none_later epoch instance versions number (n.index + 1) m ms small (omega (arith, less, rise.0)) rise.2 in
    omega (arith, first, rest)

once_behind : (epoch instance : ℕ) (versions : Versions) (number low : ℕ) (m : Moved) (all : List Key) (ms : List Moved) → number < 65536 → m.index < low
    → Ascend low 8 ms
    → AllByRecursion (λ (n : Moved). count_by (is_key (key_for epoch instance versions number n)) all ≡ 1) ms
    → AllByRecursion (λ (n : Moved). count_by (is_key (key_for epoch instance versions number n)) (key_for epoch instance versions number m ∷ all) ≡ 1) ms
once_behind epoch instance versions number low m all [] small less rise once = tt
once_behind epoch instance versions number low m all (n ∷ ms) small less rise once =
    let key = key_for epoch instance versions number in
    let first = count_first (is_key (key n)) (key m) all false (keys_apart epoch instance versions number m n small (omega (arith, less, rise.0)) rise.1).1 in
    let one = once.0 in
    (omega (arith, first, one), once_behind epoch instance versions number (n.index + 1) m all ms small (omega (arith, less, rise.0)) rise.2 once.1)

-- each stands once among all
once_each : (epoch instance : ℕ) (versions : Versions) (number low : ℕ) (ms : List Moved) → number < 65536 → Ascend low 8 ms
    → AllByRecursion (λ (m : Moved). count_by (is_key (key_for epoch instance versions number m)) (map (key_for epoch instance versions number) ms) ≡ 1) ms
once_each epoch instance versions number low [] small rise = tt
once_each epoch instance versions number low (m ∷ ms) small rise =
    let key = key_for epoch instance versions number in
    let first = count_first (is_key (key m)) (key m) (map key ms) true (itself (key m)) in
    let none = none_later epoch instance versions number (m.index + 1) m ms small (omega arith) rise.2 in (
      omega (arith, first, none),
      once_behind epoch instance versions number (m.index + 1) m (map key ms) ms small (omega arith) rise.2
          (once_each epoch instance versions number (m.index + 1) ms small rise.2),
    )

-- ---- who sends and who receives them

abbrev sends_of : (Moved → Key) → Worker → List Moved → Worker → Worker → List Key
sends_of key owner ms worker to = if owner.0 == to.0 then map key (filter (λ (m : Moved). m.from.0 == worker.0) ms) else []

abbrev receives_of : (Moved → Key) → Worker → List Moved → Worker → List Key
receives_of key owner ms worker = if owner.0 == worker.0 then map key ms else []

owner_sends : (to : Worker) (group : Group) (versions : Versions) (task : Task) (owner : Worker) (number position : ℕ) (past : List Command)
    (ms all : List Moved)
    → new_sent to group past (map (λ (m : Moved). (receive_of versions number owner m).1) ms ++ run_of task number position all ∷ []) ≡ []
owner_sends to group versions task owner number position past [] all = refl
owner_sends to group versions task owner number position past (m ∷ ms) all =
    owner_sends to group versions task owner number position (past ++ (receive_of versions number owner m).1 ∷ []) ms all

owner_receives : (epoch instance : ℕ) (cs : List Command) (versions : Versions) (task : Task) (owner : Worker) (number position : ℕ) (ms all : List Moved)
    → new_received (single_group epoch instance cs) (map (λ (m : Moved). (receive_of versions number owner m).1) ms ++ run_of task number position all ∷ [])
    ≡ map (key_for epoch instance versions number) ms
owner_receives epoch instance cs versions task owner number position [] all = refl
owner_receives epoch instance cs versions task owner number position (m ∷ ms) all =
    ap (λ (rest : List Key). key_for epoch instance versions number m ∷ rest) (owner_receives epoch instance cs versions task owner number position ms all)

other_receives : (group : Group) (number : ℕ) (owner : Worker) (ms : List Moved) → new_received group (map (λ (m : Moved). (send_of number owner m).1) ms) ≡ []
other_receives group number owner [] = refl
other_receives group number owner (m ∷ ms) = other_receives group number owner ms

joined : {X : Type 0} (b : Bool) (x : X) (xs : List X) → (if b then x ∷ [] else []) ++ (if b then xs else []) ≡ (if b then x ∷ xs else [])
joined true x xs = refl
joined false x xs = refl

nothing_picked : {X : Type 0} (b : Bool) (xs : List X) → xs ≡ [] → (if b then xs else []) ≡ []
nothing_picked true xs none = none
nothing_picked false xs none = refl

other_sends : (to : Worker) (epoch instance : ℕ) (cs : List Command) (versions : Versions) (number : ℕ) (owner : Worker) (past : List Command) (ms : List Moved)
    → HeldIn versions past ms
    → new_sent to (single_group epoch instance cs) past (map (λ (m : Moved). (send_of number owner m).1) ms)
    ≡ (if owner.0 == to.0 then map (key_for epoch instance versions number) ms else [])
other_sends to epoch instance cs versions number owner past [] held = sym (nothing_picked (owner.0 == to.0) [] refl)
other_sends to epoch instance cs versions number owner past (m ∷ ms) held =
    let key = key_for epoch instance versions number in
    ap₂ (λ (k : Key) (rest : List Key). (if owner.0 == to.0 then k ∷ [] else []) ++ rest)
    (ap (λ (c : Content). entry_key (single_group epoch instance cs) (entry_number number 1 m.index) (object_of (main_slot m.object))
    (option_map_or (λ (d : Object × ℕ). d.1) c 0)) held.0)
    (other_sends to epoch instance cs versions number owner (past ++ (send_of number owner m).1 ∷ []) ms (held_still versions number owner past m ms held.1))
    ∙ joined (owner.0 == to.0) (key m) (map key ms)

-- the owner sends nothing
none_from : (versions : Versions) (owner worker : Worker) (reads : List Object) (ms : List Moved) → AreMoves versions owner reads ms
    → (owner.0 == worker.0) ≡ true
    → filter (λ (m : Moved). m.from.0 == worker.0) ms ≡ []
none_from versions owner worker reads [] are same = refl
none_from versions owner worker reads (m ∷ ms) are same =
    ap (λ (b : Bool). if b then m ∷ filter (λ (n : Moved). n.from.0 == worker.0) ms else filter (λ (n : Moved). n.from.0 == worker.0) ms)
    (elsewhere owner worker m.from same are.1)
    ∙ none_from versions owner worker reads ms are.4 same

worker_sends : (to : Worker) (epoch instance : ℕ) (cs : List Command) (versions : Versions) (owner worker : Worker) (task : Task) (number position : ℕ)
    (past : List Command) (ms : List Moved)
    → AreMoves versions owner task.reads ms → HeldIn versions past (filter (λ (m : Moved). m.from.0 == worker.0) ms)
    → new_sent to (single_group epoch instance cs) past (commands_for worker
    (copies_of versions number owner ms ++ (owner, run_of task number position ms) ∷ []))
    ≡ sends_of (key_for epoch instance versions number) owner ms worker to
worker_sends to epoch instance cs versions owner worker task number position past ms are held =
    ap (new_sent to (single_group epoch instance cs) past) (for_more worker (copies_of versions number owner ms) (owner, run_of task number position ms))
    ∙ either (owner.0 == worker.0) refl where
      either : (b : Bool) → (owner.0 == worker.0) ≡ b
          → new_sent to (single_group epoch instance cs) past
          (commands_for worker (copies_of versions number owner ms) ++ (if b then run_of task number position ms ∷ [] else []))
          ≡ sends_of (key_for epoch instance versions number) owner ms worker to
      either true same =
          ap (λ (before : List Command). new_sent to (single_group epoch instance cs) past (before ++ run_of task number position ms ∷ []))
          (for_owner versions owner worker number task.reads ms are same)
          ∙ owner_sends to (single_group epoch instance cs) versions task owner number position past ms ms
          ∙ sym (nothing_picked (owner.0 == to.0) (map (key_for epoch instance versions number) (filter (λ (m : Moved). m.from.0 == worker.0) ms))
          (ap (map (key_for epoch instance versions number)) (none_from versions owner worker task.reads ms are same)))
      either false other =
          ap (new_sent to (single_group epoch instance cs) past) (append-nil (commands_for worker (copies_of versions number owner ms))
          ∙ for_other versions owner worker number ms other)
          ∙ other_sends to epoch instance cs versions number owner past (filter (λ (m : Moved). m.from.0 == worker.0) ms) held

worker_receives : (epoch instance : ℕ) (cs : List Command) (versions : Versions) (owner worker : Worker) (task : Task) (number position : ℕ) (ms : List Moved)
    → AreMoves versions owner task.reads ms
    → new_received (single_group epoch instance cs) (commands_for worker (copies_of versions number owner ms ++ (owner, run_of task number position ms) ∷ []))
    ≡ receives_of (key_for epoch instance versions number) owner ms worker
worker_receives epoch instance cs versions owner worker task number position ms are =
    ap (new_received (single_group epoch instance cs)) (for_more worker (copies_of versions number owner ms) (owner, run_of task number position ms))
    ∙ either (owner.0 == worker.0) refl where
      either : (b : Bool) → (owner.0 == worker.0) ≡ b
          → new_received (single_group epoch instance cs)
          (commands_for worker (copies_of versions number owner ms) ++ (if b then run_of task number position ms ∷ [] else []))
          ≡ (if b then map (key_for epoch instance versions number) ms else [])
      either true same =
          ap (λ (before : List Command). new_received (single_group epoch instance cs) (before ++ run_of task number position ms ∷ []))
          (for_owner versions owner worker number task.reads ms are same)
          ∙ owner_receives epoch instance cs versions task owner number position ms ms
      either false other =
          ap (new_received (single_group epoch instance cs)) (append-nil (commands_for worker (copies_of versions number owner ms))
          ∙ for_other versions owner worker number ms other)
          ∙ other_receives (single_group epoch instance cs) number owner (filter (λ (m : Moved). m.from.0 == worker.0) ms)

-- ---- in pairs

-- what is true of each that moves is true of the keys of those that pass a test
each_key : (P : Key → Type 0) (key : Moved → Key) (q : Moved → Bool) (ms : List Moved) → AllByRecursion (λ (m : Moved). P (key m)) ms
    → AllByRecursion P (map key (filter q ms))
each_key P key q [] all = tt
each_key P key q (m ∷ ms) all = either (each_key P key q ms all.1) (q m) where
  either : AllByRecursion P (map key (filter q ms)) → (b : Bool) → AllByRecursion P (map key (if b then m ∷ filter q ms else filter q ms))
  either rest true = (all.0, rest)
  either rest false = rest

every_key : (P : Key → Type 0) (key : Moved → Key) (ms : List Moved) → AllByRecursion (λ (m : Moved). P (key m)) ms → AllByRecursion P (map key ms)
every_key P key [] all = tt
every_key P key (m ∷ ms) all = (all.0, every_key P key ms all.1)

picked : (P : Key → Type 0) (b : Bool) (keys : List Key) → AllByRecursion P keys → AllByRecursion P (if b then keys else [])
picked P true keys all = all
picked P false keys all = tt

sources_live : (versions : Versions) (live : List Bool) (ms : List Moved)
    → ((object : Object) (from : Worker) → is_current versions object from ≡ true → is_live live from ≡ true) → AreHeld versions ms
    → AllByRecursion (λ (m : Moved). count_by (λ (w : Worker). m.from.0 == w.0) (live_workers live) ≡ 1) ms
sources_live versions live [] lives are = tt
sources_live versions live (m ∷ ms) lives are = (live_once live m.from (lives m.object m.from are.0), sources_live versions live ms lives are.1)

pairs_sent : (key : Moved → Key) (owner to : Worker) (workers : List Worker) (ms : List Moved)
    → AllByRecursion (λ (m : Moved). count_by (is_key (key m)) (map key ms) ≡ 1) ms
    → Once (flat_map (λ (worker : Worker). sends_of key owner ms worker to) workers) (receives_of key owner ms to)
pairs_sent key owner to workers ms once = either (owner.0 == to.0) where
  either : (b : Bool)
      → Once (flat_map (λ (worker : Worker). if b then map key (filter (λ (m : Moved). m.from.0 == worker.0) ms) else []) workers)
      (if b then map key ms else [])
  either true =
      let P : Key → Type 0 = λ k. count_by (is_key k) (map key ms) ≡ 1 in
      let mine : Worker → List Key = λ worker. map key (filter (λ (m : Moved). m.from.0 == worker.0) ms) in
      each_flat P mine workers
      (each_all (λ (worker : Worker). AllByRecursion P (mine worker)) (λ worker. each_key P key (λ (m : Moved). m.from.0 == worker.0) ms once) workers)
  either false =
      let P : Key → Type 0 = λ k. count_by (is_key k) [] ≡ 1 in
      each_flat P (λ (worker : Worker). []) workers (each_all (λ (worker : Worker). AllByRecursion P []) (λ worker. tt) workers)

pairs_received : (key : Moved → Key) (owner to : Worker) (workers : List Worker) (ms : List Moved)
    → AllByRecursion (λ (m : Moved). count_by (is_key (key m)) (map key ms) ≡ 1) ms
    → AllByRecursion (λ (m : Moved). count_by (λ (w : Worker). m.from.0 == w.0) workers ≡ 1) ms
    → Once (receives_of key owner ms to) (flat_map (λ (worker : Worker). sends_of key owner ms worker to) workers)
pairs_received key owner to workers ms once sources = either (owner.0 == to.0) where
  either : (b : Bool)
      → Once (if b then map key ms else []) (flat_map (λ (worker : Worker). if b then map key
      (filter (λ (m : Moved). m.from.0 == worker.0) ms) else []) workers)
  either true =
      let all : List Key = flat_map (λ (worker : Worker). map key (filter (λ (m : Moved). m.from.0 == worker.0) ms)) workers in
      every_key (λ (k : Key). count_by (is_key k) all ≡ 1) key ms
      (each_weaker (λ (m : Moved). count_by (is_key (key m)) (map key ms) ≡ 1) (λ (m : Moved). count_by (is_key (key m)) all ≡ 1)
      (λ m one. all_routed (is_key (key m)) key workers ms sources ∙ one) ms once)
  either false = tt

pub schedule_paired : (versions : Versions) (live : List Bool) (owner : Worker) (task : Task) (number position : ℕ) (commands : List (Worker × Command))
    → number < 65536
    → commands ≡ copies_of versions number owner (moves versions owner [] task.reads) ++
    (owner, run_of task number position (moves versions owner [] task.reads)) ∷ []
    → StaysPaired versions live task number commands
schedule_paired versions live owner task number position commands small is epoch instance lists given so_far few =
    longer_paired (is_key_of epoch instance number) live lists (singles_of epoch instance commands) (sends_of key owner ms) (receives_of key owner ms) (record {
      sent = λ worker to there.
          keys_sent_more to epoch instance (lists worker.0) (commands_for worker commands) (so_far.ask.begun worker there) (so_far.ask.epoch worker there)
          ∙ ap (λ (rest : List Key). keys_sent to (lists worker.0) ++ rest)
          (ap₂ (λ (past : List Command) (all : List (Worker × Command)). new_sent to (single_group epoch instance (commands_for worker commands)) past
          (commands_for worker all))
          (so_far.ask.asked worker there) is
          ∙ worker_sends to epoch instance (commands_for worker commands) versions owner worker task number position (commands_for worker given) ms are
          (held_here versions given worker ms so_far.stands held));
      received = λ worker there.
          keys_received_more epoch instance (lists worker.0) (commands_for worker commands) (so_far.ask.begun worker there) (so_far.ask.epoch worker there)
          ∙ ap (λ (rest : List Key). keys_received (lists worker.0) ++ rest)
          (ap (λ (all : List (Worker × Command)). new_received (single_group epoch instance (commands_for worker commands)) (commands_for worker all)) is
          ∙ worker_receives epoch instance (commands_for worker commands) versions owner worker task number position ms are);
      sent_new = λ worker to.
          picked (λ (k : Key). is_key_of epoch instance number k ≡ true) (owner.0 == to.0) (map key (filter (λ (m : Moved). m.from.0 == worker.0) ms))
          (each_key (λ (k : Key). is_key_of epoch instance number k ≡ true) key (λ (m : Moved). m.from.0 == worker.0) ms new);
      received_new = λ worker.
          picked (λ (k : Key). is_key_of epoch instance number k ≡ true) (owner.0 == worker.0) (map key ms)
          (every_key (λ (k : Key). is_key_of epoch instance number k ≡ true) key ms new);
      sent_once = λ to there. pairs_sent key owner to (live_workers live) ms once;
      received_once = λ to there. pairs_received key owner to (live_workers live) ms once
          (sources_live versions live ms
          (λ object from current. holder_lives versions live epoch lists given object from so_far.stands so_far.ask current) held);
    }) where
      ms : List Moved
      ms = moves versions owner [] task.reads

      key : Moved → Key
      key = key_for epoch instance versions number

      are : AreMoves versions owner task.reads ms
      are = moves_facts versions owner task.reads

      held : AreHeld versions ms
      held = moves_held versions owner task.reads

      rise : Ascend 0 8 ms
      rise = to_higher 0 (length task.reads) 8 ms few (moves_ascend versions owner [] task.reads 0 (length task.reads) refl (omega arith))

      new : AllByRecursion (λ (m : Moved). is_key_of epoch instance number (key m) ≡ true) ms
      new = keys_are_new epoch instance versions number 0 ms small rise

      once : AllByRecursion (λ (m : Moved). count_by (is_key (key m)) (map key ms) ≡ 1) ms
      once = once_each epoch instance versions number 0 ms small rise
