-- One copy of an object's latest version from a worker to another one, as a step of an instance.
use Rattle.std.proofs.Common.{◌≡◌, ℕ, ◌+◌, ◌<◌, ◌≤◌, Bool, true, false, List, [], ◌∷◌, ◌++◌, length, map, refl, ap, ap₂, sym, subst, ◌∙◌, arith}
use Rattle.std.proofs.Common.{Option, None, Some}
use Rattle.std.specs.Prelude.{◌==◌, ◌&&◌, if◌then◌else◌, cond, count_by}
use Rattle.std.specs.List.{AllByRecursion, flat_map}
use Rattle.std.specs.Option.{is_some, option_map, option_map_or}
use Rattle.std.proofs.lemmas.Bool.{eq-eqb, eqb-true, false≢true}
use Rattle.nim_base.specs.declared.number.Object.{Object}
use Rattle.nim_base.specs.declared.number.Worker.{Worker}
use Rattle.nim_command.specs.declared.command.Command.{Command}
use Rattle.nim_command.specs.declared.command.Kind.{Kind}
use Rattle.nim_command.specs.Holds.{Content, holds}
use Rattle.nim_command.specs.Numbers.{main_slot}
use Rattle.nim_command.specs.Slots.{is_among, object_of}
use Rattle.nim_command.specs.Waits.{Group, single_group}
use Rattle.nim_message.specs.declared.order.ToWorker.{ToWorker}
use Rattle.nim_job.specs.declared.job.Job.{Job}
use Rattle.nim_job.specs.Objects.{objects_of}
use Rattle.nim_plan.specs.Legal.{AreLegal, is_version}
use Rattle.nim_plan.specs.Paired.{Key, is_key, keys_received, keys_sent}
use Rattle.nim_place.specs.Extends.{LongerIsPaired, is_live, live_workers, singles_of}
use Rattle.nim_place.specs.Stands.{MapStands, commands_for}
use Rattle.nim_place.specs.TaskOrders.{AreSoFar, IsAt}
use Rattle.nim_place.specs.Versions.{Versions, held_at, holder, is_current, latest_of, with_version}
use Rattle.nim_base.proofs.Lists.{each_append}
use Rattle.nim_place.proofs.Finds.{current_held}
use Rattle.nim_place.proofs.Given.{all_stand}
use Rattle.nim_place.proofs.GoesOn.{holder_there}
use Rattle.nim_place.proofs.Held.{slot_held}
use Rattle.nim_place.proofs.Keys.{keys_received_more, keys_sent_more, new_received, new_sent}
use Rattle.nim_place.proofs.Legal.{main_of, read_there}
use Rattle.nim_place.proofs.LiveOnce.{live_once}
use Rattle.nim_place.proofs.Moves.{holder_facts}
use Rattle.nim_place.proofs.Pairs.{Once, count_append, count_first, longer_paired}
use Rattle.nim_place.proofs.Places.{both_true}
use Rattle.nim_place.proofs.Puts.{IsPut, kept_for, put_all}
use Rattle.nim_place.proofs.Singles.{singles_ask}
use Rattle.nim_place.proofs.TaskPairs.{itself}
use Rattle.nim_template.proofs.Closes.{current_of, kept_latest}
use Rattle.nim_template.proofs.Turns.{AreGiven, between_is, is_key_between, is_key_by, step_given}
use Rattle.nim_template.proofs.Walks.{only_object, same_latest}

-- the Send and the Receive of a copy, both of this number
abbrev pub send_at : ℕ → Worker → Object → Command
send_at number to object = record { id = number; kind = Kind.Send (main_slot object) to number; before = [] }

abbrev pub receive_at : ℕ → Object → ℕ → Command
receive_at number object version = record { id = number; kind = Kind.Receive (main_slot object) version; before = [] }

abbrev pub copy_at : ℕ → Worker → Worker → Object → ℕ → List (Worker × Command)
copy_at number from to object version = (from, send_at number to object) ∷ (to, receive_at number object version) ∷ []

-- the copy is of the latest version of an object of the map, between two workers of it
pub record IsCopy (versions : Versions) (from to : Worker) (object : Object) (version : ℕ) : Type 0 where
  pub from_below : from.0 < versions.workers
  pub to_below : to.0 < versions.workers
  pub there : object.0 < versions.objects
  pub apart : from.0 ≡ to.0 → ⊥
  pub current : is_current versions object from ≡ true
  pub latest : version ≡ latest_of versions object

-- ---- whose commands they are

-- of two workers' commands those of one
pub two_for : (worker : Worker) (first second : Worker × Command) (a b : Bool) → (first.0.0 == worker.0) ≡ a → (second.0.0 == worker.0) ≡ b
    → commands_for worker (first ∷ second ∷ []) ≡ (if a then first.1 ∷ (if b then second.1 ∷ [] else []) else (if b then second.1 ∷ [] else []))
two_for worker first second a b one other =
    let rest : Bool → List (Worker × Command) = λ d. if d then second ∷ [] else [] in
    ap₂ (λ (c d : Bool). map (λ (x : Worker × Command). x.1) (if c then first ∷ rest d else rest d)) one other ∙ either a b where
      either : (c d : Bool)
          → map (λ (x : Worker × Command). x.1) (if c then first ∷ (if d then second ∷ [] else []) else (if d then second ∷ [] else []))
          ≡ (if c then first.1 ∷ (if d then second.1 ∷ [] else []) else (if d then second.1 ∷ [] else []))
      either true true = refl
      either true false = refl
      either false true = refl
      either false false = refl

not_both : (from to worker : Worker) → (from.0 ≡ to.0 → ⊥) → (from.0 == worker.0) ≡ true → (to.0 == worker.0) ≡ true → ⊥
not_both from to worker apart first second = apart (eqb-true from.0 worker.0 first ∙ sym (eqb-true to.0 worker.0 second))

-- ---- keys

none_if : (there : Bool) (key : Key) → (if there then (if false then key ∷ [] else []) else []) ≡ []
none_if true key = refl
none_if false key = refl

-- the key of what is sent
abbrev key_at : ℕ → ℕ → ℕ → Object → ℕ → Key
key_at epoch instance number object version =
    record { epoch = epoch; instance = instance; entry = number; object = object_of (main_slot object); version = version }

-- a key where two tests pass
abbrev key_if : Bool → Bool → Key → List Key
key_if here there key = if there then (if here then key ∷ [] else []) else []

copy_sends : (to other : Worker) (group : Group) (number : ℕ) (from : Worker) (object : Object) (version : ℕ) (past : List Command) (worker : Worker)
    → (from.0 ≡ to.0 → ⊥)
    → (from.0 ≡ worker.0 → holds past (length past) (main_slot object) ≡ Some (object_of (main_slot object), version))
    → (a b : Bool) → (from.0 == worker.0) ≡ a → (to.0 == worker.0) ≡ b
    → new_sent other group past (if a then send_at number to object ∷ (if b then receive_at number object version ∷ [] else []) else
    (if b then receive_at number object version ∷ [] else []))
    ≡ key_if a (to.0 == other.0) (key_at group.epoch group.instance number object version)
copy_sends to other group number from object version past worker apart held true true first second = absurd (not_both from to worker apart first second)
copy_sends to other group number from object version past worker apart held true false first second =
    ap (λ (c : Content). (
    let key : Key = key_at group.epoch group.instance number object (option_map_or (λ (d : Object × ℕ). d.1) c 0) in
    (if to.0 == other.0 then key ∷ [] else []) ++ [])) (held (eqb-true from.0 worker.0 first)) ∙ chosen (to.0 == other.0) where
      chosen : (b : Bool)
          → (if b then key_at group.epoch group.instance number object version ∷ [] else []) ++ []
          ≡ (if b then key_at group.epoch group.instance number object version ∷ [] else [])
      chosen true = refl
      chosen false = refl
copy_sends to other group number from object version past worker apart held false true first second =
    sym (none_if (to.0 == other.0) (key_at group.epoch group.instance number object version))
copy_sends to other group number from object version past worker apart held false false first second =
    sym (none_if (to.0 == other.0) (key_at group.epoch group.instance number object version))

copy_receives : (to : Worker) (group : Group) (number : ℕ) (object : Object) (version : ℕ) (a b : Bool)
    → new_received group (if a then send_at number to object ∷ (if b then receive_at number object version ∷ [] else []) else
    (if b then receive_at number object version ∷ [] else []))
    ≡ (if b then key_at group.epoch group.instance number object version ∷ [] else [])
copy_receives to group number object version true true = refl
copy_receives to group number object version true false = refl
copy_receives to group number object version false true = refl
copy_receives to group number object version false false = refl

-- whether a key is of a number
abbrev pub is_numbered : ℕ → ℕ → ℕ → Key → Bool
is_numbered epoch instance number key = is_key_by epoch instance key && (key.entry == number)

picked : (P : Key → Type 0) (b : Bool) (key : Key) → P key → AllByRecursion P (if b then key ∷ [] else [])
picked P true key holds = (holds, tt)
picked P false key holds = tt

picked_both : (P : Key → Type 0) (b c : Bool) (key : Key) → P key → AllByRecursion P (key_if b c key)
picked_both P b true key holds = picked P b key holds
picked_both P b false key holds = tt

-- what workers send of it
all_picked : (P : Key → Type 0) (from : Worker) (c : Bool) (key : Key) (workers : List Worker) → P key
    → AllByRecursion P (flat_map (λ (worker : Worker). key_if (from.0 == worker.0) c key) workers)
all_picked P from c key [] holds = tt
all_picked P from c key (worker ∷ workers) holds =
    each_append P (key_if (from.0 == worker.0) c key) (flat_map (λ (w : Worker). key_if (from.0 == w.0) c key) workers)
    (picked_both P (from.0 == worker.0) c key holds) (all_picked P from c key workers holds)

-- it is sent as often as its sender is among them
sent_count : (p : Key → Bool) (key : Key) (from : Worker) (workers : List Worker) → p key ≡ true
    → count_by p (flat_map (λ (worker : Worker). key_if (from.0 == worker.0) true key) workers) ≡ count_by (λ (w : Worker). from.0 == w.0) workers
sent_count p key from [] is = refl
sent_count p key from (worker ∷ workers) is =
    let rest : List Key = flat_map (λ (w : Worker). key_if (from.0 == w.0) true key) workers in
    let both = count_append p (key_if (from.0 == worker.0) true key) rest in
    let behind = sent_count p key from workers is in
    let first = count_first (λ (w : Worker). from.0 == w.0) worker workers (from.0 == worker.0) refl in
    let one = one_count (from.0 == worker.0) in
    omega (arith, both, behind, first, one) where
      one_count : (b : Bool) → count_by p (if b then key ∷ [] else []) ≡ cond b 1 0
      one_count true = count_first p key [] true is
      one_count false = refl

copy_paired : (live : List Bool) (epoch instance number : ℕ) (lists : ℕ → List ToWorker) (given : List (Worker × Command)) (versions : Versions)
    (from to : Worker) (object : Object) (version : ℕ) → AreSoFar live epoch lists given versions → IsCopy versions from to object version
    → is_live live from ≡ true
    → LongerIsPaired (is_numbered epoch instance number) live lists (singles_of epoch instance (copy_at number from to object version))
copy_paired live epoch instance number lists given versions from to object version so_far copy lives =
    longer_paired (is_numbered epoch instance number) live lists (singles_of epoch instance commands) sends receives (record {
      sent = λ worker other there.
          keys_sent_more other epoch instance (lists worker.0) (commands_for worker commands) (so_far.ask.begun worker there) (so_far.ask.epoch worker there)
          ∙ ap (λ (rest : List Key). keys_sent other (lists worker.0) ++ rest)
          (ap₂ (λ (past : List Command) (all : List Command). new_sent other (group worker) past all) (so_far.ask.asked worker there)
          (two_for worker (from, send_at number to object) (to, receive_at number object version) (from.0 == worker.0) (to.0 == worker.0) refl refl)
          ∙ copy_sends to other (group worker) number from object version (commands_for worker given) worker copy.apart
          (λ same. held worker same) (from.0 == worker.0) (to.0 == worker.0) refl refl);
      received = λ worker there.
          keys_received_more epoch instance (lists worker.0) (commands_for worker commands) (so_far.ask.begun worker there) (so_far.ask.epoch worker there)
          ∙ ap (λ (rest : List Key). keys_received (lists worker.0) ++ rest)
          (ap (new_received (group worker))
          (two_for worker (from, send_at number to object) (to, receive_at number object version) (from.0 == worker.0) (to.0 == worker.0) refl refl)
          ∙ copy_receives to (group worker) number object version (from.0 == worker.0) (to.0 == worker.0));
      sent_new = λ worker other. picked_both (λ (k : Key). is_numbered epoch instance number k ≡ true) (from.0 == worker.0) (to.0 == other.0) key new;
      received_new = λ worker. picked (λ (k : Key). is_numbered epoch instance number k ≡ true) (to.0 == worker.0) key new;
      sent_once = λ other there. sent_once other (to.0 == other.0);
      received_once = λ other there. received_once (to.0 == other.0);
    }) where
      commands : List (Worker × Command)
      commands = copy_at number from to object version

      key : Key
      key = key_at epoch instance number object version

      sends : Worker → Worker → List Key
      sends worker other = key_if (from.0 == worker.0) (to.0 == other.0) key

      receives : Worker → List Key
      receives worker = if to.0 == worker.0 then key ∷ [] else []

      group : Worker → Group
      group worker = single_group epoch instance (commands_for worker commands)

      held : (worker : Worker) → from.0 ≡ worker.0
          → holds (commands_for worker given) (length (commands_for worker given)) (main_slot object) ≡ Some (object_of (main_slot object), version)
      held worker same =
          slot_held versions given object worker so_far.stands (ap (λ (n : ℕ). is_current versions object (record { 0 = n })) (sym same) ∙ copy.current)
          ∙ ap (λ (v : ℕ). Some (object_of (main_slot object), v)) (sym copy.latest)

      new : is_numbered epoch instance number key ≡ true
      new = rw (eq-eqb epoch epoch refl, eq-eqb instance instance refl, eq-eqb number number refl) refl

      once : count_by (is_key key) (key ∷ []) ≡ 1
      once = count_first (is_key key) key [] true (itself key)

      none_picked : (workers : List Worker) → Once (flat_map (λ (worker : Worker). key_if (from.0 == worker.0) false key) workers) []
      none_picked [] = tt
      none_picked (worker ∷ workers) = none_picked workers

      sent_once : (other : Worker) (c : Bool)
          → Once (flat_map (λ (worker : Worker). key_if (from.0 == worker.0) c key) (live_workers live)) (if c then key ∷ [] else [])
      sent_once other true = all_picked (λ (k : Key). count_by (is_key k) (key ∷ []) ≡ 1) from true key (live_workers live) once
      sent_once other false = none_picked (live_workers live)

      received_once : (c : Bool)
          → Once (if c then key ∷ [] else []) (flat_map (λ (worker : Worker). key_if (from.0 == worker.0) c key) (live_workers live))
      received_once true = (sent_count (is_key key) key from (live_workers live) (itself key) ∙ live_once live from lives, tt)
      received_once false = tt

-- ---- the step

-- what a slot that a map has something in is of a live worker
pub held_lives : (live : List Bool) (epoch : ℕ) (lists : ℕ → List ToWorker) (given : List (Worker × Command)) (versions : Versions) (worker : Worker)
    (object : Object) (version : ℕ) → AreSoFar live epoch lists given versions → worker.0 < versions.workers → object.0 < versions.objects
    → held_at versions worker (main_slot object) ≡ Some version → is_live live worker ≡ true
held_lives live epoch lists given versions worker object version so_far below there held = either (is_live live worker) refl where
  either : (b : Bool) → is_live live worker ≡ b → b ≡ true
  either true is = refl
  either false is =
      let none : None ≡ Some (object_of (main_slot object), version) =
      sym (ap (λ (cs : List Command). holds cs (length cs) (main_slot object)) (so_far.ask.none worker is))
      ∙ so_far.stands.held worker (main_slot object) (kept_for versions worker (main_slot object) below there)
      ∙ ap (λ (o : Option ℕ). option_map (λ (v : ℕ). (object_of (main_slot object), v)) o) held in
      absurd (false≢true (ap (λ (o : Content). is_some o) none))

-- the keys of a number are between it and the next one
numbered_between : (epoch instance number : ℕ) (key : Key) → is_numbered epoch instance number key ≡ true
    → is_key_between epoch instance number (number + 1) key ≡ true
numbered_between epoch instance number key is =
    let each = both_true (is_key_by epoch instance key) (key.entry == number) is in
    let same = eqb-true key.entry number each.1 in
    between_is epoch instance number (number + 1) key each.0 (omega (arith, same)) (omega (arith, same))

pub copy_given : (live : List Bool) (epoch instance number : ℕ) (lists : ℕ → List ToWorker) (given : List (Worker × Command)) (versions : Versions)
    (from to : Worker) (object : Object) (version : ℕ) → AreSoFar live epoch lists given versions → IsCopy versions from to object version
    → is_live live from ≡ true → is_live live to ≡ true
    → AreGiven live epoch instance number (number + 1) lists given (copy_at number from to object version)
    (with_version to version versions (main_slot object))
copy_given live epoch instance number lists given versions from to object version so_far copy lives also =
    let commands : List (Worker × Command) = copy_at number from to object version in
    step_given live epoch instance number (number + 1) lists given commands versions (with_version to version versions (main_slot object))
    (is_numbered epoch instance number) so_far (numbered_between epoch instance number)
    (record {
      stands = all_stand commands versions (copy.from_below, refl, (copy.to_below, refl, tt)) given so_far.stands;
      ask = singles_ask live epoch instance lists given commands so_far.ask (lives, (also, tt));
    })
    (copy_paired live epoch instance number lists given versions from to object version so_far copy lives)

-- ---- what it keeps of a job

-- each worker's part is legal
pub copy_legal : (job : Job) (position number : ℕ) (given : List (Worker × Command)) (versions : Versions) (from to : Worker) (object : Object) (version : ℕ)
    → MapStands given versions → IsAt job position versions → objects_of job.vars ≤ 512 → IsCopy versions from to object version → (worker : Worker)
    → AreLegal job (commands_for worker given) (commands_for worker (copy_at number from to object version))
copy_legal job position number given versions from to object version stands at few copy worker =
    subst (AreLegal job (commands_for worker given))
    (sym (two_for worker (from, send_at number to object) (to, receive_at number object version) (from.0 == worker.0) (to.0 == worker.0) refl refl))
    (either (from.0 == worker.0) (to.0 == worker.0) refl) where
      there : object.0 < objects_of job.vars
      there = let inside = copy.there in omega (arith, inside, at.objects)

      received : is_version job (object_of (main_slot object)) version ≡ true
      received =
          ap₂ (λ (o : Object) (v : ℕ). is_version job o v) (main_of object (omega (arith, there, few))) (copy.latest ∙ at.latest object copy.there)
          ∙ read_there job position object there

      sent : from.0 ≡ worker.0 → holds (commands_for worker given) (length (commands_for worker given)) (main_slot object) ≡ None → ⊥
      sent same none =
          let held = slot_held versions given object worker stands
          (ap (λ (n : ℕ). is_current versions object (record { 0 = n })) (sym same) ∙ copy.current) in
          false≢true (ap (λ (o : Content). is_some o) (sym none ∙ held))

      either : (a b : Bool) → (from.0 == worker.0) ≡ a
          → AreLegal job (commands_for worker given) (if a then send_at number to object ∷ (if b then receive_at number object version ∷ [] else []) else
          (if b then receive_at number object version ∷ [] else []))
      either true true first = (sent (eqb-true from.0 worker.0 first), (received, tt))
      either true false first = (sent (eqb-true from.0 worker.0 first), tt)
      either false true first = (received, tt)
      either false false first = tt

-- the map stays at its position
pub copy_at_position : (job : Job) (position : ℕ) (given : List (Worker × Command)) (versions : Versions) (from to : Worker) (object : Object) (version : ℕ)
    → MapStands given versions → IsAt job position versions → IsCopy versions from to object version
    → IsAt job position (with_version to version versions (main_slot object))
copy_at_position job position given versions from to object version stands at copy =
    record {
      objects = put.objects ∙ at.objects;
      holders = λ other inside_now.
          let inside : other.0 < versions.objects = omega (arith, put.objects, inside_now) in
          still other inside (holder versions other) refl (at.holders other inside);
      latest = λ other inside_now.
          let inside : other.0 < versions.objects = omega (arith, put.objects, inside_now) in latest other inside ∙ at.latest other inside;
    } where
      after : Versions
      after = with_version to version versions (main_slot object)

      put : IsPut versions to version (main_slot object ∷ []) (with_version to version versions (main_slot object))
      put = put_all versions to version (main_slot object ∷ []) (record { slots = stands.slots; all = stands.all }) copy.to_below

      equal : (other : Object) → is_among (main_slot object ∷ []) (main_slot other) ≡ true → version ≡ latest_of versions other
      equal other among = copy.latest ∙ ap (λ (n : ℕ). latest_of versions (record { 0 = n })) (only_object object other among)

      latest : (other : Object) → other.0 < versions.objects → latest_of after other ≡ latest_of versions other
      latest other inside =
          same_latest (is_among (main_slot object ∷ []) (main_slot other)) (latest_of versions other) version (latest_of after other) (latest_of versions other)
          (put.latest other inside) refl (equal other)

      still : (other : Object) → other.0 < versions.objects → (o : Option Worker) → holder versions other ≡ o → is_some o ≡ true
          → is_some (holder after other) ≡ true
      still other inside None is some = absurd (false≢true some)
      still other inside (Some worker) is some =
          let facts = holder_facts versions other 0 versions.workers worker is in
          let below : worker.0 < versions.workers = (let low = facts.0 in omega (arith, low)) in
          holder_there after other worker 0 after.workers (omega arith) (omega (arith, put.workers, below))
          (current_of after other worker
          (kept_latest (is_among (main_slot object ∷ []) (main_slot other)) (to.0 == worker.0) (held_at versions worker (main_slot other))
          (held_at after worker (main_slot other)) version (latest_of versions other)
          (put.held worker (main_slot other) (kept_for versions worker (main_slot other) below inside))
          (current_held (latest_of versions other) (held_at versions worker (main_slot other)) facts.1) (equal other)
          ∙ ap Some (sym (latest other inside))))
