-- What the slots of all workers hold while the commands of a task run by rank.
use Rattle.std.proofs.Common.{◌≡◌, ℕ, ◌+◌, ◌<◌, ◌≤◌, Bool, true, false, List, [], ◌∷◌, ◌++◌, length, map, refl, ap, ap₂, sym, subst, ◌∙◌, arith}
use Rattle.std.proofs.Common.{Option}
use Rattle.std.proofs.Common.{None, Some}
use Rattle.std.specs.Prelude.{◌*◌, ◌==◌, ◌&&◌, if◌then◌else◌, slice_get, slice_index_or, IsSomeAnd}
use Rattle.std.specs.List.{fold}
use Rattle.std.specs.Option.{is_some}
use Rattle.std.proofs.lemmas.Bool.{eq-eqb, eqb-true, false≢true, ne_eqb}
use Rattle.std.proofs.lemmas.List.{append_assoc, append-nil}
use Rattle.std.proofs.lemmas.List.Sums.{fold-append}
use Rattle.nim_base.specs.declared.number.Object.{Object}
use Rattle.nim_base.specs.declared.number.Slot.{Slot}
use Rattle.nim_base.specs.declared.number.Worker.{Worker}
use Rattle.nim_base.specs.declared.task.Task.{Task}
use Rattle.nim_command.specs.declared.command.Command.{Command}
use Rattle.nim_command.specs.declared.command.Kind.{Kind}
use Rattle.nim_command.specs.declared.command.Kind.TheVariants.{Receive}
use Rattle.nim_command.specs.Holds.{Content, content_at, left_by, put_at, version_after}
use Rattle.nim_command.specs.Numbers.{entry_number, main_slot}
use Rattle.nim_command.specs.Slots.{is_among, object_of}
use Rattle.nim_job.specs.declared.job.Job.{Job}
use Rattle.nim_job.specs.Serial.{tasks_of}
use Rattle.nim_job.specs.Versions.{read_version}
use Rattle.nim_plan.specs.Legal.{IsRunOf, is_version}
use Rattle.nim_place.specs.Schedule.{copies_of, is_one_of, moves, receive_of, run_of, send_of}
use Rattle.nim_place.specs.Sound.{AreFound, Frame, Plane, sent_to, step_of, plane_left, with_slots}
use Rattle.nim_place.specs.Versions.{Versions, after_commands, after_kind, held_at, holder, is_current, is_kept, latest_of, place_of, with_version}
use Rattle.nim_place.proofs.Finds.{after_copies, current_held, latest_there}
use Rattle.nim_place.proofs.Held.{AreHeld, moves_held}
use Rattle.nim_place.proofs.History.{one_left}
use Rattle.nim_place.proofs.Legal.{main_of, reads_held}
use Rattle.nim_place.proofs.Moves.{AreIndexed, AreMoves, moves_facts, moves_indexed}
use Rattle.nim_place.proofs.Places.{both_true}
use Rattle.nim_place.proofs.Puts.{IsPut, IsWhole, kept_bounds, kept_for, put_all, whole_after}
use Rattle.nim_template.proofs.Effects.{some_kept}
use Rattle.nim_template.proofs.Ranked.{ranked_task}
use Rattle.nim_template.proofs.Sizes.{like_commands}
use Rattle.nim_template.proofs.Walks.{only_object}

-- The slots hold what a map of versions has, and those that it has nothing of what they held at first.
pub record IsLike (slots : Worker → Slot → Content) (versions : Versions) (plane : Plane) : Type 0 where
  pub whole : IsWhole versions
  pub held : (worker : Worker) (object : Object) (version : ℕ) → worker.0 < versions.workers → object.0 < versions.objects
      → held_at versions worker (main_slot object) ≡ Some version → plane.slots worker (main_slot object) ≡ Some (object, version)
  pub rest : (worker : Worker) (slot : Slot) → held_at versions worker slot ≡ None → plane.slots worker slot ≡ slots worker slot

-- each frame is to an entry of a smaller number
abbrev pub Below : ℕ → List Frame → Type 0
Below low [] = Unit {0}
Below low (frame ∷ frames) = (frame.entry < low) × Below low frames

pub below_more : (low more : ℕ) (frames : List Frame) → low ≤ more → Below low frames → Below more frames
below_more low more [] above below = tt
below_more low more (frame ∷ frames) above below = (omega (arith, above, below.0), below_more low more frames above below.1)

pub below_append : (low : ℕ) (xs ys : List Frame) → Below low xs → Below low ys → Below low (xs ++ ys)
below_append low [] ys first second = second
below_append low (x ∷ xs) ys first second = (first.0, below_append low xs ys first.1 second)

-- ---- a put

chosen_slots : (owner worker : Worker) (h : Slot → Content) (plane : Plane) (slot : Slot) (among : Bool) (x : Content)
    → h slot ≡ (if among then x else plane.slots owner slot) → (c : Bool) → (owner.0 == worker.0) ≡ c
    → (with_slots owner h plane).slots worker slot ≡ (if among && c then x else plane.slots worker slot)
chosen_slots owner worker h plane slot among x is true same =
    let equal : owner.0 ≡ worker.0 = eqb-true owner.0 worker.0 same in
    ap (λ (b : Bool). (if b then h else plane.slots worker) slot) (eq-eqb worker.0 owner.0 (sym equal)) ∙ is ∙ either among equal where
      either : (b : Bool) → owner.0 ≡ worker.0 → (if b then x else plane.slots owner slot) ≡ (if b && true then x else plane.slots worker slot)
      either true equal = refl
      either false equal = ap (λ (n : ℕ). plane.slots (record { 0 = n }) slot) equal
chosen_slots owner worker h plane slot among x is false apart =
    ap (λ (b : Bool). (if b then h else plane.slots worker) slot)
    (ne_eqb worker.0 owner.0 (λ same. false≢true (sym apart ∙ eq-eqb owner.0 worker.0 (sym same)))) ∙ either among where
      either : (b : Bool) → plane.slots worker slot ≡ (if b && false then x else plane.slots worker slot)
      either true = refl
      either false = refl

pub pick_held : (d : Bool) (version found : ℕ) (object : Object) (old : Option ℕ) (was now : Content) → now ≡ (if d then Some (object, version) else was)
    → Some found ≡ (if d then Some version else old) → (old ≡ Some found → was ≡ Some (object, found)) → now ≡ Some (object, found)
pick_held true version found object old was now is put before = is ∙ ap (option_map_with object) (sym put) where
  option_map_with : Object → Option ℕ → Content
  option_map_with o None = None
  option_map_with o (Some v) = Some (o, v)
pick_held false version found object old was now is put before = is ∙ before (sym put)

pick_rest : (d : Bool) (version : ℕ) (old : Option ℕ) (x was now : Content) → now ≡ (if d then x else was) → None ≡ (if d then Some version else old)
    → (now ≡ was) × (old ≡ None)
pick_rest true version old x was now is put = absurd (false≢true (ap (λ (o : Option ℕ). is_some o) put))
pick_rest false version old x was now is put = (is, sym put)

unkept_none : (versions : Versions) (worker : Worker) (slot : Slot) → is_kept versions worker slot ≡ false → held_at versions worker slot ≡ None
unkept_none versions worker slot is = ap (λ (b : Bool). if b then slice_index_or versions.held (place_of versions worker slot) None else None) is

-- a version is put into slots of a worker
pub like_puts : (slots : Worker → Slot → Content) (versions : Versions) (plane : Plane) (owner : Worker) (version : ℕ) (puts : List Slot) (h : Slot → Content)
    → IsLike slots versions plane → owner.0 < versions.workers → versions.objects ≤ 512
    → ((slot : Slot) → is_among puts slot ≡ true → slot.0 < versions.objects)
    → ((slot : Slot) → h slot ≡ (if is_among puts slot then content_at slot version else plane.slots owner slot))
    → IsLike slots (fold (with_version owner version) versions puts) (with_slots owner h plane)
like_puts slots versions plane owner version puts h like below few within is =
    record {
      whole = whole_after versions owner version puts after put like.whole;
      held = λ worker object found lower_now inside_now held.
          (let lower : worker.0 < versions.workers = omega (arith, put.workers, lower_now) in
          let inside : object.0 < versions.objects = omega (arith, put.objects, inside_now) in
          pick_held (is_among puts (main_slot object) && (owner.0 == worker.0)) version found object (held_at versions worker (main_slot object))
          (plane.slots worker (main_slot object)) ((with_slots owner h plane).slots worker (main_slot object))
          (chosen_slots owner worker h plane (main_slot object) (is_among puts (main_slot object)) (content_at (main_slot object) version)
          (is (main_slot object)) (owner.0 == worker.0) refl
          ∙ ap (λ (o : Object). if is_among puts (main_slot object) && (owner.0 == worker.0) then Some (o, version) else plane.slots worker (main_slot object))
          (main_of object (omega (arith, inside, few))))
          (sym held ∙ put.held worker (main_slot object) (kept_for versions worker (main_slot object) lower inside))
          (like.held worker object found lower inside));
      rest = λ worker slot none. rest worker slot none (is_kept versions worker slot) refl;
    } where
      after : Versions
      after = fold (with_version owner version) versions puts

      put : IsPut versions owner version puts (fold (with_version owner version) versions puts)
      put = put_all versions owner version puts like.whole below

      now_is : (worker : Worker) (slot : Slot)
          → (with_slots owner h plane).slots worker slot
          ≡ (if is_among puts slot && (owner.0 == worker.0) then content_at slot version else plane.slots worker slot)
      now_is worker slot = chosen_slots owner worker h plane slot (is_among puts slot) (content_at slot version) (is slot) (owner.0 == worker.0) refl

      outside : (worker : Worker) (slot : Slot) → is_kept versions worker slot ≡ false → (d : Bool)
          → (is_among puts slot && (owner.0 == worker.0)) ≡ d → d ≡ false
      outside worker slot unkept true both =
          let each = both_true (is_among puts slot) (owner.0 == worker.0) both in
          let equal = eqb-true owner.0 worker.0 each.1 in
          absurd (false≢true (sym unkept ∙ kept_for versions worker slot (omega (arith, equal, below)) (within slot each.0)))
      outside worker slot unkept false both = refl

      rest : (worker : Worker) (slot : Slot) → held_at (fold (with_version owner version) versions puts) worker slot ≡ None → (b : Bool)
          → is_kept versions worker slot ≡ b → (with_slots owner h plane).slots worker slot ≡ slots worker slot
      rest worker slot none true kept =
          let parts = pick_rest (is_among puts slot && (owner.0 == worker.0)) version (held_at versions worker slot) (content_at slot version)
          (plane.slots worker slot) ((with_slots owner h plane).slots worker slot) (now_is worker slot) (sym none ∙ put.held worker slot kept) in
          parts.0 ∙ like.rest worker slot parts.1
      rest worker slot none false unkept =
          now_is worker slot
          ∙ ap (λ (b : Bool). if b then content_at slot version else plane.slots worker slot)
          (outside worker slot unkept (is_among puts slot && (owner.0 == worker.0)) refl)
          ∙ like.rest worker slot (unkept_none versions worker slot unkept)

-- ---- frames

pub skip_first : (frame : Frame) (frames : List Frame) (worker : Worker) (entry : ℕ) → (frame.entry ≡ entry → ⊥)
    → sent_to (frame ∷ frames) worker entry ≡ sent_to frames worker entry
skip_first frame frames worker entry apart =
    ap (λ (b : Bool). if (frame.to.0 == worker.0) && b then frame.content else sent_to frames worker entry) (ne_eqb frame.entry entry apart)
    ∙ either (frame.to.0 == worker.0) where
      either : (b : Bool) → (if b && false then frame.content else sent_to frames worker entry) ≡ sent_to frames worker entry
      either true = refl
      either false = refl

pub skip_all : (past frames : List Frame) (worker : Worker) (entry : ℕ) → Below entry past → sent_to (past ++ frames) worker entry ≡ sent_to frames worker entry
skip_all [] frames worker entry below = refl
skip_all (frame ∷ past) frames worker entry below =
    let first = below.0 in
    skip_first frame (past ++ frames) worker entry (λ same. omega (arith, same, first)) ∙ skip_all past frames worker entry below.1

pub first_sent : (frame : Frame) (frames : List Frame) → sent_to (frame ∷ frames) frame.to frame.entry ≡ frame.content
first_sent frame frames =
    ap₂ (λ (a b : Bool). if a && b then frame.content else sent_to frames frame.to frame.entry) (eq-eqb frame.to.0 frame.to.0 refl)
    (eq-eqb frame.entry frame.entry refl)

-- ---- commands one after another

pub found_append : (job : Job) (plane : Plane) (xs ys : List (Worker × Command)) → AreFound job plane xs → AreFound job (plane_left plane xs) ys
    → AreFound job plane (xs ++ ys)
found_append job plane [] ys first second = second
found_append job plane (x ∷ xs) ys first second = (first.0, found_append job (step_of x.0 x.1.id x.1.kind plane) xs ys first.1 second)

pub walked_append : (plane : Plane) (xs ys : List (Worker × Command)) → plane_left plane (xs ++ ys) ≡ plane_left (plane_left plane xs) ys
walked_append plane xs ys = fold-append (λ (now : Plane) (c : Worker × Command). step_of c.0 c.1.id c.1.kind now) plane xs ys

-- ---- what a task sends

-- what is received
abbrev content_of : Kind → Content
content_of (Receive slot version) = content_at slot version
content_of _ = None

-- the frame that a Receive takes
abbrev pub frame_for : Worker × Command → Frame
frame_for c = record { to = c.0; entry = c.1.id; content = content_of c.1.kind }

abbrev pub with_frames : List Frame → Plane → Plane
with_frames frames plane = record { slots = plane.slots; frames = plane.frames ++ frames }

-- the slots hold what the map has
abbrev pub Has : Versions → (Worker → Slot → Content) → Type 0
Has versions slots =
    (worker : Worker) (object : Object) (version : ℕ) → worker.0 < versions.workers → object.0 < versions.objects
    → held_at versions worker (main_slot object) ≡ Some version → slots worker (main_slot object) ≡ Some (object, version)

-- what is current is there
pub current_there : (versions : Versions) (slots : Worker → Slot → Content) (object : Object) (from : Worker) → Has versions slots → versions.objects ≤ 512
    → is_current versions object from ≡ true → slots from (main_slot object) ≡ content_at (main_slot object) (latest_of versions object)
current_there versions slots object from has few current =
    let held = current_held (latest_of versions object) (held_at versions from (main_slot object)) current in
    let bounds = kept_bounds versions from (main_slot object) (some_kept versions from (main_slot object) (latest_of versions object) held) in
    let column = bounds.1 in
    has from object (latest_of versions object) bounds.0 bounds.1 held
    ∙ ap (λ (o : Object). Some (o, latest_of versions object)) (sym (main_of object (omega (arith, column, few))))

pub some_there : (content : Content) (slot : Slot) (version : ℕ) → content ≡ content_at slot version → content ≡ None → ⊥
some_there content slot version is none = false≢true (ap (λ (c : Content). is_some c) (sym none ∙ is))

-- Sends in turn
pub record AreSent (job : Job) (plane : Plane) (commands : List (Worker × Command)) (frames : List Frame) : Type 0 where
  pub found : AreFound job plane commands
  pub after : plane_left plane commands ≡ with_frames frames plane

abbrev pub plane_of : (Worker → Slot → Content) → List Frame → Plane
plane_of slots frames = record { slots = slots; frames = frames }

sends_found : (job : Job) (versions : Versions) (number : ℕ) (owner : Worker) (slots : Worker → Slot → Content) (frames : List Frame) (ms : List _)
    → Has versions slots → versions.objects ≤ 512 → AreHeld versions ms
    → AreSent job (plane_of slots frames) (map (send_of number owner) ms) (map frame_for (map (receive_of versions number owner) ms))
sends_found job versions number owner slots frames [] has few are =
    record { found = tt; after = ap (plane_of slots) (sym (append-nil frames)) }
sends_found job versions number owner slots frames (m ∷ ms) has few are =
    let there : slots m.from (main_slot m.object) ≡ content_at (main_slot m.object) (latest_of versions m.object) =
    current_there versions slots m.object m.from has few are.0 in
    let sent : Content → Frame = λ c. record { to = owner; entry = entry_number number 1 m.index; content = c } in
    let next : List Frame = frames ++ sent (slots m.from (main_slot m.object)) ∷ [] in
    let more : List Frame = map frame_for (map (receive_of versions number owner) ms) in
    let rest : AreSent job (plane_of slots next) (map (send_of number owner) ms) more =
    sends_found job versions number owner slots next ms has few are.1 in
    record {
      found = (some_there (slots m.from (main_slot m.object)) (main_slot m.object) (latest_of versions m.object) there, rest.found);
      after =
          rest.after
          ∙ ap (plane_of slots)
          (append_assoc frames (sent (slots m.from (main_slot m.object)) ∷ []) more
          ∙ ap (λ (c : Content). frames ++ sent c ∷ more) there);
    }

-- ---- what it receives

-- commands in turn, and the map that their slots are like then
pub record AreDone (job : Job) (start : Worker → Slot → Content) (plane : Plane) (commands : List (Worker × Command)) (after : Versions) : Type 0 where
  pub found : AreFound job plane commands
  pub like : IsLike start after (plane_left plane commands)
  pub frames : (plane_left plane commands).frames ≡ plane.frames

-- what a Receive leaves
pub taken_is : (written slot : Slot) (version : ℕ) (sent before : Content) → sent ≡ content_at written version
    → (if slot.0 == written.0 then sent else before) ≡ (if is_among (written ∷ []) slot then content_at slot version else before)
taken_is written slot version sent before is =
    ap (λ (c : Content). if slot.0 == written.0 then c else before) is
    ∙ one_left written slot version before (slot.0 == written.0) (written.0 == slot.0) refl refl

receives_found : (job : Job) (start : Worker → Slot → Content) (base now : Versions) (number : ℕ) (owner : Worker) (reads : List Object) (low : ℕ)
    (ms : List _) (past : List Frame) (plane : Plane) → IsLike start now plane → owner.0 < now.workers → now.objects ≤ 512 → now.objects ≡ base.objects
    → AreMoves base owner reads ms → AreIndexed low 8 ms → number < 1024
    → ((object : Object) → is_one_of reads object ≡ true → object.0 < base.objects)
    → ((object : Object) → is_one_of reads object ≡ true → is_version job (object_of (main_slot object)) (latest_of base object) ≡ true)
    → plane.frames ≡ past ++ map frame_for (map (receive_of base number owner) ms) → Below (64 * number + 8 + low) past
    → AreDone job start plane (map (receive_of base number owner) ms) (after_commands now (copies_of base number owner ms))
receives_found job start base now number owner reads low [] past plane like below few same are at small within versioned frames old =
    record { found = tt; like = like; frames = refl }
receives_found job start base now number owner reads low (m ∷ ms) past plane like below few same are at small within versioned frames old =
    let id : ℕ = entry_number number 1 m.index in
    let id_is : id ≡ 64 * number + 8 + m.index = omega (arith, small, at.1) in
    let slot : Slot = main_slot m.object in
    let version : ℕ = latest_of base m.object in
    let frame : Frame = frame_for (receive_of base number owner m) in
    let more : List Frame = map frame_for (map (receive_of base number owner) ms) in
    let sent : sent_to plane.frames owner id ≡ content_at slot version =
    ap (λ (fs : List Frame). sent_to fs owner id) frames
    ∙ skip_all past (frame ∷ more) owner id (below_more (64 * number + 8 + low) id past (omega (arith, id_is, at.0)) old)
    ∙ first_sent frame more in
    let left : Slot → Content = put_at slot (sent_to plane.frames owner id) (plane.slots owner) in
    let next : Versions = with_version owner version now slot in
    let put : IsPut now owner version (slot ∷ []) next = put_all now owner version (slot ∷ []) like.whole below in
    let inside : m.object.0 < base.objects = within m.object are.2 in
    let rest : AreDone job start (with_slots owner left plane) (map (receive_of base number owner) ms) (after_commands next (copies_of base number owner ms)) =
    receives_found job start base next number owner reads (m.index + 1) ms (past ++ frame ∷ []) (with_slots owner left plane)
    (like_puts start now plane owner version (slot ∷ []) left like below few
    (λ other among. (let equal = only_object m.object (record { 0 = other.0 }) among in omega (arith, equal, same, inside)))
    (λ other. taken_is slot other version (sent_to plane.frames owner id) (plane.slots owner other) sent))
    (omega (arith, put.workers, below)) (omega (arith, put.objects, few)) (put.objects ∙ same) are.4 at.2 small within versioned
    (frames ∙ sym (append_assoc past (frame ∷ []) more))
    (below_append (64 * number + 8 + (m.index + 1)) past (frame ∷ [])
    (below_more (64 * number + 8 + low) (64 * number + 8 + (m.index + 1)) past (omega (arith, at.0)) old) (omega (arith, id_is), tt)) in
    record {
      found = ((versioned m.object are.2, sent), rest.found);
      like = rest.like;
      frames = rest.frames;
    }

-- ---- a task

-- the owner of a task may run it in a map
pub record MayRun (job : Job) (versions : Versions) (owner : Worker) (task : Task) (position : ℕ) : Type 0 where
  pub below : owner.0 < versions.workers
  pub few : versions.objects ≤ 512
  pub there : slice_get (tasks_of job) position ≡ Some task
  pub short : length task.reads ≤ 8
  pub reads : (object : Object) → is_one_of task.reads object ≡ true → object.0 < versions.objects
  pub holders : (object : Object) → is_one_of task.reads object ≡ true → is_some (holder versions object) ≡ true
  pub latest : (object : Object) → is_one_of task.reads object ≡ true → latest_of versions object ≡ read_version job position object
  pub versioned : (object : Object) → is_one_of task.reads object ≡ true
      → is_version job (object_of (main_slot object)) (latest_of versions object) ≡ true
  pub within : (slot : Slot) → is_among (map main_slot task.writes) slot ≡ true → slot.0 < versions.objects
  pub writes : map object_of (map main_slot task.writes) ≡ task.writes

-- commands were run, and each frame is to an entry of a smaller number
pub record IsRun (job : Job) (start : Worker → Slot → Content) (plane : Plane) (commands : List (Worker × Command)) (high : ℕ) (after : Versions) : Type 0 where
  pub found : AreFound job plane commands
  pub like : IsLike start after (plane_left plane commands)
  pub frames : Below high (plane_left plane commands).frames

run_found : (job : Job) (start : Worker → Slot → Content) (before mid : Versions) (owner : Worker) (task : Task) (number position : ℕ) (ms : List _)
    (plane : Plane) → MayRun job before owner task position → IsLike start mid plane → owner.0 < mid.workers → mid.objects ≡ before.objects
    → ((object : Object) → is_one_of task.reads object ≡ true → plane.slots owner (main_slot object) ≡ Some (object, read_version job position object))
    → AreDone job start plane ((owner, run_of task number position ms) ∷ [])
    (fold (with_version owner (version_after position)) mid (map main_slot task.writes))
run_found job start before mid owner task number position ms plane may like below same held =
    let few = may.few in
    let kind : Kind = Kind.Run position task.func task.params (map main_slot task.reads) (map main_slot task.writes) in
    record {
      found = (
        subst (λ (t : Option Task). IsSomeAnd t (IsRunOf job (plane.slots owner) position task.func task.params (map main_slot task.reads)
            (map main_slot task.writes)))
            (sym may.there)
            (record { func = refl; params = refl; reads = reads_held job (plane.slots owner) position task.reads held; writes = may.writes }),
        tt,
      );
      like =
          like_puts start mid plane owner (version_after position) (map main_slot task.writes) (left_by kind (plane.slots owner)) like below
          (omega (arith, same, few)) (λ slot among. (let low = may.within slot among in omega (arith, same, low))) (λ slot. refl);
      frames = refl;
    }

frames_below : (versions : Versions) (number : ℕ) (owner : Worker) (low : ℕ) (ms : List _) → number < 1024 → AreIndexed low 8 ms
    → Below (64 * (number + 1)) (map frame_for (map (receive_of versions number owner) ms))
frames_below versions number owner low [] small at = tt
frames_below versions number owner low (m ∷ ms) small at =
    let id : entry_number number 1 m.index ≡ 64 * number + 8 + m.index = omega (arith, small, at.1) in
    (omega (arith, id, at.1), frames_below versions number owner (m.index + 1) ms small at.2)

pub task_found : (job : Job) (start : Worker → Slot → Content) (versions : Versions) (owner : Worker) (task : Task) (number position : ℕ) (plane : Plane)
    → number < 1024 → MayRun job versions owner task position → IsLike start versions plane → Below (64 * number) plane.frames
    → IsRun job start plane (ranked_task versions task number position owner) (64 * (number + 1))
    (after_commands versions (copies_of versions number owner (moves versions owner [] task.reads)
    ++ (owner, run_of task number position (moves versions owner [] task.reads)) ∷ []))
task_found job start versions owner task number position plane small may like old =
    let ms = moves versions owner [] task.reads in
    let sends : List (Worker × Command) = map (send_of number owner) ms in
    let receives : List (Worker × Command) = map (receive_of versions number owner) ms in
    let run : List (Worker × Command) = (owner, run_of task number position ms) ∷ [] in
    let copies : List (Worker × Command) = copies_of versions number owner ms in
    let mid : Versions = after_commands versions copies in
    let frames : List Frame = map frame_for receives in
    let first : Plane = with_frames frames plane in
    let at : AreIndexed 0 8 ms = moves_indexed versions owner [] task.reads 8 (let short = may.short in omega (arith, short)) in
    let sent : AreSent job plane sends frames =
    sends_found job versions number owner plane.slots plane.frames ms like.held may.few (moves_held versions owner task.reads) in
    let taken : AreDone job start first receives mid =
    receives_found job start versions versions number owner task.reads 0 ms plane.frames first
    (record { whole = like.whole; held = like.held; rest = like.rest }) may.below may.few refl (moves_facts versions owner task.reads) at small may.reads
    may.versioned refl (below_more (64 * number) (64 * number + 8 + 0) plane.frames (omega arith) old) in
    let second : Plane = plane_left first receives in
    let like_mid = like_commands copies versions in
    let below : owner.0 < mid.workers = (let low = may.below in omega (arith, like_mid.workers, low)) in
    let ran : AreDone job start second run (fold (with_version owner (version_after position)) mid (map main_slot task.writes)) =
    run_found job start versions mid owner task number position ms second may taken.like below like_mid.objects
    (λ object one.
    (let inside = may.reads object one in
    let held : held_at mid owner (main_slot object) ≡ Some (latest_of versions object) =
    (after_copies versions versions number owner ms object like.whole may.below inside).1
    ∙ latest_there versions owner task.reads object one (may.holders object one) in
    taken.like.held owner object (latest_of versions object) below (omega (arith, like_mid.objects, inside)) held
    ∙ ap (λ (v : ℕ). Some (object, v)) (may.latest object one))) in
    let all : plane_left plane (sends ++ (receives ++ run)) ≡ plane_left second run =
    walked_append plane sends (receives ++ run)
    ∙ ap (λ (p : Plane). plane_left p (receives ++ run)) sent.after
    ∙ walked_append first receives run in
    record {
      found =
          found_append job plane sends (receives ++ run) sent.found
          (subst (λ (p : Plane). AreFound job p (receives ++ run)) (sym sent.after) (found_append job first receives run taken.found ran.found));
      like =
          subst (λ (p : Plane). IsLike start (after_commands versions (copies ++ run)) p) (sym all)
          (subst (λ (v : Versions). IsLike start v (plane_left second run))
          (sym (fold-append (λ (before : Versions) (c : Worker × Command). after_kind c.0 before c.1.kind) versions copies run)) ran.like);
      frames =
          subst (λ (p : Plane). Below (64 * (number + 1)) p.frames) (sym all)
          (subst (Below (64 * (number + 1))) (sym (ran.frames ∙ taken.frames))
          (below_append (64 * (number + 1)) plane.frames frames
          (below_more (64 * number) (64 * (number + 1)) plane.frames (omega arith) old)
          (frames_below versions number owner 0 ms small at)));
    }
