-- A task that runs elsewhere leaves in main slots what it leaves at its home: what it reads is sent on or copied there, it runs
-- over scratch slots, and what it writes is sent back.
use Rattle.std.proofs.Common.{◌≡◌, ℕ, ◌+◌, ◌≤◌, ◌<◌, Bool, true, false, List, [], ◌∷◌, ◌++◌, length, map, refl, ap, ap₂, sym, subst, ◌∙◌, arith}
use Rattle.std.proofs.Common.{Option, None, Some}
use Rattle.std.specs.Prelude.{◌*◌, ◌%◌, ◌==◌, ◌||◌, nat_le, nat_lt, not, if◌then◌else◌, ℤ}
use Rattle.std.specs.List.{AllByRecursion, filter}
use Rattle.std.specs.Option.{is_some}
use Rattle.std.proofs.lemmas.Bool.{eq-eqb, eqb-true, false≢true, leb-true, ltb-true}
use Rattle.std.proofs.lemmas.List.{append-nil, append_assoc}
use Rattle.nim_base.specs.declared.number.Object.{Object}
use Rattle.nim_base.specs.declared.number.Slot.{Slot}
use Rattle.nim_base.specs.declared.number.Worker.{Worker}
use Rattle.nim_command.specs.declared.command.Command.{Command}
use Rattle.nim_command.specs.declared.entry.EntryKind.{EntryKind}
use Rattle.nim_command.specs.Edits.{entry_of, forward_receive, forward_send, return_receives, return_sends, written_slots}
use Rattle.nim_command.specs.Expansion.{version_at}
use Rattle.nim_command.specs.Holds.{Content, content_at, put_at, version_after}
use Rattle.nim_command.specs.Numbers.{counted_from, entry_number, main_slot, offset_after, scratch_slot, task_of}
use Rattle.nim_command.specs.Slots.{is_among, object_of}
use Rattle.nim_job.specs.declared.job.Job.{Job}
use Rattle.nim_plan.specs.Legal.{is_version}
use Rattle.nim_place.specs.Sound.{AreFound, Frame, Plane, sent_to, step_of, plane_left, with_slots}
use Rattle.nim_place.proofs.History.{one_left}
use Rattle.nim_place.proofs.Legal.{main_of}
use Rattle.nim_template.proofs.Planes.{AreSent, Below, below_append, below_more, first_sent, plane_of, skip_all}
use Rattle.nim_edit.proofs.InOrder.{placed_command}
use Rattle.nim_edit.proofs.LateEntries.{at_worker}
use Rattle.nim_edit.proofs.Leaves.{same_version}
use Rattle.nim_edit.proofs.Listed.{is_early}
use Rattle.nim_edit.proofs.Puts.{FirstRead, Indexed}
use Rattle.nim_edit.proofs.SamePlanes.{at_slots, same_worker_slots}

-- ---- slots and frames

-- the scratch slot of an object is of it
pub scratch_of : (object : Object) → object.0 < 512 → object_of (scratch_slot object) ≡ object
scratch_of object low =
    let same : (scratch_slot object).0 % 512 ≡ object.0 = omega (arith, low) in ap (λ (n : ℕ). (let o : Object = record { 0 = n } in o)) same

none_is : {X : Type 0} (x : X) (o : Option X) → o ≡ Some x → o ≡ None → ⊥
none_is {X} x o is none = false≢true (ap (λ (c : Option X). is_some c) (sym none ∙ is))

-- an object with a version
abbrev pub version_content : (Object → ℕ) → Object → Content
version_content version object = Some (object, version object)

-- a frame for an entry of a later phase isn't for an early one
pub late_entry : (task phase index : ℕ) → task < 1024 → 2 ≤ phase → phase < 8 → index < 8 → is_early (entry_number task phase index) ≡ false
late_entry task phase index few from below within =
    unearly (entry_number task phase index) task (8 * phase + index) (omega (arith, few, below, within)) few (omega (arith, from))
    (omega (arith, below, within)) where
      unearly : (number task more : ℕ) → number ≡ 64 * task + more → task < 1024 → 16 ≤ more → more < 64 → is_early number ≡ false
      unearly number task more is few above under = either (nat_lt (number % 64) 16) refl (nat_le 65536 number) refl where
        either : (a : Bool) → nat_lt (number % 64) 16 ≡ a → (b : Bool) → nat_le 65536 number ≡ b → (a || b) ≡ false
        either true less b other = absurd (omega (arith, is, above, under, ltb-true (number % 64) 16 less))
        either false less true other = absurd (omega (arith, is, few, under, leb-true 65536 number other))
        either false less false other = refl

-- ---- what is sent on

-- what the home sends for first reads
abbrev pub sent_frames : (Object → ℕ) → ℕ → Worker → List FirstRead → List Frame
sent_frames version task owner [] = []
sent_frames version task owner (f ∷ fs) =
    if f.there then sent_frames version task owner fs
    else record { to = owner; entry = entry_number task 3 f.index; content = version_content version f.object } ∷ sent_frames version task owner fs

pub sends_on : (job : Job) (before : Object → ℕ) (base : ℕ) (args : List ℤ) (version : Object → ℕ) (task : ℕ) (home owner : Worker)
    (slots : Worker → Slot → Content) (frames : List Frame) (fs : List FirstRead)
    → AllByRecursion (λ (f : FirstRead). slots home (main_slot f.object) ≡ version_content version f.object) fs
    → AreSent job (plane_of slots frames)
    (map (placed_command before base args) (at_worker home (map (forward_send task owner) (filter (λ (r : FirstRead). not r.there) fs))))
    (sent_frames version task owner fs)
sends_on job before base args version task home owner slots frames [] held = record { found = tt; after = ap (plane_of slots) (sym (append-nil frames)) }
sends_on job before base args version task home owner slots frames (f ∷ fs) held =
    shown f.there (λ past. sends_on job before base args version task home owner slots past fs held.1) where
      placed : List FirstRead → List (Worker × Command)
      placed rs = map (placed_command before base args) (at_worker home (map (forward_send task owner) rs))

      lacking : List FirstRead
      lacking = filter (λ (r : FirstRead). not r.there) fs

      frame : Content → Frame
      frame content = record { to = owner; entry = entry_number task 3 f.index; content = content }

      more : List Frame
      more = sent_frames version task owner fs

      next : List Frame
      next = frames ++ frame (slots home (main_slot f.object)) ∷ []

      shown : (b : Bool) → ((past : List Frame) → AreSent job (plane_of slots past) (placed lacking) more)
          → AreSent job (plane_of slots frames) (placed (if not b then f ∷ lacking else lacking))
          (if b then more else frame (version_content version f.object) ∷ more)
      shown true rest = rest frames
      shown false rest = record {
        found = (none_is (f.object, version f.object) (slots home (main_slot f.object)) held.0, (rest next).found);
        after =
            (rest next).after
            ∙ ap (plane_of slots)
            (append_assoc frames (frame (slots home (main_slot f.object)) ∷ []) more
            ∙ ap (λ (c : Content). frames ++ frame c ∷ more) held.0);
      }

-- ---- what comes

-- the scratch slot of an object has its version
abbrev pub IsFilled : (Object → ℕ) → Worker → (Worker → Slot → Content) → Object → Type 0
IsFilled version owner slots object = slots owner (scratch_slot object) ≡ version_content version object

-- one scratch slot gets its version
record IsPutAside (version : Object → ℕ) (owner : Worker) (before after : Worker → Slot → Content) (object : Object) : Type 0 where
  pub main : (worker : Worker) (slot : Slot) → slot.0 < 512 → after worker slot ≡ before worker slot
  pub filled : IsFilled version owner after object
  pub keeps : (other : Object) → other.0 < 512 → IsFilled version owner before other → IsFilled version owner after other

put_aside : (version : Object → ℕ) (owner : Worker) (plane : Plane) (object : Object) (content : Content) → object.0 < 512
    → content ≡ version_content version object
    → IsPutAside version owner plane.slots (with_slots owner (put_at (scratch_slot object) content (plane.slots owner)) plane).slots object
put_aside version owner plane object content low is = record {
  main = λ worker slot main.
      at_slots owner worker held plane slot (worker.0 == owner.0) refl
      ∙ unput worker slot main (worker.0 == owner.0) refl (slot.0 == (scratch_slot object).0) refl;
  filled =
      at_slots owner owner held plane (scratch_slot object) true (eq-eqb owner.0 owner.0 refl)
      ∙ ap (λ (b : Bool). if b then content else plane.slots owner (scratch_slot object)) (eq-eqb (scratch_slot object).0 (scratch_slot object).0 refl)
      ∙ is;
  keeps = λ other small was.
      at_slots owner owner held plane (scratch_slot other) true (eq-eqb owner.0 owner.0 refl)
      ∙ still other small was ((scratch_slot other).0 == (scratch_slot object).0) refl;
} where
  held : Slot → Content
  held = put_at (scratch_slot object) content (plane.slots owner)

  unput : (worker : Worker) (slot : Slot) → slot.0 < 512 → (b : Bool) → (worker.0 == owner.0) ≡ b → (c : Bool) → (slot.0 == (scratch_slot object).0) ≡ c
      → (if b then (if c then content else plane.slots owner slot) else plane.slots worker slot) ≡ plane.slots worker slot
  unput worker slot main b here true this = absurd (omega (arith, main, eqb-true slot.0 (scratch_slot object).0 this))
  unput worker slot main true here false other = sym (same_worker_slots plane owner worker slot here)
  unput worker slot main false here false other = refl

  still : (other : Object) → other.0 < 512 → IsFilled version owner plane.slots other → (b : Bool) → ((scratch_slot other).0 == (scratch_slot object).0) ≡ b
      → (if b then content else plane.slots owner (scratch_slot other)) ≡ version_content version other
  still other small was true this =
      let same : object.0 ≡ other.0 = omega (arith, low, small, eqb-true (scratch_slot other).0 (scratch_slot object).0 this) in
      is ∙ ap (λ (n : ℕ). version_content version (record { 0 = n })) same
  still other small was false apart = was

-- what is known of a first read
abbrev pub IsKnown : Job → (Object → ℕ) → ℕ → (Object → ℕ) → Worker → (Worker → Slot → Content) → FirstRead → Type 0
IsKnown job before base version owner slots f =
    (f.object.0 < 512) × (version_at base (before f.object) f.offset ≡ version f.object) × (is_version job f.object (version f.object) ≡ true)
    × (f.there ≡ true → slots owner (main_slot f.object) ≡ version_content version f.object)

-- what first reads leave at the owner
pub record HaveCome (job : Job) (version : Object → ℕ) (owner : Worker) (plane : Plane) (commands : List (Worker × Command)) (fs : List FirstRead) : Type 0
  where
    pub found : AreFound job plane commands
    pub main : (worker : Worker) (slot : Slot) → slot.0 < 512 → (plane_left plane commands).slots worker slot ≡ plane.slots worker slot
    pub filled : AllByRecursion (λ (f : FirstRead). IsFilled version owner (plane_left plane commands).slots f.object) fs
    pub keeps : (object : Object) → object.0 < 512 → IsFilled version owner plane.slots object → IsFilled version owner (plane_left plane commands).slots object
    pub frames : (plane_left plane commands).frames ≡ plane.frames

pub come : (job : Job) (before : Object → ℕ) (base : ℕ) (args : List ℤ) (version : Object → ℕ) (task : ℕ) (owner : Worker) (slots : Worker → Slot → Content)
    (low : ℕ) (past : List Frame) (plane : Plane) (fs : List FirstRead) → task < 1024
    → ((worker : Worker) (slot : Slot) → slot.0 < 512 → plane.slots worker slot ≡ slots worker slot)
    → plane.frames ≡ past ++ sent_frames version task owner fs → Below (64 * task + 24 + low) past → Indexed low fs
    → AllByRecursion (IsKnown job before base version owner slots) fs
    → HaveCome job version owner plane (map (placed_command before base args) (at_worker owner (map (forward_receive task) fs))) fs
come job before base args version task owner slots low past plane [] few mains frames old at known =
    record { found = tt; main = λ worker slot main. refl; filled = tt; keeps = λ object small is. is; frames = refl }
come job before base args version task owner slots low past plane (f ∷ fs) few mains frames old at known =
    shown f.there
    (λ least gone now same all below are. come job before base args version task owner slots least gone now fs few same all below are known.1) frames known.0.3
  where
    rest : List (Worker × Command)
    rest = map (placed_command before base args) (at_worker owner (map (forward_receive task) fs))

    id : ℕ
    id = entry_number task 3 f.index

    id_is : id ≡ 64 * task + 24 + f.index
    id_is = omega (arith, few, at.1)

    frame : Frame
    frame = record { to = owner; entry = id; content = version_content version f.object }

    command : Bool → Worker × Command
    command b =
        placed_command before base args
        (owner, entry_of id (if b then EntryKind.Copy (main_slot f.object) (scratch_slot f.object) else EntryKind.Receive (scratch_slot f.object) f.offset))

    next : Content → Plane
    next content = with_slots owner (put_at (scratch_slot f.object) content (plane.slots owner)) plane

    lower : (less more : ℕ) (rs : List FirstRead) → less ≤ more → Indexed more rs → Indexed less rs
    lower less more [] below are = omega (arith, below, are)
    lower less more (r ∷ rs) below are = (omega (arith, below, are.0), are.1, are.2)

    joined : (content : Content) → content ≡ version_content version f.object
        → HaveCome job version owner (next content) rest fs → (c : Worker × Command) → step_of c.0 c.1.id c.1.kind plane ≡ next content
        → AreFound job plane (c ∷ []) → HaveCome job version owner plane (c ∷ rest) (f ∷ fs)
    joined content is later c step first =
        let put : IsPutAside version owner plane.slots (next content).slots f.object = put_aside version owner plane f.object content known.0.0 is in
        record {
          found = (first.0, subst (λ (p : Plane). AreFound job p rest) (sym step) later.found);
          main = λ worker slot main.
              ap (λ (p : Plane). (plane_left p rest).slots worker slot) step ∙ later.main worker slot main ∙ put.main worker slot main;
          filled = subst (λ (p : Plane). AllByRecursion (λ (g : FirstRead). IsFilled version owner (plane_left p rest).slots g.object) (f ∷ fs)) (sym step) (
            later.keeps f.object known.0.0 put.filled,
            later.filled,
          );
          keeps = λ object small was.
              subst (λ (p : Plane). IsFilled version owner (plane_left p rest).slots object) (sym step)
              (later.keeps object small (put.keeps object small was));
          frames = ap (λ (p : Plane). (plane_left p rest).frames) step ∙ later.frames;
        }

    mains_next : (content : Content) → content ≡ version_content version f.object
        → (worker : Worker) (slot : Slot) → slot.0 < 512 → (next content).slots worker slot ≡ slots worker slot
    mains_next content is worker slot main =
        (put_aside version owner plane f.object content known.0.0 is).main worker slot main ∙ mains worker slot main

    IsLater : Type 0
    IsLater =
        (least : ℕ) (gone : List Frame) (now : Plane)
        → ((worker : Worker) (slot : Slot) → slot.0 < 512 → now.slots worker slot ≡ slots worker slot)
        → now.frames ≡ gone ++ sent_frames version task owner fs → Below (64 * task + 24 + least) gone → Indexed least fs
        → HaveCome job version owner now rest fs

    shown : (b : Bool) → IsLater
        → plane.frames ≡ past ++ (if b then sent_frames version task owner fs else frame ∷ sent_frames version task owner fs)
        → (b ≡ true → slots owner (main_slot f.object) ≡ version_content version f.object)
        → HaveCome job version owner plane (command b ∷ rest) (f ∷ fs)
    shown true goes_on all there =
        let content : Content = plane.slots owner (main_slot f.object) in
        let is : content ≡ version_content version f.object = mains owner (main_slot f.object) known.0.0 ∙ there refl in
        joined content is
        (goes_on low past (next content) (mains_next content is) all old (lower low (f.index + 1) fs (omega (arith, at.0)) at.2))
        (command true) refl (none_is (f.object, version f.object) content is, tt)
    shown false goes_on all there =
        let content : Content = sent_to plane.frames owner id in
        let is : content ≡ version_content version f.object =
        ap (λ (frames : List Frame). sent_to frames owner id) all
        ∙ skip_all past (frame ∷ sent_frames version task owner fs) owner id
        (below_more (64 * task + 24 + low) id past (omega (arith, id_is, at.0)) old)
        ∙ first_sent frame (sent_frames version task owner fs) in
        let of : object_of (scratch_slot f.object) ≡ f.object = scratch_of f.object known.0.0 in
        let received : version_at base (before (object_of (scratch_slot f.object))) f.offset ≡ version f.object =
        ap (λ (o : Object). version_at base (before o) f.offset) of ∙ known.0.1 in
        joined content is
        (goes_on (f.index + 1) (past ++ frame ∷ []) (next content) (mains_next content is)
        (all ∙ sym (append_assoc past (frame ∷ []) (sent_frames version task owner fs)))
        (below_append (64 * task + 24 + (f.index + 1)) past (frame ∷ [])
        (below_more (64 * task + 24 + low) (64 * task + 24 + (f.index + 1)) past (omega (arith, at.0)) old) (omega (arith, id_is), tt))
        at.2)
        (command false) refl (
          (
            ap₂ (λ (o : Object) (v : ℕ). is_version job o v) of received ∙ known.0.2,
            is ∙ ap₂ (λ (o : Object) (v : ℕ). Some (o, v)) (sym of) (sym received),
          ),
          tt,
        )

-- ---- what is sent back

abbrev pub back_frames : ℕ → Worker → ℕ → ℕ → List Object → List Frame
back_frames task home version index [] = []
back_frames task home version index (object ∷ objects) =
    record { to = home; entry = entry_number task 6 index; content = Some (object, version) } ∷ back_frames task home version (index + 1) objects

pub sends_back : (job : Job) (before : Object → ℕ) (base : ℕ) (args : List ℤ) (task : ℕ) (home owner : Worker) (version : ℕ)
    (slots : Worker → Slot → Content) (frames : List Frame) (index : ℕ) (objects : List Object)
    → AllByRecursion (λ (o : Object). slots owner (scratch_slot o) ≡ Some (o, version)) objects
    → AreSent job (plane_of slots frames) (map (placed_command before base args) (at_worker owner (return_sends task home index objects)))
    (back_frames task home version index objects)
sends_back job before base args task home owner version slots frames index [] held =
    record { found = tt; after = ap (plane_of slots) (sym (append-nil frames)) }
sends_back job before base args task home owner version slots frames index (object ∷ objects) held =
    let frame : Content → Frame = λ content. record { to = home; entry = entry_number task 6 index; content = content } in
    let more : List Frame = back_frames task home version (index + 1) objects in
    let rest : AreSent job (plane_of slots (frames ++ frame (slots owner (scratch_slot object)) ∷ []))
    (map (placed_command before base args) (at_worker owner (return_sends task home (index + 1) objects))) more =
    sends_back job before base args task home owner version slots (frames ++ frame (slots owner (scratch_slot object)) ∷ []) (index + 1) objects held.1 in
    record {
      found = (none_is (object, version) (slots owner (scratch_slot object)) held.0, rest.found);
      after =
          rest.after
          ∙ ap (plane_of slots)
          (append_assoc frames (frame (slots owner (scratch_slot object)) ∷ []) more
          ∙ ap (λ (c : Content). frames ++ frame c ∷ more) held.0);
    }

-- what comes back to the home
pub record HaveReturned (job : Job) (home : Worker) (version : ℕ) (plane : Plane) (commands : List (Worker × Command)) (objects : List Object) : Type 0 where
  pub found : AreFound job plane commands
  pub slots : (worker : Worker) (slot : Slot)
      → (plane_left plane commands).slots worker slot
      ≡ (if worker.0 == home.0 then (if is_among (written_slots false objects) slot then content_at slot version else plane.slots home slot)
      else plane.slots worker slot)
  pub frames : (plane_left plane commands).frames ≡ plane.frames

pub come_back : (job : Job) (before : Object → ℕ) (base : ℕ) (args : List ℤ) (task : ℕ) (home : Worker) (index : ℕ) (past : List Frame) (plane : Plane)
    (objects : List Object) (version : ℕ) → task < 1024 → index + length objects ≤ 8
    → version ≡ version_after (counted_from base (task_of (entry_number task 4 0)))
    → plane.frames ≡ past ++ back_frames task home version index objects → Below (64 * task + 48 + index) past
    → AllByRecursion (λ (o : Object). (o.0 < 512) × (is_version job o version ≡ true)) objects
    → HaveReturned job home version plane (map (placed_command before base args) (at_worker home (return_receives task index objects))) objects
come_back job before base args task home index past plane [] version few room same frames old known = record {
  found = tt;
  slots = λ worker slot. unchanged worker slot (worker.0 == home.0) refl;
  frames = refl;
} where
  unchanged : (worker : Worker) (slot : Slot) (b : Bool) → (worker.0 == home.0) ≡ b
      → plane.slots worker slot ≡ (if b then plane.slots home slot else plane.slots worker slot)
  unchanged worker slot true here = same_worker_slots plane home worker slot here
  unchanged worker slot false here = refl
come_back job before base args task home index past plane (object ∷ objects) version few room same frames old known =
    joined (come_back job before base args task home (index + 1) (past ++ frame ∷ []) next objects version few (omega (arith, room)) same
    (frames ∙ sym (append_assoc past (frame ∷ []) more))
    (below_append (64 * task + 48 + (index + 1)) past (frame ∷ [])
    (below_more (64 * task + 48 + index) (64 * task + 48 + (index + 1)) past (omega arith) old) (omega (arith, id_is), tt))
    known.1) where
      id : ℕ
      id = entry_number task 6 index

      id_is : id ≡ 64 * task + 48 + index
      id_is = omega (arith, few, room)

      frame : Frame
      frame = record { to = home; entry = id; content = Some (object, version) }

      more : List Frame
      more = back_frames task home version (index + 1) objects

      rest : List (Worker × Command)
      rest = map (placed_command before base args) (at_worker home (return_receives task (index + 1) objects))

      content : Content
      content = sent_to plane.frames home id

      is : content ≡ Some (object, version)
      is =
          ap (λ (fs : List Frame). sent_to fs home id) frames
          ∙ skip_all past (frame ∷ more) home id (below_more (64 * task + 48 + index) id past (omega (arith, id_is)) old)
          ∙ first_sent frame more

      of : object_of (main_slot object) ≡ object
      of = main_of object known.0.0

      received : version_at base (before (object_of (main_slot object))) (offset_after task) ≡ version
      received = same_version base (before (object_of (main_slot object))) task few ∙ sym same

      held : Slot → Content
      held = put_at (main_slot object) content (plane.slots home)

      next : Plane
      next = with_slots home held plane

      chosen : (worker : Worker) (slot : Slot) (b : Bool) → (worker.0 == home.0) ≡ b
          → (if b then (if is_among (written_slots false objects) slot then content_at slot version else next.slots home slot) else next.slots worker slot)
          ≡ (if b then (if (main_slot object).0 == slot.0 || is_among (written_slots false objects) slot then content_at slot version
          else plane.slots home slot)
          else plane.slots worker slot)
      chosen worker slot true here =
          ap (λ (c : Content). if is_among (written_slots false objects) slot then content_at slot version else c)
          (at_slots home home held plane slot true (eq-eqb home.0 home.0 refl)
          ∙ ap (λ (c : Content). if slot.0 == (main_slot object).0 then c else plane.slots home slot)
          (is ∙ ap (λ (o : Object). Some (o, version)) (sym of))
          ∙ one_left (main_slot object) slot version (plane.slots home slot) (slot.0 == (main_slot object).0) ((main_slot object).0 == slot.0) refl refl)
          ∙ either ((main_slot object).0 == slot.0) (is_among (written_slots false objects) slot) where
            either : (a b : Bool)
                → (if b then content_at slot version else (if a || false then content_at slot version else plane.slots home slot))
                ≡ (if a || b then content_at slot version else plane.slots home slot)
            either true true = refl
            either true false = refl
            either false true = refl
            either false false = refl
      chosen worker slot false here = at_slots home worker held plane slot false here

      joined : HaveReturned job home version next rest objects
          → HaveReturned job home version plane (map (placed_command before base args) (at_worker home (return_receives task index (object ∷ objects))))
          (object ∷ objects)
      joined later = record {
        found = (
          (
            ap₂ (λ (o : Object) (v : ℕ). is_version job o v) of received ∙ known.0.1,
            is ∙ ap₂ (λ (o : Object) (v : ℕ). Some (o, v)) (sym of) (sym received),
          ),
          later.found,
        );
        slots = λ worker slot. later.slots worker slot ∙ chosen worker slot (worker.0 == home.0) refl;
        frames = later.frames;
      }
