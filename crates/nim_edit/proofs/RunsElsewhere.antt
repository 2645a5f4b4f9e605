-- All that a task has of its later phases, where it runs elsewhere, leaves in main slots what its run at the home leaves.
use Rattle.std.proofs.Common.{◌≡◌, ℕ, ◌+◌, ◌≤◌, ◌<◌, Bool, true, false, List, [], ◌∷◌, ◌++◌, length, map, refl, ap, ap₂, sym, subst, ◌∙◌, arith}
use Rattle.std.proofs.Common.{Option, Some}
use Rattle.std.specs.Prelude.{◌*◌, ◌==◌, ◌||◌, not, if◌then◌else◌, slice_get, IsSomeAnd, ℤ}
use Rattle.std.specs.List.{AllByRecursion, filter}
use Rattle.std.proofs.lemmas.Bool.{eq-eqb, eqb-true}
use Rattle.nim_base.specs.declared.number.Object.{Object}
use Rattle.nim_base.specs.declared.number.Slot.{Slot}
use Rattle.nim_base.specs.declared.number.Worker.{Worker}
use Rattle.nim_base.specs.declared.task.Task.{Task}
use Rattle.nim_command.specs.declared.command.Command.{Command}
use Rattle.nim_command.specs.declared.command.Kind.{Kind}
use Rattle.nim_command.specs.declared.edit.Spec.{Spec}
use Rattle.nim_command.specs.Edits.{forward_receive, forward_send, read_slots, return_receives, return_sends, run_over, written_slots}
use Rattle.nim_command.specs.Expansion.{param_with}
use Rattle.nim_command.specs.Holds.{Content, content_at, version_after}
use Rattle.nim_command.specs.Numbers.{counted_from, entry_number, main_slot, scratch_slot, task_of}
use Rattle.nim_command.specs.Slots.{is_among, object_of}
use Rattle.nim_job.specs.declared.job.Job.{Job}
use Rattle.nim_job.specs.Serial.{tasks_of}
use Rattle.nim_job.specs.Versions.{read_version}
use Rattle.nim_plan.specs.Legal.{IsRunOf, is_version}
use Rattle.nim_place.specs.Sound.{AreFound, Frame, Plane, step_of, plane_left, with_slots}
use Rattle.nim_template.proofs.Planes.{AreSent, Below, below_append, below_more, found_append, walked_append, with_frames}
use Rattle.nim_edit.proofs.Ascending.{away_commands}
use Rattle.nim_edit.proofs.Effects.{scratch_written}
use Rattle.nim_edit.proofs.Elsewhere.{HaveCome, HaveReturned, IsFilled, IsKnown, back_frames, come, come_back, late_entry, scratch_of, sends_back}
use Rattle.nim_edit.proofs.Elsewhere.{sends_on, sent_frames, version_content}
use Rattle.nim_edit.proofs.InOrder.{placed_command}
use Rattle.nim_edit.proofs.LateEntries.{at_worker}
use Rattle.nim_edit.proofs.Puts.{FirstRead, Indexed, IsShort}
use Rattle.nim_edit.proofs.SamePlanes.{AreLate, IsSamePlane, at_slots, is_first, late_more}

-- ---- frames

sent_late : (version : Object → ℕ) (task : ℕ) (owner : Worker) (low : ℕ) (fs : List FirstRead) → task < 1024 → Indexed low fs
    → AreLate (sent_frames version task owner fs)
sent_late version task owner low [] few at = tt
sent_late version task owner low (f ∷ fs) few at = shown f.there (sent_late version task owner (f.index + 1) fs few at.2) where
  shown : (b : Bool) → AreLate (sent_frames version task owner fs)
      → AreLate (if b then sent_frames version task owner fs
      else record { to = owner; entry = entry_number task 3 f.index; content = version_content version f.object } ∷ sent_frames version task owner fs)
  shown true rest = rest
  shown false rest = (late_entry task 3 f.index few (omega arith) (omega arith) at.1, rest)

sent_below : (version : Object → ℕ) (task : ℕ) (owner : Worker) (low : ℕ) (fs : List FirstRead) → task < 1024 → Indexed low fs
    → Below (64 * task + 32) (sent_frames version task owner fs)
sent_below version task owner low [] few at = tt
sent_below version task owner low (f ∷ fs) few at = shown f.there (sent_below version task owner (f.index + 1) fs few at.2) where
  shown : (b : Bool) → Below (64 * task + 32) (sent_frames version task owner fs)
      → Below (64 * task + 32) (if b then sent_frames version task owner fs
      else record { to = owner; entry = entry_number task 3 f.index; content = version_content version f.object } ∷ sent_frames version task owner fs)
  shown true rest = rest
  shown false rest = (omega (arith, few, at.1), rest)

back_late : (task : ℕ) (home : Worker) (version index : ℕ) (objects : List Object) → task < 1024 → index + length objects ≤ 8
    → AreLate (back_frames task home version index objects)
back_late task home version index [] few room = tt
back_late task home version index (object ∷ objects) few room =
    (late_entry task 6 index few (omega arith) (omega arith) (omega (arith, room)), back_late task home version (index + 1) objects few (omega (arith, room)))

back_below : (task : ℕ) (home : Worker) (version index : ℕ) (objects : List Object) → task < 1024 → index + length objects ≤ 8
    → Below (64 * task + 64) (back_frames task home version index objects)
back_below task home version index [] few room = tt
back_below task home version index (object ∷ objects) few room =
    (omega (arith, few, room), back_below task home version (index + 1) objects few (omega (arith, room)))

-- ---- the run

reads_filled : (version : Object → ℕ) (owner : Worker) (slots : Worker → Slot → Content) (reads : List (Object × ℕ))
    → AllByRecursion (λ (r : Object × ℕ). IsFilled version owner slots r.0) reads
    → map (slots owner) (read_slots true reads) ≡ map Some (map (λ (o : Object). (o, version o)) (map (λ (r : Object × ℕ). r.0) reads))
reads_filled version owner slots [] filled = refl
reads_filled version owner slots (r ∷ reads) filled =
    ap₂ (λ (c : Content) (cs : List Content). c ∷ cs) filled.0 (reads_filled version owner slots reads filled.1)

writes_of_objects : (objects : List Object) → AllByRecursion (λ (o : Object). o.0 < 512) objects → map object_of (written_slots true objects) ≡ objects
writes_of_objects [] low = refl
writes_of_objects (o ∷ objects) low =
    ap₂ (λ (p : Object) (ps : List Object). p ∷ ps) (scratch_of o low.0) (writes_of_objects objects low.1)

among_more : (objects : List Object) (slot : Slot) (object : Object) → is_among (written_slots true objects) slot ≡ true
    → is_among (written_slots true (object ∷ objects)) slot ≡ true
among_more objects slot object is = either ((scratch_slot object).0 == slot.0) where
  either : (b : Bool) → (b || is_among (written_slots true objects) slot) ≡ true
  either true = refl
  either false = is

-- what is written is there
pub all_written : (slots : Slot → Content) (version : ℕ) (all objects : List Object) → AllByRecursion (λ (o : Object). o.0 < 512) objects
    → ((slot : Slot) → is_among (written_slots true objects) slot ≡ true → is_among (written_slots true all) slot ≡ true)
    → AllByRecursion (λ (o : Object). (if is_among (written_slots true all) (scratch_slot o) then content_at (scratch_slot o) version
    else slots (scratch_slot o)) ≡ Some (o, version)) objects
all_written slots version all [] low within = tt
all_written slots version all (o ∷ objects) low within = (
  ap (λ (b : Bool). if b then content_at (scratch_slot o) version else slots (scratch_slot o))
      (within (scratch_slot o) (ap (λ (b : Bool). b || is_among (written_slots true objects) (scratch_slot o))
      (eq-eqb (scratch_slot o).0 (scratch_slot o).0 refl)))
      ∙ ap (λ (p : Object). Some (p, version)) (scratch_of o low.0),
  all_written slots version all objects low.1 (λ slot is. within slot (among_more objects slot o is)),
)

-- ---- all of it

-- what is known of a task that runs at an owner, where slots hold what they hold at its turn
pub record IsAway (job : Job) (before : Object → ℕ) (base : ℕ) (args : List ℤ) (task : ℕ) (home owner : Worker) (spec : Spec) (firsts : List FirstRead)
    (work : Task) (slots : Worker → Slot → Content) : Type 0 where
  pub few : task < 1024
  pub short : IsShort spec
  pub indexed : Indexed 0 firsts
  pub there : slice_get (tasks_of job) (counted_from base (task_of (entry_number task 4 0))) ≡ Some work
  pub func : spec.func ≡ work.func
  pub params : map (param_with args) spec.params ≡ work.params
  pub reads : map (λ (r : Object × ℕ). r.0) spec.reads ≡ work.reads
  pub writes : spec.writes ≡ work.writes
  -- the home has what is read, and what is there at the owner is the same
  pub held : AllByRecursion (λ (f : FirstRead). slots home (main_slot f.object)
      ≡ version_content (read_version job (counted_from base (task_of (entry_number task 4 0)))) f.object) firsts
  pub known : AllByRecursion (IsKnown job before base (read_version job (counted_from base (task_of (entry_number task 4 0)))) owner slots) firsts
  -- where each first read has come, each read has
  pub seen : (now : Worker → Slot → Content)
      → AllByRecursion (λ (f : FirstRead). IsFilled (read_version job (counted_from base (task_of (entry_number task 4 0)))) owner now f.object) firsts
      → AllByRecursion (λ (r : Object × ℕ). IsFilled (read_version job (counted_from base (task_of (entry_number task 4 0)))) owner now r.0) spec.reads
  pub low : AllByRecursion (λ (o : Object). o.0 < 512) spec.writes
  pub made : AllByRecursion (λ (o : Object). (o.0 < 512)
      × (is_version job o (version_after (counted_from base (task_of (entry_number task 4 0)))) ≡ true)) spec.writes

-- What is left then.
pub record IsMovedRun (job : Job) (p q : Plane) (task : ℕ) (home : Worker) (run : Worker × Command) (commands : List (Worker × Command)) : Type 0 where
  pub found : AreFound job q commands
  pub same : IsSamePlane (step_of home run.1.id run.1.kind p) (plane_left q commands)
  pub below : Below (64 * task + 64) (plane_left q commands).frames

pub runs_elsewhere : (job : Job) (before : Object → ℕ) (base : ℕ) (args : List ℤ) (task : ℕ) (home owner : Worker) (spec : Spec) (firsts : List FirstRead)
    (work : Task) (p q : Plane) → IsAway job before base args task home owner spec firsts work q.slots → IsSamePlane p q → Below (64 * task + 16) q.frames
    → IsMovedRun job p q task home (placed_command before base args (home, run_over false task spec))
    (away_commands before base args home owner task spec firsts)
runs_elsewhere job before base args task home owner spec firsts work p q away same old = record {
  found =
      found_append job q sends (receives ++ (run ++ (back ++ got))) sent.found
      (subst (λ (plane : Plane). AreFound job plane (receives ++ (run ++ (back ++ got)))) (sym sent.after)
      (found_append job first receives (run ++ (back ++ got)) came.found
      (found_append job second run (back ++ got) (ran, tt)
      (found_append job third back got returned.found
      (subst (λ (plane : Plane). AreFound job plane got) (sym returned.after) home_again.found)))));
  same = subst (IsSamePlane (step_of home id kind p)) (sym all) (record {
    slots = λ worker slot main. home_again.slots worker slot ∙ ends worker slot main (worker.0 == home.0) refl;
    early =
        ap (filter is_first) (home_again.frames ∙ frames_are)
        ∙ late_more (q.frames ++ more) behind (back_late task home written 0 spec.writes away.few writes_few)
        ∙ late_more q.frames more (sent_late version task owner 0 firsts away.few away.indexed)
        ∙ same.early;
  });
  below =
      subst (λ (plane : Plane). Below (64 * task + 64) plane.frames) (sym all)
      (subst (Below (64 * task + 64)) (sym (home_again.frames ∙ frames_are))
      (below_append (64 * task + 64) (q.frames ++ more) behind
      (below_append (64 * task + 64) q.frames more (below_more (64 * task + 16) (64 * task + 64) q.frames (omega arith) old)
      (below_more (64 * task + 32) (64 * task + 64) more (omega arith) (sent_below version task owner 0 firsts away.few away.indexed)))
      (back_below task home written 0 spec.writes away.few writes_few)));
} where
  position : ℕ
  position = counted_from base (task_of (entry_number task 4 0))

  version : Object → ℕ
  version = read_version job position

  written : ℕ
  written = version_after position

  writes_few : 0 + length spec.writes ≤ 8
  writes_few = omega (arith, away.short.writes)

  id : ℕ
  id = entry_number task 4 0

  kind : Kind
  kind = Kind.Run position spec.func (map (param_with args) spec.params) (read_slots false spec.reads) (written_slots false spec.writes)

  sends : List (Worker × Command)
  sends = map (placed_command before base args) (at_worker home (map (forward_send task owner) (filter (λ (r : FirstRead). not r.there) firsts)))

  receives : List (Worker × Command)
  receives = map (placed_command before base args) (at_worker owner (map (forward_receive task) firsts))

  run : List (Worker × Command)
  run = map (placed_command before base args) ((owner, run_over true task spec) ∷ [])

  back : List (Worker × Command)
  back = map (placed_command before base args) (at_worker owner (return_sends task home 0 spec.writes))

  got : List (Worker × Command)
  got = map (placed_command before base args) (at_worker home (return_receives task 0 spec.writes))

  more : List Frame
  more = sent_frames version task owner firsts

  behind : List Frame
  behind = back_frames task home written 0 spec.writes

  sent : AreSent job q sends more
  sent = sends_on job before base args version task home owner q.slots q.frames firsts away.held

  first : Plane
  first = with_frames more q

  came : HaveCome job version owner first receives firsts
  came =
      come job before base args version task owner q.slots 0 q.frames first firsts away.few (λ worker slot main. refl) refl
      (below_more (64 * task + 16) (64 * task + 24 + 0) q.frames (omega arith) old) away.indexed away.known

  second : Plane
  second = plane_left first receives

  scratch : Slot → Content
  scratch slot = if is_among (written_slots true spec.writes) slot then content_at slot written else second.slots owner slot

  ran : IsSomeAnd (slice_get (tasks_of job) position)
      (IsRunOf job (second.slots owner) position spec.func (map (param_with args) spec.params) (read_slots true spec.reads) (written_slots true spec.writes))
  ran =
      subst (λ (o : Option Task). IsSomeAnd o (IsRunOf job (second.slots owner) position spec.func (map (param_with args) spec.params)
      (read_slots true spec.reads) (written_slots true spec.writes))) (sym away.there) (record {
        func = away.func;
        params = away.params;
        reads =
            reads_filled version owner second.slots spec.reads (away.seen second.slots came.filled)
            ∙ ap (λ (objects : List Object). map Some (map (λ (o : Object). (o, version o)) objects)) away.reads;
        writes = writes_of_objects spec.writes away.low ∙ away.writes;
      })

  third : Plane
  third = with_slots owner scratch second

  held : AllByRecursion (λ (o : Object). third.slots owner (scratch_slot o) ≡ Some (o, written)) spec.writes
  held = mapped spec.writes (all_written (second.slots owner) written spec.writes spec.writes away.low (λ slot is. is)) where
    mapped : (objects : List Object) → AllByRecursion (λ (o : Object). scratch (scratch_slot o) ≡ Some (o, written)) objects
        → AllByRecursion (λ (o : Object). third.slots owner (scratch_slot o) ≡ Some (o, written)) objects
    mapped [] are = tt
    mapped (o ∷ objects) are =
        (at_slots owner owner scratch second (scratch_slot o) true (eq-eqb owner.0 owner.0 refl) ∙ are.0, mapped objects are.1)

  returned : AreSent job third back behind
  returned = sends_back job before base args task home owner written third.slots third.frames 0 spec.writes held

  fourth : Plane
  fourth = with_frames behind third

  frames_are : third.frames ++ behind ≡ (q.frames ++ more) ++ behind
  frames_are = ap (λ (fs : List Frame). fs ++ behind) came.frames

  home_again : HaveReturned job home written fourth got spec.writes
  home_again =
      come_back job before base args task home 0 (q.frames ++ more) fourth spec.writes written away.few writes_few refl frames_are
      (below_append (64 * task + 48 + 0) q.frames more (below_more (64 * task + 16) (64 * task + 48 + 0) q.frames (omega arith) old)
      (below_more (64 * task + 32) (64 * task + 48 + 0) more (omega arith) (sent_below version task owner 0 firsts away.few away.indexed)))
      away.made

  all : plane_left q (sends ++ (receives ++ (run ++ (back ++ got)))) ≡ plane_left fourth got
  all =
      walked_append q sends (receives ++ (run ++ (back ++ got)))
      ∙ ap (λ (plane : Plane). plane_left plane (receives ++ (run ++ (back ++ got)))) sent.after
      ∙ walked_append first receives (run ++ (back ++ got))
      ∙ walked_append third back got
      ∙ ap (λ (plane : Plane). plane_left plane got) returned.after

  -- what a main slot has in between is what it had
  between : (worker : Worker) (slot : Slot) → slot.0 < 512 → third.slots worker slot ≡ p.slots worker slot
  between worker slot main =
      at_slots owner worker scratch second slot (worker.0 == owner.0) refl
      ∙ either (worker.0 == owner.0) refl
      ∙ came.main worker slot main
      ∙ same.slots worker slot main where
        either : (b : Bool) → (worker.0 == owner.0) ≡ b → (if b then scratch slot else second.slots worker slot) ≡ second.slots worker slot
        either true here =
            ap (λ (c : Bool). if c then content_at slot written else second.slots owner slot) (scratch_written slot spec.writes main)
            ∙ sym (ap (λ (n : ℕ). second.slots (record { 0 = n }) slot) (eqb-true worker.0 owner.0 here))
        either false there = refl

  ends : (worker : Worker) (slot : Slot) → slot.0 < 512 → (b : Bool) → (worker.0 == home.0) ≡ b
      → (if b then (if is_among (written_slots false spec.writes) slot then content_at slot written else third.slots home slot) else third.slots worker slot)
      ≡ (step_of home id kind p).slots worker slot
  ends worker slot main true here =
      ap (λ (c : Content). if is_among (written_slots false spec.writes) slot then content_at slot written else c) (between home slot main)
      ∙ sym (at_slots home worker (λ (s : Slot). if is_among (written_slots false spec.writes) s then content_at s written else p.slots home s) p slot true
      here)
  ends worker slot main false here =
      between worker slot main
      ∙ sym (at_slots home worker (λ (s : Slot). if is_among (written_slots false spec.writes) s then content_at s written else p.slots home s) p slot false
      here)
