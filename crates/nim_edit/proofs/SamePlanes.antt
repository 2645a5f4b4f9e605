-- Main slots hold the same whether a task ran at its home or elsewhere: two planes that differ in scratch slots and in what
-- was sent to later phases, and copies that find the same in both.
use Rattle.std.proofs.Common.{◌≡◌, ℕ, ◌+◌, ◌≤◌, ◌<◌, Bool, true, false, List, [], ◌∷◌, ◌++◌, refl, ap, ap₂, sym, ◌∙◌, arith}
use Rattle.std.specs.Prelude.{◌*◌, ◌%◌, ◌==◌, ◌&&◌, ◌||◌, if◌then◌else◌, nat_le, nat_lt}
use Rattle.std.specs.List.{filter}
use Rattle.std.proofs.lemmas.Bool.{eqb-true, false≢true, leb-true, ltb-true}
use Rattle.std.proofs.lemmas.List.{append-nil}
use Rattle.std.proofs.lemmas.List.Elements.{filter-append}
use Rattle.nim_base.specs.declared.number.Slot.{Slot}
use Rattle.nim_base.specs.declared.number.Worker.{Worker}
use Rattle.nim_command.specs.declared.command.Command.{Command}
use Rattle.nim_command.specs.declared.command.Kind.{Kind}
use Rattle.nim_command.specs.declared.command.Kind.TheVariants.{Create, Load, Send, Receive, Copy, Run, Fetch}
use Rattle.nim_command.specs.Holds.{Content, put_at}
use Rattle.nim_command.specs.Numbers.{task_of}
use Rattle.nim_job.specs.declared.job.Job.{Job}
use Rattle.nim_place.specs.Sound.{AreFound, Frame, IsFound, Plane, sent_to, step_of, plane_left, with_slots}
use Rattle.nim_template.proofs.Planes.{Below, below_append, skip_first}
use Rattle.nim_edit.proofs.Listed.{IsCopyOf, is_early}

-- whether a frame is for an early entry
abbrev pub is_first : Frame → Bool
is_first frame = is_early frame.entry

-- Two planes hold the same in main slots, and what was sent to early entries is the same; the first has sent nothing else.
pub record IsSamePlane (p q : Plane) : Type 0 where
  pub slots : (worker : Worker) (slot : Slot) → slot.0 < 512 → q.slots worker slot ≡ p.slots worker slot
  pub early : filter is_first q.frames ≡ p.frames

-- what was sent to an early entry is among the frames for early ones
sent_early : (frames : List Frame) (worker : Worker) (entry : ℕ) → is_early entry ≡ true
    → sent_to frames worker entry ≡ sent_to (filter is_first frames) worker entry
sent_early [] worker entry early = refl
sent_early (frame ∷ frames) worker entry early = either (is_first frame) refl (sent_early frames worker entry early) where
  either : (b : Bool) → is_first frame ≡ b → sent_to frames worker entry ≡ sent_to (filter is_first frames) worker entry
      → sent_to (frame ∷ frames) worker entry ≡ sent_to (if b then frame ∷ filter is_first frames else filter is_first frames) worker entry
  either true is rest =
      ap (λ (c : Content). if (frame.to.0 == worker.0) && (frame.entry == entry) then frame.content else c) rest
  either false is rest =
      skip_first frame frames worker entry (λ same. false≢true (sym is ∙ ap is_early same ∙ early)) ∙ rest

-- one frame more at the end
frame_more : (frames : List Frame) (frame : Frame) (b : Bool) → is_first frame ≡ b
    → filter is_first (frames ++ frame ∷ []) ≡ filter is_first frames ++ (if b then frame ∷ [] else [])
frame_more frames frame b is =
    filter-append is_first frames (frame ∷ [])
    ∙ ap (λ (c : Bool). filter is_first frames ++ (if c then frame ∷ [] else [])) is

-- frames for no early entry
abbrev pub AreLate : List Frame → Type 0
AreLate [] = Unit {0}
AreLate (frame ∷ frames) = (is_first frame ≡ false) × AreLate frames

none_first : (frames : List Frame) → AreLate frames → filter is_first frames ≡ []
none_first [] are = refl
none_first (frame ∷ frames) are =
    ap (λ (b : Bool). if b then frame ∷ filter is_first frames else filter is_first frames) are.0 ∙ none_first frames are.1

pub late_more : (frames more : List Frame) → AreLate more → filter is_first (frames ++ more) ≡ filter is_first frames
late_more frames more are =
    filter-append is_first frames more ∙ ap (λ (fs : List Frame). filter is_first frames ++ fs) (none_first more are) ∙ append-nil (filter is_first frames)

-- a slot once a worker's slots hold this
pub at_slots : (worker other : Worker) (held : Slot → Content) (plane : Plane) (slot : Slot) (b : Bool) → (other.0 == worker.0) ≡ b
    → (with_slots worker held plane).slots other slot ≡ (if b then held slot else plane.slots other slot)
at_slots worker other held plane slot true is = ap (λ (b : Bool). (if b then held else plane.slots other) slot) is
at_slots worker other held plane slot false is = ap (λ (b : Bool). (if b then held else plane.slots other) slot) is

-- what a worker's slots hold is what those of the same number do
pub same_worker_slots : (plane : Plane) (worker other : Worker) (slot : Slot) → (other.0 == worker.0) ≡ true → plane.slots other slot ≡ plane.slots worker slot
same_worker_slots plane worker other slot is = ap (λ (n : ℕ). plane.slots (record { 0 = n }) slot) (eqb-true other.0 worker.0 is)

-- one copy
pub record IsAlso (job : Job) (p q : Plane) (worker : Worker) (number : ℕ) (kind : Kind) : Type 0 where
  pub found : IsFound job q worker number kind
  pub same : IsSamePlane (step_of worker number kind p) (step_of worker number kind q)

copy_also : (job : Job) (p q : Plane) (worker : Worker) (number : ℕ) (kind : Kind) → IsCopyOf number kind → is_early number ≡ true
    → IsFound job p worker number kind → IsSamePlane p q → IsAlso job p q worker number kind
copy_also job p q worker number (Send slot peer entry) copy early found same =
    let held : q.slots worker slot ≡ p.slots worker slot = same.slots worker slot copy.0 in
    let frame : Content → Frame = λ content. record { to = peer; entry = entry; content = content } in
    record {
      found = λ none. found (sym held ∙ none);
      same = record {
        slots = same.slots;
        early =
            frame_more q.frames (frame (q.slots worker slot)) true copy.2
            ∙ ap₂ (λ (fs : List Frame) (content : Content). fs ++ frame content ∷ []) same.early held;
      };
    }
copy_also job p q worker number (Receive slot version) copy early found same =
    let sent : sent_to q.frames worker number ≡ sent_to p.frames worker number =
    sent_early q.frames worker number early ∙ ap (λ (fs : List Frame). sent_to fs worker number) same.early in
    record {
      found = (found.0, sent ∙ found.1);
      same = record {
        slots = λ other at low. chosen sent other at low (other.0 == worker.0) refl (at.0 == slot.0) refl;
        early = same.early;
      };
    } where
      chosen : sent_to q.frames worker number ≡ sent_to p.frames worker number → (other : Worker) (at : Slot) → at.0 < 512
          → (b : Bool) → (other.0 == worker.0) ≡ b → (c : Bool) → (at.0 == slot.0) ≡ c
          → (with_slots worker (put_at slot (sent_to q.frames worker number) (q.slots worker)) q).slots other at
          ≡ (with_slots worker (put_at slot (sent_to p.frames worker number) (p.slots worker)) p).slots other at
      chosen sent other at low b here c this =
          at_slots worker other (put_at slot (sent_to q.frames worker number) (q.slots worker)) q at b here
          ∙ either b
          ∙ sym (at_slots worker other (put_at slot (sent_to p.frames worker number) (p.slots worker)) p at b here) where
            either : (b : Bool)
                → (if b then (if at.0 == slot.0 then sent_to q.frames worker number else q.slots worker at) else q.slots other at)
                ≡ (if b then (if at.0 == slot.0 then sent_to p.frames worker number else p.slots worker at) else p.slots other at)
            either true = ap₂ (λ (x y : Content). if at.0 == slot.0 then x else y) sent (same.slots worker at low)
            either false = same.slots other at low
copy_also job p q worker number (Create slot iota first) copy early found same = absurd copy
copy_also job p q worker number (Load slot version value) copy early found same = absurd copy
copy_also job p q worker number (Copy from to) copy early found same = absurd copy
copy_also job p q worker number (Run position func params reads writes) copy early found same = absurd copy
copy_also job p q worker number (Fetch slot ticket) copy early found same = absurd copy

-- copies in turn
abbrev pub AreCopies : List (Worker × Command) → Type 0
AreCopies [] = Unit {0}
AreCopies (c ∷ cs) = IsCopyOf c.1.id c.1.kind × (is_early c.1.id ≡ true) × AreCopies cs

pub record AreAlso (job : Job) (p q : Plane) (commands : List (Worker × Command)) : Type 0 where
  pub found : AreFound job q commands
  pub same : IsSamePlane (plane_left p commands) (plane_left q commands)

pub copies_also : (job : Job) (p q : Plane) (cs : List (Worker × Command)) → AreCopies cs → AreFound job p cs → IsSamePlane p q → AreAlso job p q cs
copies_also job p q [] copies found same = record { found = tt; same = same }
copies_also job p q (c ∷ cs) copies found same =
    let one : IsAlso job p q c.0 c.1.id c.1.kind = copy_also job p q c.0 c.1.id c.1.kind copies.0 copies.1 found.0 same in
    let rest : AreAlso job (step_of c.0 c.1.id c.1.kind p) (step_of c.0 c.1.id c.1.kind q) cs =
    copies_also job (step_of c.0 c.1.id c.1.kind p) (step_of c.0 c.1.id c.1.kind q) cs copies.2 found.1 one.same in
    record { found = (one.found, rest.found); same = rest.same }

-- an early entry of a task is of its first phases
early_under : (entry task : ℕ) → task_of entry ≡ task → task < 1024 → is_early entry ≡ true → entry < 64 * task + 16
early_under entry task of few early = either (nat_lt (entry % 64) 16) refl (nat_le 65536 entry) refl early where
  either : (a : Bool) → nat_lt (entry % 64) 16 ≡ a → (b : Bool) → nat_le 65536 entry ≡ b → (a || b) ≡ true → entry < 64 * task + 16
  either true less b more is = omega (arith, of, ltb-true (entry % 64) 16 less)
  either false less true more is = absurd (omega (arith, of, few, leb-true 65536 entry more))
  either false less false more is = absurd (false≢true is)

-- what copies of one task send goes to entries of its first phases
copy_below : (task : ℕ) (worker : Worker) (number : ℕ) (kind : Kind) (plane : Plane) → task < 1024 → 64 * task ≤ number → number < 64 * task + 16
    → IsCopyOf number kind → Below (64 * task + 16) plane.frames → Below (64 * task + 16) (step_of worker number kind plane).frames
copy_below task worker number (Send slot peer entry) plane few above under copy below =
    below_append (64 * task + 16) plane.frames (record { to = peer; entry = entry; content = plane.slots worker slot } ∷ []) below (within, tt) where
      within : entry < 64 * task + 16
      within = early_under entry task (omega (arith, copy.1, above, under)) few copy.2
copy_below task worker number (Receive slot version) plane few above under copy below = below
copy_below task worker number (Create slot iota first) plane few above under copy below = absurd copy
copy_below task worker number (Load slot version value) plane few above under copy below = absurd copy
copy_below task worker number (Copy from to) plane few above under copy below = absurd copy
copy_below task worker number (Run position func params reads writes) plane few above under copy below = absurd copy
copy_below task worker number (Fetch slot ticket) plane few above under copy below = absurd copy

-- commands of a task's first phases
abbrev pub AreAt : ℕ → List (Worker × Command) → Type 0
AreAt task [] = Unit {0}
AreAt task (c ∷ cs) = (64 * task ≤ c.1.id) × (c.1.id < 64 * task + 16) × AreAt task cs

pub copies_below : (task : ℕ) (cs : List (Worker × Command)) (plane : Plane) → task < 1024 → AreAt task cs → AreCopies cs
    → Below (64 * task + 16) plane.frames → Below (64 * task + 16) (plane_left plane cs).frames
copies_below task [] plane few at copies below = below
copies_below task (c ∷ cs) plane few at copies below =
    copies_below task cs (step_of c.0 c.1.id c.1.kind plane) few at.2 copies.2
    (copy_below task c.0 c.1.id c.1.kind plane few at.0 at.1 copies.0 below)
