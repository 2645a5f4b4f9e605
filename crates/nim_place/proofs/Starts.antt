-- Once each object was put, the map is at the position whose versions were put.
use Rattle.std.proofs.Common.{◌≡◌, ℕ, ◌+◌, ◌<◌, ◌≤◌, ◌*◌, Bool, true, false, List, [], ◌∷◌, length, refl, ap, subst, ◌∙◌, arith, inl, inr, Option, None, Some}
use Rattle.std.specs.Prelude.{◌==◌, ◌&&◌, ◌||◌, ◌⊎◌, max, if◌then◌else◌}
use Rattle.std.proofs.lemmas.Bool.{cases_order, eq-eqb, ne_eqb}
use Rattle.std.proofs.lemmas.List.{get_or-replicate, length-replicate}
use Rattle.nim_base.specs.declared.number.Object.{Object}
use Rattle.nim_base.specs.declared.number.Slot.{Slot}
use Rattle.nim_base.specs.declared.number.Worker.{Worker}
use Rattle.nim_command.specs.declared.command.Command.{Command}
use Rattle.nim_command.specs.Numbers.{main_slot}
use Rattle.nim_job.specs.Objects.{objects_of}
use Rattle.nim_job.specs.Versions.{read_version}
use Rattle.nim_place.specs.Starts.{MapStarts, PutEach}
use Rattle.nim_place.specs.Versions.{Versions, after_commands, after_kind, held_at, latest_of, no_versions, puts_of, version_of}
use Rattle.nim_place.proofs.GoesOn.{holder_there, shown_current}
use Rattle.nim_place.proofs.Puts.{IsPut, IsWhole, kept_for, put_all, whole_after}

-- a worker holds a version of an object, and this is the latest one
record IsThere (versions : Versions) (object : Object) (version : ℕ) : Type 0 where
  worker : Worker
  below : worker.0 < versions.workers
  held : held_at versions worker (main_slot object) ≡ Some version
  latest : latest_of versions object ≡ version

-- the first so many objects are there, and no other one
record AreThere (version : Object → ℕ) (workers objects count : ℕ) (versions : Versions) : Type 0 where
  whole : IsWhole versions
  workers_same : versions.workers ≡ workers
  objects_same : versions.objects ≡ objects
  before : (object : Object) → object.0 < count → object.0 < objects → IsThere versions object (version object)
  behind : (object : Object) → count ≤ object.0 → object.0 < objects → latest_of versions object ≡ 0

new_latest : (b : Bool) (l v n : ℕ) → b ≡ true → l ≡ 0 → v ≡ n → (if b || false then max l v else l) ≡ n
new_latest true l v n is none same = omega (arith, none, same)
new_latest false l v n is none same = absurd cc

old_latest : (b : Bool) (l v n : ℕ) → b ≡ false → l ≡ n → (if b || false then max l v else l) ≡ n
old_latest true l v n is same = absurd cc
old_latest false l v n is same = same

new_held : (b own : Bool) (v n : ℕ) (h : Option ℕ) → b ≡ true → own ≡ true → v ≡ n → (if (b || false) && own then Some v else h) ≡ Some n
new_held true true v n h is mine same = ap Some same
new_held true false v n h is mine same = absurd cc
new_held false own v n h is mine same = absurd cc

old_held : (b own : Bool) (v n : ℕ) (h : Option ℕ) → b ≡ false → h ≡ Some n → (if (b || false) && own then Some v else h) ≡ Some n
old_held true own v n h is same = absurd cc
old_held false own v n h is same = same

-- one object more
one_more : (version : Object → ℕ) (workers objects count : ℕ) (versions next : Versions) (worker : Worker) (put : ℕ)
    → AreThere version workers objects count versions
    → worker.0 < workers → put ≡ version (record { 0 = count }) → IsPut versions worker put (main_slot (record { 0 = count }) ∷ []) next
    → AreThere version workers objects (count + 1) next
one_more version workers objects count versions next worker put are below is puts = record {
  whole = whole_after versions worker put (main_slot (record { 0 = count }) ∷ []) next puts are.whole;
  workers_same = puts.workers ∙ are.workers_same;
  objects_same = puts.objects ∙ are.objects_same;
  before = λ object first there. either object there (cases_order count object.0) (omega (arith, first));
  behind = λ object past there.
      puts.latest object (omega (arith, are.objects_same, there))
      ∙ old_latest (count == object.0) (latest_of versions object) put 0 (ne_eqb count object.0 (λ same. omega (arith, same, past)))
      (are.behind object (omega (arith, past)) there);
} where
  kept : (other : Worker) (object : Object) → other.0 < workers → object.0 < objects
      → held_at next other (main_slot object) ≡ (if ((count == object.0) || false) && (worker.0 == other.0) then Some put else held_at versions other
      (main_slot object))
  kept other object first second =
      puts.held other (main_slot object)
      (kept_for versions other (main_slot object) (omega (arith, are.workers_same, first)) (omega (arith, are.objects_same, second)))

  either : (object : Object) → object.0 < objects → (count ≡ object.0) ⊎ ((count < object.0) ⊎ (object.0 < count)) → object.0 ≤ count
      → IsThere next object (version object)
  either object there (inl same) within = record {
    worker = worker;
    below = omega (arith, puts.workers, are.workers_same, below);
    held =
        kept worker object below there
        ∙ new_held (count == object.0) (worker.0 == worker.0) put (version object) (held_at versions worker (main_slot object)) (eq-eqb count object.0 same)
        (eq-eqb worker.0 worker.0 refl) (is ∙ ap (λ (n : ℕ). version (record { 0 = n })) same);
    latest =
        puts.latest object (omega (arith, are.objects_same, there))
        ∙ new_latest (count == object.0) (latest_of versions object) put (version object) (eq-eqb count object.0 same)
        (are.behind object (omega (arith, same)) there) (is ∙ ap (λ (n : ℕ). version (record { 0 = n })) same);
  }
  either object there (inr (inl ahead)) within = absurd (omega (arith, ahead, within))
  either object there (inr (inr before)) within =
      let was = are.before object before there in
      let apart : (count == object.0) ≡ false = ne_eqb count object.0 (λ same. omega (arith, same, before)) in
      record {
        worker = was.worker;
        below = omega (arith, puts.workers, was.below);
        held =
            kept was.worker object (omega (arith, are.workers_same, was.below)) there
            ∙ old_held (count == object.0) (worker.0 == was.worker.0) put (version object) (held_at versions was.worker (main_slot object)) apart was.held;
        latest =
            puts.latest object (omega (arith, are.objects_same, there))
            ∙ old_latest (count == object.0) (latest_of versions object) put (version object) apart was.latest;
      }

all_there : (version : Object → ℕ) (workers objects count : ℕ) (versions : Versions) (cs : List (Worker × Command))
    → AreThere version workers objects count versions
    → PutEach version workers count cs → AreThere version workers objects (count + length cs) (after_commands versions cs)
all_there version workers objects count versions [] are each =
    let same : count ≡ count + 0 = omega arith in subst (λ (n : ℕ). AreThere version workers objects n versions) same are
all_there version workers objects count versions (c ∷ cs) are each =
    let next : Versions = after_kind c.0 versions c.1.kind in
    let put : IsPut versions c.0 (version_of c.1.kind) (puts_of c.1.kind) next =
    put_all versions c.0 (version_of c.1.kind) (puts_of c.1.kind) are.whole (omega (arith, are.workers_same, each.0)) in
    let same : count + 1 + length cs ≡ count + length (c ∷ cs) = omega arith in
    subst (λ (n : ℕ). AreThere version workers objects n (after_commands next cs)) same
    (all_there version workers objects (count + 1) next cs
    (one_more version workers objects count versions next c.0 (version_of c.1.kind) are each.0 each.2
    (subst (λ (slots : List Slot). IsPut versions c.0 (version_of c.1.kind) slots next) each.1 put)) each.3)

-- nothing is there at first
none_there : (version : Object → ℕ) (workers objects : ℕ) → AreThere version workers objects 0 (no_versions workers objects)
none_there version workers objects = record {
  whole = record { slots = length-replicate (objects * workers) None; all = length-replicate objects 0 };
  workers_same = refl;
  objects_same = refl;
  before = λ object below there. absurd (omega (arith, below));
  behind = λ object past there. get_or-replicate objects object.0 0 0 there;
}

pub map_starts : MapStarts
map_starts job position workers commands long each =
    let objects : ℕ = objects_of job.vars in
    let after : Versions = after_commands (no_versions workers objects) commands in
    let are = all_there (read_version job position) workers objects 0 (no_versions workers objects) commands
    (none_there (read_version job position) workers objects) each in
    let within : (number : ℕ) → number < objects → number < 0 + length commands = λ number there. omega (arith, there, long) in
    record {
      objects = are.objects_same;
      holders = λ object there.
          let below : object.0 < objects = omega (arith, are.objects_same, there) in
          let here = are.before object (within object.0 below) below in
          holder_there after object here.worker 0 after.workers (omega arith) (omega (arith, here.below))
          (shown_current after object here.worker (read_version job position object) here.latest here.held);
      latest = λ object there.
          let below : object.0 < objects = omega (arith, are.objects_same, there) in (are.before object (within object.0 below) below).latest;
    }
