-- What the maps of a walk keep: no offset is above the latest one, and the latest one is there, or nothing is written.
use Rattle.std.proofs.Common.{◌≡◌, ℕ, ◌<◌, ◌≤◌, Bool, true, false, List, refl, ap, ap₂, sym, ◌∙◌, arith, Option, Some, inl, inr}
use Rattle.std.specs.Prelude.{◌==◌, ◌&&◌, if◌then◌else◌, max, ◌⊎◌}
use Rattle.std.specs.List.{fold}
use Rattle.std.proofs.lemmas.Bool.{eq-eqb}
use Rattle.nim_base.specs.declared.number.Object.{Object}
use Rattle.nim_base.specs.declared.number.Slot.{Slot}
use Rattle.nim_base.specs.declared.number.Worker.{Worker}
use Rattle.nim_command.specs.Numbers.{main_slot}
use Rattle.nim_command.specs.Slots.{is_among}
use Rattle.nim_place.specs.Versions.{Versions, held_at, latest_of, with_version}
use Rattle.nim_place.proofs.Puts.{IsPut, IsWhole, kept_for, put_all, whole_after}

-- a worker whose main slot of an object has its latest offset
pub record IsThere (offsets : Versions) (object : Object) : Type 0 where
  pub worker : Worker
  pub below : worker.0 < offsets.workers
  pub holds : held_at offsets worker (main_slot object) ≡ Some (latest_of offsets object)

pub record IsKept (most : ℕ) (offsets : Versions) : Type 0 where
  pub whole : IsWhole offsets
  pub latest : (object : Object) → object.0 < offsets.objects → latest_of offsets object ≤ most
  pub held : (worker : Worker) (object : Object) (offset : ℕ) → worker.0 < offsets.workers → object.0 < offsets.objects
      → held_at offsets worker (main_slot object) ≡ Some offset → offset ≤ latest_of offsets object
  pub there : (object : Object) → object.0 < offsets.objects → (latest_of offsets object ≡ 0) ⊎ IsThere offsets object

chosen_below : (b : Bool) (old offset new most next : ℕ) → new ≡ (if b then max old offset else old) → old ≤ most → most ≤ next → offset ≤ next → new ≤ next
chosen_below true old offset new most next is before more within = omega arith
chosen_below false old offset new most next is before more within = omega arith

held_below : (b c : Bool) (old : Option ℕ) (was now offset found : ℕ) → Some found ≡ (if b && c then Some offset else old)
    → now ≡ (if b then max was offset else was) → (old ≡ Some found → found ≤ was) → found ≤ now
held_below true true old was now offset found is latest before = let same : found ≡ offset = cc in omega arith
held_below true false old was now offset found is latest before = let under : found ≤ was = before (sym is) in omega arith
held_below false c old was now offset found is latest before = let under : found ≤ was = before (sym is) in omega arith

max_right : (n m : ℕ) → n ≤ m → max n m ≡ m
max_right n m below = omega arith

there_after : (offsets after : Versions) (worker : Worker) (offset : ℕ) (slots : List Slot) (object : Object) → IsPut offsets worker offset slots after
    → worker.0 < offsets.workers → object.0 < offsets.objects
    → (is_among slots (main_slot object) ≡ true → latest_of offsets object ≤ offset)
    → ((latest_of offsets object ≡ 0) ⊎ IsThere offsets object) → (b : Bool) → is_among slots (main_slot object) ≡ b
    → (latest_of after object ≡ 0) ⊎ IsThere after object
there_after offsets after worker offset slots object put below there over before true is =
    let latest : latest_of after object ≡ offset = put.latest object there
    ∙ ap (λ (b : Bool). if b then max (latest_of offsets object) offset else latest_of offsets object) is
    ∙ max_right (latest_of offsets object) offset (over is) in
    inr (record {
      worker = worker;
      below = omega (arith, put.workers, below);
      holds = put.held worker (main_slot object) (kept_for offsets worker (main_slot object) below there)
          ∙ ap₂ (λ (b c : Bool). if b && c then Some offset else held_at offsets worker (main_slot object)) is (eq-eqb worker.0 worker.0 refl)
          ∙ ap Some (sym latest);
    })
there_after offsets after worker offset slots object put below there over before false is =
    let latest : latest_of after object ≡ latest_of offsets object = put.latest object there
    ∙ ap (λ (b : Bool). if b then max (latest_of offsets object) offset else latest_of offsets object) is in
    elim before [
      | inl none ↦ inl (latest ∙ none)
      | inr is_there ↦ inr (record {
        worker = is_there.worker;
        below = omega (arith, put.workers, is_there.below);
        holds = put.held is_there.worker (main_slot object) (kept_for offsets is_there.worker (main_slot object) is_there.below there)
            ∙ ap (λ (b : Bool). if b && (worker.0 == is_there.worker.0) then Some offset else held_at offsets is_there.worker (main_slot object)) is
            ∙ is_there.holds ∙ ap Some (sym latest);
      })
    ]

-- a put of what is the latest then
pub kept_put : (most next : ℕ) (offsets : Versions) (worker : Worker) (offset : ℕ) (slots : List Slot) → IsKept most offsets → worker.0 < offsets.workers
    → most ≤ next → offset ≤ next
    → ((object : Object) → object.0 < offsets.objects → is_among slots (main_slot object) ≡ true → latest_of offsets object ≤ offset)
    → IsKept next (fold (with_version worker offset) offsets slots)
kept_put most next offsets worker offset slots kept below more within over =
    let after : Versions = fold (with_version worker offset) offsets slots in
    let put : IsPut offsets worker offset slots after = put_all offsets worker offset slots kept.whole below in
    record {
      whole = whole_after offsets worker offset slots after put kept.whole;
      latest = λ object there.
          let before : object.0 < offsets.objects = omega (arith, put.objects, there) in
          chosen_below (is_among slots (main_slot object)) (latest_of offsets object) offset (latest_of after object) most next (put.latest object before)
          (kept.latest object before) more within;
      held = λ other object found other_below there is.
          let before : object.0 < offsets.objects = omega (arith, put.objects, there) in
          let other_before : other.0 < offsets.workers = omega (arith, put.workers, other_below) in
          held_below (is_among slots (main_slot object)) (worker.0 == other.0) (held_at offsets other (main_slot object)) (latest_of offsets object)
          (latest_of after object) offset found
          (sym is ∙ put.held other (main_slot object) (kept_for offsets other (main_slot object) other_before before))
          (put.latest object before) (λ was. kept.held other object found other_before before was);
      there = λ object there.
          let before : object.0 < offsets.objects = omega (arith, put.objects, there) in
          there_after offsets after worker offset slots object put below before (over object before) (kept.there object before)
          (is_among slots (main_slot object)) refl;
    }
