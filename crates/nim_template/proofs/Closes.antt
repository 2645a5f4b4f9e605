-- Behind the closing copies each main slot that is needed has the latest offset.
use Rattle.std.proofs.Common.{◌≡◌, ℕ, zero, suc, ◌+◌, ◌<◌, ◌≤◌, Bool, true, false, List, [], ◌∷◌, refl, ap, ap₂, sym, ◌∙◌, arith, Option, None}
use Rattle.std.proofs.Common.{Some, inl, inr}
use Rattle.std.specs.Prelude.{◌==◌, ◌&&◌, ◌||◌, if◌then◌else◌}
use Rattle.std.specs.Option.{is_some, option_map_or}
use Rattle.std.proofs.lemmas.Bool.{eq-eqb, false≢true}
use Rattle.nim_base.specs.declared.number.Object.{Object}
use Rattle.nim_base.specs.declared.number.Slot.{Slot}
use Rattle.nim_base.specs.declared.number.Worker.{Worker}
use Rattle.nim_command.specs.Numbers.{main_slot}
use Rattle.nim_command.specs.Slots.{is_among}
use Rattle.nim_place.specs.Versions.{Versions, held_at, holder, holder_from, is_current, latest_of}
use Rattle.nim_place.proofs.Finds.{current_held}
use Rattle.nim_place.proofs.Puts.{IsPut, kept_for, put_all}
use Rattle.nim_template.specs.Closing.{after_closings, closed_for, received_from}
use Rattle.nim_template.specs.Walk.{with_offset}
use Rattle.nim_template.proofs.Offsets.{IsKept}
use Rattle.nim_template.proofs.Walks.{IsAfter, after_none, after_then, has_any, only_object, put_after, same_latest}

-- what has the latest offset is current
pub current_of : (offsets : Versions) (object : Object) (worker : Worker) → held_at offsets worker (main_slot object) ≡ Some (latest_of offsets object)
    → is_current offsets object worker ≡ true
current_of offsets object worker holds =
    ap (λ (o : Option ℕ). option_map_or (λ (offset : ℕ). offset == latest_of offsets object) o false) holds
    ∙ eq-eqb (latest_of offsets object) (latest_of offsets object) refl

found_from : (offsets : Versions) (object : Object) (worker : Worker) (from more : ℕ) → is_current offsets object worker ≡ true → from ≤ worker.0
    → worker.0 < from + more → is_some (holder_from offsets object from more) ≡ true
found_from offsets object worker from zero current above below = absurd (omega arith)
found_from offsets object worker from (suc more) current above below =
    either (is_current offsets object (record { 0 = from })) refl
    (λ apart. found_from offsets object worker (from + 1) more current (omega (arith, apart)) (omega (arith, below))) where
      either : (b : Bool) → is_current offsets object (record { 0 = from }) ≡ b
          → ((from ≡ worker.0 → ⊥) → is_some (holder_from offsets object (from + 1) more) ≡ true)
          → is_some (if b then Some (record { 0 = from }) else holder_from offsets object (from + 1) more) ≡ true
      either true is later = refl
      either false is later = later (λ same. false≢true (sym is ∙ ap (λ (n : ℕ). is_current offsets object (record { 0 = n })) same ∙ current))

-- some worker has the latest offset of what some worker has
holder_there : (most : ℕ) (offsets : Versions) (worker : Worker) (object : Object) → IsKept most offsets → worker.0 < offsets.workers
    → object.0 < offsets.objects
    → has_any offsets worker object ≡ true → is_some (holder offsets object) ≡ true
holder_there most offsets worker object kept below there some =
    elim (kept.there object there) [
      | inl none ↦ found_from offsets object worker 0 offsets.workers
          (alone (held_at offsets worker (main_slot object)) refl some none) (omega arith) (omega (arith, below))
      | inr is ↦ found_from offsets object is.worker 0 offsets.workers (current_of offsets object is.worker is.holds) (omega arith) (omega (arith, is.below))
    ] where
      alone : (o : Option ℕ) → held_at offsets worker (main_slot object) ≡ o → is_some o ≡ true → latest_of offsets object ≡ 0
          → is_current offsets object worker ≡ true
      alone None is some none = absurd (false≢true some)
      alone (Some offset) is some none =
          let under = kept.held worker object offset below there is in
          let same : offset ≡ latest_of offsets object = omega (arith, under, none) in
          current_of offsets object worker (is ∙ ap Some same)

-- what a closing copy does
pub record IsClosed (most : ℕ) (before after : Versions) : Type 0 where
  pub is_after : IsAfter most before after
  pub latest : (object : Object) → object.0 < before.objects → latest_of after object ≡ latest_of before object
  pub stays : (worker : Worker) (object : Object) → worker.0 < before.workers → object.0 < before.objects
      → is_current before object worker ≡ true → is_current after object worker ≡ true

closed_none : (most : ℕ) (offsets : Versions) → IsKept most offsets → IsClosed most offsets offsets
closed_none most offsets kept = record { is_after = after_none most offsets kept; latest = λ object there. refl; stays = λ worker object below there is. is }

closed_then : (most : ℕ) (a b c : Versions) → IsClosed most a b → IsClosed most b c → IsClosed most a c
closed_then most a b c first second = record {
  is_after = after_then most a b c second.is_after most first.is_after;
  latest = λ object there. second.latest object (omega (arith, first.is_after.objects, there)) ∙ first.latest object there;
  stays = λ worker object below there is.
      second.stays worker object (omega (arith, first.is_after.workers, below)) (omega (arith, first.is_after.objects, there))
      (first.stays worker object below there is);
}

pub kept_latest : (b c : Bool) (old new : Option ℕ) (offset latest : ℕ) → new ≡ (if b && c then Some offset else old) → old ≡ Some latest
    → (b ≡ true → offset ≡ latest) → new ≡ Some latest
kept_latest true true old new offset latest is before equal = is ∙ ap Some (equal refl)
kept_latest true false old new offset latest is before equal = is ∙ before
kept_latest false c old new offset latest is before equal = is ∙ before

-- the copy for one need
pub record ClosesFor (most : ℕ) (before : Versions) (need : Worker × Object) (after : Versions) : Type 0 where
  pub closed : IsClosed most before after
  pub current : is_current after need.1 need.0 ≡ true

pub closes_for : (most : ℕ) (offsets : Versions) (need : Worker × Object) → IsKept most offsets → need.0.0 < offsets.workers → need.1.0 < offsets.objects
    → has_any offsets need.0 need.1 ≡ true → ClosesFor most offsets need (closed_for offsets need)
closes_for most offsets need kept below there some =
    either (is_current offsets need.1 need.0) refl (holder offsets need.1) (holder_there most offsets need.0 need.1 kept below there some) where
      either : (b : Bool) → is_current offsets need.1 need.0 ≡ b → (from : Option Worker) → is_some from ≡ true
          → ClosesFor most offsets need (received_from offsets need (if b then None else from))
      either true is from found = record { closed = closed_none most offsets kept; current = is }
      either false is None found = absurd (false≢true found)
      either false is (Some from) found =
          let slots : List Slot = main_slot need.1 ∷ [] in
          let offset : ℕ = latest_of offsets need.1 in
          let next : Versions = with_offset need.0 need.1 offset offsets in
          let put : IsPut offsets need.0 offset slots next = put_all offsets need.0 offset slots kept.whole below in
          let equal : (object : Object) → is_among slots (main_slot object) ≡ true → offset ≡ latest_of offsets object =
          λ object among. ap (λ (n : ℕ). latest_of offsets (record { 0 = n })) (only_object need.1 object among) in
          let same : (object : Object) → object.0 < offsets.objects → latest_of next object ≡ latest_of offsets object =
          λ object inside. same_latest (is_among slots (main_slot object)) (latest_of offsets object) offset (latest_of next object) (latest_of offsets object)
          (put.latest object inside) refl (equal object) in
          let is_after : IsAfter most offsets next = put_after most most offsets need.0 offset slots kept below (omega arith) (kept.latest need.1 there)
          (λ object inside among. let one = equal object among in omega (arith, one)) in
          record {
            closed = record {
              is_after = is_after;
              latest = same;
              stays = λ worker object lower inside was.
                  current_of next object worker
                  (kept_latest (is_among slots (main_slot object)) (need.0.0 == worker.0) (held_at offsets worker (main_slot object))
                  (held_at next worker (main_slot object)) offset (latest_of offsets object)
                  (put.held worker (main_slot object) (kept_for offsets worker (main_slot object) lower inside))
                  (current_held (latest_of offsets object) (held_at offsets worker (main_slot object)) was) (equal object)
                  ∙ ap Some (sym (same object inside)));
            };
            current = current_of next need.1 need.0
                (put.held need.0 (main_slot need.1) (kept_for offsets need.0 (main_slot need.1) below there)
                ∙ ap₂ (λ (b c : Bool). if (b || false) && c then Some offset else held_at offsets need.0 (main_slot need.1)) (eq-eqb need.1.0 need.1.0 refl)
                (eq-eqb need.0.0 need.0.0 refl)
                ∙ ap Some (sym (same need.1 there)));
          }

-- each of these is a main slot of the map, and has something
abbrev pub AreNeeds : Versions → List (Worker × Object) → Type 0
AreNeeds offsets [] = Unit {0}
AreNeeds offsets (need ∷ needs) =
    (need.0.0 < offsets.workers) × (need.1.0 < offsets.objects) × (has_any offsets need.0 need.1 ≡ true) × AreNeeds offsets needs

-- each of these is current
abbrev pub AreCurrent : Versions → List (Worker × Object) → Type 0
AreCurrent offsets [] = Unit {0}
AreCurrent offsets (need ∷ needs) = (is_current offsets need.1 need.0 ≡ true) × AreCurrent offsets needs

pub needs_after : (most : ℕ) (before after : Versions) (needs : List (Worker × Object)) → IsAfter most before after → AreNeeds before needs
    → AreNeeds after needs
needs_after most before after [] is are = tt
needs_after most before after (need ∷ needs) is are =
    (omega (arith, is.workers, are.0), omega (arith, is.objects, are.1), is.some need.0 need.1 are.0 are.1 are.2, needs_after most before after needs is are.3)

-- the closing copies
pub record Closes (most : ℕ) (before : Versions) (needs : List (Worker × Object)) (after : Versions) : Type 0 where
  pub closed : IsClosed most before after
  pub current : AreCurrent after needs

pub closes : (most : ℕ) (offsets : Versions) (needs : List (Worker × Object)) → IsKept most offsets → AreNeeds offsets needs
    → Closes most offsets needs (after_closings offsets needs)
closes most offsets [] kept are = record { closed = closed_none most offsets kept; current = tt }
closes most offsets (need ∷ needs) kept are =
    let next : Versions = closed_for offsets need in
    let first : ClosesFor most offsets need next = closes_for most offsets need kept are.0 are.1 are.2 in
    let rest : Closes most next needs (after_closings next needs) =
    closes most next needs first.closed.is_after.kept (needs_after most offsets next needs first.closed.is_after are.3) in
    record {
      closed = closed_then most offsets next (after_closings next needs) first.closed rest.closed;
      current = (
        rest.closed.stays need.0 need.1 (omega (arith, first.closed.is_after.workers, are.0)) (omega
            (arith, first.closed.is_after.objects, are.1)) first.current,
        rest.current,
      );
    }
