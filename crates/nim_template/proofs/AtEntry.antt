-- A map of versions for slots that meet preconditions: what these say is current in it, and it has nothing else.
use Rattle.std.proofs.Common.{◌≡◌, ℕ, ◌<◌, ◌≤◌, Bool, true, false, List, [], ◌∷◌, map, refl, ap, ap₂, sym, subst, ◌∙◌, arith, Option, None, Some}
use Rattle.std.specs.Prelude.{◌*◌, ◌^◌, ◌==◌, ◌&&◌, ◌||◌, if◌then◌else◌, replicate, slice_index_or}
use Rattle.std.specs.List.{range_with_len}
use Rattle.std.specs.Option.{is_some}
use Rattle.std.proofs.lemmas.Bool.{eq-eqb, eqb-true, false≢true}
use Rattle.std.proofs.lemmas.List.{length-replicate}
use Rattle.std.proofs.lemmas.List.FromFn.{get_or-map-range_with_len, length-map-range_with_len}
use Rattle.nim_base.specs.declared.number.Object.{Object}
use Rattle.nim_base.specs.declared.number.Slot.{Slot}
use Rattle.nim_base.specs.declared.number.Worker.{Worker}
use Rattle.nim_command.specs.Holds.{Content}
use Rattle.nim_command.specs.Numbers.{main_slot}
use Rattle.nim_command.specs.Slots.{is_among}
use Rattle.nim_place.specs.Versions.{Versions, held_at, is_current, is_kept, latest_of, place_of, with_version}
use Rattle.nim_place.proofs.Puts.{IsPut, IsWhole, kept_bounds, kept_for, put_all, whole_after}
use Rattle.nim_template.specs.Again.{IsBefore, are_current}
use Rattle.nim_base.proofs.Lists.{replicate_or}
use Rattle.nim_template.proofs.Again.{some_same, unheld}
use Rattle.nim_template.proofs.Closes.{current_of}
use Rattle.nim_template.proofs.Effects.{some_kept}
use Rattle.nim_template.proofs.Walks.{any_after, has_any, only_object, same_latest}

-- what a map has that has versions of some slots
pub record IsPre (version : Object → ℕ) (slots : Worker → Slot → Content) (workers objects : ℕ) (versions : Versions) : Type 0 where
  pub whole : IsWhole versions
  pub rows : versions.workers ≡ workers
  pub columns : versions.objects ≡ objects
  pub latest : (object : Object) → object.0 < objects → latest_of versions object ≡ version object
  pub held : (worker : Worker) (object : Object) (found : ℕ) → held_at versions worker (main_slot object) ≡ Some found
      → (found ≡ version object) × (slots worker (main_slot object) ≡ Some (object, version object))

-- each of these is a main slot of the map that holds its version
abbrev pub AreGood : (Object → ℕ) → (Worker → Slot → Content) → ℕ → ℕ → List (Worker × Object) → Type 0
AreGood version slots workers objects [] = Unit {0}
AreGood version slots workers objects (need ∷ needs) =
    (need.0.0 < workers) × (need.1.0 < objects) × (slots need.0 (main_slot need.1) ≡ Some (need.1, version need.1))
    × AreGood version slots workers objects needs

-- nothing of any slot, and these latest versions
abbrev first_map : (Object → ℕ) → ℕ → ℕ → Versions
first_map version workers objects = record {
  workers = workers;
  objects = objects;
  held = replicate (objects * workers) None;
  latest = map (λ (number : ℕ). version (record { 0 = number })) (range_with_len 0 objects);
}

-- with the versions of slots, one after another
abbrev with_needs : (Object → ℕ) → Versions → List (Worker × Object) → Versions
with_needs version versions [] = versions
with_needs version versions (need ∷ needs) = with_needs version (with_version need.0 (version need.1) versions (main_slot need.1)) needs

abbrev pub entry_map : (Object → ℕ) → ℕ → ℕ → List (Worker × Object) → Versions
entry_map version workers objects needs = with_needs version (first_map version workers objects) needs

first_pre : (version : Object → ℕ) (slots : Worker → Slot → Content) (workers objects : ℕ)
    → IsPre version slots workers objects (first_map version workers objects)
first_pre version slots workers objects = record {
  whole = record {
    slots = length-replicate (objects * workers) None;
    all = length-map-range_with_len (λ (number : ℕ). version (record { 0 = number })) 0 objects;
  };
  rows = refl;
  columns = refl;
  latest = λ object there.
      get_or-map-range_with_len (λ (number : ℕ). version (record { 0 = number })) 0 objects object.0 object.0 0 there (omega arith);
  held = λ worker object found is.
      absurd (false≢true (ap (λ (o : Option ℕ). is_some o)
      (sym (unheld (is_kept (first_map version workers objects) worker (main_slot object))
      (slice_index_or (replicate (objects * workers) None) (place_of (first_map version workers objects) worker (main_slot object)) None)
      (replicate_or (objects * workers) (place_of (first_map version workers objects) worker (main_slot object)) None)) ∙ is)));
}

pre_held : (version : Object → ℕ) (slots : Worker → Slot → Content) (need : Worker × Object) (worker : Worker) (object : Object) (found : ℕ)
    (old : Option ℕ) (b c : Bool) → is_among (main_slot need.1 ∷ []) (main_slot object) ≡ b → (need.0.0 == worker.0) ≡ c
    → Some found ≡ (if b && c then Some (version need.1) else old)
    → slots need.0 (main_slot need.1) ≡ Some (need.1, version need.1)
    → (old ≡ Some found → (found ≡ version object) × (slots worker (main_slot object) ≡ Some (object, version object)))
    → (found ≡ version object) × (slots worker (main_slot object) ≡ Some (object, version object))
pre_held version slots need worker object found old true true among same is there before =
    let column : need.1.0 ≡ object.0 = only_object need.1 object among in
    let row : need.0.0 ≡ worker.0 = eqb-true need.0.0 worker.0 same in (
      some_same found (version need.1) is ∙ ap (λ (n : ℕ). version (record { 0 = n })) column,
      subst (λ (n : ℕ). slots (record { 0 = n }) (main_slot object) ≡ Some (object, version object)) row
          (subst (λ (n : ℕ). (let o : Object = record { 0 = n } in slots need.0 (main_slot o) ≡ Some (o, version o))) column there),
    )
pre_held version slots need worker object found old true false among same is there before = before (sym is)
pre_held version slots need worker object found old false c among same is there before = before (sym is)

pre_put : (version : Object → ℕ) (slots : Worker → Slot → Content) (workers objects : ℕ) (versions : Versions) (need : Worker × Object)
    → IsPre version slots workers objects versions → need.0.0 < workers → need.1.0 < objects
    → slots need.0 (main_slot need.1) ≡ Some (need.1, version need.1)
    → IsPre version slots workers objects (with_version need.0 (version need.1) versions (main_slot need.1))
pre_put version slots workers objects versions need pre below there is =
    let puts : List Slot = main_slot need.1 ∷ [] in
    let after : Versions = with_version need.0 (version need.1) versions (main_slot need.1) in
    let put : IsPut versions need.0 (version need.1) puts after =
    put_all versions need.0 (version need.1) puts pre.whole (omega (arith, pre.rows, below)) in
    record {
      whole = whole_after versions need.0 (version need.1) puts after put pre.whole;
      rows = put.workers ∙ pre.rows;
      columns = put.objects ∙ pre.columns;
      latest = λ object inside.
          same_latest (is_among puts (main_slot object)) (latest_of versions object) (version need.1) (latest_of after object) (version object)
          (put.latest object (omega (arith, pre.columns, inside))) (pre.latest object inside)
          (λ among. ap (λ (n : ℕ). version (record { 0 = n })) (only_object need.1 object among));
      held = λ worker object found held.
          (let bounds = kept_bounds after worker (main_slot object) (some_kept after worker (main_slot object) found held) in
          let row = bounds.0 in
          let column = bounds.1 in
          pre_held version slots need worker object found (held_at versions worker (main_slot object)) (is_among puts (main_slot object))
          (need.0.0 == worker.0) refl refl
          (sym held ∙ put.held worker (main_slot object)
          (kept_for versions worker (main_slot object) (omega (arith, put.workers, row)) (omega (arith, put.objects, column))))
          is (pre.held worker object found));
    }

pub pre_all : (version : Object → ℕ) (slots : Worker → Slot → Content) (workers objects : ℕ) (versions : Versions) (needs : List (Worker × Object))
    → IsPre version slots workers objects versions → AreGood version slots workers objects needs
    → IsPre version slots workers objects (with_needs version versions needs)
pre_all version slots workers objects versions [] pre good = pre
pre_all version slots workers objects versions (need ∷ needs) pre good =
    pre_all version slots workers objects (with_version need.0 (version need.1) versions (main_slot need.1)) needs
    (pre_put version slots workers objects versions need pre good.0 good.1 good.2) good.3

still_there : (version : Object → ℕ) (slots : Worker → Slot → Content) (workers objects : ℕ) (versions : Versions) (needs : List (Worker × Object))
    (worker : Worker) (object : Object) → IsPre version slots workers objects versions → AreGood version slots workers objects needs
    → worker.0 < workers → object.0 < objects → has_any versions worker object ≡ true → has_any (with_needs version versions needs) worker object ≡ true
still_there version slots workers objects versions [] worker object pre good below there has = has
still_there version slots workers objects versions (need ∷ needs) worker object pre good below there has =
    let puts : List Slot = main_slot need.1 ∷ [] in
    let after : Versions = with_version need.0 (version need.1) versions (main_slot need.1) in
    let first = good.0 in
    let put : IsPut versions need.0 (version need.1) puts after =
    put_all versions need.0 (version need.1) puts pre.whole (omega (arith, pre.rows, first)) in
    still_there version slots workers objects after needs worker object (pre_put version slots workers objects versions need pre good.0 good.1 good.2) good.3
    below there
    (any_after versions after need.0 (version need.1) puts put worker object (omega (arith, pre.rows, below)) (omega (arith, pre.columns, there)) has)

-- what has anything is current
any_current : (version : Object → ℕ) (slots : Worker → Slot → Content) (workers objects : ℕ) (versions : Versions) (worker : Worker) (object : Object)
    → IsPre version slots workers objects versions → object.0 < objects → (o : Option ℕ) → held_at versions worker (main_slot object) ≡ o
    → is_some o ≡ true → is_current versions object worker ≡ true
any_current version slots workers objects versions worker object pre there None is some = absurd (false≢true some)
any_current version slots workers objects versions worker object pre there (Some found) is some =
    current_of versions object worker (is ∙ ap Some ((pre.held worker object found is).0 ∙ sym (pre.latest object there)))

needs_current : (version : Object → ℕ) (slots : Worker → Slot → Content) (workers objects : ℕ) (versions : Versions) (needs : List (Worker × Object))
    → IsPre version slots workers objects versions → AreGood version slots workers objects needs
    → are_current (with_needs version versions needs) needs ≡ true
needs_current version slots workers objects versions [] pre good = refl
needs_current version slots workers objects versions (need ∷ needs) pre good =
    let puts : List Slot = main_slot need.1 ∷ [] in
    let after : Versions = with_version need.0 (version need.1) versions (main_slot need.1) in
    let last : Versions = with_needs version after needs in
    let row = good.0 in
    let column = good.1 in
    let put : IsPut versions need.0 (version need.1) puts after =
    put_all versions need.0 (version need.1) puts pre.whole (omega (arith, pre.rows, row)) in
    let next : IsPre version slots workers objects after = pre_put version slots workers objects versions need pre good.0 good.1 good.2 in
    let held : held_at after need.0 (main_slot need.1) ≡ Some (version need.1) =
    put.held need.0 (main_slot need.1) (kept_for versions need.0 (main_slot need.1) (omega (arith, pre.rows, row)) (omega (arith, pre.columns, column)))
    ∙ ap₂ (λ (b c : Bool). if b && c then Some (version need.1) else held_at versions need.0 (main_slot need.1))
    (ap₂ (λ (x y : Bool). x || y) (eq-eqb need.1.0 need.1.0 refl) refl) (eq-eqb need.0.0 need.0.0 refl) in
    let has : has_any last need.0 need.1 ≡ true =
    still_there version slots workers objects after needs need.0 need.1 next good.3 good.0 good.1 (ap (λ (o : Option ℕ). is_some o) held) in
    ap₂ (λ (a b : Bool). a && b)
    (any_current version slots workers objects last need.0 need.1 (pre_all version slots workers objects after needs next good.3) good.1
    (held_at last need.0 (main_slot need.1)) refl has)
    (needs_current version slots workers objects after needs next good.3)

-- the map at entry
pub record IsAtEntry (version : Object → ℕ) (slots : Worker → Slot → Content) (workers objects base : ℕ) (needs : List (Worker × Object))
    (versions : Versions) : Type 0 where
  pub pre : IsPre version slots workers objects versions
  pub before : IsBefore workers objects base versions
  pub current : are_current versions needs ≡ true

pub at_entry : (version : Object → ℕ) (slots : Worker → Slot → Content) (workers objects base : ℕ) (needs : List (Worker × Object))
    → AreGood version slots workers objects needs → ((object : Object) → version object ≤ base) → base < 2 ^ 64
    → IsAtEntry version slots workers objects base needs (entry_map version workers objects needs)
at_entry version slots workers objects base needs good low room =
    let start : IsPre version slots workers objects (first_map version workers objects) = first_pre version slots workers objects in
    let entry : Versions = entry_map version workers objects needs in
    let pre : IsPre version slots workers objects entry = pre_all version slots workers objects (first_map version workers objects) needs start good in
    record {
      pre = pre;
      before = record {
        rows = pre.rows;
        columns = pre.columns;
        slots = pre.whole.slots;
        all = pre.whole.all;
        latest = λ object there. (let is = pre.latest object there in let most = low object in omega (arith, is, most));
        held = λ worker object found is. (let same = (pre.held worker object found is).0 in let most = low object in omega (arith, same, most));
        room = room;
      };
      current = needs_current version slots workers objects (first_map version workers objects) needs start good;
    }
