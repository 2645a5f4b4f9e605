-- A map of versions that is like a map of offsets: at a base, from a map at entry on.
use Rattle.std.proofs.Common.{◌≡◌, ℕ, zero, suc, ◌+◌, ◌<◌, ◌≤◌, Bool, true, false, List, [], ◌∷◌, refl, ap, ap₂, sym, subst, ◌∙◌, arith, Option}
use Rattle.std.proofs.Common.{None, Some}
use Rattle.std.specs.Prelude.{◌^◌, ◌==◌, ◌&&◌, if◌then◌else◌, max}
use Rattle.std.specs.List.{fold}
use Rattle.std.specs.Option.{is_some, option_map_or}
use Rattle.std.proofs.lemmas.Bool.{eq-eqb, eqb-false, eqb-true, false≢true, ne_eqb}
use Rattle.nim_base.specs.declared.number.Object.{Object}
use Rattle.nim_base.specs.declared.number.Slot.{Slot}
use Rattle.nim_base.specs.declared.number.Worker.{Worker}
use Rattle.nim_command.specs.Expansion.{version_at}
use Rattle.nim_command.specs.Numbers.{counted_from, main_slot}
use Rattle.nim_command.specs.Slots.{is_among}
use Rattle.nim_place.specs.Versions.{Versions, held_at, holder, holder_from, is_current, latest_of, with_version}
use Rattle.nim_place.proofs.Finds.{current_held}
use Rattle.nim_place.proofs.Puts.{IsPut, IsWhole, kept_for, put_all, whole_after}
use Rattle.nim_template.specs.Walk.{with_offset}
use Rattle.nim_template.proofs.Offsets.{IsKept}
use Rattle.nim_template.proofs.Walks.{only_object}

pub record IsAlike (base : ℕ) (entry offsets versions : Versions) : Type 0 where
  pub whole : IsWhole versions
  pub workers : versions.workers ≡ offsets.workers
  pub objects : versions.objects ≡ offsets.objects
  pub latest : (object : Object) → object.0 < offsets.objects
      → latest_of versions object ≡ version_at base (latest_of entry object) (latest_of offsets object)
  pub held : (worker : Worker) (object : Object) (offset : ℕ) → worker.0 < offsets.workers → object.0 < offsets.objects
      → held_at offsets worker (main_slot object) ≡ Some offset
      → held_at versions worker (main_slot object) ≡ Some (version_at base (latest_of entry object) offset)
  pub old : (worker : Worker) (object : Object) → worker.0 < offsets.workers → object.0 < offsets.objects
      → held_at offsets worker (main_slot object) ≡ None
      → held_at versions worker (main_slot object) ≡ held_at entry worker (main_slot object)

-- a map at entry: no version is above the base
pub record IsEntry (base objects : ℕ) (entry : Versions) : Type 0 where
  pub latest : (object : Object) → object.0 < objects → latest_of entry object ≤ base
  pub held : (worker : Worker) (object : Object) (version : ℕ) → held_at entry worker (main_slot object) ≡ Some version → version ≤ base

-- ---- versions of offsets

pub at_more : (base old offset : ℕ) → (offset == 0) ≡ false → base + offset < 2 ^ 64 → version_at base old offset ≡ base + offset
at_more base old offset more room = ap (λ (b : Bool). if b then old else counted_from base offset) more ∙ (omega (arith, room))

pub at_most : (base old offset : ℕ) → old ≤ base → version_at base old offset ≤ base + offset
at_most base old offset before = either (offset == 0) where
  either : (b : Bool) → (if b then old else counted_from base offset) ≤ base + offset
  either true = omega (arith, before)
  either false = omega arith

some_is : (x y : ℕ) → Some x ≡ Some y → x ≡ y
some_is x y is = ap (λ (o : Option ℕ). option_map_or (λ (z : ℕ). z) o x) is

none_is : (x : ℕ) → Some x ≡ None → ⊥
none_is x is = false≢true (sym (ap (λ (o : Option ℕ). is_some o) is))

-- ---- a put

latest_alike : (base old offset was now before after : ℕ) (b : Bool) → now ≡ (if b then max was offset else was)
    → after ≡ (if b then max before (base + offset) else before) → before ≡ version_at base old was → old ≤ base → (b ≡ true → was ≤ offset)
    → (offset == 0) ≡ false → base + offset < 2 ^ 64 → after ≡ version_at base old now
latest_alike base old offset was now before after true now_is after_is alike low under more room =
    let below : was ≤ offset = under refl in
    let most : version_at base old was ≤ base + was = at_most base old was low in
    let same : now ≡ offset = omega (arith, now_is, below) in
    let sum : after ≡ base + offset = omega (arith, after_is, alike, most, below) in
    sum ∙ sym (at_more base old offset more room) ∙ ap (version_at base old) (sym same)
latest_alike base old offset was now before after false now_is after_is alike low under more room =
    after_is ∙ alike ∙ ap (version_at base old) (sym now_is)

held_alike : (base old offset version found : ℕ) (was now before after : Option ℕ) (b c : Bool) → now ≡ (if b && c then Some offset else was)
    → after ≡ (if b && c then Some version else before) → (was ≡ Some found → before ≡ Some (version_at base old found))
    → version ≡ version_at base old offset → now ≡ Some found → after ≡ Some (version_at base old found)
held_alike base old offset version found was now before after true true now_is after_is alike same is =
    after_is ∙ ap Some (same ∙ ap (version_at base old) (some_is offset found (sym now_is ∙ is)))
held_alike base old offset version found was now before after true false now_is after_is alike same is = after_is ∙ alike (sym now_is ∙ is)
held_alike base old offset version found was now before after false c now_is after_is alike same is = after_is ∙ alike (sym now_is ∙ is)

old_alike : (offset version : ℕ) (was now before after entry : Option ℕ) (b c : Bool) → now ≡ (if b && c then Some offset else was)
    → after ≡ (if b && c then Some version else before) → (was ≡ None → before ≡ entry) → now ≡ None → after ≡ entry
old_alike offset version was now before after entry true true now_is after_is alike is = absurd (none_is offset (sym now_is ∙ is))
old_alike offset version was now before after entry true false now_is after_is alike is = after_is ∙ alike (sym now_is ∙ is)
old_alike offset version was now before after entry false c now_is after_is alike is = after_is ∙ alike (sym now_is ∙ is)

-- an offset of a task is put into slots, and its version
pub alike_put : (base : ℕ) (entry offsets versions : Versions) (worker : Worker) (offset version : ℕ) (slots : List Slot)
    → IsAlike base entry offsets versions → IsWhole offsets → IsEntry base offsets.objects entry → worker.0 < offsets.workers → (offset == 0) ≡ false
    → base + offset < 2 ^ 64 → version ≡ base + offset
    → ((object : Object) → object.0 < offsets.objects → is_among slots (main_slot object) ≡ true → latest_of offsets object ≤ offset)
    → IsAlike base entry (fold (with_version worker offset) offsets slots) (fold (with_version worker version) versions slots)
alike_put base entry offsets versions worker offset version slots alike whole at below more room version_is over =
    let now : Versions = fold (with_version worker offset) offsets slots in
    let after : Versions = fold (with_version worker version) versions slots in
    let put : IsPut offsets worker offset slots now = put_all offsets worker offset slots whole below in
    let also : IsPut versions worker version slots after = put_all versions worker version slots alike.whole (omega (arith, alike.workers, below)) in
    record {
      whole = whole_after versions worker version slots after also alike.whole;
      workers = also.workers ∙ alike.workers ∙ sym put.workers;
      objects = also.objects ∙ alike.objects ∙ sym put.objects;
      latest = λ object there.
          let inside : object.0 < offsets.objects = omega (arith, put.objects, there) in
          latest_alike base (latest_of entry object) offset (latest_of offsets object) (latest_of now object) (latest_of versions object)
          (latest_of after object)
          (is_among slots (main_slot object)) (put.latest object inside)
          (also.latest object (omega (arith, alike.objects, inside))
          ∙ ap (λ (v : ℕ). if is_among slots (main_slot object) then max (latest_of versions object) v else latest_of versions object) version_is)
          (alike.latest object inside) (at.latest object inside) (over object inside) more room;
      held = λ other object found other_below there is.
          let inside : object.0 < offsets.objects = omega (arith, put.objects, there) in
          let lower : other.0 < offsets.workers = omega (arith, put.workers, other_below) in
          held_alike base (latest_of entry object) offset version found (held_at offsets other (main_slot object)) (held_at now other (main_slot object))
          (held_at versions other (main_slot object)) (held_at after other (main_slot object)) (is_among slots (main_slot object)) (worker.0 == other.0)
          (put.held other (main_slot object) (kept_for offsets other (main_slot object) lower inside))
          (also.held other (main_slot object)
          (kept_for versions other (main_slot object) (omega (arith, alike.workers, lower)) (omega (arith, alike.objects, inside))))
          (alike.held other object found lower inside) (version_is ∙ sym (at_more base (latest_of entry object) offset more room)) is;
      old = λ other object other_below there is.
          let inside : object.0 < offsets.objects = omega (arith, put.objects, there) in
          let lower : other.0 < offsets.workers = omega (arith, put.workers, other_below) in
          old_alike offset version (held_at offsets other (main_slot object)) (held_at now other (main_slot object)) (held_at versions other (main_slot object))
          (held_at after other (main_slot object)) (held_at entry other (main_slot object)) (is_among slots (main_slot object)) (worker.0 == other.0)
          (put.held other (main_slot object) (kept_for offsets other (main_slot object) lower inside))
          (also.held other (main_slot object)
          (kept_for versions other (main_slot object) (omega (arith, alike.workers, lower)) (omega (arith, alike.objects, inside))))
          (alike.old other object lower inside) is;
    }

-- ---- a need

-- what a worker that needs an object at entry has
needed_there : (base most : ℕ) (entry offsets versions : Versions) (worker : Worker) (object : Object) → IsAlike base entry offsets versions
    → IsKept most offsets → worker.0 < offsets.workers → object.0 < offsets.objects → latest_of offsets object ≡ 0 → is_current entry object worker ≡ true
    → (o : Option ℕ) → held_at offsets worker (main_slot object) ≡ o → held_at versions worker (main_slot object) ≡ Some (latest_of entry object)
needed_there base most entry offsets versions worker object alike kept below there none current None is =
    alike.old worker object below there is ∙ current_held (latest_of entry object) (held_at entry worker (main_slot object)) current
needed_there base most entry offsets versions worker object alike kept below there none current (Some offset) is =
    let under = kept.held worker object offset below there is in
    let zero_is : offset ≡ 0 = omega (arith, under, none) in
    alike.held worker object offset below there is ∙ ap (λ (n : ℕ). Some (version_at base (latest_of entry object) n)) zero_is

need_latest : (b : Bool) (was now : ℕ) → now ≡ (if b then max was 0 else was) → now ≡ was
need_latest true was now is = omega (arith, is)
need_latest false was now is = is

need_held : (base old found : ℕ) (was now before : Option ℕ) (b c : Bool) → now ≡ (if b && c then Some 0 else was)
    → (was ≡ Some found → before ≡ Some (version_at base old found)) → (b ≡ true → c ≡ true → before ≡ Some old)
    → now ≡ Some found → before ≡ Some (version_at base old found)
need_held base old found was now before true true now_is alike there is =
    there refl refl ∙ ap (λ (n : ℕ). Some (version_at base old n)) (some_is 0 found (sym now_is ∙ is))
need_held base old found was now before true false now_is alike there is = alike (sym now_is ∙ is)
need_held base old found was now before false c now_is alike there is = alike (sym now_is ∙ is)

need_old : (was now before entry : Option ℕ) (b c : Bool) → now ≡ (if b && c then Some 0 else was) → (was ≡ None → before ≡ entry) → now ≡ None
    → before ≡ entry
need_old was now before entry true true now_is alike is = absurd (none_is 0 (sym now_is ∙ is))
need_old was now before entry true false now_is alike is = alike (sym now_is ∙ is)
need_old was now before entry false c now_is alike is = alike (sym now_is ∙ is)

pub alike_need : (base most : ℕ) (entry offsets versions : Versions) (worker : Worker) (object : Object) → IsAlike base entry offsets versions
    → IsKept most offsets → worker.0 < offsets.workers → object.0 < offsets.objects → latest_of offsets object ≡ 0 → is_current entry object worker ≡ true
    → IsAlike base entry (with_offset worker object 0 offsets) versions
alike_need base most entry offsets versions worker object alike kept below there none current =
    let slots : List Slot = main_slot object ∷ [] in
    let now : Versions = with_offset worker object 0 offsets in
    let put : IsPut offsets worker 0 slots now = put_all offsets worker 0 slots kept.whole below in
    let here = needed_there base most entry offsets versions worker object alike kept below there none current (held_at offsets worker
    (main_slot object)) refl in
    record {
      whole = alike.whole;
      workers = alike.workers ∙ sym put.workers;
      objects = alike.objects ∙ sym put.objects;
      latest = λ other inside_now.
          let inside : other.0 < offsets.objects = omega (arith, put.objects, inside_now) in
          alike.latest other inside
          ∙ ap (version_at base (latest_of entry other))
          (sym (need_latest (is_among slots (main_slot other)) (latest_of offsets other) (latest_of now other) (put.latest other inside)));
      held = λ who other found who_below inside_now is.
          let inside : other.0 < offsets.objects = omega (arith, put.objects, inside_now) in
          let lower : who.0 < offsets.workers = omega (arith, put.workers, who_below) in
          need_held base (latest_of entry other) found (held_at offsets who (main_slot other)) (held_at now who (main_slot other))
          (held_at versions who (main_slot other)) (is_among slots (main_slot other)) (worker.0 == who.0)
          (put.held who (main_slot other) (kept_for offsets who (main_slot other) lower inside)) (alike.held who other found lower inside)
          (λ among same.
          subst (λ (w : ℕ). held_at versions (record { 0 = w }) (main_slot other) ≡ Some (latest_of entry other)) (eqb-true worker.0 who.0 same)
          (subst (λ (o : ℕ). held_at versions worker (record { 0 = o }) ≡ Some (latest_of entry (record { 0 = o }))) (only_object object other among) here))
          is;
      old = λ who other who_below inside_now is.
          let inside : other.0 < offsets.objects = omega (arith, put.objects, inside_now) in
          let lower : who.0 < offsets.workers = omega (arith, put.workers, who_below) in
          need_old (held_at offsets who (main_slot other)) (held_at now who (main_slot other)) (held_at versions who (main_slot other))
          (held_at entry who (main_slot other)) (is_among slots (main_slot other)) (worker.0 == who.0)
          (put.held who (main_slot other) (kept_for offsets who (main_slot other) lower inside)) (alike.old who other lower inside) is;
    }

-- ---- the same workers are current

same_test : (base old latest offset : ℕ) → old ≤ base → (latest == 0) ≡ false → base + latest < 2 ^ 64 → offset ≤ latest
    → (version_at base old offset == version_at base old latest) ≡ (offset == latest)
same_test base old latest offset low more room under = either (offset == latest) refl where
  apart : (offset ≡ latest → ⊥) → (b : Bool) → (offset == 0) ≡ b → version_at base old offset ≡ version_at base old latest → ⊥
  apart other true is same =
      let first : version_at base old offset ≡ old = ap (λ (b : Bool). if b then old else counted_from base offset) is in
      let second = at_more base old latest more room in
      eqb-false latest 0 more (omega (arith, first, second, same, low))
  apart other false is same =
      let first = at_more base old offset is (omega (arith, room, under)) in
      let second = at_more base old latest more room in
      other (omega (arith, first, second, same))

  either : (b : Bool) → (offset == latest) ≡ b → (version_at base old offset == version_at base old latest) ≡ b
  either true is = eq-eqb (version_at base old offset) (version_at base old latest) (ap (version_at base old) (eqb-true offset latest is))
  either false is =
      ne_eqb (version_at base old offset) (version_at base old latest) (apart (eqb-false offset latest is) (offset == 0) refl)

pub same_current : (base most : ℕ) (entry offsets versions : Versions) (worker : Worker) (object : Object) → IsAlike base entry offsets versions
    → IsKept most offsets → IsEntry base offsets.objects entry → worker.0 < offsets.workers → object.0 < offsets.objects
    → (latest_of offsets object == 0) ≡ false → base + most < 2 ^ 64 → is_current versions object worker ≡ is_current offsets object worker
same_current base most entry offsets versions worker object alike kept at below there more room =
    either (held_at offsets worker (main_slot object)) refl where
      latest_is : latest_of versions object ≡ version_at base (latest_of entry object) (latest_of offsets object)
      latest_is = alike.latest object there

      under : base + latest_of offsets object < 2 ^ 64
      under = let most_is = kept.latest object there in omega (arith, most_is, room)

      older : (o : Option ℕ) → held_at entry worker (main_slot object) ≡ o
          → option_map_or (λ (version : ℕ). version == latest_of versions object) o false ≡ false
      older None is = refl
      older (Some version) is =
          let low = at.held worker object version is in
          let high = latest_is ∙ at_more base (latest_of entry object) (latest_of offsets object) more under in
          ne_eqb version (latest_of versions object)
          (λ same. eqb-false (latest_of offsets object) 0 more (omega (arith, same, low, high)))

      either : (o : Option ℕ) → held_at offsets worker (main_slot object) ≡ o
          → is_current versions object worker ≡ is_current offsets object worker
      either None is =
          ap (λ (o : Option ℕ). option_map_or (λ (version : ℕ). version == latest_of versions object) o false) (alike.old worker object below there is)
          ∙ older (held_at entry worker (main_slot object)) refl
          ∙ sym (ap (λ (o : Option ℕ). option_map_or (λ (offset : ℕ). offset == latest_of offsets object) o false) is)
      either (Some offset) is =
          ap (λ (o : Option ℕ). option_map_or (λ (version : ℕ). version == latest_of versions object) o false) (alike.held worker object offset below there is)
          ∙ ap (λ (n : ℕ). version_at base (latest_of entry object) offset == n) latest_is
          ∙ same_test base (latest_of entry object) (latest_of offsets object) offset (at.latest object there) more under
          (kept.held worker object offset below there is)
          ∙ sym (ap (λ (o : Option ℕ). option_map_or (λ (n : ℕ). n == latest_of offsets object) o false) is)

pub same_holder : (first second : Versions) (object : Object) → first.workers ≡ second.workers
    → ((worker : Worker) → worker.0 < second.workers → is_current first object worker ≡ is_current second object worker)
    → holder first object ≡ holder second object
same_holder first second object workers same =
    ap (holder_from first object 0) workers ∙ from_same 0 second.workers (omega arith) where
      from_same : (from more : ℕ) → from + more ≤ second.workers → holder_from first object from more ≡ holder_from second object from more
      from_same from zero room = refl
      from_same from (suc more) room =
          ap₂ (λ (b : Bool) (rest : Option Worker). if b then Some (record { 0 = from }) else rest)
          (same (record { 0 = from }) (omega (arith, room))) (from_same (from + 1) more (omega (arith, room)))
