-- What an effect leaves, slot by slot: what is current in the offsets is current in the versions.
use Rattle.std.proofs.Common.{◌≡◌, ℕ, zero, suc, ◌+◌, ◌<◌, ◌≤◌, Bool, true, false, List, [], ◌∷◌, map, refl, ap, ap₂, sym, subst, ◌∙◌, arith}
use Rattle.std.proofs.Common.{Option, None}
use Rattle.std.proofs.Common.{Some}
use Rattle.std.specs.Prelude.{◌==◌, ◌&&◌, ◌||◌, if◌then◌else◌, max, slice_index_or}
use Rattle.std.specs.List.{flat_map, fold, list_any, range_with_len}
use Rattle.std.specs.Option.{is_some}
use Rattle.std.proofs.lemmas.Bool.{eq-eqb, eqb-false, eqb-true, false≢true, or_left, or_right}
use Rattle.std.proofs.lemmas.List.Folds.{list_any-append}
use Rattle.std.proofs.lemmas.List.Sums.{fold-append}
use Rattle.nim_base.specs.declared.number.Object.{Object}
use Rattle.nim_base.specs.declared.number.Slot.{Slot}
use Rattle.nim_base.specs.declared.number.Worker.{Worker}
use Rattle.nim_command.specs.Numbers.{counted_from, main_slot}
use Rattle.nim_command.specs.Slots.{is_among}
use Rattle.nim_place.specs.Versions.{Versions, held_at, is_kept, latest_of, place_of, with_kept, with_version, with_written}
use Rattle.nim_place.proofs.Places.{both_true}
use Rattle.nim_place.proofs.Puts.{IsPut, IsWhole, kept_bounds, kept_for, put_all, whole_after}
use Rattle.nim_template.specs.Built.{all_slots, effect_at, effect_here, effect_of, slots_of}
use Rattle.nim_template.specs.Walk.{offset_for}
use Rattle.nim_template.proofs.Walks.{only_object}

-- the version of an offset in an instance
abbrev pub counted : ℕ → ℕ → ℕ
counted base offset = counted_from base (offset_for offset)

-- ---- all slots are there

abbrev pub is_slot : Worker × Object → Worker × Object → Bool
is_slot need slot = (slot.0.0 == need.0.0) && (slot.1.0 == need.1.0)

any_map : {Y : Type 0} (q : Y → Bool) (g : ℕ → Y) (from n k : ℕ) → from ≤ k → k < from + n → q (g k) ≡ true
    → list_any q (map g (range_with_len from n)) ≡ true
any_map q g from zero k above below is = absurd (omega arith)
any_map {Y} q g from (suc n) k above below is =
    either (from == k) refl (λ apart. any_map q g (from + 1) n k (omega (arith, apart, above)) (omega (arith, below)) is) where
      either : (b : Bool) → (from == k) ≡ b → ((from ≡ k → ⊥) → list_any q (map g (range_with_len (from + 1) n)) ≡ true)
          → (q (g from) || list_any q (map g (range_with_len (from + 1) n))) ≡ true
      either true same rest =
          or_left (q (g from)) (list_any q (map g (range_with_len (from + 1) n))) (ap (λ (i : ℕ). q (g i)) (eqb-true from k same) ∙ is)
      either false same rest = or_right (q (g from)) (list_any q (map g (range_with_len (from + 1) n))) (rest (eqb-false from k same))

any_flat : {Y : Type 0} (q : Y → Bool) (f : ℕ → List Y) (from n k : ℕ) → from ≤ k → k < from + n → list_any q (f k) ≡ true
    → list_any q (flat_map f (range_with_len from n)) ≡ true
any_flat q f from zero k above below is = absurd (omega arith)
any_flat {Y} q f from (suc n) k above below is =
    list_any-append q (f from) (flat_map f (range_with_len (from + 1) n))
    ∙ either (from == k) refl (λ apart. any_flat q f (from + 1) n k (omega (arith, apart, above)) (omega (arith, below)) is) where
      either : (b : Bool) → (from == k) ≡ b → ((from ≡ k → ⊥) → list_any q (flat_map f (range_with_len (from + 1) n)) ≡ true)
          → (list_any q (f from) || list_any q (flat_map f (range_with_len (from + 1) n))) ≡ true
      either true same rest =
          or_left (list_any q (f from)) (list_any q (flat_map f (range_with_len (from + 1) n)))
          (ap (λ (i : ℕ). list_any q (f i)) (eqb-true from k same) ∙ is)
      either false same rest =
          or_right (list_any q (f from)) (list_any q (flat_map f (range_with_len (from + 1) n))) (rest (eqb-false from k same))

pub slot_there : (workers objects : ℕ) (need : Worker × Object) → need.0.0 < workers → need.1.0 < objects
    → list_any (is_slot need) (all_slots workers objects) ≡ true
slot_there workers objects need below there =
    let own : ℕ → List (Worker × Object) = λ number. slots_of (record { 0 = number }) objects in
    let slot : ℕ → Worker × Object = λ number. (need.0, record { 0 = number }) in
    any_flat (is_slot need) own 0 workers need.0.0 (omega arith) (omega (arith, below))
    (any_map (is_slot need) slot 0 objects need.1.0 (omega arith) (omega (arith, there))
    (ap₂ (λ (a b : Bool). a && b) (eq-eqb need.0.0 need.0.0 refl) (eq-eqb need.1.0 need.1.0 refl)))

-- ---- the effect on one slot

pub some_kept : (offsets : Versions) (worker : Worker) (slot : Slot) (offset : ℕ) → held_at offsets worker slot ≡ Some offset
    → is_kept offsets worker slot ≡ true
some_kept offsets worker slot offset is = either (is_kept offsets worker slot) refl is where
  either : (b : Bool) → is_kept offsets worker slot ≡ b
      → (if b then slice_index_or offsets.held (place_of offsets worker slot) None else None) ≡ Some offset → is_kept offsets worker slot ≡ true
  either true kept found = kept
  either false kept found = absurd (false≢true (ap (λ (o : Option ℕ). is_some o) found))

pub still_more : (offset : ℕ) → (offset == 0) ≡ false → (offset_for offset == 0) ≡ false
still_more offset more = either (offset_for offset == 0) refl where
  either : (b : Bool) → (offset_for offset == 0) ≡ b → b ≡ false
  either true is = let none = eqb-true (offset_for offset) 0 is in absurd (eqb-false offset 0 more (omega (arith, none)))
  either false is = refl

-- what a slot gets that has nothing or offset 0, or another one
pub written_at : (P : Versions → Type 0) (base : ℕ) (versions : Versions) (slot : Worker × Object) (o : Option ℕ) → P versions
    → ((offset : ℕ) → o ≡ Some offset → (offset == 0) ≡ false → P (with_version slot.0 (counted base offset) versions (main_slot slot.1)))
    → P (fold (with_written base) versions (effect_at slot o))
written_at P base versions slot None none put = none
written_at P base versions slot (Some offset) none put = either (offset == 0) refl where
  either : (b : Bool) → (offset == 0) ≡ b
      → P (fold (with_written base) versions (if b then [] else (slot.0, main_slot slot.1, offset_for offset) ∷ []))
  either true is = none
  either false is =
      subst (λ (b : Bool). P (if b then versions else with_version slot.0 (counted base offset) versions (main_slot slot.1)))
      (sym (still_more offset is)) (put offset refl is)

kept_at : (versions : Versions) (slot : Worker × Object) (o : Option ℕ) → fold with_kept versions (effect_at slot o) ≡ versions
kept_at versions slot None = refl
kept_at versions slot (Some offset) = either (offset == 0) refl where
  either : (b : Bool) → (offset == 0) ≡ b → fold with_kept versions (if b then [] else (slot.0, main_slot slot.1, offset_for offset) ∷ []) ≡ versions
  either true is = refl
  either false is =
      ap (λ (b : Bool). if b then with_version slot.0 (slice_index_or versions.latest slot.1.0 0) versions (main_slot slot.1) else versions)
      (still_more offset is)

-- nothing is kept from before the block
pub kept_none : (offsets versions : Versions) (slots : List (Worker × Object)) → fold with_kept versions (effect_of offsets slots) ≡ versions
kept_none offsets versions [] = refl
kept_none offsets versions (slot ∷ slots) =
    fold-append with_kept versions (effect_here offsets slot) (effect_of offsets slots)
    ∙ ap (λ (v : Versions). fold with_kept v (effect_of offsets slots)) (kept_at versions slot (held_at offsets slot.0 (main_slot slot.1)))
    ∙ kept_none offsets versions slots

-- ---- one main slot

-- a map of the same workers and objects
pub record IsOf (offsets versions : Versions) : Type 0 where
  pub whole : IsWhole versions
  pub workers : versions.workers ≡ offsets.workers
  pub objects : versions.objects ≡ offsets.objects

-- a main slot of the map, and the version that it has in the end
pub record IsTarget (offsets : Versions) (base : ℕ) (need : Worker × Object) (top : ℕ) : Type 0 where
  pub below : need.0.0 < offsets.workers
  pub there : need.1.0 < offsets.objects
  pub most : (worker : Worker) (offset : ℕ) → held_at offsets worker (main_slot need.1) ≡ Some offset → (offset == 0) ≡ false → counted base offset ≤ top
  pub own : (offset : ℕ) → held_at offsets need.0 (main_slot need.1) ≡ Some offset → (offset == 0) ≡ false → counted base offset ≡ top

pub record IsDone (versions : Versions) (need : Worker × Object) (top : ℕ) : Type 0 where
  pub held : held_at versions need.0 (main_slot need.1) ≡ Some top
  pub latest : latest_of versions need.1 ≡ top

held_done : (b c : Bool) (version top : ℕ) (old new : Option ℕ) → new ≡ (if b && c then Some version else old) → old ≡ Some top
    → (b ≡ true → c ≡ true → version ≡ top) → new ≡ Some top
held_done true true version top old new is before own = is ∙ ap Some (own refl refl)
held_done true false version top old new is before own = is ∙ before
held_done false c version top old new is before own = is ∙ before

latest_done : (b : Bool) (version top old new : ℕ) → new ≡ (if b then max old version else old) → old ≡ top → (b ≡ true → version ≤ top) → new ≡ top
latest_done true version top old new is before under = let most = under refl in omega (arith, most)
latest_done false version top old new is before under = is ∙ before

latest_under : (b : Bool) (version top old new : ℕ) → new ≡ (if b then max old version else old) → old ≤ top → (b ≡ true → version ≤ top) → new ≤ top
latest_under true version top old new is before under = let most = under refl in omega (arith, most)
latest_under false version top old new is before under = omega arith

-- one put of the effect
pub record IsWritten (offsets : Versions) (base : ℕ) (slot : Worker × Object) (offset : ℕ) (before after : Versions) : Type 0 where
  pub put : IsPut before slot.0 (counted base offset) (main_slot slot.1 ∷ []) after
  pub of : IsOf offsets after

pub written : (offsets : Versions) (base : ℕ) (slot : Worker × Object) (offset : ℕ) (before : Versions) → IsOf offsets before
    → held_at offsets slot.0 (main_slot slot.1) ≡ Some offset
    → IsWritten offsets base slot offset before (with_version slot.0 (counted base offset) before (main_slot slot.1))
written offsets base slot offset before are is =
    let after : Versions = with_version slot.0 (counted base offset) before (main_slot slot.1) in
    let bounds = kept_bounds offsets slot.0 (main_slot slot.1) (some_kept offsets slot.0 (main_slot slot.1) offset is) in
    let put : IsPut before slot.0 (counted base offset) (main_slot slot.1 ∷ []) after =
    put_all before slot.0 (counted base offset) (main_slot slot.1 ∷ []) are.whole (omega (arith, are.workers, bounds.0)) in
    record {
      put = put;
      of = record {
        whole = whole_after before slot.0 (counted base offset) (main_slot slot.1 ∷ []) after put are.whole;
        workers = put.workers ∙ are.workers;
        objects = put.objects ∙ are.objects;
      };
    }

-- the same slot of another name
pub same_slot : (offsets : Versions) (slot need : Worker × Object) (offset : ℕ) → slot.0.0 ≡ need.0.0 → slot.1.0 ≡ need.1.0
    → held_at offsets slot.0 (main_slot slot.1) ≡ Some offset → held_at offsets need.0 (main_slot need.1) ≡ Some offset
same_slot offsets slot need offset worker object is =
    sym (ap₂ (λ (w o : ℕ). held_at offsets (record { 0 = w }) (record { 0 = o })) worker object) ∙ is

pub object_slot : (offsets : Versions) (worker : Worker) (first second : Object) (offset : ℕ) → first.0 ≡ second.0
    → held_at offsets worker (main_slot first) ≡ Some offset → held_at offsets worker (main_slot second) ≡ Some offset
object_slot offsets worker first second offset same is = sym (ap (λ (o : ℕ). held_at offsets worker (record { 0 = o })) same) ∙ is

-- what a put does to the latest version of a target's object
under_top : (offsets : Versions) (base : ℕ) (need slot : Worker × Object) (top offset : ℕ) → IsTarget offsets base need top
    → held_at offsets slot.0 (main_slot slot.1) ≡ Some offset → (offset == 0) ≡ false
    → is_among (main_slot slot.1 ∷ []) (main_slot need.1) ≡ true → counted base offset ≤ top
under_top offsets base need slot top offset target is more among =
    target.most slot.0 offset (object_slot offsets slot.0 slot.1 need.1 offset (only_object slot.1 need.1 among) is) more

done_put : (offsets : Versions) (base : ℕ) (need slot : Worker × Object) (top offset : ℕ) (before after : Versions) → IsTarget offsets base need top
    → IsOf offsets before → IsWritten offsets base slot offset before after
    → held_at offsets slot.0 (main_slot slot.1) ≡ Some offset → (offset == 0) ≡ false → IsDone before need top → IsDone after need top
done_put offsets base need slot top offset before after target are wrote is more done =
    let below : need.0.0 < before.workers = omega (arith, are.workers, target.below) in
    let there : need.1.0 < before.objects = omega (arith, are.objects, target.there) in
    record {
      held = held_done (is_among (main_slot slot.1 ∷ []) (main_slot need.1)) (slot.0.0 == need.0.0) (counted base offset) top
          (held_at before need.0 (main_slot need.1)) (held_at after need.0 (main_slot need.1))
          (wrote.put.held need.0 (main_slot need.1) (kept_for before need.0 (main_slot need.1) below there)) done.held
          (λ among same. target.own offset (same_slot offsets slot need offset (eqb-true slot.0.0 need.0.0 same) (only_object slot.1 need.1 among) is) more);
      latest = latest_done (is_among (main_slot slot.1 ∷ []) (main_slot need.1)) (counted base offset) top (latest_of before need.1) (latest_of after need.1)
          (wrote.put.latest need.1 there) done.latest (under_top offsets base need slot top offset target is more);
    }

-- what is done stays
pub done_stays : (offsets : Versions) (base : ℕ) (need : Worker × Object) (top : ℕ) → IsTarget offsets base need top → (slots : List (Worker × Object))
    (versions : Versions) → IsOf offsets versions → IsDone versions need top → IsDone (fold (with_written base) versions (effect_of offsets slots)) need top
done_stays offsets base need top target [] versions are done = done
done_stays offsets base need top target (slot ∷ slots) versions are done =
    subst (λ (v : Versions). IsDone v need top) (sym (fold-append (with_written base) versions (effect_here offsets slot) (effect_of offsets slots)))
    (written_at (λ (v : Versions). IsDone (fold (with_written base) v (effect_of offsets slots)) need top) base versions slot (held_at offsets slot.0
    (main_slot slot.1))
    (done_stays offsets base need top target slots versions are done)
    (λ offset is more.
    let after : Versions = with_version slot.0 (counted base offset) versions (main_slot slot.1) in
    let wrote : IsWritten offsets base slot offset versions after = written offsets base slot offset versions are is in
    done_stays offsets base need top target slots after wrote.of
    (done_put offsets base need slot top offset versions after target are wrote is more done)))

-- the first put into the slot
first_put : (offsets : Versions) (base : ℕ) (need slot : Worker × Object) (top offset : ℕ) (before after : Versions) → IsTarget offsets base need top
    → IsOf offsets before → IsWritten offsets base slot offset before after
    → held_at offsets slot.0 (main_slot slot.1) ≡ Some offset → (offset == 0) ≡ false → latest_of before need.1 ≤ top → is_slot need slot ≡ true
    → IsDone after need top
first_put offsets base need slot top offset before after target are wrote is more under same =
    let below : need.0.0 < before.workers = omega (arith, are.workers, target.below) in
    let there : need.1.0 < before.objects = omega (arith, are.objects, target.there) in
    let each = both_true (slot.0.0 == need.0.0) (slot.1.0 == need.1.0) same in
    let top_is : counted base offset ≡ top =
    target.own offset (same_slot offsets slot need offset (eqb-true slot.0.0 need.0.0 each.0) (eqb-true slot.1.0 need.1.0 each.1) is) more in
    record {
      held = wrote.put.held need.0 (main_slot need.1) (kept_for before need.0 (main_slot need.1) below there)
          ∙ ap₂ (λ (b c : Bool). if (b || false) && c then Some (counted base offset) else held_at before need.0 (main_slot need.1)) each.1 each.0
          ∙ ap Some top_is;
      latest = wrote.put.latest need.1 there
          ∙ ap (λ (b : Bool). if b || false then max (latest_of before need.1) (counted base offset) else latest_of before need.1) each.1
          ∙ (omega (arith, top_is, under));
    }

pub put_at : (P : Versions → Type 0) (base : ℕ) (versions : Versions) (slot : Worker × Object) (o : Option ℕ) (offset : ℕ) → o ≡ Some offset
    → (offset == 0) ≡ false → P (with_version slot.0 (counted base offset) versions (main_slot slot.1))
    → P (fold (with_written base) versions (effect_at slot o))
put_at P base versions slot o offset is more put =
    subst (λ (x : Option ℕ). P (fold (with_written base) versions (effect_at slot x))) (sym is)
    (subst (λ (b : Bool). P (fold (with_written base) versions (if b then [] else (slot.0, main_slot slot.1, offset_for offset) ∷ []))) (sym more)
    (subst (λ (b : Bool). P (if b then versions else with_version slot.0 (counted base offset) versions (main_slot slot.1))) (sym
    (still_more offset more)) put))

-- what the effect has comes
pub done_comes : (offsets : Versions) (base : ℕ) (need : Worker × Object) (top offset : ℕ) → IsTarget offsets base need top
    → held_at offsets need.0 (main_slot need.1) ≡ Some offset → (offset == 0) ≡ false → (slots : List (Worker × Object)) (versions : Versions)
    → IsOf offsets versions → latest_of versions need.1 ≤ top → list_any (is_slot need) slots ≡ true
    → IsDone (fold (with_written base) versions (effect_of offsets slots)) need top
done_comes offsets base need top offset target is more [] versions are under some = absurd (false≢true some)
done_comes offsets base need top offset target is more (slot ∷ slots) versions are under some =
    subst (λ (v : Versions). IsDone v need top) (sym (fold-append (with_written base) versions (effect_here offsets slot) (effect_of offsets slots)))
    (either (is_slot need slot) refl some (λ v of low later. done_comes offsets base need top offset target is more slots v of low later)) where
      either : (b : Bool) → is_slot need slot ≡ b → (b || list_any (is_slot need) slots) ≡ true
          → ((v : Versions) → IsOf offsets v → latest_of v need.1 ≤ top → list_any (is_slot need) slots ≡ true
          → IsDone (fold (with_written base) v (effect_of offsets slots)) need top)
          → IsDone (fold (with_written base) (fold (with_written base) versions (effect_here offsets slot)) (effect_of offsets slots)) need top
      either true same one rest =
          let each = both_true (slot.0.0 == need.0.0) (slot.1.0 == need.1.0) same in
          let found : held_at offsets slot.0 (main_slot slot.1) ≡ Some offset =
          same_slot offsets need slot offset (sym (eqb-true slot.0.0 need.0.0 each.0)) (sym (eqb-true slot.1.0 need.1.0 each.1)) is in
          let after : Versions = with_version slot.0 (counted base offset) versions (main_slot slot.1) in
          let wrote : IsWritten offsets base slot offset versions after = written offsets base slot offset versions are found in
          put_at (λ (v : Versions). IsDone (fold (with_written base) v (effect_of offsets slots)) need top) base versions slot
          (held_at offsets slot.0 (main_slot slot.1)) offset found more
          (done_stays offsets base need top target slots after wrote.of
          (first_put offsets base need slot top offset versions after target are wrote found more under same))
      either false same later rest =
          written_at (λ (v : Versions). IsDone (fold (with_written base) v (effect_of offsets slots)) need top) base versions slot
          (held_at offsets slot.0 (main_slot slot.1)) (rest versions are under later)
          (λ other found not_zero.
          let after : Versions = with_version slot.0 (counted base other) versions (main_slot slot.1) in
          let wrote : IsWritten offsets base slot other versions after = written offsets base slot other versions are found in
          rest after wrote.of
          (latest_under (is_among (main_slot slot.1 ∷ []) (main_slot need.1)) (counted base other) top (latest_of versions need.1) (latest_of after need.1)
          (wrote.put.latest need.1 (omega (arith, are.objects, target.there))) under (under_top offsets base need slot top other target found not_zero)) later)
