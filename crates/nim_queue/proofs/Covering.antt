-- Slots that get a use that nobody has.
use Rattle.std.proofs.Common.{◌≡◌, ℕ, suc, ◌+◌, ◌<◌, ◌≤◌, Bool, true, false, List, [], ◌∷◌, ◌++◌, get_or, length, take, refl, ap, sym, subst, ◌∙◌, arith, Option, None, Some, is_some}
use Rattle.std.specs.Prelude.{◌==◌, ◌||◌, if◌then◌else◌}
use Rattle.std.specs.List.{list_all}
use Rattle.std.proofs.Math.Path.{fun_ext}
use Rattle.std.proofs.lemmas.Bool.{and_from, and_parts, false≢true, ne_eqb, or_parts}
use Rattle.std.proofs.lemmas.List.{take_more}
use Rattle.nim_base.specs.declared.number.Slot.{Slot}
use Rattle.nim_command.specs.Slots.{reads_of, writes_of}
use Rattle.nim_queue.specs.declared.arrivals.Arrival.{Arrival}
use Rattle.nim_queue.specs.Joined.{HaveSameUses, are_covered, use_at, without_front}
use Rattle.nim_queue.specs.Counts.{is_in}
use Rattle.nim_queue.specs.declared.waiting.Waiting.{Waiting}
use Rattle.nim_queue.specs.Stands.{is_reader, is_writer}
use Rattle.nim_queue.specs.declared.slot_use.SlotUse.{SlotUse}

same_uses : (kept : ℕ → Option Waiting) (used : ℕ → Option SlotUse) → HaveSameUses kept used used
same_uses kept used = record {
  written = λ t s. refl;
  read = λ t s some. refl;
  fewer = λ t s none. none;
  stays = λ s there. there;
  brief = λ most brief. brief;
}

-- where nothing is changed
pub unchanged : (kept : ℕ → Option Waiting) (old new : ℕ → Option SlotUse) → ((s : ℕ) → new s ≡ old s) → HaveSameUses kept old new
unchanged kept old new is = subst (HaveSameUses kept old) (fun_ext (λ s. sym (is s))) (same_uses kept old)

pub same_again : (kept : ℕ → Option Waiting) (a b c : ℕ → Option SlotUse) → HaveSameUses kept a b → HaveSameUses kept b c → HaveSameUses kept a c
same_again kept a b c first second = record {
  written = λ t s. second.written t s ∙ first.written t s;
  read = λ t s some. second.read t s some ∙ first.read t s some;
  fewer = λ t s none. second.fewer t s (first.fewer t s none);
  stays = λ s there. second.stays s (first.stays s there);
  brief = λ most brief. second.brief most (first.brief most brief);
}

-- the readers that wait are left
still_in : (kept : ℕ → Option Waiting) (t : ℕ) (xs : List ℕ) → is_some (kept t) ≡ true → is_in t (without_front kept xs) ≡ is_in t xs
still_in kept t [] some = refl
still_in kept t (x ∷ xs) some = by (is_some (kept x)) refl (still_in kept t xs some) where
  by : (b : Bool) → is_some (kept x) ≡ b → is_in t (without_front kept xs) ≡ is_in t xs
      → is_in t (if b then x ∷ xs else without_front kept xs) ≡ ((t == x) || is_in t xs)
  by true here rest = refl
  by false gone rest =
      rest
      ∙ sym
      (ap (λ (b : Bool). b || is_in t xs)
      (ne_eqb t x (λ is. false≢true (sym gone ∙ ap (λ (k : ℕ). is_some (kept k)) (sym is) ∙ some))))

none_more : (kept : ℕ → Option Waiting) (t : ℕ) (xs : List ℕ) → is_in t xs ≡ false → is_in t (without_front kept xs) ≡ false
none_more kept t [] none = none
none_more kept t (x ∷ xs) none = by (is_some (kept x)) (none_more kept t xs (or_parts (t == x) (is_in t xs) none).1) where
  by : (b : Bool) → is_in t (without_front kept xs) ≡ false → is_in t (if b then x ∷ xs else without_front kept xs) ≡ false
  by true rest = none
  by false rest = rest

no_longer : (kept : ℕ → Option Waiting) (xs : List ℕ) → length (without_front kept xs) ≤ length xs
no_longer kept [] = omega arith
no_longer kept (x ∷ xs) = by (is_some (kept x)) (no_longer kept xs) where
  by : (b : Bool) → length (without_front kept xs) ≤ length xs → length (if b then x ∷ xs else without_front kept xs) ≤ suc (length xs)
  by true rest = omega arith
  by false rest = omega (arith, rest)

-- a slot is to be used
pub one_used : (kept : ℕ → Option Waiting) (old new : ℕ → Option SlotUse) (slot : ℕ) → ((s : ℕ) → new s ≡ (if slot == s then use_at kept (old s) else old s))
    → HaveSameUses kept old new
one_used kept old new slot is = record {
  written = λ t s. ap (is_writer t) (is s) ∙ by_written t (slot == s) (old s);
  read = λ t s some. ap (is_reader t) (is s) ∙ by_read t some (slot == s) (old s);
  fewer = λ t s none. ap (is_reader t) (is s) ∙ by_fewer t (slot == s) (old s) none;
  stays = λ s there. ap is_some (is s) ∙ by_stays (slot == s) (old s) there;
  brief = λ most brief s v got. by_brief most v (slot == s) (old s) (λ u is_u. brief s u is_u) (sym (is s) ∙ got);
}
  where
    by_written : (t : ℕ) (b : Bool) (o : Option SlotUse) → is_writer t (if b then use_at kept o else o) ≡ is_writer t o
    by_written t true None = refl
    by_written t true (Some u) = refl
    by_written t false o = refl

    by_read : (t : ℕ) → is_some (kept t) ≡ true → (b : Bool) (o : Option SlotUse) → is_reader t (if b then use_at kept o else o) ≡ is_reader t o
    by_read t some true None = refl
    by_read t some true (Some u) = still_in kept t u.readers some
    by_read t some false o = refl

    by_fewer : (t : ℕ) (b : Bool) (o : Option SlotUse) → is_reader t o ≡ false → is_reader t (if b then use_at kept o else o) ≡ false
    by_fewer t true None none = refl
    by_fewer t true (Some u) none = none_more kept t u.readers none
    by_fewer t false o none = none

    by_stays : (b : Bool) (o : Option SlotUse) → is_some o ≡ true → is_some (if b then use_at kept o else o) ≡ true
    by_stays true None there = refl
    by_stays true (Some u) there = refl
    by_stays false o there = there

    readers_of : Option SlotUse → List ℕ
    readers_of None = []
    readers_of (Some u) = u.readers

    by_brief : (most : ℕ) (v : SlotUse) (b : Bool) (o : Option SlotUse) → ((u : SlotUse) → o ≡ Some u → length u.readers ≤ most)
        → (if b then use_at kept o else o) ≡ Some v → length v.readers ≤ most
    by_brief most v true None brief made = let none : length v.readers ≡ 0 =
        sym (ap (λ (x : Option SlotUse). length (readers_of x)) made) in omega (arith, none)
    by_brief most v true (Some u) brief made =
        omega (arith, ap (λ (x : Option SlotUse). length (readers_of x)) made, no_longer kept u.readers, brief u refl)
    by_brief most v false o brief made = brief v made

-- what is covered stays covered
pub all_stay : {X : Type 0} (p q : X → Bool) (xs : List X) → ((x : X) → p x ≡ true → q x ≡ true) → list_all p xs ≡ true → list_all q xs ≡ true
all_stay p q [] stays all = refl
all_stay p q (x ∷ xs) stays all =
    let parts = and_parts (p x) (list_all p xs) all in and_from (q x) (list_all q xs) (stays x parts.0) (all_stay p q xs stays parts.1)

pub all_more : {X : Type 0} (p : X → Bool) (xs : List X) (i : ℕ) (d : X) → i < length xs → list_all p (take i xs) ≡ true → p (get_or xs i d) ≡ true
    → list_all p (take (i + 1) xs) ≡ true
all_more {X} p xs i d within all last = ap (list_all p) (take_more xs i d within) ∙ by (take i xs) all where
  by : (ys : List X) → list_all p ys ≡ true → list_all p (ys ++ get_or xs i d ∷ []) ≡ true
  by [] all = and_from (p (get_or xs i d)) true last refl
  by (y ∷ ys) all = let parts = and_parts (p y) (list_all p ys) all in and_from (p y) (list_all p (ys ++ get_or xs i d ∷ [])) parts.0 (by ys parts.1)

pub covered_still : (kept : ℕ → Option Waiting) (old new : ℕ → Option SlotUse) (a : Arrival) → HaveSameUses kept old new → are_covered old a ≡ true
    → are_covered new a ≡ true
covered_still kept old new a same all =
    let was : Slot → Bool = λ slot. is_some (old slot.0) in
    let now : Slot → Bool = λ slot. is_some (new slot.0) in
    let stays : (slot : Slot) → was slot ≡ true → now slot ≡ true = λ slot there. same.stays slot.0 there in
    let parts = and_parts (list_all was (reads_of a.command.kind)) (list_all was (writes_of a.command.kind)) all in
    and_from (list_all now (reads_of a.command.kind)) (list_all now (writes_of a.command.kind)) (all_stay was now (reads_of a.command.kind) stays parts.0)
    (all_stay was now (writes_of a.command.kind) stays parts.1)
