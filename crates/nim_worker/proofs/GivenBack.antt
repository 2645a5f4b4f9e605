-- What is taken out of slots and given back leaves them as they were.
use Rattle.std.proofs.Common.{◌≡◌, ℕ, ◌+◌, ◌<◌, ◌≤◌, zero, suc, Bool, true, false, not, List, [], ◌∷◌, ◌++◌, length, map, take, get_or, refl, ap, ap₂, sym, subst, ◌∙◌, arith, Option, None, Some, All}
use Rattle.std.specs.Prelude.{◌==◌, if◌then◌else◌}
use Rattle.std.specs.List.{position_or_len}
use Rattle.std.specs.Option.{option_map_or}
use Rattle.std.proofs.lemmas.Bool.{eq-eqb, eqb-true, or_left, or_right}
use Rattle.std.proofs.lemmas.List.{get_or_append_left, map-append, map_more, length-append}
use Rattle.std.proofs.lemmas.List.Elements.{All-cons, All-nil}
use Rattle.nim_base.specs.declared.number.Object.{Object}
use Rattle.nim_base.specs.declared.number.Slot.{Slot}
use Rattle.nim_base.specs.Functions.{read_values}
use Rattle.nim_base.specs.Value.{Grid, empty_grid}
use Rattle.nim_command.specs.Holds.{put_at}
use Rattle.nim_command.specs.Slots.{is_among}
use Rattle.nim_store.specs.declared.held.Held.{Held}
use Rattle.nim_worker.specs.declared.inputs.Taken.{Taken}
use Rattle.nim_worker.specs.Inputs.{AreSeen, Continues, content_of, given_back, held_of, is_from}
use Rattle.nim_history.specs.Kept.{content_seen, held_version, held_or_empty}
use Rattle.nim_worker.proofs.Puts.{put_again, put_same, same_slot}

-- the last that was taken is given back first
pub given_back-snoc : (ts : List Taken) (vs : List Grid) (t : Taken) (v : Grid) (f : Slot → Option Held) → length ts ≡ length vs
    → given_back (ts ++ t ∷ []) (vs ++ v ∷ []) f ≡ given_back ts vs (put_at t.slot (held_of t v) f)
given_back-snoc [] [] t v f paired = refl
given_back-snoc [] (w ∷ vs) t v f paired = absurd cc
given_back-snoc (u ∷ ts) [] t v f paired = absurd cc
given_back-snoc (u ∷ ts) (w ∷ vs) t v f paired = ap (put_at u.slot (held_of u w)) (given_back-snoc ts vs t v f (omega (arith, paired)))

-- what was taken last is what the slot had, and the slot is empty since
pub taken_once : (ts : List Taken) (vs : List Grid) (t : Taken) (v : Grid) (f g : Slot → Option Held) → length ts ≡ length vs
    → g ≡ put_at t.slot None f → held_of t v ≡ f t.slot → given_back (ts ++ t ∷ []) (vs ++ v ∷ []) g ≡ given_back ts vs f
taken_once ts vs t v f g paired emptied had =
    given_back-snoc ts vs t v g paired
    ∙ ap (given_back ts vs) (ap (put_at t.slot (held_of t v)) emptied ∙ put_again t.slot (held_of t v) None f ∙ ap (λ (h : Option Held). put_at t.slot h f) had
    ∙ put_same t.slot f)

-- a place is within the list, or its length
pub place_past : (slot : Slot) (ts : List Taken) → length ts ≤ position_or_len (is_from slot) ts → position_or_len (is_from slot) ts ≡ length ts
place_past slot [] past = refl
place_past slot (t ∷ ts) past = either (slot.0 == t.slot.0) (place_past slot ts) past where
  either : (b : Bool) → (length ts ≤ position_or_len (is_from slot) ts → position_or_len (is_from slot) ts ≡ length ts)
      → suc (length ts) ≤ (if not b then 1 + position_or_len (is_from slot) ts else 0)
      → (if not b then 1 + position_or_len (is_from slot) ts else 0) ≡ suc (length ts)
  either true more past = absurd (omega (arith, past))
  either false more past = omega (arith, more (omega (arith, past)))

-- a slot that isn't taken has what it had
pub not_taken : (slot : Slot) (ts : List Taken) (vs : List Grid) (f : Slot → Option Held) → length ts ≡ length vs
    → length ts ≤ position_or_len (is_from slot) ts → given_back ts vs f slot ≡ f slot
not_taken slot [] [] f paired past = refl
not_taken slot [] (v ∷ vs) f paired past = refl
not_taken slot (t ∷ ts) [] f paired past = absurd cc
not_taken slot (t ∷ ts) (v ∷ vs) f paired past = either (slot.0 == t.slot.0) (not_taken slot ts vs f (omega (arith, paired))) past where
  either : (b : Bool) → (length ts ≤ position_or_len (is_from slot) ts → given_back ts vs f slot ≡ f slot)
      → suc (length ts) ≤ (if not b then 1 + position_or_len (is_from slot) ts else 0) → (if b then held_of t v else given_back ts vs f slot) ≡ f slot
  either true more past = absurd (omega (arith, past))
  either false more past = more (omega (arith, past))

-- What a slot that is taken had, by its place.
pub record IsTakenAt (slot : Slot) (ts : List Taken) (vs : List Grid) (f : Slot → Option Held) (place : ℕ) : Type 0 where
  pub value : (v : Grid) → get_or vs place v ≡ (held_or_empty (given_back ts vs f) slot).value
  pub content : (t : Taken) → content_of (get_or ts place t) ≡ content_seen (given_back ts vs f) slot

seen_of : (slot : Slot) (t : Taken) (v : Grid) (g : Slot → Option Held) → slot ≡ t.slot → g slot ≡ held_of t v
    → option_map_or (λ (held : Held). held.value) (held_of t v) empty_grid ≡ v
    → (v ≡ (held_or_empty g slot).value) × (content_of t ≡ content_seen g slot)
seen_of slot t v g same has right = either t.content refl where
  either : (c : Option (Object × ℕ)) → t.content ≡ c → (v ≡ (held_or_empty g slot).value) × (content_of t ≡ content_seen g slot)
  either None is = rw (has, is, sym same) (sym (rw is at right), refl)
  either (Some c) is = rw (has, is) (refl, refl)

pub taken_at : (slot : Slot) (ts : List Taken) (vs : List Grid) (f : Slot → Option Held) → length ts ≡ length vs → AreSeen ts vs
    → position_or_len (is_from slot) ts < length ts → IsTakenAt slot ts vs f (position_or_len (is_from slot) ts)
taken_at slot [] vs f paired right within = absurd (omega (arith, within))
taken_at slot (t ∷ ts) [] f paired right within = absurd cc
taken_at slot (t ∷ ts) (v ∷ vs) f paired right within = either (slot.0 == t.slot.0) refl (taken_at slot ts vs f (omega (arith, paired)) right.1) within where
  either : (b : Bool) → (slot.0 == t.slot.0) ≡ b → (position_or_len (is_from slot) ts < length ts → IsTakenAt slot ts vs f (position_or_len (is_from slot) ts))
      → (if not b then 1 + position_or_len (is_from slot) ts else 0) < suc (length ts)
      → IsTakenAt slot (t ∷ ts) (v ∷ vs) f (if not b then 1 + position_or_len (is_from slot) ts else 0)
  either true same more within =
      let has : given_back (t ∷ ts) (v ∷ vs) f slot ≡ held_of t v = rw same refl in
      let right' = seen_of slot t v (given_back (t ∷ ts) (v ∷ vs) f) (same_slot slot t.slot (eqb-true slot.0 t.slot.0 same)) has right.0 in
      record { value = λ d. right'.0; content = λ d. right'.1 }
  either false other more within =
      let has : given_back (t ∷ ts) (v ∷ vs) f slot ≡ given_back ts vs f slot = rw other refl in
      let rest = more (omega (arith, within)) in
      let next : suc (position_or_len (is_from slot) ts) ≡ 1 + position_or_len (is_from slot) ts = omega arith in
      subst (IsTakenAt slot (t ∷ ts) (v ∷ vs) f) next (record {
        value = λ d. rest.value d ∙ ap (λ (h : Option Held). (option_map_or (λ (held : Held). held) h (held_version slot 0 empty_grid)).value) (sym has);
        content = λ d. rest.content d ∙ ap (λ (h : Option Held). (
          (option_map_or (λ (held : Held). held) h (held_version slot 0 empty_grid)).object,
          (option_map_or (λ (held : Held). held) h (held_version slot 0 empty_grid)).version,
        )) (sym has);
      })

-- what a slot has that is taken now
pub new_at : (slot : Slot) (ts : List Taken) (vs : List Grid) (f : Slot → Option Held) (t : Taken) (v : Grid) → length ts ≡ length vs
    → length ts ≤ position_or_len (is_from slot) ts → slot ≡ t.slot → held_of t v ≡ f slot
    → option_map_or (λ (held : Held). held.value) (held_of t v) empty_grid ≡ v
    → (v ≡ (held_or_empty (given_back ts vs f) slot).value) × (content_of t ≡ content_seen (given_back ts vs f) slot)
new_at slot ts vs f t v paired past same had right = seen_of slot t v (given_back ts vs f) same (not_taken slot ts vs f paired past ∙ sym had) right

pub AreSeen-snoc : (ts : List Taken) (vs : List Grid) (t : Taken) (v : Grid) → length ts ≡ length vs → AreSeen ts vs
    → option_map_or (λ (held : Held). held.value) (held_of t v) empty_grid ≡ v → AreSeen (ts ++ t ∷ []) (vs ++ v ∷ [])
AreSeen-snoc [] [] t v paired all right = (right, record {})
AreSeen-snoc [] (w ∷ vs) t v paired all right = absurd cc
AreSeen-snoc (u ∷ ts) [] t v paired all right = absurd cc
AreSeen-snoc (u ∷ ts) (w ∷ vs) t v paired all right = (all.0, AreSeen-snoc ts vs t v (omega (arith, paired)) all.1 right)

-- more values leave those that are read by their places
pub reads_of-more : (vs more : List Grid) (places : List ℕ) → All (λ (place : ℕ). place < length vs) places
    → read_values (vs ++ more) places ≡ read_values vs places
reads_of-more vs more [] fit = refl
reads_of-more vs more (place ∷ places) fit =
    ap₂ (λ (v : Grid) (rest : List Grid). v ∷ rest) (get_or_append_left vs more empty_grid place (fit 0 0 (omega arith)))
    (reads_of-more vs more places (λ i d within. fit (suc i) d (omega (arith, within))))

-- one more place
pub reads_of-push : (vs others : List Grid) (places : List ℕ) (place : ℕ) → Continues vs others → All (λ (p : ℕ). p < length vs) places
    → read_values others (places ++ place ∷ []) ≡ read_values vs places ++ get_or others place empty_grid ∷ []
reads_of-push vs others places place goes_on fit =
    map-append (λ (p : ℕ). get_or others p empty_grid) places (place ∷ [])
    ∙ ap (λ (all : List Grid). all ++ get_or others place empty_grid ∷ [])
    (ap (λ (all : List Grid). read_values all places) goes_on.1 ∙ reads_of-more vs goes_on.0 places fit)

pub longer : {X : Type 0} (xs ys : List X) → Continues xs ys → length xs ≤ length ys
longer xs ys goes_on = omega (arith, ap length goes_on.1, length-append xs goes_on.0)

pub fits_more : (vs others : List Grid) (places : List ℕ) (place : ℕ) → Continues vs others → All (λ (p : ℕ). p < length vs) places → place < length others
    → All (λ (p : ℕ). p < length others) (places ++ place ∷ [])
fits_more vs others [] place goes_on fit within = All-cons (λ (p : ℕ). p < length others) place [] within (All-nil (λ (p : ℕ). p < length others))
fits_more vs others (p ∷ places) place goes_on fit within =
    All-cons (λ (q : ℕ). q < length others) p (places ++ place ∷ []) (omega (arith, fit 0 0 (omega arith), longer vs others goes_on))
    (fits_more vs others places place goes_on (λ i d w. fit (suc i) d (omega (arith, w))) within)

-- one more of a list is changed and pushed
pub pushed_map : {X Y : Type 0} (f : X → Y) (xs : List X) (i : ℕ) (d : X) (ys : List Y) (y : Y) → i < length xs → ys ≡ map f (take i xs)
    → y ≡ f (get_or xs i d)
    → ys ++ y ∷ [] ≡ map f (take (i + 1) xs)
pushed_map {X} {Y} f xs i d ys y within so_far is = ap₂ (λ (all : List Y) (last : Y). all ++ last ∷ []) so_far is ∙ sym (map_more f xs i d within)

-- a slot of a list is among its slots
pub among_at : (slots : List Slot) (i : ℕ) (d : Slot) → i < length slots → is_among slots (get_or slots i d) ≡ true
among_at [] i d within = absurd (omega (arith, within))
among_at (slot ∷ slots) zero d within = or_left (slot.0 == slot.0) (is_among slots slot) (eq-eqb slot.0 slot.0 refl)
among_at (slot ∷ slots) (suc i) d within =
    or_right (slot.0 == (get_or slots i d).0) (is_among slots (get_or slots i d)) (among_at slots i d (omega (arith, within)))
