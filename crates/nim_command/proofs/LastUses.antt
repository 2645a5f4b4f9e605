-- The last uses of slots: those of one more, and that they tell whom a later one waits for.
use Rattle.std.proofs.Common.{◌≡◌, ℕ, suc, ◌+◌, Bool, true, false, not, List, [], ◌∷◌, ◌++◌, length, map, refl, ap, ap₂, sym, subst, ◌∙◌, arith, zero-add}
use Rattle.std.specs.Prelude.{◌==◌, ◌&&◌, ◌||◌, if◌then◌else◌}
use Rattle.std.specs.List.{list_any}
use Rattle.std.proofs.lemmas.Bool.{eq-eqb, eqb-true}
use Rattle.std.proofs.lemmas.List.{map-append}
use Rattle.std.proofs.lemmas.List.Folds.{list_any-append}
use Rattle.nim_base.specs.declared.number.Slot.{Slot}
use Rattle.nim_command.specs.declared.last_uses.LastUses.{LastUses}
use Rattle.nim_command.specs.declared.last_uses.SlotUse.{SlotUse}
use Rattle.nim_command.specs.Before.{Footprint, is_before, is_rewritten}
use Rattle.nim_command.specs.LastUses.{IsPastOf, is_in, is_last, is_last_user, is_writer, readers_of, use_of, writer_of, written}
use Rattle.nim_command.specs.Slots.{is_among}
use Rattle.nim_base.proofs.Lists.{any_same, guarded}
use Rattle.nim_command.proofs.Lists.{any_and, any_nothing, any_or}
use Rattle.nim_command.proofs.Walk.{same_slot}

first_more : (e u w : Bool) → ((e && (u && true)) || false) ≡ ((if w then false else false) || (u && e))
first_more true true true = refl
first_more true true false = refl
first_more true false true = refl
first_more true false false = refl
first_more false true true = refl
first_more false true false = refl
first_more false false true = refl
first_more false false false = refl

head_more : (e u r w rest more : Bool)
    → ((e && (u && not (r || (w || false)))) || ((if w then false else rest) || more)) ≡ ((if w then false else ((e && (u && not r)) || rest)) || more)
head_more false u r w rest more = refl
head_more true false r w rest more = refl
head_more true true true w rest more = refl
head_more true true false true rest more = refl
head_more true true false false rest more = refl

-- who uses a slot last, with one more
last_more : (used : Footprint → List Slot) (from : ℕ) (past : List Footprint) (f : Footprint) (slot : Slot) (p : ℕ)
    → is_last used from (past ++ f ∷ []) slot p
    ≡ ((if is_among f.writes slot then false else is_last used from past slot p) || (is_among (used f) slot && (p == from + length past)))
last_more used from [] f slot p =
    let here : from ≡ from + 0 = omega arith in
    first_more (p == from) (is_among (used f) slot) (is_among f.writes slot)
    ∙ ap (λ (n : ℕ). (if is_among f.writes slot then false else false) || (is_among (used f) slot && (p == n))) here
last_more used from (g ∷ past) f slot p =
    let w : Bool = is_among f.writes slot in
    let u : Bool = is_among (used f) slot in
    let rest : Bool = is_last used (suc from) past slot p in
    let place : suc from + length past ≡ from + length (g ∷ past) = omega arith in
    ap₂ (λ (r more : Bool). (p == from && (is_among (used g) slot && not r)) || more)
    (list_any-append (λ (h : Footprint). is_among h.writes slot) past (f ∷ []))
    (last_more used (suc from) past f slot p)
    ∙ head_more (p == from) (is_among (used g) slot) (is_rewritten past slot) w rest (u && (p == suc from + length past))
    ∙ ap (λ (n : ℕ). (if w then false else ((p == from && (is_among (used g) slot && not (is_rewritten past slot))) || rest)) || (u && (p == n))) place

writer_turned : (w old e : Bool) → (if w then e else old) ≡ ((if w then false else old) || (w && e))
writer_turned true old e = refl
writer_turned false true e = refl
writer_turned false false e = refl

reader_turned : (w : Bool) (readers : List ℕ) (p : ℕ) → is_in p (if w then [] else readers) ≡ (if w then false else is_in p readers)
reader_turned true readers p = refl
reader_turned false readers p = refl

-- the last uses of a list with one more
pub past_more : (old new : LastUses) (kept : Slot → List ℕ) (past : List Footprint) (f : Footprint) (reads writes : List Slot) (place : ℕ)
    → reads ≡ f.reads → writes ≡ f.writes → place ≡ length past → IsPastOf old past
    → ((slot : Slot) (p : ℕ) → is_writer p (writer_of new slot) ≡ (if is_among writes slot then p == place else is_writer p (writer_of old slot)))
    → ((slot : Slot) → kept slot ≡ (if is_among writes slot then [] else readers_of old slot))
    → ((slot : Slot) (p : ℕ) → is_in p (readers_of new slot) ≡ (is_in p (kept slot) || (is_among reads slot && (p == place))))
    → IsPastOf new (past ++ f ∷ [])
past_more old new kept past f reads writes place are_reads are_writes at before wrote drop read = record {
  writers = λ slot p.
      wrote slot p
      ∙ ap₂ (λ (ws : List Slot) (n : ℕ). if is_among ws slot then p == n else is_writer p (writer_of old slot)) are_writes here
      ∙ ap (λ (b : Bool). if is_among f.writes slot then p == 0 + length past else b) (before.writers slot p)
      ∙ writer_turned (is_among f.writes slot) (is_last (λ (g : Footprint). g.writes) 0 past slot p) (p == 0 + length past)
      ∙ sym (last_more (λ (g : Footprint). g.writes) 0 past f slot p);
  since = λ slot p.
      read slot p
      ∙ ap₂ (λ (rs : List Slot) (n : ℕ). is_in p (kept slot) || (is_among rs slot && (p == n))) are_reads here
      ∙ ap (λ (b : Bool). b || (is_among f.reads slot && (p == 0 + length past)))
      (ap (is_in p) (drop slot) ∙ reader_turned (is_among writes slot) (readers_of old slot) p
      ∙ ap₂ (λ (ws : List Slot) (b : Bool). if is_among ws slot then false else b) are_writes (before.since slot p))
      ∙ sym (last_more (λ (g : Footprint). g.reads) 0 past f slot p);
} where
  here : place ≡ 0 + length past
  here = at ∙ sym (zero-add (length past))

writer_chosen : (b : Bool) (s : Slot) (place : ℕ) (u : SlotUse) (p : ℕ)
    → is_writer p (if b then written s place else u).writer ≡ (if b then p == place else is_writer p u.writer)
writer_chosen true s place u p = refl
writer_chosen false s place u p = refl

readers_chosen : (b : Bool) (s : Slot) (place : ℕ) (u : SlotUse) → (if b then written s place else u).readers ≡ (if b then [] else u.readers)
readers_chosen true s place u = refl
readers_chosen false s place u = refl

-- the last uses of a list with one more, whose writes are noted first
pub past_noted : (old mid new : LastUses) (past : List Footprint) (f : Footprint) (reads writes : List Slot) (place : ℕ)
    → reads ≡ f.reads → writes ≡ f.writes → place ≡ length past → IsPastOf old past
    → ((s : Slot) → use_of mid s ≡ (if is_among writes s then written s place else use_of old s))
    → ((s : Slot) → writer_of new s ≡ writer_of mid s)
    → ((s : Slot) (p : ℕ) → is_in p (readers_of new s) ≡ (is_in p (readers_of mid s) || (is_among reads s && (p == place))))
    → IsPastOf new (past ++ f ∷ [])
past_noted old mid new past f reads writes place are_reads are_writes at before wrote kept read =
    past_more old new (readers_of mid) past f reads writes place are_reads are_writes at before
    (λ s p. ap (is_writer p) (kept s ∙ ap (λ (u : SlotUse). u.writer) (wrote s)) ∙ writer_chosen (is_among writes s) s place (use_of old s) p)
    (λ s. ap (λ (u : SlotUse). u.readers) (wrote s) ∙ readers_chosen (is_among writes s) s place (use_of old s))
    read

-- whether a later one waits for the one at a place
abbrev pub is_waited : ℕ → List Footprint → Footprint → ℕ → Bool
is_waited from [] later p = false
is_waited from (f ∷ fs) later p = (p == from && is_before f fs later) || is_waited (suc from) fs later p

both_ways : (a b : ℕ) (t u : Bool) → (a == b) ≡ t → (b == a) ≡ u → t ≡ u
both_ways a b true u is back = sym (eq-eqb b a (sym (eqb-true a b is))) ∙ back
both_ways a b false true is back = sym is ∙ eq-eqb a b (sym (eqb-true b a back))
both_ways a b false false is back = refl

spread : (a b c : Bool) → ((a || b) && c) ≡ ((a && c) || (b && c))
spread true b true = refl
spread true true false = refl
spread true false false = refl
spread false b c = refl

-- a slot of one list that is among another, from both sides
swapped : (q : Slot → Bool) (xs ys : List Slot) → list_any (λ s. is_among ys s && q s) xs ≡ list_any (λ s. is_among xs s && q s) ys
swapped q xs [] = any_nothing (λ (s : Slot). false) (λ s. refl) xs
swapped q xs (y ∷ ys) =
    any_same (λ (s : Slot). ((y.0 == s.0) || is_among ys s) && q s) (λ (s : Slot). ((s.0 == y.0) && q y) || (is_among ys s && q s))
    (λ s. spread (y.0 == s.0) (is_among ys s) (q s)
    ∙ ap (λ (b : Bool). b || (is_among ys s && q s))
    (guarded (y.0 == s.0) (q s) (q y) (λ is. ap q (sym (same_slot y s is)))
    ∙ ap (λ (b : Bool). b && q y) (both_ways y.0 s.0 (y.0 == s.0) (s.0 == y.0) refl refl)))
    xs
    ∙ any_or (λ (s : Slot). (s.0 == y.0) && q y) (λ (s : Slot). is_among ys s && q s) xs
    ∙ ap₂ (λ (a b : Bool). a || b) (any_and (λ (s : Slot). s.0 == y.0) (q y) xs) (swapped q xs ys)

any_guarded : (e : Bool) (p r : Slot → Bool) (xs : List Slot) → list_any (λ s. (e && p s) || r s) xs ≡ ((e && list_any p xs) || list_any r xs)
any_guarded true p r xs = any_or p r xs
any_guarded false p r xs = refl

-- the slots of the later one that one is the last to use so, where it uses them
last_of : (used : Footprint → List Slot) (from : ℕ) (f : Footprint) (fs : List Footprint) (p : ℕ) (xs : List Slot)
    → list_any (λ slot. is_last used from (f ∷ fs) slot p) xs
    ≡ ((p == from && list_any (λ (s : Slot). is_among xs s && not (is_rewritten fs s)) (used f)) || list_any (λ slot. is_last used (suc from) fs slot p) xs)
last_of used from f fs p xs =
    any_guarded (p == from) (λ (s : Slot). is_among (used f) s && not (is_rewritten fs s)) (λ (s : Slot). is_last used (suc from) fs s p) xs
    ∙ ap (λ (b : Bool). (p == from && b) || list_any (λ (s : Slot). is_last used (suc from) fs s p) xs)
    (swapped (λ (s : Slot). not (is_rewritten fs s)) xs (used f))

-- the rule, for what the later one reads and what it writes
before_split : (f : Footprint) (fs : List Footprint) (later : Footprint)
    → is_before f fs later
    ≡ ((list_any (λ (s : Slot). is_among later.reads s && not (is_rewritten fs s)) f.writes
    || list_any (λ (s : Slot). is_among later.writes s && not (is_rewritten fs s)) f.writes)
    || list_any (λ (s : Slot). is_among later.writes s && not (is_rewritten fs s)) f.reads)
before_split f fs later =
    ap (λ (b : Bool). b || list_any (λ (s : Slot). is_among later.writes s && not (is_rewritten fs s)) f.reads)
    (any_same (λ (s : Slot). (is_among later.reads s || is_among later.writes s) && not (is_rewritten fs s))
    (λ (s : Slot). (is_among later.reads s && not (is_rewritten fs s)) || (is_among later.writes s && not (is_rewritten fs s)))
    (λ s. spread (is_among later.reads s) (is_among later.writes s) (not (is_rewritten fs s))) f.writes
    ∙ any_or (λ (s : Slot). is_among later.reads s && not (is_rewritten fs s)) (λ (s : Slot). is_among later.writes s && not (is_rewritten fs s)) f.writes)

gathered : (e a b c a' b' c' : Bool) → ((e && ((a || b) || c)) || ((a' || b') || c')) ≡ ((((e && a) || a') || ((e && b) || b')) || ((e && c) || c'))
gathered false a b c a' b' c' = refl
gathered true true b c a' b' c' = refl
gathered true false true c true b' c' = refl
gathered true false true c false b' c' = refl
gathered true false false true true b' c' = refl
gathered true false false true false true c' = refl
gathered true false false true false false c' = refl
gathered true false false false a' b' c' = refl

-- one waits for another by the rule where it touches a slot that the other wrote last, or writes one that it read since
waited_split : (from : ℕ) (past : List Footprint) (later : Footprint) (p : ℕ)
    → is_waited from past later p
    ≡ ((list_any (λ slot. is_last (λ (f : Footprint). f.writes) from past slot p) later.reads
    || list_any (λ slot. is_last (λ (f : Footprint). f.writes) from past slot p) later.writes)
    || list_any (λ slot. is_last (λ (f : Footprint). f.reads) from past slot p) later.writes)
waited_split from [] later p =
    let none : (xs : List Slot) → false ≡ list_any (λ (s : Slot). false) xs = λ xs. sym (any_nothing (λ (s : Slot). false) (λ s. refl) xs) in
    ap₂ (λ (a b : Bool). a || b) (ap₂ (λ (a b : Bool). a || b) (none later.reads) (none later.writes)) (none later.writes)
waited_split from (f ∷ fs) later p =
    let q : Slot → Bool = λ s. not (is_rewritten fs s) in
    let wrote : Footprint → List Slot = λ g. g.writes in
    let read : Footprint → List Slot = λ g. g.reads in
    ap₂ (λ (b rest : Bool). (p == from && b) || rest) (before_split f fs later) (waited_split (suc from) fs later p)
    ∙ gathered (p == from)
    (list_any (λ (s : Slot). is_among later.reads s && q s) f.writes)
    (list_any (λ (s : Slot). is_among later.writes s && q s) f.writes)
    (list_any (λ (s : Slot). is_among later.writes s && q s) f.reads)
    (list_any (λ (s : Slot). is_last wrote (suc from) fs s p) later.reads)
    (list_any (λ (s : Slot). is_last wrote (suc from) fs s p) later.writes)
    (list_any (λ (s : Slot). is_last read (suc from) fs s p) later.writes)
    ∙ sym (ap₂ (λ (a b : Bool). a || b) (ap₂ (λ (a b : Bool). a || b) (last_of wrote from f fs p later.reads) (last_of wrote from f fs p later.writes))
    (last_of read from f fs p later.writes))

-- what the last uses tell of a later one is the rule
pub met_waited : (uses : LastUses) (past : List Footprint) (later : Footprint) (p : ℕ) → IsPastOf uses past
    → is_last_user uses later p ≡ is_waited 0 past later p
met_waited uses past later p of =
    ap₂ (λ (a b : Bool). a || b)
    (ap₂ (λ (a b : Bool). a || b) (wrote later.reads) (wrote later.writes))
    (any_same (λ (s : Slot). is_in p (readers_of uses s)) (λ (s : Slot). is_last (λ (f : Footprint). f.reads) 0 past s p) (λ s. of.since s p) later.writes)
    ∙ sym (waited_split 0 past later p)
  where
    wrote : (xs : List Slot) → list_any (λ (s : Slot). is_writer p (writer_of uses s)) xs
        ≡ list_any (λ (s : Slot). is_last (λ (f : Footprint). f.writes) 0 past s p) xs
    wrote xs = any_same (λ (s : Slot). is_writer p (writer_of uses s)) (λ (s : Slot). is_last (λ (f : Footprint). f.writes) 0 past s p) (λ s. of.writers s p) xs

-- the last uses of a list, behind which one comes that uses the same slots as another
pub past_pushed : {T : Type 0} (f : T → Footprint) (uses : LastUses) (done next : List T) (x y : T) → f y ≡ f x → next ≡ done ++ y ∷ []
    → IsPastOf uses (map f done ++ f x ∷ []) → IsPastOf uses (map f next)
past_pushed {T} f uses done next x y same push of =
    let all : map f next ≡ map f done ++ f x ∷ [] = ap (map f) push ∙ map-append f done (y ∷ []) ∙ ap (λ (g : Footprint). map f done ++ g ∷ []) same in
    subst (IsPastOf uses) (sym all) of
