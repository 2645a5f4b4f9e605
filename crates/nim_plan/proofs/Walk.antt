-- The walk down from a command: what is free and what is waited for one place further down.
use Rattle.std.proofs.Common.{◌≡◌, ℕ, suc, ◌+◌, ◌-◌, ◌<◌, ◌≤◌, Bool, true, false, not, List, [], ◌∷◌, ◌++◌, length, take, drop, drop-cons, reverse, get_or, refl, ap, ap₂, sym, ◌∙◌, arith, Option, Some}
use Rattle.std.specs.Prelude.{◌==◌, ◌&&◌, ◌||◌, if◌then◌else◌, slice_range}
use Rattle.std.specs.List.{filter, list_any, range_with_len}
use Rattle.std.specs.Option.{option_map_or}
use Rattle.std.proofs.lemmas.List.{append-nil, reverse-append}
use Rattle.std.proofs.lemmas.List.Folds.{list_any-append}
use Rattle.std.proofs.lemmas.Option.{slice_get-get_or}
use Rattle.nim_base.specs.declared.number.Slot.{Slot}
use Rattle.nim_command.specs.declared.command.Kind.{Kind}
use Rattle.nim_command.specs.Slots.{does_read, does_touch, does_write, is_among, reads_of, writes_of}
use Rattle.nim_command.specs.Waits.{Member, is_waited, is_written_by, waits_for}
use Rattle.nim_command.proofs.Walk.{among_filter, not_either, rewritten}
use Rattle.nim_plan.specs.Free.{does_name, free_slots, has_free, has_rewritten, is_waited_free, kept_free, touched_by}
use Rattle.nim_base.proofs.Lists.{any_same}
use Rattle.nim_plan.proofs.Lists.{filter_all, filter_twice}

-- a list from a place on begins with the item there
slice_step : {X : Type 0} (xs : List X) (a b : ℕ) (d : X) → a < b → b ≤ length xs → slice_range xs a b ≡ get_or xs a d ∷ slice_range xs (a + 1) b
slice_step {X} xs a b d less within =
    let there : a < length xs = omega arith in
    let more : b - a ≡ suc (b - (a + 1)) = omega arith in
    let next : suc a ≡ a + 1 = omega arith in
    ap₂ (λ (n : ℕ) (ys : List X). take n ys) more (drop-cons xs a d there ∙ ap (λ (n : ℕ). get_or xs a d ∷ drop n xs) next)

-- behind a place nothing is between
nothing_between : {X : Type 0} (xs : List X) (a : ℕ) → slice_range xs a a ≡ []
nothing_between xs a = let none : a - a ≡ 0 = omega arith in ap (λ (n : ℕ). take n (drop a xs)) none

pub free_first : (members : List Member) (place : ℕ) (kind : Kind) (free : List Slot) → free ≡ touched_by kind
    → free ≡ free_slots (slice_range members place place) kind
free_first members place kind free is =
    is ∙ sym (filter_all (λ (s : Slot). true) (λ s. refl) (touched_by kind))
    ∙ ap (λ (between : List Member). free_slots between kind) (sym (nothing_between members place))

pub waits_first : (p : ℕ → Bool) (place : ℕ) (waits : List ℕ) → waits ≡ [] → reverse waits ≡ filter p (range_with_len place (place - place))
waits_first p place waits is = let none : 0 ≡ place - place = omega arith in ap reverse is ∙ ap (λ (n : ℕ). filter p (range_with_len place n)) none

-- the free slots, one place further down
pub free_step : (members : List Member) (next old place : ℕ) (kind : Kind) (m : Member) (free kept : List Slot) → old ≡ next + 1 → old ≤ place
    → place ≤ length members
    → m ≡ get_or members next m → free ≡ free_slots (slice_range members old place) kind → kept ≡ kept_free m.command.kind free
    → kept ≡ free_slots (slice_range members next place) kind
free_step members next old place kind m free kept above within there is before now =
    let less : next < place = omega arith in
    now ∙ ap (kept_free m.command.kind) before
    ∙ filter_twice (λ (s : Slot). not (does_write m.command.kind s)) (λ (s : Slot). not (is_written_by (slice_range members old place) s))
    (λ (s : Slot). not (is_written_by (m ∷ slice_range members old place) s))
    (λ s. not_either (does_write m.command.kind s) (is_written_by (slice_range members old place) s))
    (touched_by kind)
    ∙ ap (λ (between : List Member). free_slots between kind)
    (ap₂ (λ (first : Member) (n : ℕ). first ∷ slice_range members n place) is above ∙ sym (slice_step members next place m less there))

-- a slot is free where the command touches it and no command between writes it
among_free : (between : List Member) (kind : Kind) (s : Slot) → is_among (free_slots between kind) s ≡ (does_touch kind s && not (is_written_by between s))
among_free between kind s =
    among_filter (λ (slot : Slot). not (is_written_by between slot)) (touched_by kind) s
    ∙ ap (λ (b : Bool). b && not (is_written_by between s)) (list_any-append (λ (x : Slot). x.0 == s.0) (reads_of kind) (writes_of kind))

-- by the free slots a command waits for the same ones
pub waited_same : (earlier later : Member) (between : List Member) (free : List Slot) → free ≡ free_slots between later.command.kind
    → is_waited_free earlier free later ≡ is_waited earlier between later
waited_same earlier later between free is =
    let kind = later.command.kind in
    let some : has_free (free_slots between kind) (writes_of earlier.command.kind)
    ≡ list_any (λ (s : Slot). does_touch kind s && not (is_written_by between s)) (writes_of earlier.command.kind) =
    any_same (is_among (free_slots between kind)) (λ (s : Slot). does_touch kind s && not (is_written_by between s)) (λ s. among_free between kind s)
    (writes_of earlier.command.kind) in
    let again : has_rewritten (free_slots between kind) kind (reads_of earlier.command.kind)
    ≡ list_any (λ (s : Slot). does_write kind s && not (is_written_by between s)) (reads_of earlier.command.kind) =
    any_same (λ (s : Slot). is_among (free_slots between kind) s && does_write kind s) (λ (s : Slot). does_write kind s && not (is_written_by between s))
    (λ s. ap (λ (b : Bool). b && does_write kind s) (among_free between kind s)
    ∙ rewritten (does_read kind s) (does_write kind s) (not (is_written_by between s)))
    (reads_of earlier.command.kind) in
    ap (λ (slots : List Slot). is_waited_free earlier slots later) is
    ∙ ap (λ (border : Bool). if earlier.group == later.group then does_name later.command earlier.command.id else border)
    (ap₂ (λ (a b : Bool). a || b) some again)

-- whether the place below is waited for
pub waited_at : (members : List Member) (next old place : ℕ) (e l : Member) (free : List Slot) → old ≡ next + 1 → old ≤ place → place < length members
    → e ≡ get_or members next e → l ≡ get_or members place l → free ≡ free_slots (slice_range members old place) l.command.kind
    → is_waited_free e free l ≡ waits_for members place next
waited_at members next old place e l free above within there is_earlier is_later before =
    let lower : next < length members = omega arith in
    waited_same e l (slice_range members old place) free before
    ∙ ap (λ (n : ℕ). is_waited e (slice_range members n place) l) above
    ∙ sym (ap₂ (λ (later earlier : Option Member). option_map_or
    (λ (l : Member). option_map_or (λ (e : Member). is_waited e (slice_range members (next + 1) place) l) earlier false)
    later
    false)
    (slice_get-get_or members place l there ∙ ap Some (sym is_later)) (slice_get-get_or members next e lower ∙ ap Some (sym is_earlier)))

kept_first : (waits rest : List ℕ) (place : ℕ) → reverse waits ≡ rest → (waited : Bool)
    → reverse (waits ++ (if waited then place ∷ [] else [])) ≡ (if waited then place ∷ rest else rest)
kept_first waits rest place is true = reverse-append waits (place ∷ []) ∙ ap (λ (xs : List ℕ). place ∷ xs) is
kept_first waits rest place is false = ap reverse (append-nil waits) ∙ is

-- the places that are waited for, from one place further down on
pub waits_step : (p : ℕ → Bool) (next old place : ℕ) (waits more : List ℕ) (waited : Bool) → old ≡ next + 1 → old ≤ place
    → reverse waits ≡ filter p (range_with_len old (place - old)) → waited ≡ p next → more ≡ waits ++ (if waited then next ∷ [] else [])
    → reverse more ≡ filter p (range_with_len next (place - next))
waits_step p next old place waits more waited above within before is now =
    let longer : suc (place - old) ≡ place - next = omega arith in
    ap reverse now ∙ kept_first waits (filter p (range_with_len old (place - old))) next before waited
    ∙ ap (λ (b : Bool). if b then next ∷ filter p (range_with_len old (place - old)) else filter p (range_with_len old (place - old))) is
    ∙ ap (λ (n : ℕ). if p next then next ∷ filter p (range_with_len n (place - old)) else filter p (range_with_len n (place - old))) above
    ∙ ap (λ (n : ℕ). filter p (range_with_len next n)) longer
