-- Entries by the rule, in place: those in front have the before sets of the rule, those behind have their own still.
use Rattle.std.proofs.Common.{◌≡◌, ◌<◌, ◌≤◌, ◌+◌, ℕ, suc, List, [], ◌∷◌, ◌++◌, length, take, drop, map, set, get_or, refl, ap, ap₂, sym, subst, ◌∙◌, arith}
use Rattle.std.proofs.lemmas.List.{append-nil, append_assoc, drop_more, get_or_default, map-append}
use Rattle.std.proofs.lemmas.List.{length-append, length-set, length-take-le, take-append-drop, take_all, take_more}
use Rattle.nim_command.specs.declared.entry.Entry.{Entry}
use Rattle.nim_command.specs.declared.entry.EntryKind.{EntryKind}
use Rattle.nim_command.specs.declared.last_uses.LastUses.{LastUses}
use Rattle.nim_command.specs.Before.{Footprint, before_of}
use Rattle.nim_command.specs.Edits.{entry_of}
use Rattle.nim_command.specs.LastUses.{IsPastOf}
use Rattle.nim_command.specs.Ruled.{entries_by_rule, entry_footprint}
use Rattle.nim_command.proofs.ByRule.{entries_more, prints_same}

front : {X : Type 0} (xs rest : List X) → take (length xs) (xs ++ rest) ≡ xs
front [] rest = refl
front {X} (x ∷ xs) rest = ap (λ (l : List X). x ∷ l) (front xs rest)

front_more : {X : Type 0} (xs : List X) (x : X) (rest : List X) → take (suc (length xs)) (xs ++ x ∷ rest) ≡ xs ++ x ∷ []
front_more [] x rest = refl
front_more {X} (y ∷ xs) x rest = ap (λ (l : List X). y ∷ l) (front_more xs x rest)

item : {X : Type 0} (xs : List X) (x : X) (rest : List X) (d : X) → get_or (xs ++ x ∷ rest) (length xs) d ≡ x
item [] x rest d = refl
item (y ∷ xs) x rest d = item xs x rest d

put : {X : Type 0} (xs : List X) (x y : X) (rest : List X) → set (xs ++ x ∷ rest) (length xs) y ≡ xs ++ y ∷ rest
put [] x y rest = refl
put {X} (z ∷ xs) x y rest = ap (λ (l : List X). z ∷ l) (put xs x y rest)

length_ruled : (past : List Footprint) (xs : List Entry) → length (entries_by_rule past xs) ≡ length xs
length_ruled past [] = refl
length_ruled past (x ∷ xs) = ap (λ (n : ℕ). suc n) (length_ruled (past ++ entry_footprint x ∷ []) xs)

-- an entry with the before set of the rule, behind others
abbrev pub ruled : List Entry → Entry → Entry
ruled past e = record e { before = before_of (map entry_footprint past) (entry_footprint e) }

-- the entries of which so many have the before set of the rule
abbrev pub half_way : List Entry → ℕ → List Entry
half_way all i = entries_by_rule [] (take i all) ++ drop i all

half_more : (all : List Entry) (i : ℕ) (e : Entry) → i < length all
    → entries_by_rule [] (take i all) ++ ruled (entries_by_rule [] (take i all)) (get_or all i e) ∷ drop (i + 1) all ≡ half_way all (i + 1)
half_more all i e inside =
    let x : Entry = get_or all i e in
    let done : List Entry = entries_by_rule [] (take i all) in
    let rest : List Entry = drop (i + 1) all in
    ap (λ (p : List Footprint). done ++ record x { before = before_of p (entry_footprint x) } ∷ rest) (prints_same [] (take i all))
    ∙ sym (append_assoc done (record x { before = before_of (map entry_footprint (take i all)) (entry_footprint x) } ∷ []) rest)
    ∙ ap (λ (l : List Entry). l ++ rest) (sym (entries_more [] (take i all) x) ∙ ap (entries_by_rule []) (sym (take_more all i e inside)))

-- the one behind those that have the before set of the rule gets it too, and is noted
pub ruled_next : (all now next : List Entry) (i : ℕ) (e : Entry) (uses : LastUses) → i < length all → now ≡ half_way all i → e ≡ get_or now i e
    → next ≡ set now i (ruled (take i now) e) → IsPastOf uses (map entry_footprint (take i now) ++ entry_footprint e ∷ [])
    → (next ≡ half_way all (i + 1)) × IsPastOf uses (map entry_footprint (take (i + 1) next))
ruled_next all now next i e uses inside is at changed noted = (whole ∙ half_more all i e inside, subst (IsPastOf uses) (sym prints) noted) where
  done : List Entry
  done = entries_by_rule [] (take i all)

  rest : List Entry
  rest = drop (i + 1) all

  x : Entry
  x = get_or all i e

  few : i ≤ length all
  few = omega arith

  count : length done ≡ i
  count = length_ruled [] (take i all) ∙ length-take-le i all few

  shape : now ≡ done ++ x ∷ rest
  shape = is ∙ ap (λ (l : List Entry). done ++ l) (drop_more all i e inside)

  same : e ≡ x
  same = at ∙ ap₂ (λ (l : List Entry) (n : ℕ). get_or l n e) shape (sym count) ∙ item done x rest e

  past : take i now ≡ done
  past = ap₂ (λ (n : ℕ) (l : List Entry). take n l) (sym count) shape ∙ front done (x ∷ rest)

  whole : next ≡ done ++ ruled done x ∷ rest
  whole =
      changed ∙ ap₂ (λ (p : List Entry) (y : Entry). set now i (ruled p y)) past same
      ∙ ap₂ (λ (l : List Entry) (n : ℕ). set l n (ruled done x)) shape (sym count) ∙ put done x (ruled done x) rest

  prints : map entry_footprint (take (i + 1) next) ≡ map entry_footprint (take i now) ++ entry_footprint e ∷ []
  prints =
      ap₂ (λ (n : ℕ) (l : List Entry). map entry_footprint (take n l)) (ap (λ (n : ℕ). n + 1) (sym count) ∙ one) whole
      ∙ ap (map entry_footprint) (front_more done (ruled done x) rest) ∙ map-append entry_footprint done (ruled done x ∷ [])
      ∙ sym (ap₂ (λ (p : List Entry) (y : Entry). map entry_footprint p ++ entry_footprint y ∷ []) past same)
    where
      one : length done + 1 ≡ suc (length done)
      one = omega arith

pub length_half_way : (all : List Entry) (i : ℕ) → length (half_way all i) ≡ length all
length_half_way all i =
    length-append (entries_by_rule [] (take i all)) (drop i all)
    ∙ ap (λ (n : ℕ). n + length (drop i all)) (length_ruled [] (take i all))
    ∙ sym (length-append (take i all) (drop i all)) ∙ ap length (take-append-drop i all)

some_entry : Entry
some_entry = entry_of 0 (EntryKind.Receive (record { 0 = 0 }) 0)

drop_whole : {X : Type 0} (xs : List X) → drop (length xs) xs ≡ []
drop_whole [] = refl
drop_whole (x ∷ xs) = drop_whole xs

written_back : {X : Type 0} (new items : List X) (len : ℕ) → len ≡ length items → length new ≡ length items → take len (new ++ drop (length new) items) ≡ new
written_back {X} new items len is same =
    ap₂ (λ (n m : ℕ). take n (new ++ drop m items)) is same ∙ ap (λ (l : List X). take (length items) (new ++ l)) (drop_whole items)
    ∙ ap₂ (λ (n : ℕ) (l : List X). take n l) (sym same) (append-nil new) ∙ take_all (length new) new (omega arith)

-- a turn of the loop: the entry at a place is changed in the list, whose other entries are written back
pub turned : (all items new : List Entry) (len i : ℕ) (uses : LastUses) → len ≡ length items → i < length all → items ≡ half_way all i
    → ((e : Entry) → e ≡ get_or items i e → new ≡ set items i (ruled (take i items) e))
    → ((e : Entry) → e ≡ get_or items i e → IsPastOf uses (map entry_footprint (take i items) ++ entry_footprint e ∷ []))
    → (take len (new ++ drop (length new) items) ≡ half_way all (i + 1))
    × IsPastOf uses (map entry_footprint (take (i + 1) (take len (new ++ drop (length new) items))))
turned all items new len i uses is inside half changed noted =
    ruled_next all items (take len (new ++ drop (length new) items)) i e uses inside half at (back ∙ next) (noted e at)
  where
    within : i < length items
    within = subst (λ (n : ℕ). i < n) (sym (ap length half ∙ length_half_way all i)) inside

    e : Entry
    e = get_or items i some_entry

    at : e ≡ get_or items i e
    at = get_or_default items i some_entry e within

    next : new ≡ set items i (ruled (take i items) e)
    next = changed e at

    back : take len (new ++ drop (length new) items) ≡ new
    back = written_back new items len is (ap length next ∙ length-set items i (ruled (take i items) e))
