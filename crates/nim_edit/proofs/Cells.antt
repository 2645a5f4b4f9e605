-- Halves that ascend by number, and have the before sets of the rule, are equal where they have the same under each
-- number. And what they have there once entries are put in.
use Rattle.std.proofs.Common.{◌≡◌, ℕ, ◌+◌, ◌≤◌, ◌<◌, Bool, true, false, List, [], ◌∷◌, ◌++◌, map, take, drop, refl, ap, ap₂, sym, subst, ◌∙◌, arith}
use Rattle.std.proofs.Common.{Option, None, Some, inl, inr}
use Rattle.std.specs.Prelude.{◌==◌, nat_le, not, if◌then◌else◌}
use Rattle.std.specs.List.{filter, fold, insert}
use Rattle.std.specs.Option.{is_some}
use Rattle.std.proofs.lemmas.Bool.{cases_order, eq-eqb, eqb-true, false≢true, leb-false, leb-true, ne_eqb}
use Rattle.std.proofs.Math.Numerals.{add-one}
use Rattle.nim_command.specs.declared.entry.Entry.{Entry}
use Rattle.nim_command.specs.declared.entry.EntryKind.{EntryKind}
use Rattle.nim_command.specs.Before.{Footprint, before_of}
use Rattle.nim_command.specs.Edits.{entry_of, place_for, with_entry}
use Rattle.nim_command.specs.Ruled.{entries_by_rule, entry_footprint}
use Rattle.nim_place.proofs.Places.{both_true}
use Rattle.nim_template.specs.Ascends.{does_ascend}
use Rattle.nim_edit.specs.Cells.{kind_at}
use Rattle.nim_base.proofs.Lists.{some_none, some_same}

-- ---- numbers that ascend

-- numbers ascend, each greater than the one before, from a number on
abbrev pub Ascend : ℕ → List Entry → Type 0
Ascend low [] = Unit {0}
Ascend low (entry ∷ entries) = (low ≤ entry.id) × Ascend (entry.id + 1) entries

pub ascend_from : (low : ℕ) (entries : List Entry) → does_ascend low entries ≡ true → Ascend low entries
ascend_from low [] is = tt
ascend_from low (entry ∷ entries) is =
    let both = both_true (nat_le low entry.id) (does_ascend (entry.id + 1) entries) is in
    (leb-true low entry.id both.0, ascend_from (entry.id + 1) entries both.1)

pub ascend_lower : (less low : ℕ) (entries : List Entry) → less ≤ low → Ascend low entries → Ascend less entries
ascend_lower less low [] below are = tt
ascend_lower less low (entry ∷ entries) below are = (omega (arith, below, are.0), are.1)

-- nothing has a number below all
pub none_below : (low number : ℕ) (entries : List Entry) → Ascend low entries → number < low → kind_at entries number ≡ None
none_below low number [] are less = refl
none_below low number (entry ∷ entries) are less =
    ap (λ (b : Bool). if b then Some entry.kind else kind_at entries number) (ne_eqb entry.id number (λ same. absurd (omega (arith, same, less, are.0))))
    ∙ none_below (entry.id + 1) number entries are.1 (omega (arith, less, are.0))

-- the first entry's number
pub at_first : (entry : Entry) (entries : List Entry) (number : ℕ) → entry.id ≡ number → kind_at (entry ∷ entries) number ≡ Some entry.kind
at_first entry entries number same =
    ap (λ (b : Bool). if b then Some entry.kind else kind_at entries number) (eq-eqb entry.id number same)

-- any other
pub at_rest : (entry : Entry) (entries : List Entry) (number : ℕ) → (entry.id ≡ number → ⊥) → kind_at (entry ∷ entries) number ≡ kind_at entries number
at_rest entry entries number apart =
    ap (λ (b : Bool). if b then Some entry.kind else kind_at entries number) (ne_eqb entry.id number apart)

-- ---- before sets

-- an entry without its before set
abbrev pub bare : Entry → Entry
bare entry = entry_of entry.id entry.kind

pub ruled_bare : (past : List Footprint) (entries : List Entry) → entries_by_rule past (map bare entries) ≡ entries_by_rule past entries
ruled_bare past [] = refl
ruled_bare past (entry ∷ entries) =
    ap (λ (rest : List Entry). record entry { before = before_of past (entry_footprint entry) } ∷ rest)
    (ruled_bare (past ++ entry_footprint entry ∷ []) entries)

pub ruled_again : (past : List Footprint) (entries : List Entry) → entries_by_rule past (entries_by_rule past entries) ≡ entries_by_rule past entries
ruled_again past [] = refl
ruled_again past (entry ∷ entries) =
    ap (λ (rest : List Entry). record entry { before = before_of past (entry_footprint entry) } ∷ rest)
    (ruled_again (past ++ entry_footprint entry ∷ []) entries)

pub ruled_at : (past : List Footprint) (entries : List Entry) (number : ℕ) → kind_at (entries_by_rule past entries) number ≡ kind_at entries number
ruled_at past [] number = refl
ruled_at past (entry ∷ entries) number =
    ap (λ (rest : Option EntryKind). if entry.id == number then Some entry.kind else rest) (ruled_at (past ++ entry_footprint entry ∷ []) entries number)

pub ruled_ascend : (low : ℕ) (past : List Footprint) (entries : List Entry) → Ascend low entries → Ascend low (entries_by_rule past entries)
ruled_ascend low past [] are = tt
ruled_ascend low past (entry ∷ entries) are = (are.0, ruled_ascend (entry.id + 1) (past ++ entry_footprint entry ∷ []) entries are.1)

-- ---- equal halves

pub same_bare : (low : ℕ) (xs ys : List Entry) → Ascend low xs → Ascend low ys → ((number : ℕ) → kind_at xs number ≡ kind_at ys number)
    → map bare xs ≡ map bare ys
same_bare low [] [] first second same = refl
same_bare low [] (y ∷ ys) first second same = absurd (some_none y.kind (sym (at_first y ys y.id refl) ∙ sym (same y.id)))
same_bare low (x ∷ xs) [] first second same = absurd (some_none x.kind (sym (at_first x xs x.id refl) ∙ same x.id))
same_bare low (x ∷ xs) (y ∷ ys) first second same =
    elim (cases_order x.id y.id) [
      | inl equal ↦ next equal (same_bare (x.id + 1) xs ys first.1 (subst (λ (n : ℕ). Ascend (n + 1) ys) (sym equal) second.1) (rest equal))
      | inr other ↦ elim other [
        | inl less ↦ absurd (some_none x.kind (sym (at_first x xs x.id refl) ∙ same x.id
            ∙ none_below y.id x.id (y ∷ ys) (omega arith, second.1) less))
        | inr more ↦ absurd (some_none y.kind (sym (at_first y ys y.id refl) ∙ sym (same y.id)
            ∙ none_below x.id y.id (x ∷ xs) (omega arith, first.1) more))
      ]
    ] where
      rest : x.id ≡ y.id → (number : ℕ) → kind_at xs number ≡ kind_at ys number
      rest equal number =
          elim (cases_order x.id number) [
            | inl here ↦ none_below (x.id + 1) number xs first.1 (omega (arith, here))
                ∙ sym (none_below (y.id + 1) number ys second.1 (omega (arith, here, equal)))
            | inr other ↦ elim other [
              | inl less ↦ sym (at_rest x xs number (λ is. absurd (omega (arith, is, less)))) ∙ same number
                  ∙ at_rest y ys number (λ is. absurd (omega (arith, is, less, equal)))
              | inr more ↦ sym (at_rest x xs number (λ is. absurd (omega (arith, is, more)))) ∙ same number
                  ∙ at_rest y ys number (λ is. absurd (omega (arith, is, more, equal)))
            ]
          ]

      next : x.id ≡ y.id → map bare xs ≡ map bare ys → map bare (x ∷ xs) ≡ map bare (y ∷ ys)
      next equal tails =
          let kinds : x.kind ≡ y.kind =
          some_same x.kind y.kind (sym (at_first x xs x.id refl) ∙ same x.id ∙ at_first y ys x.id (sym equal)) in
          let heads : bare x ≡ bare y = ap₂ (λ (id : ℕ) (kind : EntryKind). entry_of id kind) equal kinds in
          ap₂ (λ (e : Entry) (es : List Entry). e ∷ es) heads tails

pub same_half : (xs ys : List Entry) → Ascend 0 xs → Ascend 0 ys → entries_by_rule [] xs ≡ xs → entries_by_rule [] ys ≡ ys
    → ((number : ℕ) → kind_at xs number ≡ kind_at ys number) → xs ≡ ys
same_half xs ys first second ruled also same =
    sym ruled ∙ sym (ruled_bare [] xs) ∙ ap (entries_by_rule []) (same_bare 0 xs ys first second same) ∙ ruled_bare [] ys ∙ also

-- ---- entries that are kept

-- what is left of a half without some of its numbers
pub without_at : (q : ℕ → Bool) (entries : List Entry) (number : ℕ)
    → kind_at (filter (λ (e : Entry). not (q e.id)) entries) number ≡ (if q number then None else kind_at entries number)
without_at q [] number = either (q number) where
  either : (b : Bool) → None ≡ (if b then None else kind_at [] number)
  either true = refl
  either false = refl
without_at q (entry ∷ entries) number =
    elim (cases_order entry.id number) [
      | inl here ↦ first here (q entry.id) refl (without_at q entries number)
      | inr other ↦ later (λ same. elim other [ inl less ↦ absurd (omega (arith, same, less)) | inr more ↦ absurd (omega (arith, same, more)) ])
          (q entry.id) refl (without_at q entries number)
    ] where
      first : entry.id ≡ number → (b : Bool) → q entry.id ≡ b
          → kind_at (filter (λ (e : Entry). not (q e.id)) entries) number ≡ (if q number then None else kind_at entries number)
          → kind_at (if not (q entry.id) then entry ∷ filter (λ (e : Entry). not (q e.id)) entries else filter (λ (e : Entry). not (q e.id)) entries) number
          ≡ (if q number then None else kind_at (entry ∷ entries) number)
      first here true is rest =
          let there : q number ≡ true = sym (ap q here) ∙ is in
          ap (λ (b : Bool). kind_at (if not b then entry ∷ filter (λ (e : Entry). not (q e.id)) entries else filter (λ (e : Entry). not (q e.id)) entries)
          number) is
          ∙ rest
          ∙ ap (λ (b : Bool). if b then None else kind_at entries number) there
          ∙ sym (ap (λ (b : Bool). if b then None else kind_at (entry ∷ entries) number) there)
      first here false is rest =
          let there : q number ≡ false = sym (ap q here) ∙ is in
          ap (λ (b : Bool). kind_at (if not b then entry ∷ filter (λ (e : Entry). not (q e.id)) entries else filter (λ (e : Entry). not (q e.id)) entries)
          number) is
          ∙ at_first entry (filter (λ (e : Entry). not (q e.id)) entries) number here
          ∙ sym (at_first entry entries number here)
          ∙ sym (ap (λ (b : Bool). if b then None else kind_at (entry ∷ entries) number) there)

      later : (entry.id ≡ number → ⊥) → (b : Bool) → q entry.id ≡ b
          → kind_at (filter (λ (e : Entry). not (q e.id)) entries) number ≡ (if q number then None else kind_at entries number)
          → kind_at (if not (q entry.id) then entry ∷ filter (λ (e : Entry). not (q e.id)) entries else filter (λ (e : Entry). not (q e.id)) entries) number
          ≡ (if q number then None else kind_at (entry ∷ entries) number)
      later apart true is rest =
          ap (λ (b : Bool). kind_at (if not b then entry ∷ filter (λ (e : Entry). not (q e.id)) entries else filter (λ (e : Entry). not (q e.id)) entries)
          number) is
          ∙ rest
          ∙ ap (λ (o : Option EntryKind). if q number then None else o) (sym (at_rest entry entries number apart))
      later apart false is rest =
          ap (λ (b : Bool). kind_at (if not b then entry ∷ filter (λ (e : Entry). not (q e.id)) entries else filter (λ (e : Entry). not (q e.id)) entries)
          number) is
          ∙ at_rest entry (filter (λ (e : Entry). not (q e.id)) entries) number apart
          ∙ rest
          ∙ ap (λ (o : Option EntryKind). if q number then None else o) (sym (at_rest entry entries number apart))

pub filter_ascend : (p : Entry → Bool) (low : ℕ) (entries : List Entry) → Ascend low entries → Ascend low (filter p entries)
filter_ascend p low [] are = tt
filter_ascend p low (entry ∷ entries) are = either (p entry) (filter_ascend p (entry.id + 1) entries are.1) where
  either : (b : Bool) → Ascend (entry.id + 1) (filter p entries) → Ascend low (if b then entry ∷ filter p entries else filter p entries)
  either true rest = (are.0, rest)
  either false rest = ascend_lower low (entry.id + 1) (filter p entries) (omega (arith, are.0)) rest

-- ---- entries that are put in

-- an entry goes before the first of a greater number
put_first : (first : Entry) (rest : List Entry) (entry : Entry)
    → with_entry (first ∷ rest) entry ≡ (if nat_le first.id entry.id then first ∷ with_entry rest entry else entry ∷ first ∷ rest)
put_first first rest entry = either (nat_le first.id entry.id) where
  either : (b : Bool)
      → insert (first ∷ rest) (if b then place_for rest entry.id + 1 else 0) entry ≡ (if b then first ∷ with_entry rest entry else entry ∷ first ∷ rest)
  either true = ap (λ (place : ℕ). take place (first ∷ rest) ++ entry ∷ drop place (first ∷ rest)) (add-one (place_for rest entry.id))
  either false = refl

pub put_ascend : (low : ℕ) (entries : List Entry) (entry : Entry) → Ascend low entries → low ≤ entry.id → kind_at entries entry.id ≡ None
    → Ascend low (with_entry entries entry)
put_ascend low [] entry are above none = (above, tt)
put_ascend low (first ∷ rest) entry are above none =
    subst (Ascend low) (sym (put_first first rest entry))
    (either (nat_le first.id entry.id) refl (λ less. put_ascend (first.id + 1) rest entry are.1 less (sym (at_rest first rest entry.id apart) ∙ none))) where
      apart : first.id ≡ entry.id → ⊥
      apart same = some_none first.kind (sym (at_first first rest entry.id same) ∙ none)

      either : (b : Bool) → nat_le first.id entry.id ≡ b → (first.id + 1 ≤ entry.id → Ascend (first.id + 1) (with_entry rest entry))
          → Ascend low (if b then first ∷ with_entry rest entry else entry ∷ first ∷ rest)
      either true is behind =
          let below : first.id ≤ entry.id = leb-true first.id entry.id is in
          let less : first.id + 1 ≤ entry.id = elim (cases_order first.id entry.id) [
            | inl same ↦ absurd (apart same)
            | inr other ↦ elim other [ inl l ↦ omega (arith, l) | inr m ↦ absurd (omega (arith, m, below)) ]
          ] in
          (are.0, behind less)
      either false is behind =
          let more : entry.id < first.id = leb-false first.id entry.id is in
          (above, (omega (arith, more), are.1))

pub put_at : (entries : List Entry) (entry : Entry) (number : ℕ) → kind_at entries entry.id ≡ None
    → kind_at (with_entry entries entry) number ≡ (if entry.id == number then Some entry.kind else kind_at entries number)
put_at [] entry number none = refl
put_at (first ∷ rest) entry number none =
    ap (λ (es : List Entry). kind_at es number) (put_first first rest entry)
    ∙ either (nat_le first.id entry.id) (put_at rest entry number (sym (at_rest first rest entry.id apart) ∙ none)) where
      apart : first.id ≡ entry.id → ⊥
      apart same = some_none first.kind (sym (at_first first rest entry.id same) ∙ none)

      swap : (b c : Bool) (o : Option EntryKind) → (b ≡ true → c ≡ true → ⊥)
          → (if b then Some first.kind else (if c then Some entry.kind else o)) ≡ (if c then Some entry.kind else (if b then Some first.kind else o))
      swap true true o both = absurd (both refl refl)
      swap true false o both = refl
      swap false true o both = refl
      swap false false o both = refl

      either : (b : Bool) → kind_at (with_entry rest entry) number ≡ (if entry.id == number then Some entry.kind else kind_at rest number)
          → kind_at (if b then first ∷ with_entry rest entry else entry ∷ first ∷ rest) number
          ≡ (if entry.id == number then Some entry.kind else kind_at (first ∷ rest) number)
      either true behind =
          ap (λ (o : Option EntryKind). if first.id == number then Some first.kind else o) behind
          ∙ swap (first.id == number) (entry.id == number) (kind_at rest number)
          (λ one other. apart (eqb-true first.id number one ∙ sym (eqb-true entry.id number other)))
      either false behind = refl

-- the first that there is
abbrev pub over : Option EntryKind → Option EntryKind → Option EntryKind
over None under = under
over (Some kind) under = Some kind

-- Entries whose numbers ascend, none of them there yet, are put in.
pub record ArePut (before puts after : List Entry) : Type 0 where
  pub ascend : Ascend 0 after
  pub at : (number : ℕ) → kind_at after number ≡ over (kind_at puts number) (kind_at before number)

pub all_put : (low : ℕ) (before puts : List Entry) → Ascend 0 before → Ascend low puts
    → ((number : ℕ) → is_some (kind_at puts number) ≡ true → kind_at before number ≡ None)
    → ArePut before puts (fold with_entry before puts)
all_put low before [] are puts new = record { ascend = are; at = λ number. refl }
all_put low before (entry ∷ puts) are ascend new =
    joined (all_put (entry.id + 1) (with_entry before entry) puts (put_ascend 0 before entry are (omega arith) none) ascend.1
    (λ number some. put_at before entry number none
    ∙ ap (λ (b : Bool). if b then Some entry.kind else kind_at before number) (ne_eqb entry.id number (apart number some))
    ∙ new number (ap (λ (o : Option EntryKind). is_some o) (at_rest entry puts number (apart number some)) ∙ some))) where
      none : kind_at before entry.id ≡ None
      none = new entry.id (ap (λ (o : Option EntryKind). is_some o) (at_first entry puts entry.id refl))

      apart : (number : ℕ) → is_some (kind_at puts number) ≡ true → entry.id ≡ number → ⊥
      apart number some same =
          false≢true (sym (ap (λ (o : Option EntryKind). is_some o) (none_below (entry.id + 1) number puts ascend.1 (omega (arith, same)))) ∙ some)

      either : (number : ℕ) (b : Bool) → (entry.id == number) ≡ b
          → over (kind_at puts number) (if entry.id == number then Some entry.kind else kind_at before number)
          ≡ over (kind_at (entry ∷ puts) number) (kind_at before number)
      either number true is =
          let same : entry.id ≡ number = eqb-true entry.id number is in
          ap₂ over (none_below (entry.id + 1) number puts ascend.1 (omega (arith, same)))
          (ap (λ (b : Bool). if b then Some entry.kind else kind_at before number) is)
          ∙ sym (ap (λ (o : Option EntryKind). over o (kind_at before number)) (at_first entry puts number same))
      either number false is =
          ap (λ (b : Bool). over (kind_at puts number) (if b then Some entry.kind else kind_at before number)) is
          ∙ sym (ap (λ (b : Bool). over (if b then Some entry.kind else kind_at puts number) (kind_at before number)) is)

      joined : ArePut (with_entry before entry) puts (fold with_entry (with_entry before entry) puts)
          → ArePut before (entry ∷ puts) (fold with_entry (with_entry before entry) puts)
      joined rest = record {
        ascend = rest.ascend;
        at = λ number. rest.at number ∙ ap (over (kind_at puts number)) (put_at before entry number none) ∙ either number (entry.id == number) refl;
      }
