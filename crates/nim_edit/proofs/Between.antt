-- Halves that differ between two numbers alone leave the same, where what is between does, whatever is counted: the last
-- content of a slot, a map of versions.
use Rattle.std.proofs.Common.{◌≡◌, ℕ, ◌+◌, ◌≤◌, ◌<◌, Bool, true, false, List, [], ◌∷◌, ◌++◌, map, refl, ap, ap₂, sym, ◌∙◌, arith}
use Rattle.std.proofs.Common.{Option, None}
use Rattle.std.specs.Prelude.{nat_le, nat_lt, not, if◌then◌else◌}
use Rattle.std.specs.List.{filter, fold}
use Rattle.std.proofs.lemmas.Bool.{le-leb, leb-false, leb-true, ltb-false, ltb-true}
use Rattle.std.proofs.lemmas.List.Sums.{fold-append}
use Rattle.nim_command.specs.declared.entry.Entry.{Entry}
use Rattle.nim_command.specs.declared.entry.EntryKind.{EntryKind}
use Rattle.nim_edit.specs.Cells.{kind_at}
use Rattle.nim_edit.proofs.Cells.{Ascend, bare, filter_ascend, same_bare, without_at}

-- ---- parts of a half

-- what entries leave, one after another, from a state, by what one of a number and a kind leaves
abbrev pub after_entries : {S : Type 0} → (S → ℕ → EntryKind → S) → S → List Entry → S
after_entries {S} step state entries = fold (λ (s : S) (e : Entry). step s e.id e.kind) state entries

after_bare : {S : Type 0} (step : S → ℕ → EntryKind → S) (state : S) (entries : List Entry)
    → after_entries step state (map bare entries) ≡ after_entries step state entries
after_bare step state [] = refl
after_bare step state (entry ∷ entries) = after_bare step (step state entry.id entry.kind) entries

pub after_append : {S : Type 0} (step : S → ℕ → EntryKind → S) (state : S) (xs ys : List Entry)
    → after_entries step state (xs ++ ys) ≡ after_entries step (after_entries step state xs) ys
after_append {S} step state xs ys = fold-append (λ (s : S) (e : Entry). step s e.id e.kind) state xs ys

-- entries that are the same under each number leave the same
pub same_after : {S : Type 0} (step : S → ℕ → EntryKind → S) (state : S) (xs ys : List Entry) → Ascend 0 xs → Ascend 0 ys
    → ((number : ℕ) → kind_at xs number ≡ kind_at ys number) → after_entries step state xs ≡ after_entries step state ys
same_after step state xs ys first second same =
    sym (after_bare step state xs) ∙ ap (after_entries step state) (same_bare 0 xs ys first second same) ∙ after_bare step state ys

-- what is true of a state and stays so behind each entry is true behind them all
pub stays_after : {S : Type 0} (step : S → ℕ → EntryKind → S) (I : S → Type 0)
    → ((state : S) (number : ℕ) (kind : EntryKind) → I state → I (step state number kind)) → (state : S) (entries : List Entry) → I state
    → I (after_entries step state entries)
stays_after step I stays state [] holds = holds
stays_after step I stays state (entry ∷ entries) holds =
    stays_after step I stays (step state entry.id entry.kind) entries (stays state entry.id entry.kind holds)

-- the entries below a number, and those from it on
abbrev pub under : ℕ → List Entry → List Entry
under high entries = filter (λ (e : Entry). not (nat_le high e.id)) entries

abbrev pub onward : ℕ → List Entry → List Entry
onward low entries = filter (λ (e : Entry). not (nat_lt e.id low)) entries

pub none_under_it : (high low : ℕ) (entries : List Entry) → Ascend low entries → high ≤ low → under high entries ≡ []
none_under_it high low [] are above = refl
none_under_it high low (entry ∷ entries) are above =
    ap (λ (b : Bool). if not b then entry ∷ under high entries else under high entries) (le-leb high entry.id (omega (arith, above, are.0)))
    ∙ none_under_it high (entry.id + 1) entries are.1 (omega (arith, above, are.0))

pub all_onward : (low from : ℕ) (entries : List Entry) → Ascend from entries → low ≤ from → onward low entries ≡ entries
all_onward low from [] are above = refl
all_onward low from (entry ∷ entries) are above =
    ap (λ (b : Bool). if not b then entry ∷ onward low entries else onward low entries) (not_less entry.id low (omega (arith, above, are.0)))
    ∙ ap (λ (es : List Entry). entry ∷ es) (all_onward low (entry.id + 1) entries are.1 (omega (arith, above, are.0))) where
      not_less : (a b : ℕ) → b ≤ a → nat_lt a b ≡ false
      not_less a b below = either (nat_lt a b) refl where
        either : (c : Bool) → nat_lt a b ≡ c → nat_lt a b ≡ false
        either true is = absurd (omega (arith, below, ltb-true a b is))
        either false is = is

pub cut_at : (number low : ℕ) (entries : List Entry) → Ascend low entries → entries ≡ under number entries ++ onward number entries
cut_at number low [] are = refl
cut_at number low (entry ∷ entries) are = either (nat_le number entry.id) refl (nat_lt entry.id number) refl (cut_at number (entry.id + 1) entries are.1) where
  either : (b : Bool) → nat_le number entry.id ≡ b → (c : Bool) → nat_lt entry.id number ≡ c → entries ≡ under number entries ++ onward number entries
      → entry ∷ entries ≡ (if not b then entry ∷ under number entries else under number entries)
      ++ (if not c then entry ∷ onward number entries else onward number entries)
  either true le true lt rest = absurd (omega (arith, leb-true number entry.id le, ltb-true entry.id number lt))
  either true le false lt rest =
      let from : number ≤ entry.id + 1 = omega (arith, leb-true number entry.id le) in
      sym (ap₂ (λ (xs ys : List Entry). xs ++ entry ∷ ys) (none_under_it number (entry.id + 1) entries are.1 from)
      (all_onward number (entry.id + 1) entries are.1 from))
  either false le true lt rest = ap (λ (es : List Entry). entry ∷ es) rest
  either false le false lt rest = absurd (omega (arith, leb-false number entry.id le, ltb-false entry.id number lt))

parts_after : {S : Type 0} (step : S → ℕ → EntryKind → S) (state : S) (low high : ℕ) (half : List Entry) → Ascend 0 half
    → after_entries step state half
    ≡ after_entries step (after_entries step (after_entries step state (under low half)) (under high (onward low half))) (onward high (onward low half))
parts_after step state low high half are =
    let later : List Entry = onward low half in
    ap (after_entries step state) (cut_at low 0 half are)
    ∙ after_append step state (under low half) later
    ∙ ap (after_entries step (after_entries step state (under low half)))
    (cut_at high 0 later (filter_ascend (λ (e : Entry). not (nat_lt e.id low)) 0 half are))
    ∙ after_append step (after_entries step state (under low half)) (under high later) (onward high later)

-- ---- halves that differ between two numbers

-- between two numbers a half has just these entries, and they are nowhere else
pub record HasBetween (low high : ℕ) (half those : List Entry) : Type 0 where
  pub ascend : Ascend 0 those
  pub inside : (number : ℕ) → low ≤ number → number < high → kind_at half number ≡ kind_at those number
  pub before : (number : ℕ) → number < low → kind_at those number ≡ None
  pub behind : (number : ℕ) → high ≤ number → kind_at those number ≡ None

pub between_after : {S : Type 0} (step : S → ℕ → EntryKind → S) (state : S) (low high : ℕ) (half those : List Entry) → Ascend 0 half
    → HasBetween low high half those → after_entries step state (under high (onward low half)) ≡ after_entries step state those
between_after step state low high half those are has =
    same_after step state (under high (onward low half)) those
    (filter_ascend (λ (e : Entry). not (nat_le high e.id)) 0 (onward low half) (filter_ascend (λ (e : Entry). not (nat_lt e.id low)) 0 half are)) has.ascend
    (λ number. without_at (nat_le high) (onward low half) number
    ∙ ap (λ (o : Option EntryKind). if nat_le high number then None else o) (without_at (λ (n : ℕ). nat_lt n low) half number)
    ∙ chosen number (nat_le high number) refl (nat_lt number low) refl) where
      chosen : (number : ℕ) (b : Bool) → nat_le high number ≡ b → (c : Bool) → nat_lt number low ≡ c
          → (if b then None else (if c then None else kind_at half number)) ≡ kind_at those number
      chosen number true is c other = sym (has.behind number (leb-true high number is))
      chosen number false is true other = sym (has.before number (ltb-true number low other))
      chosen number false is false other = has.inside number (ltb-false number low other) (leb-false high number is)

-- Where what is between leaves the same, the halves do.
pub middle_after : {S : Type 0} (step : S → ℕ → EntryKind → S) (I : S → Type 0)
    → ((state : S) (number : ℕ) (kind : EntryKind) → I state → I (step state number kind))
    → (low high : ℕ) (first second these those : List Entry) → Ascend 0 first → Ascend 0 second → low ≤ high
    → ((number : ℕ) → number < low → kind_at first number ≡ kind_at second number)
    → ((number : ℕ) → high ≤ number → kind_at first number ≡ kind_at second number)
    → HasBetween low high first these → HasBetween low high second those
    → ((state : S) → I state → after_entries step state these ≡ after_entries step state those)
    → (state : S) → I state → after_entries step state first ≡ after_entries step state second
middle_after {S} step I stays low high first second these those are also order early late has gets same state holds =
    parts_after step state low high first are
    ∙ ap (λ (s : S). after_entries step (after_entries step s (under high (onward low first))) (onward high (onward low first))) front
    ∙ ap (λ (s : S). after_entries step s (onward high (onward low first)))
    (middle (after_entries step state (under low second)) (stays_after step I stays state (under low second) holds))
    ∙ back (after_entries step (after_entries step state (under low second)) (under high (onward low second)))
    ∙ sym (parts_after step state low high second also) where
      front : after_entries step state (under low first) ≡ after_entries step state (under low second)
      front =
          same_after step state (under low first) (under low second) (filter_ascend (λ (e : Entry). not (nat_le low e.id)) 0 first are)
          (filter_ascend (λ (e : Entry). not (nat_le low e.id)) 0 second also)
          (λ number. without_at (nat_le low) first number ∙ chosen number (nat_le low number) refl ∙ sym (without_at (nat_le low) second number)) where
            chosen : (number : ℕ) (b : Bool) → nat_le low number ≡ b
                → (if nat_le low number then None else kind_at first number) ≡ (if nat_le low number then None else kind_at second number)
            chosen number true is =
                ap (λ (b : Bool). if b then None else kind_at first number) is ∙ sym (ap (λ (b : Bool). if b then None else kind_at second number) is)
            chosen number false is = ap (λ (o : Option EntryKind). if nat_le low number then None else o) (early number (leb-false low number is))

      middle : (s : S) → I s → after_entries step s (under high (onward low first)) ≡ after_entries step s (under high (onward low second))
      middle s holds =
          between_after step s low high first these are has ∙ same s holds ∙ sym (between_after step s low high second those also gets)

      back : (s : S) → after_entries step s (onward high (onward low first)) ≡ after_entries step s (onward high (onward low second))
      back s =
          same_after step s (onward high (onward low first)) (onward high (onward low second))
          (filter_ascend (λ (e : Entry). not (nat_lt e.id high)) 0 (onward low first) (filter_ascend (λ (e : Entry). not (nat_lt e.id low)) 0 first are))
          (filter_ascend (λ (e : Entry). not (nat_lt e.id high)) 0 (onward low second) (filter_ascend (λ (e : Entry). not (nat_lt e.id low)) 0 second also))
          (λ number. at first number ∙ chosen number (nat_lt number high) refl ∙ sym (at second number)) where
            at : (half : List Entry) (number : ℕ) → kind_at (onward high (onward low half)) number
                ≡ (if nat_lt number high then None else (if nat_lt number low then None else kind_at half number))
            at half number =
                without_at (λ (n : ℕ). nat_lt n high) (onward low half) number
                ∙ ap (λ (o : Option EntryKind). if nat_lt number high then None else o) (without_at (λ (n : ℕ). nat_lt n low) half number)

            chosen : (number : ℕ) (b : Bool) → nat_lt number high ≡ b
                → (if nat_lt number high then None else (if nat_lt number low then None else kind_at first number))
                ≡ (if nat_lt number high then None else (if nat_lt number low then None else kind_at second number))
            chosen number true is =
                ap (λ (b : Bool). if b then None else (if nat_lt number low then None else kind_at first number)) is
                ∙ sym (ap (λ (b : Bool). if b then None else (if nat_lt number low then None else kind_at second number)) is)
            chosen number false is =
                ap (λ (o : Option EntryKind). if nat_lt number high then None else (if nat_lt number low then None else o))
                (late number (ltb-false number high is))
