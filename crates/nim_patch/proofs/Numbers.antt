-- Which number a patch gets, and that each number is that of one patch.
use Rattle.std.proofs.Common.{◌≡◌, ℕ, zero, suc, ◌+◌, ◌-◌, ◌<◌, ◌≤◌, Bool, true, false, List, [], ◌∷◌, length, take, refl, ap, sym, subst, ◌∙◌, arith, take_all, eq-eqb, inl, inr}
use Rattle.std.specs.Prelude.{◌==◌, nat_lt, if◌then◌else◌, Option, None, Some, slice_get, unwrap_or}
use Rattle.std.specs.Map.{lookup, lookup_entry, remove_entry}
use Rattle.std.specs.Option.{option_map_or}
use Rattle.std.proofs.lemmas.Bool.{cases_eq, cases_lt, cond-false, cond-true, le-ltb, lt-ltb}
use Rattle.std.proofs.lemmas.Bool.Decides.{nat_tests}
use Rattle.std.proofs.lemmas.List.{length-take-le}
use Rattle.nim_patch.specs.declared.kept.Key.{Key}
use Rattle.nim_patch.specs.declared.kept.Kept.{Kept}
use Rattle.nim_patch.specs.declared.patch.PatchCopy.{PatchCopy}
use Rattle.nim_patch.specs.Cache.{AreNumbered, IsValid, after_use, free_from, least_free, number_for, oldest_number, times_kept}
use Rattle.nim_patch.specs.Uses.{Use, same_key, use_of}
use Rattle.nim_patch.proofs.Entries.{IsFound, IsMissing, find_entry, miss_entry}
use Rattle.nim_patch.proofs.Using.{kept_again, kept_new}

-- whether a use has a number, as 1 or 0
abbrev has : ℕ → Use → ℕ
has number first = if first.1.number == number then 1 else 0

-- a number below the length is that of one patch, and no other is
taken : (kept : List Use) → AreNumbered kept → (number : ℕ) → number < length kept → times_kept number kept ≡ 1
taken kept numbered number below = numbered number ∙ cond-true (nat_lt number (length kept)) 1 0 (lt-ltb number (length kept) below)

free : (kept : List Use) → AreNumbered kept → (number : ℕ) → length kept ≤ number → times_kept number kept ≡ 0
free kept numbered number above = numbered number ∙ cond-false (nat_lt number (length kept)) 1 0 (le-ltb number (length kept) above)

-- the first free number is the length
free_at : (kept : List Use) → AreNumbered kept → (from more : ℕ) → from ≤ length kept → length kept < from + more → free_from kept from more
    ≡ Some (length kept)
free_at kept numbered from zero low high = absurd (omega arith)
free_at kept numbered from (suc more) low high = elim (cases_eq from (length kept)) [
  | inl same ↦ ap (λ (n : ℕ). if n == 0 then Some from else free_from kept (from + 1) more) (free kept numbered from (omega arith))
      ∙ ap (λ (n : ℕ). Some n) same
  | inr apart ↦ ap (λ (n : ℕ). if n == 0 then Some from else free_from kept (from + 1) more) (taken kept numbered from (omega arith))
      ∙ free_at kept numbered (from + 1) more (omega arith) (omega arith)
]

-- and where the length is as great, there is none
none_free : (kept : List Use) → AreNumbered kept → (from more : ℕ) → from + more ≤ length kept → free_from kept from more ≡ None
none_free kept numbered from zero high = refl
none_free kept numbered from (suc more) high =
    ap (λ (n : ℕ). if n == 0 then Some from else free_from kept (from + 1) more) (taken kept numbered from (omega arith))
    ∙ none_free kept numbered (from + 1) more (omega arith)

pub least_is_length : (kept : List Use) → AreNumbered kept → length kept < 64 → least_free kept ≡ Some (length kept)
unfolding least_free
least_is_length kept numbered few = free_at kept numbered 0 64 (omega arith) (omega arith)

pub none_is_free : (kept : List Use) → AreNumbered kept → 64 ≤ length kept → least_free kept ≡ None
unfolding least_free
none_is_free kept numbered many = none_free kept numbered 0 64 (omega arith)

-- a number that some patch has is below the length
taken_below : (kept : List Use) → AreNumbered kept → (number : ℕ) → 1 ≤ times_kept number kept → number < length kept
taken_below kept numbered number some = elim (cases_lt number (length kept)) [
  | inl below ↦ below
  | inr above ↦ absurd (let none = free kept numbered number above in omega arith)
]

-- without a pair
times_found : (number : ℕ) (key : Key) (kept : List Use) (e : Use) → lookup_entry (same_key key) kept ≡ Some e
    → times_kept number kept ≡ has number e + times_kept number (remove_entry (same_key key) kept)
times_found number key [] e is = cc
times_found number key (first ∷ kept) e is = by (same_key key first.0) is (times_found number key kept e) where
  by : (b : Bool) → (if b then Some first else lookup_entry (same_key key) kept) ≡ Some e
      → (lookup_entry (same_key key) kept ≡ Some e → times_kept number kept ≡ has number e + times_kept number (remove_entry (same_key key) kept))
      → has number first + times_kept number kept ≡ has number e + times_kept number (if b then kept else first ∷ remove_entry (same_key key) kept)
  by true is rest = let same : first ≡ e = cc in ap (λ (u : Use). has number u + times_kept number kept) same
  by false is rest = let on = rest is in omega arith

-- without the last
times_cut : (number n : ℕ) (kept : List Use) (e : Use) → length kept ≡ suc n → slice_get kept n ≡ Some e → times_kept number kept
    ≡ has number e + times_kept number (take n kept)
times_cut number n [] e long is = absurd (omega arith)
times_cut number zero (first ∷ []) e long is = let same : first ≡ e = cc in ap (λ (u : Use). has number u + 0) same
times_cut number zero (first ∷ other ∷ kept) e long is = absurd (omega arith)
times_cut number (suc n) (first ∷ kept) e long is = let on = times_cut number n kept e (omega arith) is in omega arith

-- the one that was used longest ago
last_there : (kept : List Use) (n : ℕ) → length kept ≡ suc n → (e : Use) × (slice_get kept n ≡ Some e)
last_there [] n long = absurd (omega arith)
last_there (first ∷ kept) zero long = (first, refl)
last_there (first ∷ kept) (suc n) long = last_there kept n (omega arith)

-- one that is found has its number
has_own : (first : Use) → has first.1.number first ≡ 1
has_own first = ap (λ (b : Bool). if b then 1 else 0) (eq-eqb first.1.number first.1.number refl)

-- the number of the last of 64
oldest_is : (kept : List Use) (e : Use) → length kept ≡ 64 → slice_get kept 63 ≡ Some e → oldest_number kept ≡ e.1.number
oldest_is kept e long is =
    ap (λ (n : ℕ). option_map_or (λ (u : Use). u.1.number) (slice_get kept (n - 1)) 0) long
    ∙ ap (λ (o : Option Use). option_map_or (λ (u : Use). u.1.number) o 0) is

-- what is kept after a keeping has numbers as before
same_numbers : (before after : List Use) → length after ≡ length before → ((number : ℕ) → times_kept number after ≡ times_kept number before)
    → AreNumbered before
    → AreNumbered after
same_numbers before after long same numbered number =
    same number ∙ numbered number ∙ ap (λ (n : ℕ). if nat_lt number n then 1 else 0) (sym long)

-- the number that a key gets, where it is kept
pub number_again : (key : Key) (k : Kept) (kept : List Use) → lookup (same_key key) kept ≡ Some k → number_for key kept ≡ k.number
number_again key k kept is =
    ap (λ (o : Option Kept). option_map_or (λ (k : Kept). k.number) o (unwrap_or (least_free kept) (oldest_number kept))) is

-- and where it isn't
pub number_new : (key : Key) (kept : List Use) → lookup (same_key key) kept ≡ None → number_for key kept ≡ unwrap_or (least_free kept) (oldest_number kept)
number_new key kept is =
    ap (λ (o : Option Kept). option_map_or (λ (k : Kept). k.number) o (unwrap_or (least_free kept) (oldest_number kept))) is

-- a number that is kept is below 64
pub kept_below : (key : Key) (k : Kept) (kept : List Use) → IsValid kept → lookup (same_key key) kept ≡ Some k → k.number < 64
kept_below key k kept valid is =
    let there = find_entry (same_key key) kept k is in
    let count = times_found k.number key kept (there.0, k) there.1.entry in
    let own = has_own (there.0, k) in
    let below = taken_below kept valid.numbered k.number (omega arith) in
    let few = valid.few in
    omega arith

-- a number that is free, or that of the patch that was used longest ago, is below 64
pub free_below : (kept : List Use) → IsValid kept → unwrap_or (least_free kept) (oldest_number kept) < 64
free_below kept valid = elim (cases_lt (length kept) 64) [
  | inl few ↦ subst (λ (o : Option ℕ). unwrap_or o (oldest_number kept) < 64) (sym (least_is_length kept valid.numbered few)) few
  | inr many ↦
      let full : length kept ≡ 64 = let few = valid.few in omega arith in
      let last = last_there kept 63 full in
      let count = times_cut last.0.1.number 63 kept last.0 full last.1 in
      let own = has_own last.0 in
      let below = taken_below kept valid.numbered last.0.1.number (omega arith) in
      let oldest : oldest_number kept < 64 = let same = oldest_is kept last.0 full last.1 in omega arith in
      subst (λ (o : Option ℕ). unwrap_or o (oldest_number kept) < 64) (sym (none_is_free kept valid.numbered many)) oldest
]

-- one more patch has the first free number
one_more : (key : Key) (copies : List PatchCopy) (kept : List Use) → AreNumbered kept → AreNumbered (use_of key (length kept) copies ∷ kept)
one_more key copies kept numbered number =
    ap (λ (n : ℕ). (if length kept == number then 1 else 0) + n) (numbered number) ∙ count number (length kept)
  where
    count : (n m : ℕ) → (if m == n then 1 else 0) + (if nat_lt n m then 1 else 0) ≡ (if nat_lt n (suc m) then 1 else 0)
    count n m = grind (arith, nat_tests)

-- a cache stays valid when a patch is kept under its number again
pub valid_again : (key : Key) (copies : List PatchCopy) (kept : List Use) (e : Use) → IsValid kept → IsFound (same_key key) kept e
    → IsValid (after_use (use_of key e.1.number copies) kept)
valid_again key copies kept e valid is =
    let few = valid.few in
    let new : List Use = use_of key e.1.number copies ∷ remove_entry (same_key key) kept in
    let long : length new ≡ length kept = let left = is.left in omega arith in
    subst IsValid (sym (kept_again key (use_of key e.1.number copies).1 kept few e is)) (record {
      few = omega arith;
      numbered = same_numbers kept new long (λ number. sym (times_found number key kept e is.entry)) valid.numbered;
    })

-- under the first free number
valid_more : (key : Key) (copies : List PatchCopy) (kept : List Use) → IsValid kept → length kept < 64 → IsMissing (same_key key) kept
    → IsValid (after_use (use_of key (length kept) copies) kept)
valid_more key copies kept valid few is =
    let all = ap (λ (l : List Use). use_of key (length kept) copies ∷ l) (take_all 63 kept (omega arith)) in
    subst IsValid (sym (kept_new key (use_of key (length kept) copies).1 kept is ∙ all)) (record {
      few = omega arith;
      numbered = one_more key copies kept valid.numbered;
    })

-- and under that of the patch that was used longest ago
valid_full : (key : Key) (copies : List PatchCopy) (kept : List Use) (last : Use) → IsValid kept → length kept ≡ 64 → slice_get kept 63 ≡ Some last
    → IsMissing (same_key key) kept → IsValid (after_use (use_of key last.1.number copies) kept)
valid_full key copies kept last valid full there is =
    let new : List Use = use_of key last.1.number copies ∷ take 63 kept in
    let long : length new ≡ length kept = let cut = length-take-le 63 kept (omega arith) in omega arith in
    subst IsValid (sym (kept_new key (use_of key last.1.number copies).1 kept is)) (record {
      few = omega arith;
      numbered = same_numbers kept new long (λ number. sym (times_cut number 63 kept last full there)) valid.numbered;
    })

-- under whichever number it gets
pub valid_used : (key : Key) (copies : List PatchCopy) (kept : List Use) → IsValid kept → IsValid (after_use (use_of key (number_for key kept) copies) kept)
valid_used key copies kept valid = by (lookup (same_key key) kept) refl where
  under : (number : ℕ) → number_for key kept ≡ number → IsValid (after_use (use_of key number copies) kept)
      → IsValid (after_use (use_of key (number_for key kept) copies) kept)
  under number is = subst (λ (n : ℕ). IsValid (after_use (use_of key n copies) kept)) (sym is)

  new : lookup (same_key key) kept ≡ None → (o : Option ℕ) → least_free kept ≡ o → number_for key kept ≡ unwrap_or o (oldest_number kept)
  new is o free = number_new key kept is ∙ ap (λ (p : Option ℕ). unwrap_or p (oldest_number kept)) free

  by : (o : Option Kept) → lookup (same_key key) kept ≡ o → IsValid (after_use (use_of key (number_for key kept) copies) kept)
  by (Some k) is =
      let there = find_entry (same_key key) kept k is in
      under k.number (number_again key k kept is) (valid_again key copies kept (there.0, k) valid there.1)
  by None is =
      let missing = miss_entry (same_key key) kept is in
      elim (cases_lt (length kept) 64) [
        | inl few ↦ under (length kept) (new is (Some (length kept)) (least_is_length kept valid.numbered few)) (valid_more key copies kept valid few missing)
        | inr many ↦
            let full : length kept ≡ 64 = let few = valid.few in omega arith in
            let last = last_there kept 63 full in
            under last.0.1.number (new is None (none_is_free kept valid.numbered many) ∙ oldest_is kept last.0 full last.1)
            (valid_full key copies kept last.0 valid full last.1 missing)
      ]
