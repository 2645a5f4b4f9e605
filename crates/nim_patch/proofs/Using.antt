-- What the kit's cache does is a use.
use Rattle.std.proofs.Common.{◌≡◌, ℕ, ◌-◌, ◌≤◌, Bool, true, false, List, ◌∷◌, length, take, refl, ap, sym, subst, ◌∙◌, arith, take_all}
use Rattle.std.specs.Prelude.{if◌then◌else◌, Option, None, Some}
use Rattle.std.specs.Map.{lookup, lookup_entry, remove_entry}
use Rattle.std.specs.Option.{option_map_or}
use Rattle.lru.specs.LruCache.{LruCache, promoted, put_entries}
use Rattle.nim_patch.specs.declared.kept.Key.{Key}
use Rattle.nim_patch.specs.declared.kept.Kept.{Kept}
use Rattle.nim_patch.specs.declared.patch.PatchCopy.{PatchCopy}
use Rattle.nim_patch.specs.Cache.{after_find, after_use, patch_number_kept, number_if_equal}
use Rattle.nim_patch.specs.Uses.{Use, same_copies, same_key, use_of}
use Rattle.nim_patch.proofs.Entries.{IsFound, IsMissing, find_entry, miss_entry}
use Rattle.nim_patch.proofs.Tests.{copies_equal, key_equal}

-- where a key is kept, nothing is dropped
pub kept_again : (key : Key) (value : Kept) (kept : List Use) → length kept ≤ 64 → (e : Use) → IsFound (same_key key) kept e
    → after_use (key, value) kept ≡ (key, value) ∷ remove_entry (same_key key) kept
kept_again key value kept few e is = ap (λ (l : List Use). (key, value) ∷ l) (take_all 63 (remove_entry (same_key key) kept) (omega (arith, is.left)))

-- a new key goes before the 63 that were used last
pub kept_new : (key : Key) (value : Kept) (kept : List Use) → IsMissing (same_key key) kept → after_use (key, value) kept ≡ (key, value) ∷ take 63 kept
kept_new key value kept is = ap (λ (l : List Use). (key, value) ∷ take 63 l) is.left

-- a patch that is found is kept with these copies
pub found_kept : (key : Key) (copies : List PatchCopy) (number : ℕ) (kept : List Use) → patch_number_kept key copies kept ≡ Some number
    → IsFound (same_key key) kept (use_of key number copies)
found_kept key copies number kept is = by (lookup (same_key key) kept) refl is where
  equal : (k : Kept) → lookup (same_key key) kept ≡ Some k → (b : Bool) → same_copies k.patch.copies copies ≡ b → (if b then Some k.number else None)
      ≡ Some number
      → IsFound (same_key key) kept (use_of key number copies)
  equal k there true same e =
      let on = find_entry (same_key key) kept k there in
      let keys : on.0 ≡ key = sym (key_equal key on.0 on.1.passes) in
      let numbers : k.number ≡ number = cc in
      let all = copies_equal k.patch.copies copies same in
      let uses : (on.0, k) ≡ use_of key number copies = λ i. (keys i, record { number = numbers i; patch = record { copies = all i } }) in
      subst (IsFound (same_key key) kept) uses on.1
  equal k there false same e = cc

  by : (o : Option Kept) → lookup (same_key key) kept ≡ o → option_map_or (number_if_equal copies) o None ≡ Some number
      → IsFound (same_key key) kept (use_of key number copies)
  by None there e = cc
  by (Some k) there e = equal k there (same_copies k.patch.copies copies) refl e

-- finding moves the use to the front
pub promoted_found : (key : Key) (copies : List PatchCopy) (number : ℕ) (kept : List Use) → length kept ≤ 64 → patch_number_kept key copies kept ≡ Some number
    → promoted (same_key key) kept ≡ after_find key copies kept
promoted_found key copies number kept few is =
    let on = found_kept key copies number kept is in
    ap (λ (o : Option Use). option_map_or (λ (e : Use). e ∷ remove_entry (same_key key) kept) o kept) on.entry
    ∙ sym (kept_again key (use_of key number copies).1 kept few (use_of key number copies) on)
    ∙ sym (ap (λ (o : Option ℕ). option_map_or (λ (n : ℕ). after_use (use_of key n copies) kept) o kept) is)

-- keeping puts it there
pub put_used : (cache : LruCache Key Kept) (key : Key) (value : Kept) → cache.cap ≡ 64 → length cache.entries ≤ 64
    → put_entries same_key cache key value ≡ after_use (key, value) cache.entries
put_used cache key value full few = by (lookup (same_key key) cache.entries) refl where
  put : Option Use → List Use
  put o = option_map_or (λ (e : Use). (e.0, value) ∷ remove_entry (same_key key) cache.entries) o ((key, value) ∷ take (cache.cap - 1) cache.entries)

  by : (o : Option Kept) → lookup (same_key key) cache.entries ≡ o → put (lookup_entry (same_key key) cache.entries) ≡ after_use (key, value) cache.entries
  by None is =
      let missing = miss_entry (same_key key) cache.entries is in
      ap put missing.entry
      ∙ ap (λ (n : ℕ). (key, value) ∷ take (n - 1) cache.entries) full
      ∙ sym (kept_new key value cache.entries missing)
  by (Some k) is =
      let there = find_entry (same_key key) cache.entries k is in
      ap put there.1.entry
      ∙ ap (λ (j : Key). (j, value) ∷ remove_entry (same_key key) cache.entries) (sym (key_equal key there.0 there.1.passes))
      ∙ sym (kept_again key value cache.entries few (there.0, k) there.1)
