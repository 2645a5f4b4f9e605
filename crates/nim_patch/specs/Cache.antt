-- What a cache of patches finds and keeps. It is a list of uses, one a key, the latest first.
use Rattle.std.specs.Prelude.{◌≡◌, ℕ, zero, suc, ◌+◌, ◌==◌, ◌≤◌, nat_lt, if◌then◌else◌, List, [], ◌∷◌, length, take, Option, None, Some, unwrap_or}
use Rattle.std.specs.Map.{lookup}
use Rattle.std.specs.Option.{option_map_or}
use Rattle.lru.specs.LruCache.{last_entry}
use Rattle.nim_patch.specs.declared.kept.Key.{Key}
use Rattle.nim_patch.specs.declared.kept.Kept.{Kept}
use Rattle.nim_patch.specs.declared.patch.PatchCopy.{PatchCopy}
use Rattle.nim_patch.specs.Uses.{Use, same_copies, same_key, use_of, used}

-- a use goes first, and past 64 patches the one that was used longest ago is dropped
abbrev pub after_use : Use → List Use → List Use
after_use latest kept = take 64 (used latest kept)

-- the number of a kept patch, where its copies are these
abbrev pub number_if_equal : List PatchCopy → Kept → Option ℕ
number_if_equal copies kept = if same_copies kept.patch.copies copies then Some kept.number else None

-- the number of the patch that is kept under a key with these copies
abbrev pub patch_number_kept : Key → List PatchCopy → List Use → Option ℕ
patch_number_kept key copies kept = option_map_or (number_if_equal copies) (lookup (same_key key) kept) None

-- finding is a use, if there is such a patch
abbrev pub after_find : Key → List PatchCopy → List Use → List Use
after_find key copies kept =
    option_map_or (λ (number : ℕ). after_use (use_of key number copies) kept) (patch_number_kept key copies kept) kept

-- how many kept patches have a number
abbrev pub times_kept : ℕ → List Use → ℕ
times_kept number [] = 0
times_kept number (first ∷ kept) = (if first.1.number == number then 1 else 0) + times_kept number kept

-- the first number from one on that no kept patch has, of so many
abbrev pub free_from : List Use → ℕ → ℕ → Option ℕ
free_from kept from zero = None
free_from kept from (suc more) = if times_kept from kept == 0 then Some from else free_from kept (from + 1) more

-- the least number below 64 that no kept patch has
unfoldable pub least_free : List Use → Option ℕ
least_free kept = free_from kept 0 64

-- the number of the patch that was used longest ago
abbrev pub oldest_number : List Use → ℕ
oldest_number kept = option_map_or (λ (u : Use). u.1.number) (last_entry kept) 0

-- The number for a key: the one that it has, else the least that is free, else that of the patch that was used longest
-- ago, which is dropped.
abbrev pub number_for : Key → List Use → ℕ
number_for key kept = option_map_or (λ (k : Kept). k.number) (lookup (same_key key) kept)
    (unwrap_or (least_free kept) (oldest_number kept))

-- each number below the number of kept patches is that of just one of them, and no patch has another
abbrev pub AreNumbered : List Use → Type 0
AreNumbered kept = (number : ℕ) → times_kept number kept ≡ (if nat_lt number (length kept) then 1 else 0)

-- what holds of every cache
pub record IsValid (kept : List Use) : Type 0 where
  pub few : length kept ≤ 64
  pub numbered : AreNumbered kept
