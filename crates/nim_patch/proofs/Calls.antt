-- What the calls of a cache of patches leave, from what the kit's cache leaves.
use Rattle.std.proofs.Common.{◌≡◌, ℕ, ◌<◌, ◌≤◌, List, ◌∷◌, length, ap, sym, subst, ◌∙◌, arith}
use Rattle.std.specs.Prelude.{Option, None, Some, unwrap_or}
use Rattle.std.specs.Option.{option_map_or}
use Rattle.lru.specs.LruCache.{LruCache, last_entry, promoted, put_entries}
use Rattle.nim_patch.specs.declared.kept.Key.{Key}
use Rattle.nim_patch.specs.declared.kept.Kept.{Kept}
use Rattle.nim_patch.specs.declared.patch.PatchCopy.{PatchCopy}
use Rattle.nim_patch.specs.Cache.{IsValid, after_find, after_use, patch_number_kept, least_free, number_for, oldest_number}
use Rattle.nim_patch.specs.Uses.{StandsFor, Use, hit, same_key, use_of}
use Rattle.nim_patch.proofs.Hits.{found_hits, stands_used}
use Rattle.nim_patch.proofs.Numbers.{free_below, least_is_length, none_is_free, valid_again, valid_used}
use Rattle.nim_patch.proofs.Using.{found_kept, promoted_found, put_used}

-- the number of kept patches is free
pub count_free : (entries kept : List Use) (count : ℕ) → entries ≡ kept → IsValid entries → count ≡ length entries → count < 64
    → count ≡ unwrap_or (least_free kept) (oldest_number kept)
count_free entries kept count same valid counted few =
    let below : length entries < 64 = omega (arith, counted, few) in
    subst (λ (k : List Use). count ≡ unwrap_or (least_free k) (oldest_number k)) same
    (counted ∙ sym (ap (λ (o : Option ℕ). unwrap_or o (oldest_number entries)) (least_is_length entries valid.numbered below)))

-- in a full cache that of the last patch is
pub oldest_free : (entries kept : List Use) (last : Option Use) → entries ≡ kept → IsValid entries → 64 ≤ length entries → last ≡ last_entry entries
    → option_map_or (λ (u : Use). u.1.number) last 0 ≡ unwrap_or (least_free kept) (oldest_number kept)
oldest_free entries kept last same valid full is =
    subst (λ (k : List Use). option_map_or (λ (u : Use). u.1.number) last 0 ≡ unwrap_or (least_free k) (oldest_number k)) same
    (ap (λ (o : Option Use). option_map_or (λ (u : Use). u.1.number) o 0) is
    ∙ sym (ap (λ (o : Option ℕ). unwrap_or o (oldest_number entries)) (none_is_free entries valid.numbered full)))

-- either is below 64
pub chosen_below : (entries kept : List Use) (number : ℕ) → entries ≡ kept → IsValid entries → number ≡ unwrap_or (least_free kept) (oldest_number kept)
    → number < 64
chosen_below entries kept number same valid is = subst (λ (n : ℕ). n < 64) (sym is) (free_below kept (subst IsValid same valid))

-- a find that answers a number
pub record IsFinding (key : Key) (copies : List PatchCopy) (number : ℕ) (old new : List Use) : Type 0 where
  pub kept : new ≡ after_find key copies old
  pub valid : IsValid new
  pub hits : (uses : List Use) → StandsFor uses old → Some number ≡ hit key copies uses
  pub stands : (uses : List Use) → StandsFor uses old → StandsFor (use_of key number copies ∷ uses) new

pub finds : (key : Key) (copies : List PatchCopy) (number : ℕ) (entries old new : List Use) → entries ≡ old → IsValid entries
    → Some number ≡ patch_number_kept key copies old → new ≡ promoted (same_key key) entries → IsFinding key copies number old new
finds key copies number entries old new same valid told moved =
    let whole = subst IsValid same valid in
    let kept = moved ∙ ap (λ (l : List Use). promoted (same_key key) l) same ∙ promoted_found key copies number old whole.few (sym told) in
    let used : new ≡ after_use (use_of key number copies) old
    = kept ∙ ap (λ (o : Option ℕ). option_map_or (λ (n : ℕ). after_use (use_of key n copies) old) o old) (sym told) in
    record {
      kept = kept;
      valid = subst IsValid (sym used) (valid_again key copies old (use_of key number copies) whole (found_kept key copies number old (sym told)));
      hits = λ uses stands. told ∙ found_hits key copies uses old stands;
      stands = λ uses stands. used ∙ stands_used (use_of key number copies) uses old stands;
    }

-- one that answers none
pub misses : (key : Key) (copies : List PatchCopy) (old : List Use) → None ≡ patch_number_kept key copies old → (uses : List Use) → StandsFor uses old → None
    ≡ hit key copies uses
misses key copies old told uses stands = told ∙ found_hits key copies uses old stands

-- a keeping
pub record IsKeeping (key : Key) (copies : List PatchCopy) (number : ℕ) (old new : List Use) : Type 0 where
  pub kept : new ≡ after_use (use_of key number copies) old
  pub valid : IsValid new
  pub stands : (uses : List Use) → StandsFor uses old → StandsFor (use_of key number copies ∷ uses) new

pub keeps : (key : Key) (copies : List PatchCopy) (number : ℕ) (cache : LruCache Key Kept) (old new : List Use) → cache.entries ≡ old → cache.cap ≡ 64
    → IsValid cache.entries → number ≡ number_for key old → new ≡ put_entries same_key cache key (use_of key number copies).1
    → IsKeeping key copies number old new
keeps key copies number cache old new same full valid told put =
    let kept : new ≡ after_use (use_of key number copies) old
    = put ∙ put_used cache key (use_of key number copies).1 full valid.few ∙ ap (λ (l : List Use). after_use (use_of key number copies) l) same in
    let whole = valid_used key copies old (subst IsValid same valid) in
    record {
      kept = kept;
      valid = subst (λ (l : List Use). IsValid l) (sym (kept ∙ ap (λ (n : ℕ). after_use (use_of key n copies) old) told)) whole;
      stands = λ uses stands. kept ∙ stands_used (use_of key number copies) uses old stands;
    }
