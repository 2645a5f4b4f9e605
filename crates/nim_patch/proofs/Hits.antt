-- A cache that stands for uses finds just their hits, and a further use is one more of them.
use Rattle.std.proofs.Common.{◌≡◌, ℕ, zero, suc, Bool, true, false, List, [], ◌∷◌, length, take, refl, ap, ap₂, sym, ◌∙◌, arith}
use Rattle.std.specs.Prelude.{nat_lt, ◌&&◌, if◌then◌else◌, Option, None, Some, option_map}
use Rattle.std.specs.Map.{lookup, remove_entry}
use Rattle.std.specs.Option.{option_map_or}
use Rattle.std.proofs.lemmas.Bool.{cond-false, cond-true, le-ltb, lt-ltb, true≢false}
use Rattle.std.proofs.Math.Dec.{leb-suc-suc}
use Rattle.nim_patch.specs.declared.kept.Key.{Key}
use Rattle.nim_patch.specs.declared.kept.Kept.{Kept}
use Rattle.nim_patch.specs.declared.patch.PatchCopy.{PatchCopy}
use Rattle.nim_patch.specs.Cache.{after_use, patch_number_kept, number_if_equal}
use Rattle.nim_patch.specs.Uses.{StandsFor, Use, hit, keys_in, lasts, same_copies, same_key, since, used}
use Rattle.nim_patch.proofs.Entries.{take_removed}
use Rattle.nim_patch.proofs.Tests.{key_apart}

-- a further use
pub stands_used : (latest : Use) (uses kept : List Use) → StandsFor uses kept → StandsFor (latest ∷ uses) (after_use latest kept)
stands_used latest uses kept is =
    ap (λ (l : List Use). take 64 (used latest l)) is
    ∙ ap (λ (l : List Use). latest ∷ l) (take_removed (same_key latest.0) 63 (lasts uses))

-- what the first n pairs find: the pair of a key, where fewer than n are before it
lookup_taken : (key : Key) (n : ℕ) (uses : List Use)
    → lookup (same_key key) (take n uses) ≡ (if nat_lt (length (since key uses)) n then lookup (same_key key) uses else None)
lookup_taken key zero uses =
    sym (cond-false (nat_lt (length (since key uses)) 0) (lookup (same_key key) uses) None (le-ltb (length (since key uses)) 0 (omega arith)))
lookup_taken key (suc n) [] = either (nat_lt 0 (suc n)) where
  either : (b : Bool) → ◌≡◌ {A = Option Kept} None (if b then None else None)
  either true = refl
  either false = refl
lookup_taken key (suc n) (latest ∷ past) = by (same_key key latest.0) (lookup_taken key n past) where
  by : (b : Bool) → lookup (same_key key) (take n past) ≡ (if nat_lt (length (since key past)) n then lookup (same_key key) past else None)
      → (if b then Some latest.1 else lookup (same_key key) (take n past))
      ≡ (if nat_lt (length (if b then [] else latest ∷ since key past)) (suc n) then (if b then Some latest.1 else lookup (same_key key) past) else None)
  by true rest = sym (cond-true (nat_lt 0 (suc n)) (Some latest.1) None (lt-ltb 0 (suc n) (omega arith)))
  by false rest = rest ∙ ap (λ (b : Bool). if b then lookup (same_key key) past else None) (sym (leb-suc-suc (suc (length (since key past))) n))

-- the pairs before a key's, without another key's
since_removed : (other key : Key) → same_key key other ≡ false → (uses : List Use)
    → since key (remove_entry (same_key other) uses) ≡ remove_entry (same_key other) (since key uses)
since_removed other key apart [] = refl
since_removed other key apart (latest ∷ past) =
    by (same_key other latest.0) (same_key key latest.0) refl refl (since_removed other key apart past) where
      by : (s t : Bool) → same_key other latest.0 ≡ s → same_key key latest.0 ≡ t → since key (remove_entry (same_key other) past)
          ≡ remove_entry (same_key other) (since key past)
          → since key (if s then past else latest ∷ remove_entry (same_key other) past)
          ≡ remove_entry (same_key other) (if t then [] else latest ∷ since key past)
      by true true is it rest = absurd (true≢false (sym it ∙ key_apart other key latest.0 is apart))
      by true false is it rest = sym (cond-true (same_key other latest.0) (since key past) (latest ∷ remove_entry (same_key other) (since key past)) is)
      by false true is it rest = cond-true (same_key key latest.0) [] (latest ∷ since key (remove_entry (same_key other) past)) it
      by false false is it rest =
          cond-false (same_key key latest.0) [] (latest ∷ since key (remove_entry (same_key other) past)) it
          ∙ ap (λ (l : List Use). latest ∷ l) rest
          ∙ sym (cond-false (same_key other latest.0) (since key past) (latest ∷ remove_entry (same_key other) (since key past)) is)

-- what is found without another key's
lookup_removed : (other key : Key) → same_key key other ≡ false → (uses : List Use) → lookup (same_key key) (remove_entry (same_key other) uses)
    ≡ lookup (same_key key) uses
lookup_removed other key apart [] = refl
lookup_removed other key apart (latest ∷ past) = by (same_key other latest.0) refl (lookup_removed other key apart past) where
  by : (s : Bool) → same_key other latest.0 ≡ s → lookup (same_key key) (remove_entry (same_key other) past) ≡ lookup (same_key key) past
      → lookup (same_key key) (if s then past else latest ∷ remove_entry (same_key other) past)
      ≡ (if same_key key latest.0 then Some latest.1 else lookup (same_key key) past)
  by true is rest = sym (cond-false (same_key key latest.0) (Some latest.1) (lookup (same_key key) past) (key_apart other key latest.0 is apart))
  by false is rest = ap (λ (o : Option Kept). if same_key key latest.0 then Some latest.1 else o) rest

-- before a key's last use stand the last uses of the keys that were used since
since_lasts : (key : Key) (uses : List Use) → since key (lasts uses) ≡ lasts (since key uses)
since_lasts key [] = refl
since_lasts key (latest ∷ past) = by (same_key key latest.0) refl (since_lasts key past) where
  by : (t : Bool) → same_key key latest.0 ≡ t → since key (lasts past) ≡ lasts (since key past)
      → (if t then [] else latest ∷ since key (remove_entry (same_key latest.0) (lasts past))) ≡ lasts (if t then [] else latest ∷ since key past)
  by true is rest = refl
  by false is rest =
      ap (λ (l : List Use). latest ∷ l) (since_removed latest.0 key is (lasts past) ∙ ap (λ (l : List Use). remove_entry (same_key latest.0) l) rest)

-- the last use of a key is the first of its uses
lookup_lasts : (key : Key) (uses : List Use) → lookup (same_key key) (lasts uses) ≡ lookup (same_key key) uses
lookup_lasts key [] = refl
lookup_lasts key (latest ∷ past) = by (same_key key latest.0) refl (lookup_lasts key past) where
  by : (t : Bool) → same_key key latest.0 ≡ t → lookup (same_key key) (lasts past) ≡ lookup (same_key key) past
      → (if t then Some latest.1 else lookup (same_key key) (remove_entry (same_key latest.0) (lasts past)))
      ≡ (if t then Some latest.1 else lookup (same_key key) past)
  by true is rest = refl
  by false is rest = lookup_removed latest.0 key is (lasts past) ∙ rest

-- a hit, by the last use and whether few enough keys were used since
both_ways : (copies : List PatchCopy) (few : Bool) (last : Option Kept)
    → option_map_or (number_if_equal copies) (if few then last else None) None
    ≡ (if option_map_or (λ (k : Kept). same_copies k.patch.copies copies) last false && few then option_map (λ (k : Kept). k.number) last else None)
both_ways copies true None = refl
both_ways copies false None = refl
both_ways copies true (Some kept) = by (same_copies kept.patch.copies copies) where
  by : (b : Bool) → (if b then Some kept.number else None) ≡ (if b && true then Some kept.number else None)
  by true = refl
  by false = refl
both_ways copies false (Some kept) = by (same_copies kept.patch.copies copies) where
  by : (b : Bool) → ◌≡◌ {A = Option ℕ} None (if b && false then Some kept.number else None)
  by true = refl
  by false = refl

-- what is found are the hits
pub found_hits : (key : Key) (copies : List PatchCopy) (uses kept : List Use) → StandsFor uses kept → patch_number_kept key copies kept ≡ hit key copies uses
found_hits key copies uses kept is =
    let choose : Bool → Option Kept → Option Kept = λ b o. if b then o else None in
    ap (λ (o : Option Kept). option_map_or (number_if_equal copies) o None)
    (ap (λ (l : List Use). lookup (same_key key) l) is
    ∙ lookup_taken key 64 (lasts uses)
    ∙ ap₂ choose (ap (λ (l : List Use). nat_lt (length l) 64) (since_lasts key uses)) (lookup_lasts key uses))
    ∙ both_ways copies (nat_lt (keys_in (since key uses)) 64) (lookup (same_key key) uses)
