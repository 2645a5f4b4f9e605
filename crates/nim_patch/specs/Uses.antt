-- Uses of patches, and which of them find their patch. Lists of uses have the latest first.
use Rattle.std.specs.Prelude.{◌≡◌, ℕ, ◌==◌, nat_lt, Bool, ◌&&◌, false, if◌then◌else◌, List, [], ◌∷◌, length, take, Option, None, option_map}
use Rattle.std.specs.Cmp.Lexicographic.{pointwise}
use Rattle.std.specs.Map.{lookup, remove_entry}
use Rattle.std.specs.Option.{option_map_or}
use Rattle.nim_patch.specs.declared.kept.Key.{Key}
use Rattle.nim_patch.specs.declared.kept.Kept.{Kept}
use Rattle.nim_patch.specs.declared.patch.PatchCopy.{PatchCopy}

-- a use: its key, and the patch with the number that it was kept under or found by
abbrev pub Use : Type 0
Use = Key × Kept

-- what a patch is kept under: the block of the instance before, and that of the next
abbrev pub patch_key : ℕ → ℕ → Key
patch_key previous next = record { previous = previous; next = next }

-- a use of a patch with these copies, by its key and its number
abbrev pub use_of : Key → ℕ → List PatchCopy → Use
use_of key number copies = (key, record { number = number; patch = record { copies = copies } })

-- whether two keys are the same
abbrev pub same_key : Key → Key → Bool
same_key a b = (a.previous == b.previous) && (a.next == b.next)

-- whether two copies are the same
abbrev pub same_copy : PatchCopy → PatchCopy → Bool
same_copy a b = (a.from.0 == b.from.0) && ((a.to.0 == b.to.0) && (a.object.0 == b.object.0))

-- whether two patches have equal copies
abbrev pub same_copies : List PatchCopy → List PatchCopy → Bool
same_copies a b = pointwise same_copy a b

-- a use goes before the others, in place of the one of its key
abbrev pub used : Use → List Use → List Use
used latest uses = latest ∷ remove_entry (same_key latest.0) uses

-- the last use of each key
abbrev pub lasts : List Use → List Use
lasts [] = []
lasts (latest ∷ past) = used latest (lasts past)

-- the uses since the last one of a key; all of them, where there is none
abbrev pub since : Key → List Use → List Use
since key [] = []
since key (latest ∷ past) = if same_key key latest.0 then [] else latest ∷ since key past

-- how many keys were used
abbrev pub keys_in : List Use → ℕ
keys_in uses = length (lasts uses)

-- A use is a hit where the last one with its key has equal copies, and fewer than 64 other keys were used since.
abbrev pub is_hit : Key → List PatchCopy → List Use → Bool
is_hit key copies uses =
    option_map_or (λ (k : Kept). same_copies k.patch.copies copies) (lookup (same_key key) uses) false
    && nat_lt (keys_in (since key uses)) 64

-- the number of the last use with this key, where the next one is a hit
abbrev pub hit : Key → List PatchCopy → List Use → Option ℕ
hit key copies uses =
    if is_hit key copies uses then option_map (λ (k : Kept). k.number) (lookup (same_key key) uses) else None

-- A cache stands for the uses so far where it has the last use of each key, for the 64 keys that were used last.
abbrev pub StandsFor : List Use → List Use → Type 0
StandsFor uses kept = kept ≡ take 64 (lasts uses)
