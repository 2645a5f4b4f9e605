-- A mask of so many bits is below the power of two.
use Rattle.std.proofs.Common.{◌≡◌, ℕ, zero, suc, ◌+◌, ◌≤◌, ◌<◌, Bool, true, false, List, [], ◌∷◌, length, map, drop, arith}
use Rattle.std.specs.Prelude.{◌*◌, if◌then◌else◌}
use Rattle.std.proofs.lemmas.List.{length-drop, length-map}
use Rattle.nim_edit.specs.Masks.{mask_of}

abbrev doubled : ℕ → ℕ
doubled zero = 1
doubled (suc n) = 2 * doubled n

mask_below : (bits : List Bool) (n : ℕ) → length bits ≤ n → mask_of bits < doubled n
mask_below [] zero few = omega arith
mask_below [] (suc n) few = let rest = mask_below [] n (omega arith) in omega (arith, rest)
mask_below (bit ∷ bits) zero few = absurd (omega (arith, few))
mask_below (bit ∷ bits) (suc n) few = either bit (mask_below bits n (omega (arith, few))) where
  either : (b : Bool) → mask_of bits < doubled n → 2 * mask_of bits + (if b then 1 else 0) < 2 * doubled n
  either true rest = omega (arith, rest)
  either false rest = omega (arith, rest)

-- while a read is left, a mask of at most eight has room for one bit more
pub mask_room : {X : Type 0} (bit : X → Bool) (reads : List X) (at mask : ℕ) → length reads ≤ 8 → 0 < at → at ≤ length reads
    → mask ≡ mask_of (map bit (drop at reads)) → mask < 128
mask_room bit reads at mask few some within is =
    let long = length-map (drop at reads) bit in
    let left = length-drop at reads in
    let below : mask_of (map bit (drop at reads)) < 128 = mask_below (map bit (drop at reads)) 7 (omega (arith, long, left, few, some, within)) in
    omega (arith, is, below)
