-- The numbers that digits write, and those of 64 bits with a sign.
use Rattle.std.specs.Prelude.{ℕ, ◌+◌, ◌-◌, ◌*◌, nat_le, Bool, if◌then◌else◌, List, ℤ, pos, ◌-ℤ◌}
use Rattle.std.specs.List.{fold}

-- the number that digits write
abbrev pub decimal_value : List ℕ → ℕ
decimal_value digits = fold (λ n digit. n * 10 + (digit - 48)) 0 digits

-- the greatest i64
abbrev pub most : ℕ
most = 9223372036854775807

-- a number with this sign is in the range
abbrev pub in_range : Bool → ℕ → Bool
in_range negative n = if negative then nat_le n (most + 1) else nat_le n most

-- a number below 0 where there is a `-` before it, else as it is
abbrev pub signed : Bool → ℕ → ℤ
signed negative n = if negative then pos 0 -ℤ pos n else pos n
