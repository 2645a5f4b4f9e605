-- What a driver's arithmetic gives, on 64-bit numbers.
use Rattle.std.specs.Prelude.{◌≡◌, ℕ, Bool, not, if◌then◌else◌, ℤ, pos, negsuc, int_le, int_lt}
use Rattle.std.specs.Int.{int_rem_euclid, int_wrapping_add, int_wrapping_mul, int_wrapping_sub, w64}
use Rattle.std.specs.Ordering.{int_eq}
use Rattle.nim_base.specs.Functions.{quotient}
use Rattle.nim_job.specs.declared.stmt.Arith.{Arith}
use Rattle.nim_job.specs.declared.stmt.Arith.TheVariants.{Plus, Minus, Times, Divide, Remainder}
use Rattle.nim_job.specs.declared.stmt.Cmp.{Cmp}
use Rattle.nim_job.specs.declared.stmt.Cmp.TheVariants.{Less, AtMost, Equal, Differs, Greater, AtLeast}

-- what is left by the quotient: never below 0, and 0 where the divisor is 0
abbrev pub remainder : ℤ → ℤ → ℤ
remainder dividend divisor = if int_eq divisor (pos 0) then pos 0 else int_rem_euclid dividend divisor

-- Sums, differences and products wrap; a quotient is the one that leaves no negative remainder, and it wraps too.
abbrev pub arith_value : Arith → ℤ → ℤ → ℤ
arith_value Plus left right = int_wrapping_add w64 left right
arith_value Minus left right = int_wrapping_sub w64 left right
arith_value Times left right = int_wrapping_mul w64 left right
arith_value Divide left right = quotient left right
arith_value Remainder left right = remainder left right

-- whether two numbers compare so
abbrev pub compared : Cmp → ℤ → ℤ → Bool
compared Less left right = int_lt left right
compared AtMost left right = int_le left right
compared Equal left right = int_eq left right
compared Differs left right = not (int_eq left right)
compared Greater left right = int_lt right left
compared AtLeast left right = int_le right left

-- ---- the special cases of division

-- the least 64-bit number
abbrev pub least : ℤ
least = negsuc 9223372036854775807

-- by 0 the quotient and the remainder are 0
abbrev pub DividesByZero : Type 0
DividesByZero = (number : ℤ)
    → (arith_value Divide number (pos 0) ≡ pos 0) × (arith_value Remainder number (pos 0) ≡ pos 0)

-- the least number by -1 is itself, and leaves 0
abbrev pub DividesTheLeast : Type 0
DividesTheLeast = (arith_value Divide least (negsuc 0) ≡ least) × (arith_value Remainder least (negsuc 0) ≡ pos 0)

-- a remainder is never below 0
abbrev pub LeavesNatural : Type 0
LeavesNatural = (left right : ℤ) → (rest : ℕ) × (arith_value Remainder left right ≡ pos rest)
