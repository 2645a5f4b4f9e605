-- A number of at most nine digits is below 1,000,000,000.
use Rattle.std.proofs.Common.{◌≡◌, ℕ, ◌+◌, ◌-◌, ◌*◌, ◌^◌, ◌<◌, ◌≤◌, true, List, [], ◌∷◌, length, ap, arith}
use Rattle.std.specs.Prelude.{nat_le, ◌==◌, not}
use Rattle.std.specs.Char.{is_ascii_digit}
use Rattle.std.specs.List.{fold, list_all}
use Rattle.std.proofs.Math.Nat.{add-mul, mul-le-mul_right, mul_assoc, pow-le-pow_right, pow-succ', pow-zero}
use Rattle.std.proofs.lemmas.Bool.{and_parts}
use Rattle.std.proofs.lemmas.Bool.Decides.{nat_tests}
use Rattle.nim_lex.specs.Numbers.{decimal_value}
use Rattle.nim_schedule.specs.Words.{is_short}

-- digits behind a number
abbrev number_after : ℕ → List ℕ → ℕ
number_after n digits = fold (λ m digit. m * 10 + (digit - 48)) n digits

at_most : (digit most : ℕ) → nat_le digit most ≡ true → digit ≤ most
at_most digit most h = grind (arith, nat_tests)

after_below : (n : ℕ) (digits : List ℕ) → list_all is_ascii_digit digits ≡ true → number_after n digits < (n + 1) * 10 ^ length digits
after_below n [] all = omega (arith, ap (λ x. (n + 1) * x) (pow-zero 10))
after_below n (d ∷ ds) all =
    let parts = and_parts (is_ascii_digit d) (list_all is_ascii_digit ds) all in
    let last : d ≤ 57 = at_most d 57 (and_parts (nat_le 48 d) (nat_le d 57) parts.0).1 in
    let step : n * 10 + (d - 48) + 1 ≤ (n + 1) * 10 = omega (arith, add-mul n 1 10, last) in
    omega (
      arith,
      after_below (n * 10 + (d - 48)) ds parts.1,
      mul-le-mul_right (10 ^ length ds) step,
      mul_assoc (n + 1) 10 (10 ^ length ds),
      ap (λ x. (n + 1) * x) (pow-succ' 10 (length ds)),
    )

pub small_below : (word : List ℕ) → is_short 9 word ≡ true → list_all is_ascii_digit word ≡ true → decimal_value word < 1000000000
small_below word short digits =
    let within : length word ≤ 9 = at_most (length word) 9 (and_parts (not (length word == 0)) (nat_le (length word) 9) short).1 in
    omega (arith, after_below 0 word digits, pow-le-pow_right {n = 10} (omega arith) {i = length word} {j = 9} within)
