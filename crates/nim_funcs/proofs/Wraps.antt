-- Sums and products that wrap, by their bits.
use Rattle.std.proofs.Common.{◌≡◌, ℕ, ◌+◌, ◌*◌, ◌%◌, ℤ, sym, ◌∙◌, ap, arith}
use mir.Syntax.{w64}
use mir.Val.{SFits, to_z, of_z}
use Rattle.std.specs.Int.{int_wrapping_mul}
use Rattle.std.proofs.lemmas.Int.{to_z-of_z, of_z-to_z}
use Rattle.nim_base.specs.Functions.{plus, quotient}

back : (n : ℕ) → of_z w64 (to_z w64 (n % 18446744073709551616)) ≡ n % 18446744073709551616
back n = of_z-to_z w64 (n % 18446744073709551616) (omega arith)

-- one more summand
pub onto : (n : ℕ) (cell : ℤ) → to_z w64 ((n % 18446744073709551616 + of_z w64 cell) % 18446744073709551616) ≡ plus (to_z w64 (n % 18446744073709551616)) cell
onto n cell = ap (λ k. to_z w64 ((k + of_z w64 cell) % 18446744073709551616)) (sym (back n))

-- a product and four summands, divided
pub weighed : (factor divisor here up down left right result : ℤ) → SFits w64 divisor
    → result ≡ quotient (to_z w64 (((((of_z w64 factor * of_z w64 here % 18446744073709551616 + of_z w64 up) % 18446744073709551616 + of_z w64 down) %
    18446744073709551616 + of_z w64 left) % 18446744073709551616 + of_z w64 right) % 18446744073709551616)) (to_z w64 (of_z w64 divisor))
    → result ≡ quotient (plus (plus (plus (plus (int_wrapping_mul w64 factor here) up) down) left) right) divisor
weighed factor divisor here up down left right result fits is =
    let product = of_z w64 factor * of_z w64 here in
    let one = product % 18446744073709551616 + of_z w64 up in
    let two = one % 18446744073709551616 + of_z w64 down in
    let three = two % 18446744073709551616 + of_z w64 left in
    is
    ∙ ap (quotient (to_z w64 ((three % 18446744073709551616 + of_z w64 right) % 18446744073709551616))) (to_z-of_z w64 divisor fits)
    ∙ ap (λ sum. quotient sum divisor) (onto three right ∙ ap (λ s. plus s right)
    (onto two left ∙ ap (λ s. plus s left) (onto one down ∙ ap (λ s. plus s down) (onto product up))))
