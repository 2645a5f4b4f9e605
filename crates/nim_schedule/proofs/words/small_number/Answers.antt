use Rattle.std.proofs.Common.{arith, refl, ◌≡◌, true, rules}
use Rattle.std.specs.Char.{is_ascii_digit}
use Rattle.std.specs.List.{list_all}
use Rattle.nim_lex.specs.Numbers.{decimal_value}
use Rattle.nim_schedule.specs.Words.{is_short, small_number}
use Rattle.nim_schedule.proofs.Digits.{small_below}
use Rattle.nim_schedule.proofs.words.small_number.Goals as goal

pub overflow_cast-result : goal.overflow_cast-result
overflow_cast-result c =
    let word = c.args.word.now in
    let short : is_short 9 word ≡ true = search rules in
    let digits : list_all is_ascii_digit word ≡ true = search rules in
    let below = small_below word short digits in
    omega (arith, below, c.number.ensures)

pub returns-then-are_digits : goal.returns-then-are_digits
unfolding small_number
returns-then-are_digits c =
    let word = c.args.word.now in
    let short : is_short 9 word ≡ true = search rules in
    let digits : list_all is_ascii_digit word ≡ true = search rules in
    let same : c.number.result ≡ decimal_value word = omega (arith, small_below word short digits, c.number.ensures) in
    rw (short, digits, same) refl
