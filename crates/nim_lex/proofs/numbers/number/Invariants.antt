-- the number of the digits read so far
use Rattle.std.proofs.Common.{◌≡◌, ◌^◌, ◌-◌, min, take}
use Rattle.nim_lex.specs.Numbers.{decimal_value}
use Rattle.nim_lex.proofs.numbers.number.Given as goal

abbrev pub invariant-loop-digit : goal.invariant-loop-digit
invariant-loop-digit l = l.value ≡ min (decimal_value (take l.digit-index l.digits)) (2 ^ 64 - 1)
