use Rattle.std.proofs.Common.{◌≡◌, true, length, arith}
use Rattle.std.specs.Prelude.{nat_lt}
use Rattle.std.proofs.lemmas.Bool.Decides.{nat_tests}
use Rattle.nim_data.proofs.reading.Last.push.Goals as goal

pub push_row-requires-clause-room : goal.push_row-requires-clause-room
push_row-requires-clause-room c =
    let less : nat_lt (length c.in-Kept.value.rows) c.in-Kept.wanted ≡ true = (rw c.in-Kept.is at c.requires.lacks) in
    grind (arith, nat_tests)
