use Rattle.std.proofs.Common.{arith}
use Rattle.nim_schedule.proofs.Cuts.{first_word, no_word}
use Rattle.nim_schedule.proofs.words.next_word.Goals as goal

pub returns-then-len-gt0-clause-some : goal.returns-then-len-gt0-clause-some
returns-then-len-gt0-clause-some c =
    rw (c.split_at-then-len-gt0.ensures.front, c.split_at-then-len-gt0.ensures.back)
    (first_word c.args.text.now _ _ _ c.blanks_len.ensures.len c.split_at.ensures.back c.word_len-len.ensures.len (λ none. omega arith))

pub returns-else-len-gt0-clause-none : goal.returns-else-len-gt0-clause-none
returns-else-len-gt0-clause-none c =
    λ none. no_word c.args.text.now _ _ _ c.blanks_len.ensures.len c.split_at.ensures.back c.word_len-len.ensures.len (omega arith)
