use Rattle.nim_printed.proofs.WordsRead.{words_read}
use Rattle.nim_printed.proofs.laws.words_are_read.Goals as goal

pub returns : goal.returns
returns c = words_read
