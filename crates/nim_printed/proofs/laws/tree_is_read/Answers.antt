use Rattle.nim_printed.specs.Lines.{tree_words}
use Rattle.nim_printed.proofs.TreeRead.{tree_read_by_words}
use Rattle.nim_printed.proofs.WordsRead.{words_read}
use Rattle.nim_printed.proofs.laws.tree_is_read.Goals as goal

pub returns : goal.returns
returns c = tree_read_by_words c.args.tree.now (words_read (tree_words c.args.tree.now))
