use Rattle.std.proofs.Common.{◌∙◌, sym}
use Rattle.nim_check.specs.Names.{reserved}
use Rattle.nim_check.proofs.Places.{is_in_any}
use Rattle.nim_check.proofs.names.is_reserved.Goals as goal

pub returns : goal.returns
unfolding reserved
returns c = c.stands_in.ensures ∙ sym (is_in_any reserved c.args.word.now)
