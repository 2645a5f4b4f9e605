use Rattle.nim_place.proofs.Begins.{resets_begin, singles_extend}
use Rattle.nim_place.proofs.laws.orders_extend.Goals as goal

pub returns-clause-resets : goal.returns-clause-resets
returns-clause-resets c = resets_begin

pub returns-clause-singles : goal.returns-clause-singles
returns-clause-singles c = singles_extend
