use Rattle.nim_history.proofs.InTurn.{commands_in_turn}
use Rattle.nim_history.proofs.laws.commands_in_turn.Goals as goal

pub returns : goal.returns
returns c = commands_in_turn
