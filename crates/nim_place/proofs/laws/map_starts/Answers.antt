use Rattle.nim_place.proofs.Starts.{map_starts}
use Rattle.nim_place.proofs.laws.map_starts.Goals as goal

pub returns : goal.returns
returns c = map_starts
