use Rattle.std.proofs.Common.{arith}
use Rattle.nim_funcs.proofs.Kept.{kept_room}
use Rattle.nim_funcs.proofs.keep.keep.Goals as goal

pub push_if-requires-clause-room : goal.push_if-requires-clause-room
push_if-requires-clause-room c = kept_room _ c.args.value.now c.loop-at.at 4294967295 c.loop-at.rows (omega arith) c.loop-at.invariant
