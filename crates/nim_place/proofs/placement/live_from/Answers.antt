use Rattle.nim_place.proofs.Live.{ahead_within}
use Rattle.nim_place.proofs.placement.live_from.Goals as goal

pub returns-else-ahead-live-clause-within : goal.returns-else-ahead-live-clause-within
returns-else-ahead-live-clause-within c = ahead_within c.args.live.now c.live_ahead.result c.requires.live c.live_ahead.ensures.value

pub returns-else-ahead-live-clause-live : goal.returns-else-ahead-live-clause-live
returns-else-ahead-live-clause-live c =
    c.live_ahead.ensures.live (ahead_within c.args.live.now c.live_ahead.result c.requires.live c.live_ahead.ensures.value)
