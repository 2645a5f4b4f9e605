use Rattle.std.proofs.Common.{rules}
use Rattle.nim_place.proofs.Places.{place_within}
use Rattle.nim_place.proofs.versions.VersionMap.put.Goals as goal

pub index_mut-requires : goal.index_mut-requires
index_mut-requires c =
    place_within _ c.args.self.now c.args.worker c.args.slot c.is_kept.result c.place_of-place.result _ c.self.view_is
    c.if-is_kept.true c.is_kept.ensures c.place_of-place.ensures (search (rules, c.self.invariant.0))
