use Rattle.std.proofs.Common.{rules, refl}
use Rattle.nim_place.proofs.Places.{held_there, place_within}
use Rattle.nim_place.proofs.versions.VersionMap.held.Goals as goal

pub index-requires : goal.index-requires
index-requires c =
    place_within _ c.args.self.now c.args.worker c.args.slot c.is_kept.result c.place_of.result _ c.self.view_is
    c.if-is_kept.true c.is_kept.ensures c.place_of.ensures (search (rules, c.self.invariant.0))

pub returns-then-is_kept : goal.returns-then-is_kept
returns-then-is_kept c =
    held_there c.self.inside.held.items _ c.args.self.now c.args.worker c.args.slot c.is_kept.result c.place_of.result _ c.index.result.now c.self.view_is
    c.if-is_kept.true c.is_kept.ensures
    c.place_of.ensures c.self.invariant.0 refl refl c.index.ensures
