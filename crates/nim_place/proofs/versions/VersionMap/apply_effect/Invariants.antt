-- the items so far are taken in
use Rattle.std.proofs.Common.{◌≡◌, take}
use Rattle.std.specs.List.{fold}
use Rattle.nim_place.specs.Versions.{with_kept, with_written}
use Rattle.nim_place.proofs.versions.VersionMap.apply_effect.Given as goal

abbrev pub invariant-loop-item : goal.invariant-loop-item
invariant-loop-item l = l.self ≡ fold with_kept l.initial.self (take l.item-index l.effect)

abbrev pub invariant-loop-item-2 : goal.invariant-loop-item-2
invariant-loop-item-2 l = l.self ≡ fold (with_written l.base) l.initial.self (take l.item-index l.effect)
