-- the slots so far have the version
use Rattle.std.proofs.Common.{◌≡◌, take}
use Rattle.std.specs.List.{fold}
use Rattle.nim_place.specs.Versions.{with_version}
use Rattle.nim_place.proofs.versions.VersionMap.put_all.Given as goal

abbrev pub invariant-loop-slot : goal.invariant-loop-slot
invariant-loop-slot l = l.self ≡ fold (with_version l.worker l.version) l.initial.self (take l.slot-index l.slots)
