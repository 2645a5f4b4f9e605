-- the versions so far
use Rattle.std.proofs.Common.{◌≡◌, map, take}
use Rattle.nim_place.specs.Versions.{latest_of}
use Rattle.nim_reuse.proofs.orders.versions_of.Given as goal

abbrev pub invariant-loop-object : goal.invariant-loop-object
invariant-loop-object l = l.versions.items ≡ map (latest_of l.map) (take l.object-index l.objects)
