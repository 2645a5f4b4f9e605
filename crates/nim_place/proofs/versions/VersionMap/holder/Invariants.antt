-- none so far holds the latest version
use Rattle.std.proofs.Common.{◌≡◌, ◌-◌}
use Rattle.nim_place.specs.Versions.{holder, holder_from}
use Rattle.nim_place.proofs.versions.VersionMap.holder.Given as goal

abbrev pub invariant-loop-number : goal.invariant-loop-number
invariant-loop-number l = holder_from l.self l.object l.number (l.self.workers - l.number) ≡ holder l.self l.object
