-- What a queue stands for is what it keeps.
use Rattle.std.proofs.Common.{Bool, ℕ, List}
use Rattle.nim_command.specs.Waits.{Group}
use Rattle.nim_queue.specs.declared.queue.BeforeQueue.{BeforeQueue}
use Rattle.nim_queue.specs.Stands.{AreGroupsKept, KeepsGroups, StandsForGroups}

pub opened : {queue : BeforeQueue} {groups : List Group} {done : ℕ → Bool} → StandsForGroups queue groups done → KeepsGroups queue groups done
unfolding AreGroupsKept
opened stands = stands.kept

pub closed : {queue : BeforeQueue} {groups : List Group} {done : ℕ → Bool} → KeepsGroups queue groups done → StandsForGroups queue groups done
unfolding AreGroupsKept
closed keeps = record { kept = keeps; later = keeps.later }
