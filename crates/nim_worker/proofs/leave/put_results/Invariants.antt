use Rattle.std.proofs.Common.{◌≡◌, drop}
use Rattle.nim_command.specs.Holds.{version_after}
use Rattle.nim_store.specs.Stored.{slot_at}
use Rattle.nim_history.specs.Kept.{put_results}
use Rattle.nim_worker.proofs.leave.put_results.Given as goal

-- what is still to be put leads to the same end
abbrev pub invariant-loop-slot : goal.invariant-loop-slot
invariant-loop-slot l = record {
  same_end : put_results l.store.shapes (version_after l.position) (drop l.slot-index l.writes) l.results.items (slot_at l.store)
      ≡ put_results l.fn.store.shapes (version_after l.position) l.writes l.fn.results.items (slot_at l.fn.store);
  stays : l.store.shapes ≡ l.fn.store.shapes;
}
