-- the copies so far, and those that are to come
use Rattle.std.proofs.Common.{◌≡◌, ◌++◌, drop, take}
use Rattle.nim_template.specs.Closing.{after_closings, closings}
use Rattle.nim_template.proofs.closing.closings.Given as goal

abbrev pub invariant-loop-need : goal.invariant-loop-need
invariant-loop-need l = record {
  copies : l.copies.items ++ closings l.offsets (drop l.need-index l.needs) ≡ closings l.initial.offsets l.needs;
  closed : l.offsets ≡ after_closings l.initial.offsets (take l.need-index l.needs);
}
