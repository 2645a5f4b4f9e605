-- what the tasks so far and those that are to come make of the walk
use Rattle.std.proofs.Common.{◌≡◌, drop, length}
use Rattle.nim_template.specs.Walk.{empty_walk, walked}
use Rattle.nim_template.proofs.walk.walked.Given as goal

abbrev pub invariant-loop-number : goal.invariant-loop-number
invariant-loop-number l = record {
  forms : l.forms.items ≡ l.fn.forms.items;
  workers : l.walk.offsets.workers ≡ length l.live;
  objects : l.walk.offsets.objects ≡ l.objects;
  so_far : walked l.place l.live l.number l.walk (drop l.number l.fn.forms.items) ≡ walked l.place l.live 0 (empty_walk (length l.live) l.objects) l.fn.forms.items;
}
