-- no word among those that were looked at stands twice, and the map has these
use Rattle.std.proofs.Common.{◌≡◌, ◌≤◌, ℕ, false, List, drop, length}
use Rattle.std.specs.Prelude.{is_some}
use Rattle.std.specs.BTreeMap as tree
use Rattle.std.specs.Cmp.Lexicographic.{slice_cmp}
use Rattle.std.specs.Ordering.{nat_cmp}
use Rattle.nim_check.specs.Names.{has_twice, is_in}
use Rattle.nim_check.proofs.names.has_twice.Given as goal

abbrev pub invariant-loop-left : goal.invariant-loop-left
invariant-loop-left l = record {
  within : l.left ≤ length l.words;
  none : has_twice (drop l.left l.words) ≡ false;
  later : (q : List ℕ) → is_some (tree.get_by (λ k. slice_cmp nat_cmp q k.now) l.later) ≡ is_in (drop l.left l.words) q;
}

abbrev pub decreases-loop-left : goal.decreases-loop-left
decreases-loop-left l = l.left
