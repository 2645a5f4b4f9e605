use Rattle.std.proofs.Common.{rules}
use Rattle.nim_template.proofs.ByWorker.{none_more}
use Rattle.nim_template.proofs.build.no_entries.Goals as goal

pub loop-number-preserved : goal.loop-number-preserved
loop-number-preserved c =
    none_more c.loop-number._number c.loop-number.lists.items c.push.new.self.items c.from_vec.result c.loop-number.invariant
    (search rules) c.in_ok-push.ensures.items
