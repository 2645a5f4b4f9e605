use Rattle.nim_patch.specs.Patches.{patch_copies}
use Rattle.nim_reuse.proofs.Stays.{affected_stays, copied_stays}
use Rattle.nim_reuse.proofs.decisions.DecisionMap.give.Goals as goal

pub returns-in_err-push_instances-clause-stays : goal.returns-in_err-push_instances-clause-stays
returns-in_err-push_instances-clause-stays c =
    copied_stays c.args.map.now c.patch.new.map (patch_copies c.args.map.now c.args.ready.preconditions) c.in_ok-patched.ensures.map

pub returns-in_err-awaited-clause-stays : goal.returns-in_err-awaited-clause-stays
returns-in_err-awaited-clause-stays c =
    copied_stays c.args.map.now c.patch.new.map (patch_copies c.args.map.now c.args.ready.preconditions) c.in_ok-patched.ensures.map

pub returns-clause-stays : goal.returns-clause-stays
returns-clause-stays c =
    affected_stays c.args.map.now c.patch.new.map c.apply_effect.new.self c.args.at.now.base c.as_slice.result.now
    (copied_stays c.args.map.now c.patch.new.map (patch_copies c.args.map.now c.args.ready.preconditions) c.in_ok-patched.ensures.map) c.apply_effect.ensures
