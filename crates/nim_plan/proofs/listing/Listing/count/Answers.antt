use Rattle.std.proofs.Common.{◌∙◌}
use Rattle.nim_plan.proofs.Listed.{instance_taken, patch_taken, single_taken}
use Rattle.nim_plan.proofs.listing.Listing.count.Goals as goal

pub returns-in_ok-commands-in-Single-clause-listing : goal.returns-in_ok-commands-in-Single-clause-listing
returns-in_ok-commands-in-Single-clause-listing c =
    single_taken c.push_group.result c.args.self.now c.push_group.new.self c.args.order.now c.in-Single.epoch c.in-Single.instance c.in-Single.commands
    c.into_vec.result.items
    c.in-Single.is (c.into_vec.ensures ∙ c.in_ok-commands-in-Single.ensures) c.push_group.ensures

pub returns-in_ok-commands-in-Instantiate-clause-listing : goal.returns-in_ok-commands-in-Instantiate-clause-listing
returns-in_ok-commands-in-Instantiate-clause-listing c =
    instance_taken c.push_group-in-Instantiate.result c.args.self.now c.push_group-in-Instantiate.new.self c.instantiate.new.self c.args.order.now
    c.in-Instantiate.epoch c.in-Instantiate.instance c.in-Instantiate.block c.in-Instantiate.base c.in-Instantiate.args c.as_slice.result.now
    c.in-Instantiate.versions
    c.as_slice-in-Instantiate.result.now c.in-Instantiate.edits c.as_slice-in-Instantiate-2.result.now c.in_ok-commands-in-Instantiate.commands.items
    c.in-Instantiate.is
    c.as_slice.ensures c.as_slice-in-Instantiate.ensures c.as_slice-in-Instantiate-2.ensures c.in_ok-commands-in-Instantiate.ensures.ok
    c.in_ok-commands-in-Instantiate.ensures.commands c.push_group-in-Instantiate.ensures

pub returns-in_ok-commands-in-RunPatch-clause-listing : goal.returns-in_ok-commands-in-RunPatch-clause-listing
returns-in_ok-commands-in-RunPatch-clause-listing c =
    patch_taken c.push_group-in-RunPatch.result c.args.self.now c.push_group-in-RunPatch.new.self c.args.order.now c.in-RunPatch.epoch c.in-RunPatch.instance
    c.in-RunPatch.patch
    c.in-RunPatch.versions c.as_slice-in-RunPatch.result.now c.in_ok-commands-in-RunPatch.commands.items c.in-RunPatch.is c.as_slice-in-RunPatch.ensures
    c.in_ok-commands-in-RunPatch.ensures c.push_group-in-RunPatch.ensures
