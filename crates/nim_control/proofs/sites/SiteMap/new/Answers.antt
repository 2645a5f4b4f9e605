use Rattle.std.proofs.Common.{◌≡◌, true, rules}
use Rattle.std.specs.Prelude.{replicate}
use Rattle.nim_control.proofs.Kept.{new_are}
use Rattle.nim_control.proofs.sites.SiteMap.new.Goals as goal

pub invariant_of-result : goal.invariant_of-result
invariant_of-result c =
    let flags : c.in_ok-vec.field-0.items ≡ replicate c.from.result true = search rules in
    new_are c.args.setup.place c.args.setup.workers c.args.objects c.from.result c.in_ok-vec.field-0.items c.in_ok-new.field-0 c.requires.some c.requires.few
    c.from.ensures flags c.in_ok-new.ensures.value
