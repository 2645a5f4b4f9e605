use Rattle.nim_control.proofs.Kept.{sites_still, stay_with, taken_stays}
use Rattle.nim_control.proofs.sites.SiteMap.take.Goals as goal

pub invariant_of-self : goal.invariant_of-self
invariant_of-self c =
    sites_still c.self.inside.place c.self.inside.live.items c.self.inside.versions c.apply_command.new.self c.self.invariant
    (taken_stays c.args.worker c.args.command.now.kind c.self.inside.versions c.apply_command.new.self c.apply_command.ensures.value)

pub returns-clause-stay : goal.returns-clause-stay
returns-clause-stay c =
    stay_with _ c.args.self.now c.apply_command.new.self c.self.view_is
    (taken_stays c.args.worker c.args.command.now.kind c.self.inside.versions c.apply_command.new.self c.apply_command.ensures.value)
