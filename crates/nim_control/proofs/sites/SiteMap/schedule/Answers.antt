use Rattle.nim_control.proofs.Kept.{scheduled_stays, sites_still, stay_with}
use Rattle.nim_control.proofs.sites.SiteMap.schedule.Goals as goal

pub invariant_of-self : goal.invariant_of-self
invariant_of-self c =
    sites_still c.self.inside.place c.self.inside.live.items c.self.inside.versions c.schedule_task.new.map c.self.invariant
    (scheduled_stays c.schedule_task.result (λ commands. commands.items) c.self.inside.versions c.schedule_task.new.map c.schedule_task.ensures.ok
    c.schedule_task.ensures.err)

pub returns-clause-stay : goal.returns-clause-stay
returns-clause-stay c =
    stay_with _ c.args.self.now c.schedule_task.new.map c.self.view_is
    (scheduled_stays c.schedule_task.result (λ commands. commands.items) c.self.inside.versions c.schedule_task.new.map c.schedule_task.ensures.ok
    c.schedule_task.ensures.err)
