use Rattle.nim_control.proofs.Reused.{decisions_seen, orders_seen, reused_seen}
use Rattle.nim_control.proofs.sites.SiteMap.reuse.Goals as goal

pub returns-clause-orders : goal.returns-clause-orders
returns-clause-orders c =
    orders_seen c.reuse.result c.self.inside.place c.self.inside.live.items c.as_slice.result.now c.self.inside.versions c.args.self.now c.args.at.now
    c.args.args.now c.args.decisions.now c.args.orders.now.items c.reuse.new.orders.items c.as_slice.ensures.value c.self.view_is c.reuse.ensures.orders

pub returns-clause-reused : goal.returns-clause-reused
returns-clause-reused c =
    reused_seen c.reuse.result c.self.inside.place c.self.inside.live.items c.as_slice.result.now c.self.inside.versions c.args.self.now c.args.at.now
    c.args.decisions.now c.as_slice.ensures.value c.self.view_is c.reuse.ensures.reused

pub returns-clause-decisions : goal.returns-clause-decisions
returns-clause-decisions c =
    decisions_seen c.reuse.result c.self.inside.place c.self.inside.live.items c.as_slice.result.now c.self.inside.versions c.args.self.now c.args.at.now
    c.args.decisions.now c.reuse.new.self c.as_slice.ensures.value c.self.view_is c.reuse.ensures.decisions
