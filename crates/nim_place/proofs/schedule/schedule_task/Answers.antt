use Rattle.std.proofs.Common.{◌≡◌, ◌<◌, arith, rules, subst}
use Rattle.nim_base.specs.declared.number.Worker.{Worker}
use Rattle.nim_place.specs.Finds.{FindsLatest}
use Rattle.nim_place.specs.Schedule.{owner_of}
use Rattle.nim_place.specs.TaskOrders.{RunsAt}
use Rattle.nim_place.proofs.ByTask.{schedule_ruled}
use Rattle.nim_place.proofs.Finds.{schedule_finds}
use Rattle.nim_place.proofs.Given.{schedule_stands}
use Rattle.nim_place.proofs.GoesOn.{schedule_goes_on, schedule_runs}
use Rattle.nim_place.proofs.Legal.{schedule_legal}
use Rattle.nim_place.proofs.Singles.{schedule_asks, singles_covered}
use Rattle.nim_place.proofs.TaskPairs.{schedule_paired}
use Rattle.nim_place.proofs.schedule.schedule_task.Goals as goal

pub returns-clause-stands : goal.returns-clause-stands
returns-clause-stands c =
    schedule_stands c.args.map.now c.apply_all.new.map c.owner_of-owner.result c.args.task.now c.args.number c.args.position c.push.new.self.items
    (omega (arith, c.owner_of-owner.ensures.within, c.requires.workers)) (search rules) (search rules)

pub returns-clause-by_rule : goal.returns-clause-by_rule
returns-clause-by_rule c =
    schedule_ruled c.args.map.now c.owner_of-owner.result c.args.task.now c.args.number c.args.position c.push.new.self.items (search rules)

pub returns-clause-finds : goal.returns-clause-finds
returns-clause-finds c =
    let below : c.owner_of-owner.result.0 < c.args.map.now.workers = omega (arith, c.owner_of-owner.ensures.within, c.requires.workers) in
    let is : c.owner_of-owner.result ≡ owner_of c.args.place.now c.args.task.now c.args.map.now.objects c.args.live.now = search rules in
    subst (λ (w : Worker). FindsLatest c.args.map.now w c.args.task.now c.args.number) is
    (schedule_finds c.args.map.now c.owner_of-owner.result c.args.task.now c.args.number below)

pub returns-clause-asked : goal.returns-clause-asked
returns-clause-asked c =
    schedule_asks c.args.map.now c.args.live.now c.owner_of-owner.result c.args.task.now c.args.number c.args.position c.push.new.self.items
    c.owner_of-owner.ensures.live (search rules)

pub returns-clause-legal : goal.returns-clause-legal
returns-clause-legal c =
    schedule_legal c.args.map.now c.args.live.now c.owner_of-owner.result c.args.task.now c.args.number c.args.position c.push.new.self.items
    (omega (arith, c.owner_of-owner.ensures.within, c.requires.workers)) (search rules)

pub returns-clause-versions : goal.returns-clause-versions
returns-clause-versions c =
    let below : c.owner_of-owner.result.0 < c.args.map.now.workers = omega (arith, c.owner_of-owner.ensures.within, c.requires.workers) in
    let is : c.owner_of-owner.result ≡ owner_of c.args.place.now c.args.task.now c.args.map.now.objects c.args.live.now = search rules in
    subst (λ (w : Worker). RunsAt c.args.map.now c.apply_all.new.map w c.args.task.now c.args.position) is
    (schedule_runs c.args.map.now c.apply_all.new.map c.owner_of-owner.result c.args.task.now c.args.number c.args.position c.push.new.self.items below
    (search rules) (search rules))

pub returns-clause-next : goal.returns-clause-next
returns-clause-next c =
    schedule_goes_on c.args.map.now c.apply_all.new.map c.owner_of-owner.result c.args.task.now c.args.number c.args.position c.push.new.self.items
    (omega (arith, c.owner_of-owner.ensures.within, c.requires.workers)) (search rules) (search rules)

pub returns-clause-covered : goal.returns-clause-covered
returns-clause-covered c =
    singles_covered c.push.new.self.items
    (schedule_ruled c.args.map.now c.owner_of-owner.result c.args.task.now c.args.number c.args.position c.push.new.self.items (search rules))

pub returns-clause-paired : goal.returns-clause-paired
returns-clause-paired c =
    schedule_paired c.args.map.now c.args.live.now c.owner_of-owner.result c.args.task.now c.args.number c.args.position c.push.new.self.items
    (omega (arith, c.ranges.number)) (search rules)
