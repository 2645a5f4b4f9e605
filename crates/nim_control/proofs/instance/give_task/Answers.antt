use Rattle.std.proofs.Common.{◌≡◌, ◌++◌, ◌∙◌, ℕ, List, length, ap, ap₂, arith}
use Rattle.nim_base.specs.declared.number.Worker.{Worker}
use Rattle.nim_command.specs.declared.command.Command.{Command}
use Rattle.nim_command.specs.Numbers.{counted_from}
use Rattle.nim_place.specs.Extends.{singles_of}
use Rattle.nim_place.specs.Schedule.{scheduled}
use Rattle.nim_place.specs.Directed.{directed}
use Rattle.nim_control.proofs.Instances.{writes_first}
use Rattle.nim_control.proofs.instance.give_task.Goals as goal

pub schedule-requires : goal.schedule-requires
schedule-requires c = writes_first c.args.sites.now.versions.objects c.args.task.now c.requires

pub returns-clause-orders : goal.returns-clause-orders
returns-clause-orders c =
    let at : c.saturating_add-position.result ≡ counted_from c.args.instance.base c.args.number =
    omega (arith, c.saturating_add-position.ensures, c.from.ensures) in
    c.in_ok-push_singles.ensures
    ∙ ap₂ (λ (n : ℕ) (cs : List (Worker × Command)).
    c.args.orders.now.items ++ directed n (singles_of c.args.instance.epoch c.args.instance.instance cs))
    (c.workers.ensures.workers ∙ ap length c.in_ok-commands.ensures.stay.live)
    (c.in_ok-commands.ensures.commands
    ∙ ap (λ (position : ℕ). scheduled c.args.sites.now.versions c.args.task.now c.args.number position c.args.sites.now.place c.args.sites.now.live) at)
