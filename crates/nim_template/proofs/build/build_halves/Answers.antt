use Rattle.std.proofs.Common.{ap, length, subst, sym, ◌∙◌}
use Rattle.std.specs.List.{list_all}
use Rattle.nim_command.specs.declared.template.WorkerTemplate.{WorkerTemplate}
use Rattle.nim_place.specs.Sound.{IsSound}
use Rattle.nim_template.specs.Again.{HoldAgain}
use Rattle.nim_template.specs.Ascends.{does_ascend}
use Rattle.nim_template.specs.Written.{HasEffect}
use Rattle.nim_template.specs.Given.{InstallsExtend, InstancesExtend}
use Rattle.nim_template.specs.Instance.{LeavesEffect}
use Rattle.nim_template.specs.MainSlots.{AreMainSlots}
use Rattle.nim_template.specs.Runs.{RunTasks}
use Rattle.nim_template.proofs.Again.{built_again}
use Rattle.nim_template.proofs.Given.{built_installs, built_instances}
use Rattle.nim_template.specs.Tasks.{DoTasks}
use Rattle.nim_template.proofs.Halves.{built_tasks}
use Rattle.nim_template.proofs.IsSound.{built_sound}
use Rattle.nim_template.proofs.Left.{built_left}
use Rattle.nim_template.proofs.MainSlots.{built_needs}
use Rattle.nim_template.proofs.Numbers.{built_ascend}
use Rattle.nim_template.proofs.RunOnce.{built_runs}
use Rattle.nim_template.proofs.Written.{built_effect}
use Rattle.nim_template.proofs.build.build_halves.Goals as goal

pub returns-clause-ascend : goal.returns-clause-ascend
returns-clause-ascend c =
    ap (λ (t : WorkerTemplate). list_all (does_ascend 0) t.halves) c.in_ok-template.ensures
    ∙ built_ascend c.args.place.now c.args.objects c.args.live.now c.args.template.now c.requires.workers c.requires.objects c.requires.many c.requires.fit

pub returns-clause-needs : goal.returns-clause-needs
returns-clause-needs c =
    subst (λ (t : WorkerTemplate). AreMainSlots c.args.live.now c.args.objects t.preconditions) (sym c.in_ok-template.ensures)
    (built_needs c.args.place.now c.args.objects c.args.live.now c.args.template.now c.requires.live c.requires.objects c.requires.many c.requires.fit)

pub returns-clause-again : goal.returns-clause-again
returns-clause-again c =
    subst (HoldAgain (length c.args.live.now) c.args.objects) (sym c.in_ok-template.ensures)
    (built_again c.args.place.now c.args.objects c.args.live.now c.args.template.now c.requires.live c.requires.many)

pub returns-clause-tasks : goal.returns-clause-tasks
returns-clause-tasks c =
    subst (DoTasks c.args.place.now c.args.live.now c.args.objects) (sym c.in_ok-template.ensures)
    (built_tasks c.args.place.now c.args.objects c.args.live.now c.args.template.now c.requires.live c.requires.workers c.requires.objects
    c.requires.many c.requires.fit)

pub returns-clause-effect : goal.returns-clause-effect
returns-clause-effect c =
    subst (HasEffect (length c.args.live.now) c.args.objects) (sym c.in_ok-template.ensures)
    (built_effect c.args.place.now c.args.objects c.args.live.now c.args.template.now c.requires.live c.requires.many c.requires.fit)

pub returns-clause-left : goal.returns-clause-left
returns-clause-left c =
    subst (LeavesEffect (length c.args.live.now) c.args.objects) (sym c.in_ok-template.ensures)
    (built_left c.args.place.now c.args.objects c.args.live.now c.args.template.now c.requires.live c.requires.many c.requires.fit)

pub returns-clause-installs : goal.returns-clause-installs
returns-clause-installs c =
    subst (InstallsExtend c.args.live.now) (sym c.in_ok-template.ensures)
    (built_installs c.args.place.now c.args.objects c.args.live.now c.args.template.now)

pub returns-clause-instances : goal.returns-clause-instances
returns-clause-instances c =
    subst (InstancesExtend c.args.live.now c.args.objects) (sym c.in_ok-template.ensures)
    (built_instances c.args.place.now c.args.objects c.args.live.now c.args.template.now c.requires.live c.requires.workers c.requires.objects
    c.requires.many c.requires.fit)

pub returns-clause-sound : goal.returns-clause-sound
returns-clause-sound c =
    subst IsSound (sym c.in_ok-template.ensures)
    (built_sound c.args.place.now c.args.objects c.args.live.now c.args.template.now c.requires.live c.requires.workers c.requires.objects
    c.requires.many c.requires.fit)

pub returns-clause-runs : goal.returns-clause-runs
returns-clause-runs c =
    subst (RunTasks c.args.place.now c.args.live.now c.args.objects) (sym c.in_ok-template.ensures)
    (built_runs c.args.place.now c.args.objects c.args.live.now c.args.template.now c.requires.live c.requires.workers c.requires.objects
    c.requires.many c.requires.fit)
