use Rattle.nim_edit.proofs.Installs.{form_installs}
use Rattle.nim_edit.proofs.Leaves.{was_again, was_effect, was_left}
use Rattle.nim_edit.proofs.LegalThen.{was_legal}
use Rattle.nim_edit.proofs.MovedOrders.{was_carried, was_instances}
use Rattle.nim_edit.proofs.MovedSound.{was_sound}
use Rattle.nim_edit.proofs.laws.moved_stays_good.Goals as goal

pub returns-clause-effect : goal.returns-clause-effect
returns-clause-effect c =
    was_effect c.args.place.now c.args.objects c.args.live.now c.args.recorded.now c.args.template.now c.requires.built c.requires.live c.requires.objects
    c.requires.many c.requires.fit

pub returns-clause-again : goal.returns-clause-again
returns-clause-again c =
    was_again c.args.place.now c.args.objects c.args.live.now c.args.recorded.now c.args.template.now c.requires.built c.requires.live c.requires.many

pub returns-clause-left : goal.returns-clause-left
returns-clause-left c =
    was_left c.args.place.now c.args.objects c.args.live.now c.args.recorded.now c.args.template.now c.requires.built c.requires.live c.requires.objects
    c.requires.many c.requires.fit

pub returns-clause-sound : goal.returns-clause-sound
returns-clause-sound c =
    was_sound c.args.place.now c.args.objects c.args.live.now c.args.recorded.now c.args.template.now c.requires.built c.requires.live c.requires.workers
    c.requires.objects c.requires.many c.requires.fit

pub returns-clause-installs : goal.returns-clause-installs
returns-clause-installs c = form_installs c.args.live.now c.args.template.now c.requires.built.form

pub returns-clause-legal : goal.returns-clause-legal
returns-clause-legal c =
    was_legal c.args.place.now c.args.objects c.args.live.now c.args.recorded.now c.args.template.now c.requires.built c.requires.live c.requires.workers
    c.requires.objects c.requires.many c.requires.fit

pub returns-clause-instances : goal.returns-clause-instances
returns-clause-instances c =
    was_instances c.args.place.now c.args.objects c.args.live.now c.args.recorded.now c.args.template.now c.requires.built c.requires.live
    c.requires.workers c.requires.objects c.requires.many c.requires.fit

pub returns-clause-carried : goal.returns-clause-carried
returns-clause-carried c =
    was_carried c.args.place.now c.args.objects c.args.live.now c.args.recorded.now c.args.template.now c.requires.built c.requires.live
    c.requires.workers c.requires.objects c.requires.many c.requires.fit
