use Rattle.std.proofs.Common.{ap, refl, subst, sym, ◌∙◌}
use Rattle.std.specs.List.{list_all}
use Rattle.nim_command.specs.declared.template.WorkerTemplate.{WorkerTemplate}
use Rattle.nim_place.specs.Extends.{is_live}
use Rattle.nim_edit.specs.Form.{IsInForm, WasBuilt}
use Rattle.nim_edit.proofs.Built.{built_form}
use Rattle.nim_edit.proofs.OwnCommands.{homes_live}
use Rattle.nim_edit.proofs.laws.built_is_in_form.Goals as goal

pub returns-clause-form : goal.returns-clause-form
returns-clause-form c =
    subst IsInForm (sym c.requires.built)
    (built_form c.args.place.now c.args.objects c.args.live.now c.args.recorded.now c.requires.live c.requires.workers c.requires.objects c.requires.many
    c.requires.fit)

pub returns-clause-built : goal.returns-clause-built
returns-clause-built c =
    subst (WasBuilt c.args.place.now c.args.objects c.args.live.now c.args.recorded.now) (sym c.requires.built)
    (record {
      form =
          built_form c.args.place.now c.args.objects c.args.live.now c.args.recorded.now c.requires.live c.requires.workers c.requires.objects
          c.requires.many c.requires.fit;
      block = refl;
      forms = refl;
      built = refl;
      preconditions = refl;
      effect = refl;
      homes = refl;
    })

pub returns-clause-owned : goal.returns-clause-owned
returns-clause-owned c =
    ap (λ (t : WorkerTemplate). list_all (is_live c.args.live.now) t.owners) c.requires.built
    ∙ homes_live c.args.place.now c.args.objects c.args.live.now c.args.recorded.now.forms c.requires.live c.requires.fit
