use Rattle.std.proofs.Common.{◌∙◌, ℕ, List, ap, ap₂, refl, rules}
use Rattle.std.specs.List.{list_all}
use Rattle.nim_base.specs.declared.number.Worker.{Worker}
use Rattle.nim_command.specs.declared.edit.Edit.{Edit}
use Rattle.nim_place.specs.Extends.{is_live}
use Rattle.nim_edit.specs.Form.{is_edit_below}
use Rattle.nim_edit.proofs.ByRule.{halves_ascend, halves_ruled}
use Rattle.nim_edit.proofs.Effects.{kept_effect}
use Rattle.nim_edit.specs.Moves.{are_apart, edits_of}
use Rattle.nim_edit.proofs.Forms.{halves_long, moved_form, moved_unsent, owned_still, taken_move}
use Rattle.nim_edit.proofs.Touched.{moves_apart}
use Rattle.nim_edit.proofs.migration.migrate.Goals as goal

pub edited_halves-requires : goal.edited_halves-requires
edited_halves-requires c = record {
  below =
      ap₂ (λ (n : ℕ) (edits : List (Worker × Edit)). list_all (is_edit_below n) edits) (halves_long c.args.template.now c.requires.form)
      c.as_slice.ensures.value
      ∙ c.in_ok-edits.ensures.below;
  apart =
      ap are_apart (c.as_slice.ensures.value ∙ c.in_ok-edits.ensures.value)
      ∙ moves_apart c.args.template.now c.args.task c.args.to
      (taken_move c.args.template.now c.args.task c.args.to c.args.live.now c.requires.form c.requires.live (search rules));
}

pub returns-clause-form : goal.returns-clause-form
returns-clause-form c =
    moved_form c.args.template.now c.args.task c.args.to c.args.live.now c.in_ok-edits.edits.items c.as_slice.result.now c.put_halves.new.halves
    c.put_owner.new.owners c.push_edits.new.unsent c.requires.form c.requires.live (search rules) c.in_ok-edits.ensures.value c.as_slice.ensures.value
    (c.put_halves.ensures ∙ c.in_ok-touched.ensures.value) c.put_owner.ensures c.in_ok-push_edits.ensures.ok

pub returns-clause-built : goal.returns-clause-built
returns-clause-built c =
    λ place objects living recorded was.
    record {
      form = returns-clause-form c;
      block = was.block;
      forms = was.forms;
      built = was.built;
      preconditions = was.preconditions;
      effect = was.effect;
      homes = was.homes;
    }

pub returns-clause-owned : goal.returns-clause-owned
returns-clause-owned c =
    λ all.
    ap (list_all (is_live c.args.live.now)) c.put_owner.ensures
    ∙ owned_still c.args.template.now c.args.task c.args.to c.args.live.now (search rules) all

pub returns-clause-unsent : goal.returns-clause-unsent
returns-clause-unsent c =
    λ sent is.
    moved_unsent sent c.args.template.now.halves c.args.template.now.unsent (edits_of c.args.template.now c.args.task c.args.to)
    c.in_ok-edits.edits.items c.as_slice.result.now c.put_halves.new.halves c.push_edits.new.unsent is
    c.in_ok-edits.ensures.value c.as_slice.ensures.value (c.put_halves.ensures ∙ c.in_ok-touched.ensures.value) c.in_ok-push_edits.ensures.ok

pub returns-clause-ascend : goal.returns-clause-ascend
returns-clause-ascend c =
    halves_ascend (record c.args.template.now { halves = c.put_halves.new.halves; owners = c.put_owner.new.owners; unsent = c.push_edits.new.unsent })
    (returns-clause-form c)

pub returns-clause-by_rule : goal.returns-clause-by_rule
returns-clause-by_rule c =
    halves_ruled (record c.args.template.now { halves = c.put_halves.new.halves; owners = c.put_owner.new.owners; unsent = c.push_edits.new.unsent })
    (returns-clause-form c)

pub returns-clause-effect : goal.returns-clause-effect
returns-clause-effect c =
    λ objects few has.
    kept_effect c.args.template.now
    (record c.args.template.now { halves = c.put_halves.new.halves; owners = c.put_owner.new.owners; unsent = c.push_edits.new.unsent })
    objects few c.requires.form (returns-clause-form c) refl refl has
