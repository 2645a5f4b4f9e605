use Rattle.std.proofs.Common.{List, ap, ap₂, ◌∙◌}
use Rattle.nim_base.specs.declared.number.Worker.{Worker}
use Rattle.nim_command.specs.declared.edit.Edit.{Edit}
use Rattle.nim_edit.specs.Moves.{worker_at}
use Rattle.nim_edit.specs.Refusals.{is_one_full}
use Rattle.nim_edit.proofs.migration.are_too_many.Goals as goal

pub returns : goal.returns
returns c =
    c.is_one_full.ensures
    ∙ ap (λ (unsent : List (Worker × Edit)). is_one_full unsent (worker_at c.as_slice.result.now c.args.task) (worker_at c.as_slice-2.result.now c.args.task)
    c.args.to) c.as_slice-3.ensures
    ∙ ap₂ (λ (homes owners : List Worker). is_one_full c.args.template.now.unsent (worker_at homes c.args.task) (worker_at owners c.args.task) c.args.to)
    c.as_slice.ensures c.as_slice-2.ensures
