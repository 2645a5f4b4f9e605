use Rattle.std.proofs.Common.{◌∙◌, List, ap, map, refl}
use Rattle.nim_job.specs.declared.job.Var.{Var}
use Rattle.nim_job.specs.Objects.{initial_values}
use Rattle.nim_control.specs.Checkpoints.{at_first}
use Rattle.nim_control.proofs.Checkpoints.{is_first}
use Rattle.nim_control.proofs.checkpoint.first_checkpoint.Goals as goal

pub returns : goal.returns
returns c =
    is_first c.args.job.now c.args.machine.now (record { state = c.in_ok-save.field-0; position = 0; objects = c.from_vec.result }) c.requires.whole
    c.requires.start c.in_ok-save.ensures.stands refl
    (c.from_vec.ensures ∙ c.in_ok-objects.ensures ∙ ap (λ (vars : List Var). map at_first (initial_values vars)) c.as_slice.ensures)
