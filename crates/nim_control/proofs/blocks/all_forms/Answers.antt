use Rattle.std.proofs.Common.{◌∙◌, [], ◌∷◌, ◌++◌, List, ap₂, sym, arith}
use Rattle.nim_base.specs.declared.task.TaskForm.{TaskForm}
use Rattle.nim_control.proofs.Forms.{forms_more}
use Rattle.nim_control.proofs.blocks.all_forms.Goals as goal

pub loop-block-preserved : goal.loop-block-preserved
loop-block-preserved c =
    c.in_ok-push.ensures.items
    ∙ ap₂ (λ (made : List (List TaskForm)) (forms : List TaskForm). made ++ forms ∷ []) c.loop-block.invariant
    (c.from_vec.ensures ∙ c.in_ok-block_forms.ensures)
    ∙ sym (forms_more c.args.job.now.vars c.args.job.now.blocks c.loop-block.block (omega (arith, c.loop-block-test.true, c.len-block-end.ensures)))
