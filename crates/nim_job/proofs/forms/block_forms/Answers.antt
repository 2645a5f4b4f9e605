use Rattle.std.proofs.Common.{◌≡◌, ◌∙◌, true, List, sym, subst}
use Rattle.std.specs.List.{list_all}
use Rattle.nim_job.specs.declared.block.Stage.{Stage}
use Rattle.nim_job.specs.declared.job.Var.{Var}
use Rattle.nim_job.specs.Whole.{has_refs}
use Rattle.nim_job.proofs.Lists.{list_all_item}
use Rattle.nim_job.proofs.Whole.{stages_refs}
use Rattle.nim_job.proofs.forms.block_forms.Goals as goal

pub push_forms-requires : goal.push_forms-requires
push_forms-requires c =
    let vars = c.args.job.now.vars in
    let refs = subst (λ (stages : List Stage). list_all (has_refs vars) stages ≡ true) (sym c.stages-stage-items.ensures)
    (stages_refs c.args.job.now c.args.block c.requires.whole) in
    subst (λ (seen : List Var). has_refs seen c.stage-item.result ≡ true) (sym (c.in_ok-layout.ensures ∙ c.as_slice.ensures))
    (list_all_item (has_refs vars) c.stages-stage-items.result.now c.loop-stage.stage-index c.stage-item.result refs c.loop-stage-test.true c.stage-item.is)
