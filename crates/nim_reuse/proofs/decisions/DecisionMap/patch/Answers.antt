use Rattle.std.proofs.Common.{◌++◌, ap, List, sym, ◌∙◌}
use Rattle.std.proofs.lemmas.List.{append-nil}
use Rattle.nim_command.specs.declared.template.WorkerTemplate.{WorkerTemplate}
use Rattle.nim_patch.specs.declared.patch.PatchCopy.{PatchCopy}
use Rattle.nim_patch.specs.Patches.{after_copies, patch_copies, failing_in}
use Rattle.nim_place.specs.Directed.{Directed}
use Rattle.nim_reuse.proofs.Steps.{none_copied, patch_of_none}
use Rattle.nim_reuse.proofs.decisions.DecisionMap.patch.Goals as goal

pub returns-then-failing-eq0-clause-orders : goal.returns-then-failing-eq0-clause-orders
returns-then-failing-eq0-clause-orders c =
    let past : List Directed = c.args.orders.now.items in
    sym (append-nil past)
    ∙ ap (λ (xs : List Directed). past ++ xs)
    (sym (patch_of_none c.args.workers c.args.at.now (patch_copies c.args.map.now c.args.ready.now.preconditions) c.args.map.now))

pub returns-then-failing-eq0-clause-map : goal.returns-then-failing-eq0-clause-map
returns-then-failing-eq0-clause-map c =
    ap (λ (cs : List PatchCopy). after_copies c.args.map.now cs)
    (sym (none_copied c.args.map.now c.args.ready.now.preconditions
    (ap (λ (t : WorkerTemplate). failing_in c.args.map.now t.preconditions) (sym c.ready.view_is)
    ∙ sym c.failing.ensures.count ∙ c.if-failing-eq0.true)))
