use Rattle.std.proofs.Common.{◌++◌, ap, Bool, List, sym, ◌∙◌}
use Rattle.std.proofs.lemmas.List.{append-nil}
use Rattle.nim_place.specs.Directed.{Directed, directed}
use Rattle.nim_reuse.specs.Reuse.{template_installs}
use Rattle.nim_reuse.proofs.Steps.{no_directed}
use Rattle.nim_reuse.proofs.orders.push_new.Goals as goal

pub returns-else-is_new : goal.returns-else-is_new
returns-else-is_new c =
    let past : List Directed = c.args.orders.now.items in
    sym (append-nil past)
    ∙ ap (λ (xs : List Directed). past ++ xs) (sym (no_directed c.args.workers))
    ∙ ap (λ (b : Bool). past ++ directed c.args.workers (template_installs b c.args.epoch c.args.template.now)) (sym c.if-is_new.false)
