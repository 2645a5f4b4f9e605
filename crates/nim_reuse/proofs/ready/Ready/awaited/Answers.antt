use Rattle.std.proofs.Common.{◌∷◌, ◌++◌, [], ap, List, sym, ◌∙◌}
use Rattle.std.specs.Prelude.{if◌then◌else◌}
use Rattle.nim_base.specs.declared.number.Worker.{Worker}
use Rattle.nim_place.specs.Extends.{worker_of}
use Rattle.nim_reuse.specs.Reuse.{has_entries}
use Rattle.nim_reuse.proofs.Steps.{awaited_more}
use Rattle.nim_reuse.proofs.ready.Ready.awaited.Goals as goal

pub loop-number-preserved : goal.loop-number-preserved
loop-number-preserved c =
    let number = c.loop-number.number in
    c.in_ok-push_awaited.ensures
    ∙ ap (λ (ws : List Worker). ws ++ (if has_entries c.args.self.now (worker_of number) then worker_of number ∷ [] else []))
    c.loop-number.invariant
    ∙ sym (awaited_more number c.args.self.now)
