use Rattle.std.proofs.Common.{rules, ◌≡◌, ◌++◌, ◌∷◌, [], ◌+◌, ◌-◌, ◌∙◌, ap, ap₂, sym, List, ℤ, pos}
use Rattle.std.specs.Int.{int_wrapping_add}
use Rattle.std.proofs.lemmas.Int.{to_z-of_z}
use mir.Syntax.{w64}
use mir.Val.{SFits, to_z, of_z}
use Rattle.nim_base.specs.Value.{counting_up}
use Rattle.nim_base.proofs.CountingUp.{counted-step}
use Rattle.nim_base.proofs.counting.count_up.Goals as goal

pub loop-preserved : goal.loop-preserved
loop-preserved c =
    let n = c.args.count in
    let i = c.loop.counter in
    let next = c.loop.next in
    let cells = c.loop.cells.items in
    let fits : SFits w64 next = search rules in
    let held : to_z w64 c.loop.next-bits ≡ next = c.loop.next-is in
    let after_fits : SFits w64 c.successor-next.result = search rules in
    let after : to_z w64 (of_z w64 c.successor-next.result) ≡ int_wrapping_add w64 next (pos 1) =
    to_z-of_z w64 c.successor-next.result after_fits ∙ c.successor-next.ensures ∙ ap (λ z. int_wrapping_add w64 z (pos 1)) held in
    let grown : c.push.new.self.items ≡ cells ++ next ∷ [] = c.in_ok-push.ensures.items ∙ ap (λ z. cells ++ z ∷ []) held in
    ap₂ (λ (front : List ℤ) (z : ℤ). front ++ counting_up (n - (i + 1)) z) grown after
    ∙ counted-step cells n i next c.loop-test.true
    ∙ ap (λ z. cells ++ counting_up (n - i) z) (sym held)
    ∙ c.loop.invariant
