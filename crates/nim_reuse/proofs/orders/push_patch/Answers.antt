use Rattle.std.proofs.Common.{◌≡◌, ◌++◌, ap, List, subst, sym, ◌∙◌, OnOk}
use Rattle.std.proofs.lemmas.List.{append-nil}
use Rattle.nim_place.specs.Directed.{Directed}
use Rattle.nim_reuse.specs.declared.reused.Patched.{Patched}
use Rattle.nim_reuse.specs.Reuse.{patch_orders}
use Rattle.nim_reuse.proofs.Steps.{patch_found_again, patch_of_none}
use Rattle.nim_reuse.proofs.orders.push_patch.Goals as goal

pub returns-in-Not : goal.returns-in-Not
returns-in-Not c =
    let past : List Directed = c.args.orders.now.items in
    sym (append-nil past)
    ∙ ap (λ (xs : List Directed). past ++ xs) (sym (patch_of_none c.args.workers c.args.at.now c.args.copies.now c.args.map.now))
    ∙ ap (λ (p : Patched). past ++ patch_orders c.args.workers c.args.at.now p c.args.copies.now c.args.map.now) (sym c.in-Not.is)

pub returns-in-Repeated : goal.returns-in-Repeated
returns-in-Repeated c =
    subst (λ (xs : List Directed). OnOk c.push_patch_runs.result (c.push_patch_runs.new.orders.items ≡ c.args.orders.now.items ++ xs))
    (sym (patch_found_again c.args.workers c.args.at.now c.in-Repeated.number c.args.copies.now c.args.map.now)
    ∙ ap (λ (p : Patched). patch_orders c.args.workers c.args.at.now p c.args.copies.now c.args.map.now) (sym c.in-Repeated.is))
    c.push_patch_runs.ensures
