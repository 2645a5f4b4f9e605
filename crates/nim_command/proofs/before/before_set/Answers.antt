use Rattle.std.proofs.Common.{◌≡◌, ◌∙◌, ℕ, List, map, ap}
use Rattle.std.proofs.lemmas.Result.{IfOk-weaker}
use Rattle.nim_command.specs.Before.{Footprint}
use Rattle.nim_command.specs.LastUses.{numbers_at}
use Rattle.nim_command.proofs.Rises.{before_told}
use Rattle.nim_command.proofs.before.before_set.Goals as goal

pub returns : goal.returns
returns g c =
    let past : List Footprint = map g.T.Waits.footprint c.args.past.now in
    IfOk-weaker c.numbers_at.result (λ (before : List ℕ). before ≡ numbers_at past c.as_slice.result.now) _
    (λ before is.
    is ∙ ap (numbers_at past) c.as_slice.ensures.value
    ∙ before_told c.args.uses.now past (g.T.Waits.footprint c.args.later.now) c.places.new.places.items c.requires
    c.in_ok-places.ensures.rise c.in_ok-places.ensures.met)
    c.numbers_at.ensures
