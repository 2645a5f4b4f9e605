use Rattle.std.proofs.Common.{◌≡◌, ◌∷◌, [], drop, sym, ◌∙◌, rules, arith}
use Rattle.std.proofs.lemmas.Grind.{common_steps}
use Rattle.std.specs.Vec.Iter.{into_iter_items}
use Rattle.nim_check.proofs.Loads.{take_next, take_none}
use Rattle.nim_check.proofs.loading.take_values.Goals as goal
use Rattle.nim_check.proofs.loading.take_values.Goals.{in-Some+in_ok-push, in_default}

pub loop-turn-preserved : goal.loop-turn-preserved
loop-turn-preserved c =
    let values = into_iter_items c.args.values.now in
    let turn = c.loop-turn._turn in
    let rest = into_iter_items c.next.new.self in
    elim c.match-next.branch [
      | in-Some+in_ok-push w ↦
          let left : drop turn values ≡ w.in-Some.value ∷ rest = sym c.loop-turn.invariant.rest ∙ (rw w.in-Some.is at c.next.ensures.items) in
          let more = take_next turn values rest w.in-Some.value left in
          record { taken = rw (w.taken-is, w.in_ok-push.ensures.ok, c.loop-turn.invariant.taken) (sym more.0); rest = sym more.1 }
      | in_default w ↦
          let none : rest ≡ [] = first_of (search rules, grind (arith, common_steps)) in
          let left : drop turn values ≡ [] = first_of (search rules, grind (arith, common_steps)) in
          let more = take_none turn values left in
          record { taken = rw (w.taken-is, c.loop-turn.invariant.taken) (sym more.0); rest = none ∙ sym more.1 }
    ]
