use Rattle.std.proofs.Common.{◌≡◌, arith, not, ◌∙◌, int_lt}
use Rattle.std.proofs.lemmas.Int.{to_z-of_z}
use Rattle.nim_base.specs.Functions.{at_column}
use Rattle.nim_funcs.proofs.Kept.{kept_room, kept_all, kept_to}
use Rattle.nim_funcs.proofs.split.split.Goals as goal

pub push_if-requires-clause-room : goal.push_if-requires-clause-room
push_if-requires-clause-room c = kept_room _ c.args.value.now c.loop-at.at 4294967295 c.loop-at.below (omega arith) c.loop-at.invariant.below

pub push_if-requires-in-loop-at-clause-room : goal.push_if-requires-in-loop-at-clause-room
push_if-requires-in-loop-at-clause-room c =
    kept_room _ c.args.value.now c.loop-at.at 4294967295 c.loop-at.rest (omega arith) c.loop-at.invariant.rest

pub returns-clause-rest : goal.returns-clause-rest
returns-clause-rest c =
    let column = c.ranges.column in
    let pivot = c.ranges.pivot in
    let rest : c.loop-at.rest ≡ kept_to (λ row. not (int_lt (at_column c.args.column row) c.args.pivot)) c.args.value.now c.loop-at.at =
    simp to_z-of_z at c.loop-at.invariant.rest in
    rest ∙ kept_all (λ row. not (int_lt (at_column c.args.column row) c.args.pivot)) c.args.value.now c.loop-at.at (omega arith)
