use Rattle.std.proofs.Common.{rules, arith, below_more, ◌≡◌, ◌++◌, ◌∷◌, [], ◌+◌, ◌∙◌, ap, ap₂, sym, List, ℕ, ℤ, pos, get_or, drop, map}
use Rattle.std.specs.Fmt.{signed_decimal}
use Rattle.std.specs.List.{flat_map, join_with_byte}
use Rattle.std.proofs.lemmas.Int.{to_z-of_z}
use Rattle.std.proofs.lemmas.List.{append-nil, append_assoc, at_drop_all}
use Rattle.std.proofs.lemmas.List.Elements.{All-cons, All-from_get_or, All-same}
use mir.Syntax.{w64}
use mir.Val.{SFits}
use Rattle.nim_base.proofs.Texts.{later, later-step, joined}
use Rattle.nim_base.proofs.text.push_cells.Goals as goal

pub loop-cell-preserved : goal.loop-cell-preserved
loop-cell-preserved c =
    let i = c.loop-cell.cell-index in
    let rest = c.in-Some.rest.now in
    let fits : SFits w64 (get_or rest i (pos 0)) = search rules in
    let digits : c.as_bytes-in-loop-cell.result.now ≡ signed_decimal (get_or rest i (pos 0)) =
    c.as_bytes-in-loop-cell.ensures.value ∙ c.format-in-loop-cell.ensures.text ∙ ap signed_decimal (to_z-of_z w64 (get_or rest i (pos 0)) fits) in
    let grown : c.extend_from_slice-in-loop-cell.new.self.items ≡ (c.loop-cell.text.items ++ 32 ∷ []) ++ signed_decimal (get_or rest i (pos 0)) =
    c.in_ok-extend_from_slice-2.ensures.items ∙ ap₂ (λ (front back : List ℕ). front ++ back) c.in_ok-push.ensures.items digits in
    record {
      same =
          ap (λ (text : List ℕ). text ++ flat_map later (drop (i + 1) rest)) grown
          ∙ sym (later-step c.loop-cell.text.items rest i c.loop-cell-test.true)
          ∙ c.loop-cell.invariant.same;
      fit = below_more _ _ c.loop-cell.invariant.fit fits;
    }

pub returns-clause-written : goal.returns-clause-written
returns-clause-written c =
    let first = c.in-Some.first.now in
    let rest = c.in-Some.rest.now in
    let row : c.args.row.now ≡ first ∷ rest = search rules in
    let fits : SFits w64 first = search rules in
    let digits : c.as_bytes.result.now ≡ signed_decimal first =
    c.as_bytes.ensures.value ∙ c.format.ensures.text ∙ ap signed_decimal (to_z-of_z w64 first fits) in
    let done : flat_map later (drop c.loop-cell.cell-index rest) ≡ [] = at_drop_all (flat_map later) rest c.loop-cell.cell-index c.loop-cell-test.false in
    let begun : c.extend_from_slice.new.self.items ≡ c.args.text.now.items ++ signed_decimal first =
    c.in_ok-extend_from_slice.ensures.items ∙ ap (λ (back : List ℕ). c.args.text.now.items ++ back) digits in
    sym (append-nil c.loop-cell.text.items)
    ∙ ap (λ (back : List ℕ). c.loop-cell.text.items ++ back) (sym done)
    ∙ c.loop-cell.invariant.same
    ∙ ap (λ (front : List ℕ). front ++ flat_map later rest) begun
    ∙ append_assoc c.args.text.now.items (signed_decimal first) (flat_map later rest)
    ∙ ap (λ (back : List ℕ). c.args.text.now.items ++ back) (sym (ap (λ (cells : List ℤ). join_with_byte 32 (map signed_decimal cells)) row
    ∙ joined first rest))

pub returns-clause-fit : goal.returns-clause-fit
returns-clause-fit c =
    let first = c.in-Some.first.now in
    let rest = c.in-Some.rest.now in
    let row : c.args.row.now ≡ first ∷ rest = search rules in
    let fits : SFits w64 first = search rules in
    All-same (SFits w64) c.args.row.now (first ∷ rest) row
    (All-cons (SFits w64) first rest fits
    (All-from_get_or (SFits w64) rest (pos 0) (λ k low. c.loop-cell.invariant.fit k (omega arith))))
