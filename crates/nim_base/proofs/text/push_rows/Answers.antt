use Rattle.std.proofs.Common.{◌≡◌, ◌++◌, ◌∷◌, [], ◌+◌, ◌-◌, ◌∙◌, ap, sym, List, ℕ, ℤ, take, drop, map}
use Rattle.std.specs.Fmt.{signed_decimal}
use Rattle.std.specs.List.{flat_map, join_with_byte}
use Rattle.std.proofs.lemmas.List.{append_assoc}
use mir.Syntax.{w64}
use mir.Val.{SFits}
use Rattle.nim_base.specs.Text.{row_text}
use Rattle.nim_base.specs.Value.{rows_of}
use Rattle.nim_base.proofs.FittedRows.{flat_rows-step, enough-step, fit_rows-step, fit_rows-end}
use Rattle.nim_base.proofs.text.push_rows.Goals as goal

pub loop-preserved : goal.loop-preserved
loop-preserved c =
    let i = c.loop.counter in
    let n = c.args.rows in
    let width = c.args.width in
    let rest = c.loop.rest.now in
    let text = c.loop.text.items in
    let cells : List ℤ → List ℕ = λ row. join_with_byte 32 (map signed_decimal row) in
    let after : List ℕ = flat_map row_text (rows_of (n - (i + 1)) width (drop width rest)) in
    let step = flat_rows-step row_text n i width rest c.loop-test.true in
    let enough = enough-step n i width rest c.loop-test.true c.loop.invariant.enough in
    let grown : c.push.new.self.items ≡ text ++ row_text (take width rest) =
    c.in_ok-push.ensures.items
    ∙ ap (λ (front : List ℕ). front ++ 10 ∷ []) (c.in_ok-push_cells.ensures.written ∙ ap (λ (row : List ℤ). text ++ cells row) c.split_at.ensures.front)
    ∙ append_assoc text (cells (take width rest)) (10 ∷ []) in
    record {
      same =
          rw c.split_at.ensures.back
          (ap (λ (front : List ℕ). front ++ after) grown
          ∙ append_assoc text (row_text (take width rest)) after
          ∙ ap (λ (back : List ℕ). text ++ back) (sym step)
          ∙ c.loop.invariant.same);
      fit = λ more. c.loop.invariant.fit (fit_rows-step (SFits w64) n i width rest c.loop-test.true
          (rw c.split_at.ensures.front at c.in_ok-push_cells.ensures.fit) (rw c.split_at.ensures.back at more));
      enough = rw c.split_at.ensures.back enough.1;
    }

pub returns-clause-fit : goal.returns-clause-fit
returns-clause-fit c = c.loop.invariant.fit (fit_rows-end (SFits w64) c.args.rows c.loop.counter c.args.width c.loop.rest.now c.loop-test.false)
