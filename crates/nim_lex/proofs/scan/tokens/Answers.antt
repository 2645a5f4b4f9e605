use Rattle.std.proofs.Common.{◌≡◌, ◌+◌, ◌-◌, ◌++◌, append_assoc, false, None, Some, take, drop, length, sym, ◌∙◌, ap, arith, rules}
use Rattle.std.proofs.lemmas.List.{take_rest, length-drop}
use Rattle.std.proofs.lemmas.List.Sums.{prefix_len-le-length}
use Rattle.std.proofs.lemmas.Grind.{common_steps}
use Rattle.std.specs.Prelude.{not}
use Rattle.std.specs.List.{flat_map, position_or_len}
use Rattle.nim_lex.specs.Bytes.{is_newline}
use Rattle.nim_lex.specs.Rules.{broken_by, is_too_long}
use Rattle.nim_lex.specs.Source.{Line, cut, first_refusal, line_at, line_tokens, numbered_lines, pieces_of, tokens_of}
use Rattle.nim_lex.proofs.SourceSteps.{step_line, refusal_here, refusal_later}
use Rattle.nim_lex.proofs.SourceTexts.{texts, order}
use Rattle.nim_lex.proofs.scan.tokens.Goals as goal

pub returns-in-Some-clause-answers : goal.returns-in-Some-clause-answers
returns-in-Some-clause-answers c =
    let bytes = c.args.bytes.now in
    let i = c.loop-at.at in
    let len = c.line_len-len.result in
    let number = c.loop-at.number in
    let text : take (length bytes - i) (drop i bytes) ≡ drop i bytes = take_rest bytes i in
    let is_len : len ≡ position_or_len is_newline (drop i bytes) = (rw text at c.line_len-len.ensures) in
    let line : Line = line_at number i (take len (drop i bytes)) in
    let rest = numbered_lines (number + 1) (i + (len + 1)) (cut (drop (i + (len + 1)) bytes)) in
    let short : is_too_long bytes ≡ false = search rules in
    let broken : broken_by (pieces_of line) ≡ Some c.in-Some.rule = sym (rw text at c.in_ok-rule.ensures.rule) ∙ c.in-Some.is in
    rw short (sym c.loop-at.invariant.refusal ∙ ap first_refusal (step_line number i len bytes c.loop-at-test.true is_len)
    ∙ refusal_here line rest c.in-Some.rule broken)

pub loop-at-preserved : goal.loop-at-preserved
loop-at-preserved c =
    let bytes = c.args.bytes.now in
    let i = c.loop-at.at in
    let len = c.line_len-len.result in
    let number = c.loop-at.number in
    let text : take (length bytes - i) (drop i bytes) ≡ drop i bytes = take_rest bytes i in
    let is_len : len ≡ position_or_len is_newline (drop i bytes) = (rw text at c.line_len-len.ensures) in
    let line : Line = line_at number i (take len (drop i bytes)) in
    let rest = numbered_lines (number + 1) (i + (len + 1)) (cut (drop (i + (len + 1)) bytes)) in
    let sound : broken_by (pieces_of line) ≡ None = sym (rw text at c.in_ok-rule.ensures.rule) ∙ c.in_default.is in
    let step = step_line number i len bytes c.loop-at-test.true is_len in
    let added : c.read_line.new.tokens.items ≡ c.loop-at.all.items ++ line_tokens line = (rw text at c.in_ok-rule.ensures.tokens) c.in_default.is in
    record {
      within = omega (arith, prefix_len-le-length (λ b. not (is_newline b)) (drop i bytes), length-drop i bytes);
      counted = omega arith;
      refusal = sym (refusal_later line rest sound) ∙ sym (ap first_refusal step) ∙ c.loop-at.invariant.refusal;
      tokens = rw added (append_assoc c.loop-at.all.items (line_tokens line) (flat_map line_tokens rest) ∙ (rw step at c.loop-at.invariant.tokens));
    }

pub returns-clause-texts : goal.returns-clause-texts
returns-clause-texts c =
    let all : c.loop-at.all.items ≡ tokens_of c.args.bytes.now = grind (arith, common_steps) in
    rw all (texts c.args.bytes.now)

pub returns-clause-order : goal.returns-clause-order
returns-clause-order c =
    let all : c.loop-at.all.items ≡ tokens_of c.args.bytes.now = grind (arith, common_steps) in
    rw all (order c.args.bytes.now)
