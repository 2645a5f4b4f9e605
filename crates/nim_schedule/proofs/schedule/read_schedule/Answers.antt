use Rattle.std.proofs.Common.{◌≡◌, ◌∙◌, ◌+◌, ◌-◌, ◌++◌, append_assoc, false, None, Some, take, drop, length, sym, ap, arith, rules}
use Rattle.std.specs.Prelude.{nat_lt, not}
use Rattle.std.specs.List.{flat_map, position_or_len}
use Rattle.std.proofs.lemmas.List.{length-drop, take_rest}
use Rattle.std.proofs.lemmas.List.Sums.{prefix_len-le-length}
use Rattle.nim_lex.specs.Bytes.{is_newline}
use Rattle.nim_lex.specs.Source.{Line, cut, line_at, numbered_lines}
use Rattle.nim_lex.proofs.SourceSteps.{step_line}
use Rattle.nim_schedule.specs.Lines.{line_rule, lines_in}
use Rattle.nim_schedule.specs.Schedule.{first_refusal}
use Rattle.nim_schedule.proofs.Steps.{refused_here, refused_later}
use Rattle.nim_schedule.proofs.schedule.read_schedule.Goals as goal

pub returns-in-Some-clause-answers : goal.returns-in-Some-clause-answers
returns-in-Some-clause-answers c =
    let bytes = c.args.bytes.now in
    let i = c.loop-at.at in
    let len = c.line_len-len.result in
    let number = c.loop-at.number in
    let text : take (length bytes - i) (drop i bytes) ≡ drop i bytes = take_rest bytes i in
    let is_len : len ≡ position_or_len is_newline (drop i bytes) = (rw text at c.line_len-len.ensures) in
    let line : Line = line_at number i (take len (drop i bytes)) in
    let rest = numbered_lines (number + 1) (i + (len + 1)) (cut (drop (i + (len + 1)) bytes)) in
    let short : nat_lt 16777216 (length bytes) ≡ false = search rules in
    let broken : line_rule line.bytes ≡ Some c.in-Some.rule = sym (rw text at c.in_ok-rule.ensures.rule) ∙ c.in-Some.is in
    rw short (sym c.loop-at.invariant.refusal ∙ ap first_refusal (step_line number i len bytes c.loop-at-test.true is_len)
    ∙ refused_here line rest c.in-Some.rule broken)

pub loop-at-preserved : goal.loop-at-preserved
loop-at-preserved c =
    let bytes = c.args.bytes.now in
    let i = c.loop-at.at in
    let len = c.line_len-len.result in
    let number = c.loop-at.number in
    let text : take (length bytes - i) (drop i bytes) ≡ drop i bytes = take_rest bytes i in
    let is_len : len ≡ position_or_len is_newline (drop i bytes) = (rw text at c.line_len-len.ensures) in
    let line : Line = line_at number i (take len (drop i bytes)) in
    let rest = numbered_lines (number + 1) (i + (len + 1)) (cut (drop (i + (len + 1)) bytes)) in
    let sound : line_rule line.bytes ≡ None = sym (rw text at c.in_ok-rule.ensures.rule) ∙ c.in_default.is in
    let step = step_line number i len bytes c.loop-at-test.true is_len in
    let added : c.read_line.new.lines.items ≡ c.loop-at.lines.items ++ lines_in line.bytes = (rw text at c.in_ok-rule.ensures.lines) c.in_default.is in
    record {
      within = omega (arith, prefix_len-le-length (λ b. not (is_newline b)) (drop i bytes), length-drop i bytes);
      counted = omega arith;
      refusal = sym (refused_later line rest sound) ∙ sym (ap first_refusal step) ∙ c.loop-at.invariant.refusal;
      said = rw added (append_assoc c.loop-at.lines.items (lines_in line.bytes) (flat_map (λ (l : Line). lines_in l.bytes) rest)
          ∙ (rw step at c.loop-at.invariant.said));
    }
