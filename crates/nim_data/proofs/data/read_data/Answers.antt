use Rattle.std.proofs.Common.{◌≡◌, ◌+◌, ◌-◌, false, None, Some, take, drop, length, [], subst, sym, ◌∙◌, ap, arith, rules}
use Rattle.std.specs.Prelude.{List, Result, nat_lt, not, ℕ}
use Rattle.std.specs.List.{position_or_len}
use Rattle.std.proofs.lemmas.List.{drop_all, take_rest, length-drop}
use Rattle.std.proofs.lemmas.List.Sums.{prefix_len-le-length}
use Rattle.nim_lex.specs.Bytes.{is_newline}
use Rattle.nim_lex.specs.Source.{Line, cut, line_at, line_count, numbered_lines}
use Rattle.nim_lex.proofs.SourceSteps.{step_line}
use Rattle.nim_base.specs.Value.{Grid}
use Rattle.nim_lex.specs.declared.fault.Refusal.{Refusal}
use Rattle.nim_data.specs.Reading.{GaveValues, after_data_line, ended, line_rule, read_from}
use Rattle.nim_data.specs.Wanted.{data_file_refusal, values_in}
use Rattle.nim_data.proofs.Files.{gave_answers, gave_values, of_file, refused_by}
use Rattle.nim_data.proofs.Kept.{judge}
use Rattle.nim_data.proofs.Steps.{passed_here, refused_here}
use Rattle.nim_data.proofs.data.read_data.Goals as goal

pub returns-in-Some-clause-answers : goal.returns-in-Some-clause-answers
returns-in-Some-clause-answers c =
    let bytes = c.args.bytes.now in
    let ws = c.args.wanted.now in
    let i = c.loop-at.at in
    let len = c.line_len-len.result in
    let number = c.loop-at.number in
    let end = line_count bytes + 1 in
    let text : take (length bytes - i) (drop i bytes) ≡ drop i bytes = take_rest bytes i in
    let is_len : len ≡ position_or_len is_newline (drop i bytes) = (rw text at c.line_len-len.ensures) in
    let line : Line = line_at number i (take len (drop i bytes)) in
    let rest = numbered_lines (number + 1) (i + (len + 1)) (cut (drop (i + (len + 1)) bytes)) in
    let step = step_line number i len bytes c.loop-at-test.true is_len in
    let short : nat_lt 33554432 (length bytes) ≡ false = search rules in
    let broken : line_rule c.loop-at.reading line.bytes ≡ Some c.in-Some.rule = sym (rw text at c.in_ok-rule.ensures.rule) ∙ c.in-Some.is in
    refused_by (data_file_refusal ws bytes) (values_in bytes) _
    (sym (of_file ws bytes short) ∙ sym c.loop-at.invariant.outcome ∙ ap (read_from end ws c.loop-at.reading) step
    ∙ refused_here end ws c.loop-at.reading line rest c.in-Some.rule broken)

pub loop-at-preserved : goal.loop-at-preserved
loop-at-preserved c =
    let bytes = c.args.bytes.now in
    let ws = c.args.wanted.now in
    let i = c.loop-at.at in
    let len = c.line_len-len.result in
    let number = c.loop-at.number in
    let end = line_count bytes + 1 in
    let text : take (length bytes - i) (drop i bytes) ≡ drop i bytes = take_rest bytes i in
    let is_len : len ≡ position_or_len is_newline (drop i bytes) = (rw text at c.line_len-len.ensures) in
    let line : Line = line_at number i (take len (drop i bytes)) in
    let rest = numbered_lines (number + 1) (i + (len + 1)) (cut (drop (i + (len + 1)) bytes)) in
    let step = step_line number i len bytes c.loop-at-test.true is_len in
    let sound : line_rule c.loop-at.reading line.bytes ≡ None = sym (rw text at c.in_ok-rule.ensures.rule) ∙ c.in_default.is in
    let moved : c.take.new.self ≡ after_data_line ws c.loop-at.reading number line.bytes = (rw text at c.in_ok-rule.ensures.next) c.in_default.is in
    record {
      within = omega (arith, prefix_len-le-length (λ b. not (is_newline b)) (drop i bytes), length-drop i bytes);
      counted = omega arith;
      outcome = rw moved (sym (passed_here end ws c.loop-at.reading line rest sound) ∙ sym (ap (read_from end ws c.loop-at.reading) step)
          ∙ c.loop-at.invariant.outcome);
    }

pub end_line-requires : goal.end_line-requires
end_line-requires c = omega arith

pub returns : goal.returns
returns c =
    let bytes = c.args.bytes.now in
    let ws = c.args.wanted.now in
    let end = line_count bytes + 1 in
    let short : nat_lt 33554432 (length bytes) ≡ false = search rules in
    let none : drop c.loop-at.at bytes ≡ [] = drop_all c.loop-at.at bytes (omega (arith, c.loop-at-test.false)) in
    let whole : ended end ws c.loop-at.reading ≡ judge (data_file_refusal ws bytes) (values_in bytes) =
    (rw none at c.loop-at.invariant.outcome) ∙ of_file ws bytes short in
    let gave : GaveValues (judge (data_file_refusal ws bytes) (values_in bytes)) c.ended.result =
    subst (λ (o : Result (List Grid) Refusal). GaveValues o c.ended.result)
    (ap (λ (e : ℕ). ended e ws c.loop-at.reading) c.end_line.ensures ∙ whole) c.ended.ensures
    in
    record {
      answers = gave_answers (data_file_refusal ws bytes) (values_in bytes) c.ended.result gave;
      values = gave_values (data_file_refusal ws bytes) (values_in bytes) c.ended.result gave;
    }
