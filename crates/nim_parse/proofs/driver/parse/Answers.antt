use Rattle.std.proofs.Common.{◌≡◌, ◌+◌, ◌-◌, ◌≤◌, None, Some, take, drop, length, sym, ◌∙◌, ap, arith, rules}
use Rattle.std.specs.Prelude.{◌==◌}
use Rattle.std.specs.List.{prefix_len}
use Rattle.std.proofs.lemmas.Grind.{common_steps}
use Rattle.std.proofs.lemmas.List.{take_rest, length-drop}
use Rattle.nim_parse.specs.Driver.{after_lines, first_refusal, found_line, lines, next_state, number_of, grammar_refusal, tree_of}
use Rattle.nim_parse.specs.Rules.{rule_of}
use Rattle.nim_lex.proofs.Counts.{short}
use Rattle.nim_parse.proofs.LineSteps.{step_lines, refusal_here, refusal_later}
use Rattle.nim_parse.proofs.Nests.{all_nest}
use Rattle.nim_parse.proofs.driver.parse.Goals as goal

pub returns-in-Some-clause-answers : goal.returns-in-Some-clause-answers
returns-in-Some-clause-answers c =
    let ts = c.args.tokens.now in
    let source = c.args.bytes.now in
    let at = c.loop-at.at in
    let len = c.line_len-len.result in
    let text : take (length ts - at) (drop at ts) ≡ drop at ts = take_rest ts at in
    let is_len : len ≡ prefix_len (λ t. t.line == number_of (drop at ts)) (drop at ts) = (rw text at c.line_len-len.ensures.len) in
    let line = take len (drop at ts) in
    let rest = lines (drop (at + len) ts) in
    let step = step_lines ts at len c.loop-at-test.true is_len in
    let broken : rule_of c.loop-at.state (found_line source c.loop-at.state line) ≡ Some c.in-Some.rule =
    sym (rw text at c.in_ok-rule.ensures.rule) ∙ c.in-Some.is in
    let number : c.number_of-line.result ≡ number_of line = (rw text at c.number_of-line.ensures) in
    rw (number, ← c.requires.tokens) (sym c.loop-at.invariant.refusal ∙ ap (first_refusal source c.loop-at.state) step
    ∙ refusal_here source c.loop-at.state line rest c.in-Some.rule broken)

pub loop-at-preserved : goal.loop-at-preserved
loop-at-preserved c =
    let ts = c.args.tokens.now in
    let source = c.args.bytes.now in
    let at = c.loop-at.at in
    let len = c.line_len-len.result in
    let text : take (length ts - at) (drop at ts) ≡ drop at ts = take_rest ts at in
    let is_len : len ≡ prefix_len (λ t. t.line == number_of (drop at ts)) (drop at ts) = (rw text at c.line_len-len.ensures.len) in
    let line = take len (drop at ts) in
    let rest = lines (drop (at + len) ts) in
    let step = step_lines ts at len c.loop-at-test.true is_len in
    let sound : rule_of c.loop-at.state (found_line source c.loop-at.state line) ≡ None = sym (rw text at c.in_ok-rule.ensures.rule) ∙ c.in_default.is in
    let moved : c.take_line.new.state ≡ next_state source c.loop-at.state line = (rw text at c.in_ok-rule.ensures.next) c.in_default.is in
    let inside : len ≤ length (drop at ts) = (rw text at c.line_len-len.ensures.within) in
    record {
      within = omega (arith, length-drop at ts);
      refusal = rw moved (sym (refusal_later source c.loop-at.state line rest sound) ∙ sym (ap (first_refusal source c.loop-at.state) step)
          ∙ c.loop-at.invariant.refusal);
      tree = rw moved (sym (ap (after_lines source c.loop-at.state) step) ∙ c.loop-at.invariant.tree);
    }

pub end_line-line-requires : goal.end_line-line-requires
end_line-line-requires c = omega (arith, short c.args.bytes.now c.requires.sound)

pub new-requires : goal.new-requires
new-requires c =
    let accepted : grammar_refusal c.args.bytes.now ≡ None = first_of (search rules, grind (arith, common_steps)) in
    let whole : c.loop-at.state.sections ≡ tree_of c.args.bytes.now = first_of (search rules, grind (arith, common_steps)) in
    rw whole (all_nest c.args.bytes.now accepted)
