use Rattle.std.proofs.Common.{◌≡◌, ◌+◌, true, false, get_or, sym, ◌∙◌, arith, rules, eq-eqb, drop, take, [], ◌∷◌, None, Some, ◌-◌, length}
use Rattle.std.proofs.lemmas.List.{take_rest, length-drop}
use Rattle.nim_lex.specs.Bytes.{is_hash}
use Rattle.nim_lex.specs.Pieces.{front_of, piece, pieces}
use Rattle.nim_lex.specs.Rules.{broken_by}
use Rattle.nim_lex.proofs.LineSteps.{step_blank, step_token, at_hash, at_end, broken-nil, broken-piece, smaller-none, smaller-some, after_sound, after_broken, after_token}
use Rattle.nim_lex.proofs.line.read_line.Goals as goal
use Rattle.nim_lex.proofs.line.read_line.Goals.{in-Ok+in_ok-push-in-Ok, in-Err}

pub loop-at-preserved-then-is_blank : goal.loop-at-preserved-then-is_blank
loop-at-preserved-then-is_blank c =
    let no_hash : is_hash (get_or c.args.line.now c.loop-at.at 0) ≡ false = search rules in
    let step = step_blank c.args.start c.loop-at.at c.args.line.now c.loop-at-test.true no_hash (sym c.is_blank.ensures ∙ c.if-is_blank.true) in
    record {
      within = omega arith;
      broken = rw (← step) c.loop-at.invariant.broken;
      tokens = λ none. rw (← step) (c.loop-at.invariant.tokens none);
    }

pub loop-at-preserved : goal.loop-at-preserved
loop-at-preserved c =
    let line = c.args.line.now in
    let i = c.loop-at.at in
    let len = c.front-found.result.len in
    let text : take (length line - i) (drop i line) ≡ drop i line = take_rest line i in
    let no_hash : is_hash (get_or line i 0) ≡ false = search rules in
    let is_len : len ≡ (front_of (drop i line)).len = (rw text at c.front-found.ensures.len) in
    let step =
    step_token c.args.start i len line c.loop-at-test.true no_hash (sym c.is_blank.ensures ∙ c.if-is_blank.false) c.front-found.ensures.some is_len in
    let p = piece (c.args.start + i) (front_of (drop i line)) in
    let rest = pieces (c.args.start + (i + len)) 0 (drop (i + len) line) in
    let within = (rw text at c.front-found.ensures.within) in
    let token = (rw text at c.front-found.ensures.token) in
    let sound = (rw text at c.front-found.ensures.sound) in
    let broken = (rw text at c.front-found.ensures.broken) in
    elim c.match-found.branch [
      | in-Ok+in_ok-push-in-Ok w ↦
          let here : broken_by (p ∷ []) ≡ None = broken-piece (c.args.start + i) (front_of (drop i line)) ∙ (rw w.in-Ok.is at sound) in
          record {
            within = omega (arith, length-drop i line);
            broken = rw w.broken-is (after_sound c.loop-at.broken p rest (pieces c.args.start 0 line) here (rw step at c.loop-at.invariant.broken));
            tokens = λ none. rw (w.tokens-is, w.in_ok-push-in-Ok.ensures.items)
                (after_token c.args.number len p w.in-Ok.kind rest c.loop-at.tokens.items _ is_len (rw w.in-Ok.is at token)
                (rw step at (c.loop-at.invariant.tokens (sym w.broken-is ∙ none))));
          }
      | in-Err w ↦
          let here : broken_by (p ∷ []) ≡ Some w.in-Err.rule = broken-piece (c.args.start + i) (front_of (drop i line)) ∙ (rw w.in-Err.is at broken) in
          record {
            within = omega (arith, length-drop i line);
            broken = rw (w.broken-is, w.smaller-broken.ensures) (after_broken c.loop-at.broken p rest (pieces c.args.start 0 line) w.in-Err.rule here
                (rw step at c.loop-at.invariant.broken));
            tokens = λ none. absurd (smaller-some c.loop-at.broken w.in-Err.rule (sym w.smaller-broken.ensures ∙ sym w.broken-is ∙ none));
          }
    ]

pub returns-else-line-at-ne35-clause-rule : goal.returns-else-line-at-ne35-clause-rule
returns-else-line-at-ne35-clause-rule c =
    let hash : is_hash (get_or c.args.line.now c.loop-at.at 0) ≡ true = eq-eqb _ _ c.if-line-at-ne35.false in
    rw (at_hash c.args.start c.loop-at.at c.args.line.now c.loop-at-test.true hash, broken-nil, smaller-none) at c.loop-at.invariant.broken

pub returns-after-loop-at-clause-rule : goal.returns-after-loop-at-clause-rule
returns-after-loop-at-clause-rule c =
    rw (at_end c.args.start c.loop-at.at c.args.line.now c.loop-at-test.false, broken-nil, smaller-none) at c.loop-at.invariant.broken
