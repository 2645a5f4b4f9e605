use Rattle.std.proofs.Common.{◌≡◌, ◌∙◌, ℕ, ◌+◌, ◌-◌, ◌<◌, true, false, length, get_or, drop, ap, sym, rules, arith}
use Rattle.std.specs.Prelude.{Some, bytes_eq, is_some, ◌||◌}
use Rattle.std.specs.BTreeMap as tree
use Rattle.std.specs.Cmp.Lexicographic.{slice_cmp}
use Rattle.std.specs.Ordering.{nat_cmp}
use Rattle.std.proofs.lemmas.Grind.{common_steps}
use Rattle.std.proofs.lemmas.Map.Text.{btree_map_updates_str}
use Rattle.nim_check.specs.Names.{has_twice, is_in}
use Rattle.nim_check.proofs.Places.{in_more, is_some_put, twice_back, twice_more}
use Rattle.nim_check.proofs.names.has_twice.Goals as goal

pub returns-then-is_some : goal.returns-then-is_some
returns-then-is_some c =
    let words = c.args.words.now in
    let n : ℕ = c.loop-left.left - 1 in
    let w = c.index-words-left.result in
    let there : n < length words = omega arith in
    let turn : n + 1 ≡ c.loop-left.left = omega arith in
    let read : w ≡ get_or words n w = c.index-words-left.is in
    let key : c.as_slice.result.now ≡ w = c.as_slice.ensures in
    let found : is_some (tree.get_by (λ k. slice_cmp nat_cmp c.as_slice.result.now k.now) c.loop-left.later) ≡ true =
    ap is_some (sym c.in_ok-insert.ensures.old) ∙ first_of (cc, search rules, grind (arith, common_steps)) in
    let inside : is_in (drop c.loop-left.left words) w ≡ true = sym (c.loop-left.invariant.later w) ∙ (rw key at found) in
    let here : is_in (drop (n + 1) words) (get_or words n w) ≡ true =
    ap (is_in (drop (n + 1) words)) (sym read) ∙ ap (λ m. is_in (drop m words) w) turn ∙ inside in
    sym (twice_back words n (twice_more words n w there ∙ ap (λ b. b || has_twice (drop (n + 1) words)) here))

pub loop-left-preserved : goal.loop-left-preserved
loop-left-preserved c =
    let words = c.args.words.now in
    let n : ℕ = c.loop-left.left - 1 in
    let w = c.index-words-left.result in
    let there : n < length words = omega arith in
    let turn : n + 1 ≡ c.loop-left.left = omega arith in
    let read : w ≡ get_or words n w = c.index-words-left.is in
    let key : c.as_slice.result.now ≡ w = c.as_slice.ensures in
    let absent : is_some (tree.get_by (λ k. slice_cmp nat_cmp c.as_slice.result.now k.now) c.loop-left.later) ≡ false =
    ap is_some (sym c.in_ok-insert.ensures.old) ∙ first_of (cc, search rules, grind (arith, common_steps)) in
    let outside : is_in (drop c.loop-left.left words) w ≡ false = sym (c.loop-left.invariant.later w) ∙ (rw key at absent) in
    let here : is_in (drop (n + 1) words) (get_or words n w) ≡ false =
    ap (is_in (drop (n + 1) words)) (sym read) ∙ ap (λ m. is_in (drop m words) w) turn ∙ outside in
    let once : has_twice (drop (n + 1) words) ≡ false = ap (λ m. has_twice (drop m words)) turn ∙ c.loop-left.invariant.none in
    record {
      within = omega arith;
      none = twice_more words n w there ∙ ap (λ b. b || has_twice (drop (n + 1) words)) here ∙ once;
      later = λ q.
          ap is_some (btree_map_updates_str c.as_slice.result.now c.loop-left.later c.insert.new.self (Some tt) c.in_ok-insert.ensures.updates q)
          ∙ is_some_put (bytes_eq c.as_slice.result.now q) (tree.get_by (λ k. slice_cmp nat_cmp q k.now) c.loop-left.later)
          ∙ ap (λ b. bytes_eq c.as_slice.result.now q || b) (c.loop-left.invariant.later q ∙ ap (λ m. is_in (drop m words) q) (sym turn))
          ∙ ap (λ bs. bytes_eq bs q || is_in (drop (n + 1) words) q) (key ∙ read)
          ∙ sym (in_more words n w q there);
    }
