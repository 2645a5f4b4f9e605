use Rattle.std.proofs.Common.{◌≡◌, ◌∙◌, ◌∷◌, [], ◌++◌, ◌+◌, ◌==◌, ℕ, List, length, nat_eq, refl, ap, sym, arith, rules, subst}
use Rattle.std.specs.Prelude.{if◌then◌else◌}
use Rattle.std.specs.HashMap.{get}
use Rattle.std.specs.Option.{option_map}
use Rattle.std.proofs.lemmas.List.{append-nil, append_assoc, length-append, nil_from_length}
use Rattle.nim_queue.specs.Arrived.{link_to}
use Rattle.nim_queue.specs.Joined.{AreWithin, followed, gathered}
use Rattle.nim_queue.specs.declared.arrivals.Link.{Link}
use Rattle.nim_queue.specs.declared.waiting.Waiting.{Waiting}
use Rattle.nim_queue.proofs.Linking.{few_at, followed_twice, gathered_more, made_from, within_more}
use Rattle.nim_queue.proofs.join.follow.Goals as goal

pub loop-link-preserved : goal.loop-link-preserved
loop-link-preserved c =
    let past = c.loop-link.yielded in
    let x = c.in-Some.link in
    let key : Link → ℕ = λ r. r.earlier in
    let own : Link → List ℕ = λ r. r.later in
    let whole : past ++ x ∷ c.next.new.self ≡ c.args.waits.items = search rules in
    record {
      added = λ k n d short is fits.
          let before = c.loop-link.invariant.added k n d short is fits in
          let here = made_from (link_to n) own n d past c.next.new.self x (λ a. refl) (whole ∙ is) in
          let more : ℕ → List ℕ = λ t. if key x == t then own x else [] in
          let step = c.follow_one.ensures.followers (k + length past) before.1 (omega (arith, fits, here.1, ap length here.0)) in
          let total : k + length past + 1 ≡ k + length (past ++ x ∷ []) = omega (arith, length-append past (x ∷ [])) in (
            λ t.
                step t ∙ ap (option_map (followed (more t))) (before.0 t)
                ∙ followed_twice (gathered t past) (more t) (gathered t (past ++ x ∷ [])) (get nat_eq c.args.waiting.now t) (gathered_more key own t past x),
            subst (AreWithin (λ (v : Waiting). v.followers) (get nat_eq c.follow_one.new.waiting)) total
                (within_more (λ (v : Waiting). v.followers) followed (get nat_eq c.loop-link.waiting) (get nat_eq c.follow_one.new.waiting) more
                (k + length past)
                (λ ms v. refl) step (few_at key own n x here.0) before.1),
          );
      whole = append_assoc past (x ∷ []) c.next.new.self ∙ whole;
      spare = search rules;
    }

pub returns-clause-followers : goal.returns-clause-followers
returns-clause-followers c k n d short is fits t =
    let past = c.loop-link.yielded in
    let none : length c.loop-link.link-iterator ≡ 0 = search rules in
    let all : past ≡ c.args.waits.items = sym (append-nil past) ∙ ap (λ ys. past ++ ys) (sym (nil_from_length _ none)) ∙ c.loop-link.invariant.whole in
    (c.loop-link.invariant.added k n d short is fits).0 t
    ∙ ap (λ (xs : List Link). option_map (followed (gathered t xs)) (get nat_eq c.args.waiting.now t)) all
