use Rattle.std.proofs.Common.{◌≡◌, ◌∙◌, ◌∷◌, [], ◌++◌, ◌+◌, ◌==◌, ℕ, List, length, refl, ap, sym, arith, rules, subst}
use Rattle.std.specs.Prelude.{if◌then◌else◌}
use Rattle.std.specs.Option.{option_map}
use Rattle.std.proofs.lemmas.List.{append-nil, append_assoc, length-append, nil_from_length}
use Rattle.nim_queue.specs.Used.{used_in}
use Rattle.nim_queue.specs.Arrived.{reading_of}
use Rattle.nim_queue.specs.Joined.{AreWithin, more_read, gathered_reads}
use Rattle.nim_queue.specs.declared.arrivals.Reading.{Reading}
use Rattle.nim_queue.specs.declared.slot_use.SlotUse.{SlotUse}
use Rattle.nim_queue.proofs.Linking.{few_at, read_twice, gathered_more, made_from, within_more}
use Rattle.nim_queue.proofs.join.read.Goals as goal

pub loop-reading-preserved : goal.loop-reading-preserved
loop-reading-preserved c =
    let past = c.loop-reading.yielded in
    let x = c.in-Some.reading in
    let key : Reading → ℕ = λ r. r.slot.0 in
    let own : Reading → List ℕ = λ r. r.reader in
    let whole : past ++ x ∷ c.next.new.self ≡ c.args.reads.items = search rules in
    record {
      added = λ k n d short is fits.
          let before = c.loop-reading.invariant.added k n d short is fits in
          let here = made_from (reading_of n) own n d past c.next.new.self x (λ a. refl) (whole ∙ is) in
          let more : ℕ → List ℕ = λ t. if key x == t then own x else [] in
          let step = c.read_one.ensures (k + length past) before.1 (omega (arith, fits, here.1, ap length here.0)) in
          let total : k + length past + 1 ≡ k + length (past ++ x ∷ []) = omega (arith, length-append past (x ∷ [])) in (
            λ t.
                step t ∙ ap (option_map (more_read (more t))) (before.0 t)
                ∙ read_twice (gathered_reads t past) (more t) (gathered_reads t (past ++ x ∷ [])) (used_in c.args.slots.now.items t)
                (gathered_more key own t past x),
            subst (AreWithin (λ (v : SlotUse). v.readers) (used_in c.read_one.new.slots.items)) total
                (within_more (λ (v : SlotUse). v.readers) more_read (used_in c.loop-reading.slots.items) (used_in c.read_one.new.slots.items) more
                (k + length past)
                (λ ms v. refl) step (few_at key own n x here.0) before.1),
          );
      whole = append_assoc past (x ∷ []) c.next.new.self ∙ whole;
    }

pub returns : goal.returns
returns c k n d short is fits t =
    let past = c.loop-reading.yielded in
    let none : length c.loop-reading.reading-iterator ≡ 0 = search rules in
    let all : past ≡ c.args.reads.items = sym (append-nil past) ∙ ap (λ ys. past ++ ys) (sym (nil_from_length _ none)) ∙ c.loop-reading.invariant.whole in
    (c.loop-reading.invariant.added k n d short is fits).0 t
    ∙ ap (λ (xs : List Reading). option_map (more_read (gathered_reads t xs)) (used_in c.args.slots.now.items t)) all
