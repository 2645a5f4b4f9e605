-- What has to move: each object is read, moves once, and comes from a worker that isn't the owner.
use Rattle.std.proofs.Common.{◌≡◌, ℕ, zero, suc, ◌+◌, ◌<◌, ◌≤◌, Bool, true, false, List, [], ◌∷◌, ◌++◌, length, refl, ap, sym, ◌∙◌, arith, Option, None, Some}
use Rattle.std.specs.Prelude.{◌==◌, ◌||◌, if◌then◌else◌}
use Rattle.std.specs.List.{list_any}
use Rattle.std.specs.Option.{option_map_or}
use Rattle.std.proofs.lemmas.Bool.{eq-eqb, eqb-true, false≢true, or_left, or_right}
use Rattle.std.proofs.lemmas.List.{length-append}
use Rattle.std.proofs.lemmas.List.Folds.{list_any-append}
use Rattle.nim_base.specs.declared.number.Object.{Object}
use Rattle.nim_base.specs.declared.number.Worker.{Worker}
use Rattle.nim_place.specs.declared.schedule.Moved.{Moved}
use Rattle.nim_place.specs.Schedule.{is_one_of, moved_first, moves, source_of}
use Rattle.nim_place.specs.Versions.{Versions, holder, holder_from, is_current}
use Rattle.nim_base.proofs.Lists.{some_same}

-- whether one of these moves an object
abbrev pub is_moved : List Moved → Object → Bool
is_moved moved object = list_any (λ (m : Moved). m.object.0 == object.0) moved

-- where an object comes from
pub record IsSource (versions : Versions) (owner : Worker) (past : List Object) (object : Object) (from : Worker) : Type 0 where
  pub below : from.0 < versions.workers
  pub apart : from.0 ≡ owner.0 → ⊥
  pub first : is_one_of past object ≡ false
  pub current : is_current versions object from ≡ true

-- each comes from a worker of the map that isn't the owner, is read, and moves once
abbrev pub AreMoves : Versions → Worker → List Object → List Moved → Type 0
AreMoves versions owner reads [] = Unit {0}
AreMoves versions owner reads (m ∷ ms) =
    (m.from.0 < versions.workers) × (m.from.0 ≡ owner.0 → ⊥) × (is_one_of reads m.object ≡ true) ×
    (is_moved ms m.object ≡ false) × AreMoves versions owner reads ms

none_some : {X : Type 0} (x : X) → None ≡ Some x → ⊥
none_some {X} x is = false≢true (ap (λ (o : Option X). option_map_or (λ y. true) o false) is)

pub holder_facts : (versions : Versions) (object : Object) (from more : ℕ) (worker : Worker) → holder_from versions object from more ≡ Some worker
    → (worker.0 < from + more) × (is_current versions object worker ≡ true)
holder_facts versions object from zero worker is = absurd (none_some worker is)
holder_facts versions object from (suc more) worker is =
    either (is_current versions object (record { 0 = from })) refl (holder_facts versions object (from + 1) more worker) is where
      Found : ℕ → Type 0
      Found end = (worker.0 < end) × (is_current versions object worker ≡ true)

      either : (b : Bool) → is_current versions object (record { 0 = from }) ≡ b
          → (holder_from versions object (from + 1) more ≡ Some worker → Found (from + 1 + more))
          → (if b then Some (record { 0 = from }) else holder_from versions object (from + 1) more) ≡ Some worker → Found (from + suc more)
      either true test later here =
          let first : Worker = record { 0 = from } in
          let same : first ≡ worker = some_same first worker here in
          let number = ap (λ (w : Worker). w.0) same in
          (omega (arith, number), sym (ap (is_current versions object) same) ∙ test)
      either false test later further = let rest = later further in (omega (arith, rest.0), rest.1)

pub source_facts : (versions : Versions) (owner : Worker) (past : List Object) (object : Object) (from : Worker)
    → source_of versions owner past object ≡ Some from
    → IsSource versions owner past object from
source_facts versions owner past object from is = either (is_one_of past object) (is_current versions object owner) refl refl is where
  either : (a b : Bool) → is_one_of past object ≡ a → is_current versions object owner ≡ b → (if a || b then None else holder versions object) ≡ Some from
      → IsSource versions owner past object from
  either true b first other found = absurd (none_some from found)
  either false true first other found = absurd (none_some from found)
  either false false first other found =
      let facts = holder_facts versions object 0 versions.workers from found in
      record {
        below = omega (arith, facts.0);
        apart = λ same. false≢true (sym other ∙ ap (λ (n : ℕ). is_current versions object (record { 0 = n })) (sym same) ∙ facts.1);
        first = first;
        current = facts.1;
      }

still_one_of : (past more : List Object) (object : Object) → is_one_of past object ≡ true → is_one_of (past ++ more) object ≡ true
still_one_of past more object is = list_any-append (λ (o : Object). o.0 == object.0) past more ∙ or_left (is_one_of past object) (is_one_of more object) is

now_one_of : (past : List Object) (object : Object) → is_one_of (past ++ object ∷ []) object ≡ true
now_one_of past object =
    list_any-append (λ (o : Object). o.0 == object.0) past (object ∷ [])
    ∙ or_right (is_one_of past object) ((object.0 == object.0) || false) (or_left (object.0 == object.0) false (eq-eqb object.0 object.0 refl))

pub both_false : (a b : Bool) → a ≡ false → b ≡ false → (a || b) ≡ false
both_false true b is also = absurd (false≢true (sym is))
both_false false b is also = also

-- what was read before doesn't move
none_twice : (versions : Versions) (owner : Worker) (past reads : List Object) (object : Object) → is_one_of past object ≡ true
    → is_moved (moves versions owner past reads) object ≡ false
none_twice versions owner past [] object is = refl
none_twice versions owner past (next ∷ reads) object is =
    either (none_twice versions owner (past ++ next ∷ []) reads object (still_one_of past (next ∷ []) object is))
    (source_of versions owner past next) refl where
      other : (from : Worker) → source_of versions owner past next ≡ Some from → (b : Bool) → (next.0 == object.0) ≡ b → b ≡ false
      other from found true same =
          absurd (false≢true (sym (source_facts versions owner past next from found).first
          ∙ ap (λ (n : ℕ). is_one_of past (record { 0 = n })) (eqb-true next.0 object.0 same) ∙ is))
      other from found false same = refl

      either : is_moved (moves versions owner (past ++ next ∷ []) reads) object ≡ false → (o : Option Worker) → source_of versions owner past next ≡ o
          → is_moved (moved_first (length past) next o (moves versions owner (past ++ next ∷ []) reads)) object ≡ false
      either rest None found = rest
      either rest (Some from) found = both_false (next.0 == object.0) (is_moved (moves versions owner (past ++ next ∷ []) reads) object)
          (other from found (next.0 == object.0) refl) rest

-- what has to move for reads, the first of which are behind
moves_behind : (versions : Versions) (owner : Worker) (all past reads : List Object)
    → ((object : Object) → is_one_of reads object ≡ true → is_one_of all object ≡ true) → AreMoves versions owner all (moves versions owner past reads)
moves_behind versions owner all past [] within = tt
moves_behind versions owner all past (next ∷ reads) within =
    either (moves_behind versions owner all (past ++ next ∷ []) reads (λ object is. within object (or_right (next.0 == object.0) (is_one_of reads object) is)))
    (source_of versions owner past next) refl where
      either : AreMoves versions owner all (moves versions owner (past ++ next ∷ []) reads) → (o : Option Worker) → source_of versions owner past next ≡ o
          → AreMoves versions owner all (moved_first (length past) next o (moves versions owner (past ++ next ∷ []) reads))
      either rest None found = rest
      either rest (Some from) found =
          let facts = source_facts versions owner past next from found in (
            facts.below,
            facts.apart,
            within next (or_left (next.0 == next.0) (is_one_of reads next) (eq-eqb next.0 next.0 refl)),
            none_twice versions owner
                (past ++ next ∷ []) reads next (now_one_of past next),
            rest,
          )

pub moves_facts : (versions : Versions) (owner : Worker) (reads : List Object) → AreMoves versions owner reads (moves versions owner [] reads)
moves_facts versions owner reads = moves_behind versions owner reads [] reads (λ object is. is)

-- the indices of moves ascend, from one on and below another
abbrev pub AreIndexed : ℕ → ℕ → List Moved → Type 0
AreIndexed low high [] = Unit {0}
AreIndexed low high (m ∷ ms) = (low ≤ m.index) × (m.index < high) × AreIndexed (m.index + 1) high ms

indexed_lower : (lower low high : ℕ) (ms : List Moved) → lower ≤ low → AreIndexed low high ms → AreIndexed lower high ms
indexed_lower lower low high [] below are = tt
indexed_lower lower low high (m ∷ ms) below are = (omega (arith, below, are.0), are.1, are.2)

pub moves_indexed : (versions : Versions) (owner : Worker) (past reads : List Object) (high : ℕ) → length past + length reads ≤ high
    → AreIndexed (length past) high (moves versions owner past reads)
moves_indexed versions owner past [] high room = tt
moves_indexed versions owner past (next ∷ reads) high room =
    let longer : length (past ++ next ∷ []) ≡ length past + 1 = length-append past (next ∷ []) in
    let rest : AreIndexed (length past + 1) high (moves versions owner (past ++ next ∷ []) reads) =
    indexed_lower (length past + 1) (length (past ++ next ∷ [])) high (moves versions owner (past ++ next ∷ []) reads) (omega (arith, longer))
    (moves_indexed versions owner (past ++ next ∷ []) reads high (omega (arith, longer, room))) in
    either (source_of versions owner past next) rest where
      either : (o : Option Worker) → AreIndexed (length past + 1) high (moves versions owner (past ++ next ∷ []) reads)
          → AreIndexed (length past) high (moved_first (length past) next o (moves versions owner (past ++ next ∷ []) reads))
      either None rest = indexed_lower (length past) (length past + 1) high (moves versions owner (past ++ next ∷ []) reads) (omega arith) rest
      either (Some from) rest = (omega arith, omega (arith, room), rest)

-- the owner lacks what moves
abbrev pub AreLacking : Versions → Worker → List Moved → Type 0
AreLacking versions owner [] = Unit {0}
AreLacking versions owner (m ∷ ms) = (is_current versions m.object owner ≡ false) × AreLacking versions owner ms

pub moves_lacking : (versions : Versions) (owner : Worker) (past reads : List Object) → AreLacking versions owner (moves versions owner past reads)
moves_lacking versions owner past [] = tt
moves_lacking versions owner past (next ∷ reads) =
    either (is_one_of past next) (is_current versions next owner) refl (moves_lacking versions owner (past ++ next ∷ []) reads) where
      first : (o : Option Worker) → is_current versions next owner ≡ false → AreLacking versions owner (moves versions owner (past ++ next ∷ []) reads)
          → AreLacking versions owner (moved_first (length past) next o (moves versions owner (past ++ next ∷ []) reads))
      first None lacks rest = rest
      first (Some from) lacks rest = (lacks, rest)

      either : (a b : Bool) → is_current versions next owner ≡ b → AreLacking versions owner (moves versions owner (past ++ next ∷ []) reads)
          → AreLacking versions owner
          (moved_first (length past) next (if a || b then None else holder versions next) (moves versions owner (past ++ next ∷ []) reads))
      either true b is rest = rest
      either false true is rest = rest
      either false false is rest = first (holder versions next) is rest
