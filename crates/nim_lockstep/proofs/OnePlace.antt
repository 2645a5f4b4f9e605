-- What runs a position: where each is run once, it is one worker's command at one place.
use Rattle.std.proofs.Common.{◌≡◌, ℕ, zero, suc, ◌+◌, ◌<◌, ◌≤◌, Bool, true, false, cond, List, [], ◌∷◌, length, map, take, refl, ap, ap₂, sym, subst, ◌∙◌, arith, inl, inr, Option, None, Some}
use Rattle.std.specs.Prelude.{◌==◌, ◌&&◌, if◌then◌else◌, count_by, nat_le, nat_lt, slice_get}
use Rattle.std.specs.List.{filter, list_any}
use Rattle.std.specs.Option.{option_map_or}
use Rattle.std.proofs.lemmas.Bool.{and_from, and_parts, both_ways, eq-eqb, eqb-true, le-leb, lt-ltb, ltb-true, or_cases, or_left}
use Rattle.nim_base.specs.declared.number.Worker.{Worker}
use Rattle.nim_command.specs.declared.command.Command.{Command}
use Rattle.nim_command.specs.declared.command.Kind.{Kind}
use Rattle.nim_command.specs.declared.command.Kind.TheVariants.{Run}
use Rattle.nim_place.specs.Extends.{worker_of}
use Rattle.nim_place.specs.Stands.{commands_for}
use Rattle.nim_place.specs.TaskRuns.{AreRunOnce, position_run, times_run}
use Rattle.nim_place.proofs.Pairs.{count_first}

-- the numbers that the item at a place stands for
abbrev pub numbers_at : {X : Type 0} → (X → List ℕ) → List X → ℕ → List ℕ
numbers_at f xs place = option_map_or f (slice_get xs place) []

-- an item passes a test at a place
abbrev pub PassesAt : {X : Type 0} → (X → Bool) → List X → ℕ → Type 0
PassesAt test xs place = option_map_or test (slice_get xs place) false ≡ true

-- where one passes at least one is counted
counted_there : {X : Type 0} (test : X → Bool) (xs : List X) (place : ℕ) → PassesAt test xs place → 1 ≤ count_by test xs
counted_there test [] place is = absurd (both_ways false refl is)
counted_there test (x ∷ xs) zero is = let first = count_first test x xs true is in omega (arith, first)
counted_there test (x ∷ xs) (suc place) is =
    let first = count_first test x xs (test x) refl in let rest = counted_there test xs place is in omega (arith, first, rest)

-- where at most one is counted, one passes at one place
one_passes : {X : Type 0} (test : X → Bool) (xs : List X) (one other : ℕ) → count_by test xs ≤ 1 → PassesAt test xs one → PassesAt test xs other → one ≡ other
one_passes test [] one other few first second = absurd (both_ways false refl first)
one_passes test (x ∷ xs) zero zero few first second = refl
one_passes test (x ∷ xs) zero (suc other) few first second =
    let counted = count_first test x xs true first in let more = counted_there test xs other second in absurd (omega (arith, few, counted, more))
one_passes test (x ∷ xs) (suc one) zero few first second =
    let counted = count_first test x xs true second in let more = counted_there test xs one first in absurd (omega (arith, few, counted, more))
one_passes test (x ∷ xs) (suc one) (suc other) few first second =
    let counted = count_first test x xs (test x) refl in
    ap (λ (n : ℕ). suc n) (one_passes test xs one other (omega (arith, few, counted)) first second)

-- what stands for a number is one of those that do
stands_for : {X : Type 0} (f : X → List ℕ) (xs : List X) (place p : ℕ) → numbers_at f xs place ≡ p ∷ []
    → PassesAt (λ (x : X). list_any (λ (q : ℕ). q == p) (f x)) xs place
stands_for {X} f xs place p is = either (slice_get xs place) is where
  either : (o : Option X) → option_map_or f o [] ≡ p ∷ [] → option_map_or (λ (x : X). list_any (λ (q : ℕ). q == p) (f x)) o false ≡ true
  either None is = absurd cc
  either (Some x) is = ap (list_any (λ (q : ℕ). q == p)) is ∙ or_left (p == p) false (eq-eqb p p refl)

-- ---- the items of a list that pass a test

-- where an item that passes stands in the whole list
record IsPassing {X : Type 0} (test : X → Bool) (f : X → List ℕ) (xs : List X) (place p : ℕ) : Type 0 where
  whole : ℕ
  there : numbers_at f xs whole ≡ p ∷ []
  passes : option_map_or test (slice_get xs whole) false ≡ true
  counts : place ≡ length (filter test (take whole xs))

passing_at : {X : Type 0} (test : X → Bool) (f : X → List ℕ) (xs : List X) (place p : ℕ) → numbers_at f (filter test xs) place ≡ p ∷ []
    → IsPassing test f xs place p
passing_at test f [] place p is = absurd cc
passing_at {X} test f (x ∷ xs) place p is = either (test x) place refl is (λ later there. passing_at test f xs later p there) where
  either : (b : Bool) (at : ℕ) → test x ≡ b → numbers_at f (cond b (x ∷ filter test xs) (filter test xs)) at ≡ p ∷ []
      → ((later : ℕ) → numbers_at f (filter test xs) later ≡ p ∷ [] → IsPassing test f xs later p) → IsPassing test f (x ∷ xs) at p
  either true zero passes there later = record { whole = 0; there = there; passes = passes; counts = refl }
  either true (suc at) passes there later =
      let rest : IsPassing test f xs at p = later at there in
      record {
        whole = suc rest.whole;
        there = rest.there;
        passes = rest.passes;
        counts = ap (λ (n : ℕ). suc n) rest.counts
            ∙ sym (ap (λ (b : Bool). length (cond b (x ∷ filter test (take rest.whole xs)) (filter test (take rest.whole xs)))) passes);
      }
  either false at passes there later =
      let rest : IsPassing test f xs at p = later at there in
      record {
        whole = suc rest.whole;
        there = rest.there;
        passes = rest.passes;
        counts = rest.counts ∙ sym (ap (λ (b : Bool). length (cond b (x ∷ filter test (take rest.whole xs)) (filter test (take rest.whole xs)))) passes);
      }

numbers_map : {X Y : Type 0} (g : X → Y) (f : Y → List ℕ) (xs : List X) (place : ℕ) → numbers_at f (map g xs) place ≡ numbers_at (λ (x : X). f (g x)) xs place
numbers_map g f [] place = refl
numbers_map g f (x ∷ xs) zero = refl
numbers_map g f (x ∷ xs) (suc place) = numbers_map g f xs place

-- ---- counts of one or none

few_times : (b : Bool) (n : ℕ) → n ≡ (if b then 1 else 0) → n ≤ 1
few_times true n is = omega (arith, is)
few_times false n is = omega (arith, is)

some_time : (b : Bool) (n : ℕ) → n ≡ (if b then 1 else 0) → 1 ≤ n → b ≡ true
some_time true n is some = refl
some_time false n is some = absurd (omega (arith, is, some))

one_time : (b : Bool) (n : ℕ) → n ≡ (if b then 1 else 0) → b ≡ true → 1 ≤ n
one_time true n is holds = omega (arith, is)
one_time false n is holds = absurd (both_ways false refl holds)

-- ---- the commands of all workers

-- the position that a command runs
abbrev pub run_in : Command → List ℕ
run_in command = position_run command.kind

abbrev of_worker : ℕ → Worker × Command → Bool
of_worker number c = c.0.0 == number

same_worker : (one other : ℕ) (o : Option (Worker × Command)) → option_map_or (of_worker one) o false ≡ true
    → option_map_or (of_worker other) o false ≡ true → one ≡ other
same_worker one other None first second = absurd (both_ways false refl first)
same_worker one other (Some c) first second = sym (eqb-true c.0.0 one first) ∙ eqb-true c.0.0 other second

-- the run of a task is one worker's, at one place
pub one_run : (commands : List (Worker × Command)) (from n one other place there p : ℕ) → AreRunOnce from n commands
    → numbers_at run_in (commands_for (worker_of one) commands) place ≡ p ∷ []
    → numbers_at run_in (commands_for (worker_of other) commands) there ≡ p ∷ [] → (one ≡ other) × (place ≡ there)
one_run commands from n one other place there p runs first second =
    let f : Worker × Command → List ℕ = λ c. position_run c.1.kind in
    let a : IsPassing (of_worker one) f commands place p =
    passing_at (of_worker one) f commands place p
    (sym (numbers_map (λ (c : Worker × Command). c.1) run_in (filter (of_worker one) commands) place) ∙ first) in
    let b : IsPassing (of_worker other) f commands there p =
    passing_at (of_worker other) f commands there p
    (sym (numbers_map (λ (c : Worker × Command). c.1) run_in (filter (of_worker other) commands) there) ∙ second) in
    let same : a.whole ≡ b.whole =
    one_passes (λ (c : Worker × Command). list_any (λ (q : ℕ). q == p) (f c)) commands a.whole b.whole
    (few_times (nat_le from p && nat_lt p (from + n)) (times_run p commands) (runs p)) (stands_for f commands a.whole p a.there)
    (stands_for f commands b.whole p b.there) in
    let worker : one ≡ other =
    same_worker one other (slice_get commands a.whole) a.passes
    (subst (λ (k : ℕ). option_map_or (of_worker other) (slice_get commands k) false ≡ true) (sym same) b.passes) in
    (worker, a.counts ∙ ap₂ (λ (w k : ℕ). length (filter (of_worker w) (take k commands))) worker same ∙ sym b.counts)

-- ---- where a position is run

-- a position that is run is one of those from the first on
pub within_runs : (commands : List (Worker × Command)) (from n number place p : ℕ) → AreRunOnce from n commands
    → numbers_at run_in (commands_for (worker_of number) commands) place ≡ p ∷ [] → p < from + n
within_runs commands from n number place p runs is =
    let f : Worker × Command → List ℕ = λ c. position_run c.1.kind in
    let a : IsPassing (of_worker number) f commands place p =
    passing_at (of_worker number) f commands place p
    (sym (numbers_map (λ (c : Worker × Command). c.1) run_in (filter (of_worker number) commands) place) ∙ is) in
    let counted : 1 ≤ times_run p commands =
    counted_there (λ (c : Worker × Command). list_any (λ (q : ℕ). q == p) (f c)) commands a.whole (stands_for f commands a.whole p a.there) in
    ltb-true p (from + n)
    (and_parts (nat_le from p) (nat_lt p (from + n)) (some_time (nat_le from p && nat_lt p (from + n)) (times_run p commands) (runs p) counted)).1

-- a worker that runs it
pub record IsRunBy (commands : List (Worker × Command)) (p : ℕ) : Type 0 where
  pub worker : Worker
  pub place : ℕ
  pub runs : numbers_at run_in (commands_for worker commands) place ≡ p ∷ []

-- a command that runs a position runs it alone
runs_alone : (p : ℕ) (kind : Kind) → list_any (λ (q : ℕ). q == p) (position_run kind) ≡ true → position_run kind ≡ p ∷ []
runs_alone p (Run position func params reads writes) is =
    elim (or_cases (position == p) false is) [
      | inl same ↦ ap (λ (q : ℕ). q ∷ []) (eqb-true position p same)
      | inr none ↦ absurd (both_ways false refl none)
    ]
runs_alone p kind is = absurd (both_ways false refl is)

found_run : (commands : List (Worker × Command)) (p : ℕ) → 1 ≤ times_run p commands → IsRunBy commands p
found_run [] p some = absurd (omega (arith, some))
found_run (c ∷ commands) p some = either (test c) refl (λ later. found_run commands p later) where
  test : Worker × Command → Bool
  test one = list_any (λ (q : ℕ). q == p) (position_run one.1.kind)

  own : (worker : Worker) → List (Worker × Command)
  own worker = filter (λ (one : Worker × Command). one.0.0 == worker.0) commands

  behind : (rest : IsRunBy commands p) (b : Bool) → (c.0.0 == rest.worker.0) ≡ b → IsRunBy (c ∷ commands) p
  behind rest true same =
      record {
        worker = rest.worker;
        place = suc rest.place;
        runs = ap
            (λ (b : Bool). numbers_at run_in (map (λ (one : Worker × Command). one.1) (cond b (c ∷ own rest.worker) (own rest.worker))) (suc rest.place)) same
            ∙ rest.runs;
      }
  behind rest false same =
      record {
        worker = rest.worker;
        place = rest.place;
        runs = ap (λ (b : Bool). numbers_at run_in (map (λ (one : Worker × Command). one.1) (cond b (c ∷ own rest.worker) (own rest.worker))) rest.place) same
            ∙ rest.runs;
      }

  either : (b : Bool) → test c ≡ b → (1 ≤ times_run p commands → IsRunBy commands p) → IsRunBy (c ∷ commands) p
  either true is later =
      record {
        worker = c.0;
        place = 0;
        runs = ap (λ (b : Bool). numbers_at run_in (map (λ (one : Worker × Command). one.1) (cond b (c ∷ own c.0) (own c.0))) 0) (eq-eqb c.0.0 c.0.0 refl)
            ∙ runs_alone p c.1.kind is;
      }
  either false is later =
      let counted = count_first test c commands false is in
      let rest : IsRunBy commands p = later (omega (arith, counted, some)) in behind rest (c.0.0 == rest.worker.0) refl

-- each of so many positions from one on is run by a worker
pub position_run_by : (commands : List (Worker × Command)) (from n p : ℕ) → AreRunOnce from n commands → from ≤ p → p < from + n → IsRunBy commands p
position_run_by commands from n p runs low high =
    found_run commands p
    (one_time (nat_le from p && nat_lt p (from + n)) (times_run p commands) (runs p)
    (and_from (nat_le from p) (nat_lt p (from + n)) (le-leb from p low) (lt-ltb p (from + n) high)))
