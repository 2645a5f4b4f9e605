-- What goes to each live worker, counted over all of them.
use Rattle.std.proofs.Common.{◌≡◌, ℕ, zero, suc, ◌+◌, ◌<◌, ◌≤◌, Bool, true, false, List, [], ◌∷◌, length, map, refl, ap, sym, ◌∙◌, arith, inl, inr}
use Rattle.std.specs.Prelude.{◌==◌, ◌&&◌, ◌⊎◌, cond, if◌then◌else◌, count_by}
use Rattle.std.specs.List.{AllByRecursion, filter, flat_map, range_with_len}
use Rattle.std.proofs.lemmas.Bool.{and_from, and_right, cases_lt, cases_order, eq-eqb, false≢true, ne_eqb}
use Rattle.std.proofs.lemmas.List.{get_or_past}
use Rattle.nim_base.specs.declared.number.Worker.{Worker}
use Rattle.nim_place.specs.declared.schedule.Moved.{Moved}
use Rattle.nim_place.specs.Extends.{is_live, live_workers, worker_of}
use Rattle.nim_plan.specs.Paired.{Key}
use Rattle.nim_place.proofs.Pairs.{count_append, count_first}

-- ---- each live worker stands once among them

choice_counted : {X : Type 0} (p : X → Bool) (x : X) (xs : List X) (b : Bool) → count_by p (if b then x ∷ xs else xs) ≡ cond (b && p x) 1 0 + count_by p xs
choice_counted p x xs true = count_first p x xs (p x) refl
choice_counted p x xs false = omega arith

abbrev one_or_none : Bool → ℕ
one_or_none b = cond b 1 0

counted_true : (b : Bool) → b ≡ true → one_or_none b ≡ 1
counted_true b is = ap one_or_none is

counted_false : (b : Bool) → b ≡ false → one_or_none b ≡ 0
counted_false b is = ap one_or_none is

-- whether a worker has this number
abbrev is_number : ℕ → Worker → Bool
is_number number worker = number == worker.0

none_before : (live : List Bool) (number a n : ℕ) → number < a
    → count_by (is_number number) (filter (is_live live) (map worker_of (range_with_len a n))) ≡ 0
none_before live number a zero before = refl
none_before live number a (suc n) before =
    let worker : Worker = record { 0 = a } in
    let rest : List Worker = filter (is_live live) (map worker_of (range_with_len (a + 1) n)) in
    let first = choice_counted (is_number number) worker rest (is_live live worker) in
    let apart : (number == a) ≡ false = ne_eqb number a (λ same. omega (arith, same, before)) in
    let none = counted_false (is_live live worker && (number == a)) (and_right (is_live live worker) (number == a) apart) in
    let later = none_before live number (a + 1) n (omega (arith, before)) in
    omega (arith, first, none, later)

one_within : (live : List Bool) (number a n : ℕ) → a ≤ number → number < a + n → is_live live (record { 0 = number }) ≡ true
    → count_by (is_number number) (filter (is_live live) (map worker_of (range_with_len a n))) ≡ 1
one_within live number a zero first last lives = absurd (omega arith)
one_within live number a (suc n) first last lives =
    either (λ ahead. one_within live number (a + 1) n (omega (arith, ahead)) (omega (arith, last)) lives) (cases_order a number) where
      worker : Worker
      worker = record { 0 = a }

      rest : List Worker
      rest = filter (is_live live) (map worker_of (range_with_len (a + 1) n))

      counted : count_by (is_number number) (if is_live live worker then worker ∷ rest else rest) ≡ cond (is_live live worker && (number == a)) 1 0 + count_by
          (is_number number) rest
      counted = choice_counted (is_number number) worker rest (is_live live worker)

      either : (a < number → count_by (is_number number) rest ≡ 1) → (a ≡ number) ⊎ ((a < number) ⊎ (number < a))
          → count_by (is_number number) (if is_live live worker then worker ∷ rest else rest) ≡ 1
      either later (inl same) =
          let here = counted_true (is_live live worker && (number == a))
          (and_from (is_live live worker) (number == a) (ap (λ (k : ℕ). is_live live (worker_of k)) same ∙ lives) (eq-eqb number a (sym same))) in
          let none = none_before live number (a + 1) n (omega (arith, same)) in
          omega (arith, counted, here, none)
      either later (inr (inl ahead)) =
          let apart : (number == a) ≡ false = ne_eqb number a (λ same. omega (arith, same, ahead)) in
          let none = counted_false (is_live live worker && (number == a)) (and_right (is_live live worker) (number == a) apart) in
          let one = later ahead in
          omega (arith, counted, none, one)
      either later (inr (inr behind)) = absurd (omega (arith, behind, first))

pub live_within : (live : List Bool) (worker : Worker) → is_live live worker ≡ true → worker.0 < length live
live_within live worker lives = either (cases_lt worker.0 (length live)) where
  either : (worker.0 < length live) ⊎ (length live ≤ worker.0) → worker.0 < length live
  either (inl within) = within
  either (inr past) = absurd (false≢true (sym (get_or_past live worker.0 false past) ∙ lives))

pub live_once : (live : List Bool) (worker : Worker) → is_live live worker ≡ true
    → count_by (λ (w : Worker). worker.0 == w.0) (live_workers live) ≡ 1
live_once live worker lives =
    let within = live_within live worker lives in
    one_within live worker.0 0 (length live) (omega arith) (omega (arith, within)) lives

-- ---- what comes from each worker comes from all

pick_sum : (b c : Bool) (n : ℕ) → (if c then cond b 1 0 + n else 0) ≡ cond (b && c) 1 0 + (if c then n else 0)
pick_sum true true n = refl
pick_sum true false n = refl
pick_sum false true n = refl
pick_sum false false n = refl

mapped_counted : (p : Key → Bool) (key : Moved → Key) (m : Moved) (ms : List Moved) (b c : Bool) → p (key m) ≡ c
    → count_by p (map key (if b then m ∷ ms else ms)) ≡ cond (b && c) 1 0 + count_by p (map key ms)
mapped_counted p key m ms true c is = count_first p (key m) (map key ms) c is
mapped_counted p key m ms false c is = omega arith

one_routed : (p : Key → Bool) (key : Moved → Key) (m : Moved) (from : Worker → Bool) (rest : Worker → List Moved) (workers : List Worker) (c : Bool)
    → p (key m) ≡ c
    → count_by p (flat_map (λ (w : Worker). map key (if from w then m ∷ rest w else rest w)) workers)
    ≡ (if c then count_by from workers else 0) + count_by p (flat_map (λ (w : Worker). map key (rest w)) workers)
one_routed p key m from rest [] true is = refl
one_routed p key m from rest [] false is = refl
one_routed p key m from rest (w ∷ workers) c is =
    let others : List Key = flat_map (λ (v : Worker). map key (if from v then m ∷ rest v else rest v)) workers in
    let left = count_append p (map key (if from w then m ∷ rest w else rest w)) others in
    let here = mapped_counted p key m (rest w) (from w) c is in
    let right = count_append p (map key (rest w)) (flat_map (λ (v : Worker). map key (rest v)) workers) in
    let more = one_routed p key m from rest workers c is in
    let counts = ap (λ (n : ℕ). if c then n else 0) (count_first from w workers (from w) refl) ∙ pick_sum (from w) c (count_by from workers) in
    omega (arith, left, here, right, more, counts)

none_routed : (p : Key → Bool) (key : Moved → Key) (workers : List Worker) → count_by p (flat_map (λ (w : Worker). map key []) workers) ≡ 0
none_routed p key [] = refl
none_routed p key (w ∷ workers) = none_routed p key workers

pub all_routed : (p : Key → Bool) (key : Moved → Key) (workers : List Worker) (ms : List Moved)
    → AllByRecursion (λ (m : Moved). count_by (λ (w : Worker). m.from.0 == w.0) workers ≡ 1) ms
    → count_by p (flat_map (λ (w : Worker). map key (filter (λ (m : Moved). m.from.0 == w.0) ms)) workers) ≡ count_by p (map key ms)
all_routed p key workers [] once = none_routed p key workers
all_routed p key workers (m ∷ ms) once =
    let one = one_routed p key m (λ (w : Worker). m.from.0 == w.0) (λ (w : Worker). filter (λ (n : Moved). n.from.0 == w.0) ms) workers (p (key m)) refl in
    let here = ap (λ (n : ℕ). if p (key m) then n else 0) once.0 in
    let first = count_first p (key m) (map key ms) (p (key m)) refl in
    let rest = all_routed p key workers ms once.1 in
    omega (arith, one, here, first, rest)
