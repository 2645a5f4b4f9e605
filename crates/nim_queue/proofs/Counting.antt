-- What is left of counts and of what they count when one more command is complete.
use Rattle.std.proofs.Common.{◌≡◌, ℕ, zero, suc, ◌+◌, ◌-◌, ◌≤◌, Bool, true, false, not, List, [], ◌∷◌, ◌++◌, length, refl, ap, sym, ◌∙◌, arith, zero-add, Option, None, Some, inl, inr}
use Rattle.std.specs.Prelude.{◌==◌, ◌&&◌, if◌then◌else◌, is_some, nat_eq, slice_get}
use Rattle.std.specs.HashMap.{get}
use Rattle.std.specs.List.{filter, range_with_len}
use Rattle.std.specs.Option.{option_map, option_map_or}
use Rattle.std.proofs.lemmas.Bool.{cases_eq, eq-eqb, eqb-true, false≢true, ne_eqb}
use Rattle.std.proofs.lemmas.List.Filters.{length-filter_both}
use Rattle.nim_command.proofs.Lists.{any_and, filter_twice}
use Rattle.std.proofs.lemmas.Option.{slice_get_cases}
use Rattle.nim_command.specs.Waits.{Group, Member, members_of}
use Rattle.nim_order.proofs.Items.{filter_range}
use Rattle.nim_queue.specs.Counts.{fewer, is_free, is_in, times}
use Rattle.nim_queue.specs.Stands.{KeepsGroups, StandsForGroups, command_count, kept_at, waiting_count}
use Rattle.nim_queue.specs.declared.queue.BeforeQueue.{BeforeQueue}
use Rattle.nim_queue.proofs.Opening.{opened}
use Rattle.nim_queue.specs.declared.waiting.Waiting.{Waiting}
use Rattle.nim_base.proofs.Lists.{any_filter, any_same}

-- how many are left without a ticket
pub length_without : (u : ℕ) (xs : List ℕ) → length (filter (λ e. not (u == e)) xs) ≡ length xs - times u xs
length_without u xs = omega (arith, length-filter_both (λ e. u == e) (λ e. not (u == e)) (λ e. refl) xs)

other_kept : (u e x : ℕ) (b : Bool) → (u == e) ≡ false → (e == x) ≡ b → b ≡ (not (u == x) && b)
other_kept u e x true other same = sym (ap (λ (n : ℕ). not (u == n) && true) (sym (eqb-true e x same)) ∙ ap (λ (c : Bool). not c && true) other)
other_kept u e x false other same = none_either (not (u == x)) where
  none_either : (b : Bool) → false ≡ (b && false)
  none_either true = refl
  none_either false = refl

-- another ticket is as often among those that are left
pub times_other : (u e : ℕ) (xs : List ℕ) → (u == e) ≡ false → times e (filter (λ x. not (u == x)) xs) ≡ times e xs
times_other u e xs other = filter_length (filter_twice (λ x. e == x) (λ x. not (u == x)) (λ x. e == x) (λ x. other_kept u e x (e == x) other refl) xs) where
  filter_length : {ys zs : List ℕ} → ys ≡ zs → length ys ≡ length zs
  filter_length is = ap length is

in_step : (p : ℕ → Bool) (e x : ℕ) (b : Bool) → (e == x) ≡ b → (p x && b) ≡ (b && p e)
in_step p e x true same = and_true (p x) ∙ ap p (sym (eqb-true e x same)) where
  and_true : (b : Bool) → (b && true) ≡ b
  and_true true = refl
  and_true false = refl
in_step p e x false same = none_left (p x) where
  none_left : (b : Bool) → (b && false) ≡ false
  none_left true = refl
  none_left false = refl

-- whether a ticket is among those that pass a test
pub in_filter : (p : ℕ → Bool) (e : ℕ) (xs : List ℕ) → is_in e (filter p xs) ≡ (is_in e xs && p e)
in_filter p e xs =
    any_filter (λ x. e == x) p xs ∙ any_same (λ x. p x && (e == x)) (λ x. (e == x) && p e) (λ x. in_step p e x (e == x) refl) xs
    ∙ any_and (λ x. e == x) (p e) xs

times_more : (t : ℕ) (xs : List ℕ) (x : ℕ) → times t (xs ++ x ∷ []) ≡ times t xs + (if t == x then 1 else 0)
times_more t [] x = one_step (t == x) ∙ sym (zero-add (if t == x then 1 else 0)) where
  one_step : (b : Bool) → length (if b then x ∷ [] else []) ≡ (if b then 1 else 0)
  one_step true = refl
  one_step false = refl
times_more t (y ∷ xs) x = more_step (t == y) (times_more t xs x) where
  more_step : (b : Bool) → times t (xs ++ x ∷ []) ≡ times t xs + (if t == x then 1 else 0)
      → length (if b then y ∷ filter (λ o. t == o) (xs ++ x ∷ []) else filter (λ o. t == o) (xs ++ x ∷ []))
      ≡ length (if b then y ∷ filter (λ o. t == o) xs else filter (λ o. t == o) xs) + (if t == x then 1 else 0)
  more_step true is = omega (arith, is)
  more_step false is = is

pub same_ways : (a b : ℕ) → (a == b) ≡ (b == a)
same_ways a b =
    elim (cases_eq a b) [ inl same ↦ eq-eqb a b same ∙ sym (eq-eqb b a (sym same)) | inr other ↦ ne_eqb a b other ∙ sym (ne_eqb b a (λ is. other (sym is))) ]

pub times_last : (t : ℕ) (xs : List ℕ) (x : ℕ) → times t (xs ++ x ∷ []) ≡ times t xs + (if x == t then 1 else 0)
times_last t xs x = times_more t xs x ∙ ap (λ (b : Bool). times t xs + (if b then 1 else 0)) (same_ways t x)

-- fewer, twice
pub fewer_twice : (a b c : ℕ) (o : Option Waiting) → c ≡ a + b → option_map (fewer b) (option_map (fewer a) o) ≡ option_map (fewer c) o
fewer_twice a b c None is = refl
fewer_twice a b c (Some w) is = let same : (w.pending - a) - b ≡ w.pending - c = omega (arith, is) in ap (λ (n : ℕ). Some (record w { pending = n })) same

pub fewer_none : (o : Option Waiting) → option_map (fewer 0) o ≡ o
fewer_none None = refl
fewer_none (Some w) = let same : w.pending - 0 ≡ w.pending = omega arith in ap (λ (n : ℕ). Some (record w { pending = n })) same

-- one that isn't there, or waits for more than one or for none, is free as it was
pub free_same : (o : Option Waiting) → option_map_or (λ (w : Waiting). w.pending == 1) o false ≡ false → is_free (option_map (fewer 1) o) ≡ is_free o
free_same None other = refl
free_same (Some w) other = by w.pending other where
  by : (n : ℕ) → (n == 1) ≡ false → (n - 1 == 0) ≡ (n == 0)
  by zero other = refl
  by (suc zero) other = other
  by (suc (suc n)) other =
      ne_eqb (suc (suc n) - 1) 0 (λ is. omega (arith, is)) ∙ sym (ne_eqb (suc (suc n)) 0 (λ is. omega (arith, is)))

pub was_last : (o : Option Waiting) → option_map_or (λ (w : Waiting). w.pending == 1) o false ≡ true
    → (is_free o ≡ false) × (is_free (option_map (fewer 1) o) ≡ true) × (is_some o ≡ true)
was_last None last = (refl, last, last)
was_last (Some w) last =
    let is : w.pending ≡ 1 = eqb-true w.pending 1 last in
    (ap (λ (n : ℕ). n == 0) is, ap (λ (n : ℕ). n - 1 == 0) is, refl)

-- no more pass a test than a weaker one
pub fewer_pass : (p q : ℕ → Bool) → ((x : ℕ) → p x ≡ true → q x ≡ true) → (xs : List ℕ) → length (filter p xs) ≤ length (filter q xs)
fewer_pass p q weaker [] = omega arith
fewer_pass p q weaker (x ∷ xs) = pass_step (p x) (q x) (weaker x) (fewer_pass p q weaker xs) where
  pass_step : (b c : Bool) → (b ≡ true → c ≡ true) → length (filter p xs) ≤ length (filter q xs)
      → length (if b then x ∷ filter p xs else filter p xs) ≤ length (if c then x ∷ filter q xs else filter q xs)
  pass_step true true weaker rest = omega (arith, rest)
  pass_step true false weaker rest = absurd (false≢true (weaker refl))
  pass_step false true weaker rest = omega (arith, rest)
  pass_step false false weaker rest = rest

-- a command is kept where it isn't complete
some_kept : (waits followers : ℕ → List ℕ) (t : ℕ) (m : Member) (d : Bool) (o : Option Member) → o ≡ Some m
    → is_some (if d then None else option_map (kept_at waits followers t) o) ≡ not d
some_kept waits followers t m true o there = refl
some_kept waits followers t m false o there = ap (λ (x : Option Member). is_some (option_map (kept_at waits followers t) x)) there

-- as many as places aren't complete
pub count_is : (queue : BeforeQueue) (groups : List Group) (done : ℕ → Bool) → StandsForGroups queue groups done
    → waiting_count queue ≡ length (filter (λ place. not (done place)) (range_with_len 0 (command_count groups)))
count_is queue groups done stands =
    let keeps : KeepsGroups queue groups done = opened stands in
    ap (λ (n : ℕ). length (filter (λ t. is_some (get nat_eq queue.waiting t)) (range_with_len 0 n))) keeps.given
    ∙ ap length
    (filter_range (λ t. is_some (get nat_eq queue.waiting t)) (λ t. not (done t)) 0 (command_count groups)
    (λ t from to.
    elim (slice_get_cases (members_of groups) t).1 [
      | inl found ↦
          ap is_some (keeps.kept t) ∙ some_kept keeps.waits keeps.followers t found.0 (done t) (slice_get (members_of groups) t) found.2
      | inr past ↦ absurd (omega (arith, past.0, to))
    ]))
