-- What a queue tells of what it stands for.
use Rattle.std.proofs.Common.{◌≡◌, ℕ, suc, ◌+◌, ◌<◌, Bool, true, false, not, List, [], ◌∷◌, length, refl, ap, ap₂, sym, subst, ◌∙◌, arith, Option, None, Some, inl, inr}
use Rattle.std.specs.Prelude.{◌==◌, ◌&&◌, ◌||◌, if◌then◌else◌, nat_eq, slice_get, slice_range}
use Rattle.std.specs.HashMap.{get}
use Rattle.std.specs.List.{filter, list_all, range_with_len}
use Rattle.std.specs.Option.{option_map, option_map_or}
use Rattle.std.proofs.lemmas.Bool.{eq-eqb, false≢true, ne_eqb}
use Rattle.std.proofs.lemmas.Option.{slice_get_cases}
use Rattle.nim_command.specs.Waits.{Group, Member, is_waited, members_of, waits_for, waits_of}
use Rattle.nim_order.proofs.Items.{filter_range}
use Rattle.nim_queue.specs.Counts.{IsRising, is_free, is_in}
use Rattle.nim_queue.specs.Stands.{KeepsGroups, command_count, first_to_pass, is_after, is_released, kept_at, open_waits, ready_of}
use Rattle.nim_queue.specs.declared.queue.BeforeQueue.{BeforeQueue}
use Rattle.nim_queue.specs.declared.waiting.Waiting.{Waiting}
use Rattle.nim_queue.proofs.Rising.{first_of_both, rising}

-- what is kept of a command
kept_own : {Y : Type 0} (of : Waiting → Y) (own : Member → Y) (waits followers : ℕ → List ℕ) (t : ℕ) (d : Bool) (o : Option Member)
    → ((m : Member) → of (kept_at waits followers t m) ≡ own m)
    → option_map of (if d then None else option_map (kept_at waits followers t) o) ≡ (if d then None else option_map own o)
kept_own of own waits followers t true o same = refl
kept_own of own waits followers t false None same = refl
kept_own of own waits followers t false (Some m) same = ap (λ y. Some y) (same m)

pub told_of : {Y : Type 0} (of : Waiting → Y) (own : Member → Y) (queue : BeforeQueue) (groups : List Group) (done : ℕ → Bool) (t : ℕ)
    → KeepsGroups queue groups done
    → ((waits followers : ℕ → List ℕ) (m : Member) → of (kept_at waits followers t m) ≡ own m)
    → option_map of (get nat_eq queue.waiting t) ≡ (if done t then None else option_map own (slice_get (members_of groups) t))
told_of of own queue groups done t stands same =
    ap (option_map of) (stands.kept t)
    ∙ kept_own of own stands.waits stands.followers t (done t) (slice_get (members_of groups) t) (same stands.waits stands.followers)

-- lists of the same tickets are empty alike
both_empty : (xs ys : List ℕ) → ((e : ℕ) → is_in e xs ≡ is_in e ys) → (length xs == 0) ≡ (length ys == 0)
both_empty [] [] same = refl
both_empty [] (y ∷ ys) same = absurd (false≢true (same y ∙ ap (λ (b : Bool). b || is_in y ys) (eq-eqb y y refl)))
both_empty (x ∷ xs) [] same = absurd (false≢true (sym (same x) ∙ ap (λ (b : Bool). b || is_in x xs) (eq-eqb x x refl)))
both_empty (x ∷ xs) (y ∷ ys) same = ne_eqb (suc (length xs)) 0 (λ is. omega (arith, is)) ∙ sym (ne_eqb (suc (length ys)) 0 (λ is. omega (arith, is)))

none_left : (done : ℕ → Bool) (xs : List ℕ) → (length (filter (λ e. not (done e)) xs) == 0) ≡ list_all done xs
none_left done [] = refl
none_left done (x ∷ xs) = left_step (done x) (none_left done xs) where
  left_step : (d : Bool) → (length (filter (λ e. not (done e)) xs) == 0) ≡ list_all done xs
      → (length (if not d then x ∷ filter (λ e. not (done e)) xs else filter (λ e. not (done e)) xs) == 0) ≡ (d && list_all done xs)
  left_step true rest = rest
  left_step false rest = ne_eqb (suc (length (filter (λ e. not (done e)) xs))) 0 (λ is. omega (arith, is))

free_step : (waits followers : ℕ → List ℕ) (t : ℕ) (m : Member) (d all : Bool) (o : Option Member) → o ≡ Some m → (d ≡ false → (length (waits t) == 0) ≡ all)
    → is_free (if d then None else option_map (kept_at waits followers t) o) ≡ (not d && all)
free_step waits followers t m true all o there free = refl
free_step waits followers t m false all o there free = ap (λ (x : Option Member). is_free (option_map (kept_at waits followers t) x)) there ∙ free refl

-- those that wait for nothing are the released ones
free_released : (queue : BeforeQueue) (groups : List Group) (done : ℕ → Bool) (t : ℕ) → KeepsGroups queue groups done → t < command_count groups
    → is_free (get nat_eq queue.waiting t) ≡ is_released groups done t
free_released queue groups done t stands within =
    elim (slice_get_cases (members_of groups) t).1 [
      | inl found ↦
          ap is_free (stands.kept t)
          ∙ free_step stands.waits stands.followers t found.0 (done t) (list_all done (waits_of (members_of groups) t)) (slice_get (members_of groups) t)
          found.2
          (λ here.
          both_empty (stands.waits t) (open_waits (members_of groups) done t) (λ e. stands.left t e here)
          ∙ none_left done (waits_of (members_of groups) t))
      | inr past ↦ absurd (omega (arith, past.0, within))
    ]

pub ready_first : (queue : BeforeQueue) (groups : List Group) (done : ℕ → Bool) (after result : Option ℕ) → KeepsGroups queue groups done
    → (IsRising queue.released.items.items → result ≡ first_to_pass (is_after after) queue.released.items.items) → result ≡ ready_of groups done after
ready_first queue groups done after result stands found =
    let test : ℕ → Bool = λ t. is_free (get nat_eq queue.waiting t) in
    let rises : IsRising queue.released.items.items = subst IsRising (sym stands.released.items) (rising test queue.given) in
    found rises ∙ ap (first_to_pass (is_after after)) stands.released.items
    ∙ ap (λ (n : ℕ). first_to_pass (is_after after) (filter test (range_with_len 0 n))) stands.given
    ∙ ap (first_to_pass (is_after after))
    (filter_range test (is_released groups done) 0 (command_count groups)
    (λ t from to. free_released queue groups done t stands (omega (arith, to))))
    ∙ sym (first_of_both (is_after after) (is_released groups done) (range_with_len 0 (command_count groups)))

-- a command that isn't there waits for nothing
pub none_pass : {X : Type 0} (p : X → Bool) (xs : List X) → ((x : X) → p x ≡ false) → filter p xs ≡ []
none_pass p [] none = refl
none_pass {X} p (x ∷ xs) none = ap₂ (λ (b : Bool) (rest : List X). if b then x ∷ rest else rest) (none x) (none_pass p xs none)

pub waits_none : (members : List Member) (t : ℕ) → slice_get members t ≡ None → waits_of members t ≡ []
waits_none members t absent =
    none_pass (waits_for members t) (range_with_len 0 t)
    (λ e.
    ap
    (λ (o : Option Member). option_map_or (λ (l : Member). option_map_or (λ (x : Member). is_waited x (slice_range members (e + 1) t) l) (slice_get members e)
    false) o false)
    absent)
