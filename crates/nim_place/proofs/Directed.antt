-- Orders of all workers, one worker after another, and the list of each.
use Rattle.std.proofs.Common.{◌≡◌, ℕ, ◌+◌, ◌<◌, ◌≤◌, zero, suc, Bool, true, false, List, [], ◌∷◌, ◌++◌, map, refl, ap, ap₂, sym, ◌∙◌, arith, inl, inr}
use Rattle.std.specs.Prelude.{◌==◌, if◌then◌else◌}
use Rattle.std.specs.List.{filter, flat_map, range_with_len}
use Rattle.std.proofs.Math.Path.{fun_ext}
use Rattle.std.proofs.lemmas.Bool.{cases_lt, eqb-false, eqb-true, ne_eqb}
use Rattle.std.proofs.lemmas.List.{append-nil, append_assoc, map-append}
use Rattle.std.proofs.lemmas.List.Concat.{flat_map-append}
use Rattle.std.proofs.lemmas.List.Elements.{filter-append}
use Rattle.nim_message.specs.declared.order.ToWorker.{ToWorker}
use Rattle.nim_job.proofs.Lists.{range_more}
use Rattle.nim_place.specs.Extends.{longer, worker_of}
use Rattle.nim_place.specs.Directed.{Directed, by_number, directed, for_worker, orders_to}

-- ---- one worker more

-- the orders of one worker more
directed_more : (lists : ℕ → List ToWorker) (number : ℕ) → directed (number + 1) lists ≡ directed number lists ++ for_worker lists number
directed_more lists number =
    ap (flat_map (for_worker lists)) (range_more number)
    ∙ flat_map-append (for_worker lists) (range_with_len 0 number) (number ∷ [])
    ∙ ap (λ (ds : List Directed). directed number lists ++ ds) (append-nil (for_worker lists number))

-- they are pushed behind those so far
pub directed_pushed : (lists : ℕ → List ToWorker) (number : ℕ) (first now next : List Directed)
    → now ≡ first ++ directed number lists → next ≡ now ++ for_worker lists number → next ≡ first ++ directed (number + 1) lists
directed_pushed lists number first now next so_far pushed =
    pushed ∙ ap (λ (ds : List Directed). ds ++ for_worker lists number) so_far
    ∙ append_assoc first (directed number lists) (for_worker lists number)
    ∙ ap (λ (ds : List Directed). first ++ ds) (sym (directed_more lists number))

-- ---- the list of each

-- the orders for a worker, in two parts
pub to_append : (number : ℕ) (xs ys : List Directed) → orders_to number (xs ++ ys) ≡ orders_to number xs ++ orders_to number ys
to_append number xs ys =
    let mine : Directed → Bool = λ d. d.0.0 == number in
    ap (map (λ (d : Directed). d.1)) (filter-append mine xs ys) ∙ map-append (λ (d : Directed). d.1) (filter mine xs) (filter mine ys)

pub to_same : (worker number : ℕ) (orders : List ToWorker) → (worker == number) ≡ true
    → orders_to number (map (λ (order : ToWorker). (worker_of worker, order)) orders) ≡ orders
to_same worker number [] same = refl
to_same worker number (o ∷ orders) same =
    let rest : List Directed = map (λ (order : ToWorker). (worker_of worker, order)) orders in
    let mine : List Directed = filter (λ (d : Directed). d.0.0 == number) rest in
    ap (λ (b : Bool). map (λ (d : Directed). d.1) (if b then (worker_of worker, o) ∷ mine else mine)) same
    ∙ ap (λ (xs : List ToWorker). o ∷ xs) (to_same worker number orders same)

pub to_other : (worker number : ℕ) (orders : List ToWorker) → (worker == number) ≡ false
    → orders_to number (map (λ (order : ToWorker). (worker_of worker, order)) orders) ≡ []
to_other worker number [] other = refl
to_other worker number (o ∷ orders) other =
    let rest : List Directed = map (λ (order : ToWorker). (worker_of worker, order)) orders in
    let mine : List Directed = filter (λ (d : Directed). d.0.0 == number) rest in
    ap (λ (b : Bool). map (λ (d : Directed). d.1) (if b then (worker_of worker, o) ∷ mine else mine)) other
    ∙ to_other worker number orders other

-- a worker that isn't one of so many from one on has none
none_among : (lists : ℕ → List ToWorker) (number first count : ℕ)
    → ((worker : ℕ) → first ≤ worker → worker < first + count → (worker == number) ≡ false)
    → orders_to number (flat_map (for_worker lists) (range_with_len first count)) ≡ []
none_among lists number first zero apart = refl
none_among lists number first (suc count) apart =
    to_append number (for_worker lists first) (flat_map (for_worker lists) (range_with_len (first + 1) count))
    ∙ ap₂ (λ (xs ys : List ToWorker). xs ++ ys) (to_other first number (lists first) (apart first (omega arith) (omega arith)))
    (none_among lists number (first + 1) count (λ worker from below. apart worker (omega (arith, from)) (omega (arith, below))))

-- one of them has its own
own_among : (lists : ℕ → List ToWorker) (number first count : ℕ) → first ≤ number → number < first + count
    → orders_to number (flat_map (for_worker lists) (range_with_len first count)) ≡ lists number
own_among lists number first zero from below = absurd (omega (arith, from, below))
own_among lists number first (suc count) from below =
    to_append number (for_worker lists first) rest
    ∙ either (first == number) refl (λ apart. own_among lists number (first + 1) count (omega (arith, from, apart)) (omega (arith, below))) where
      rest : List Directed
      rest = flat_map (for_worker lists) (range_with_len (first + 1) count)

      either : (b : Bool) → (first == number) ≡ b → ((first ≡ number → ⊥) → orders_to number rest ≡ lists number)
          → orders_to number (for_worker lists first) ++ orders_to number rest ≡ lists number
      either true same later =
          let equal : first ≡ number = eqb-true first number same in
          ap₂ (λ (xs ys : List ToWorker). xs ++ ys) (to_same first number (lists first) same)
          (none_among lists number (first + 1) count (λ worker past below. ne_eqb worker number (λ is. omega (arith, is, past, equal))))
          ∙ append-nil (lists first) ∙ ap lists equal
      either false other later =
          ap₂ (λ (xs ys : List ToWorker). xs ++ ys) (to_other first number (lists first) other) (later (eqb-false first number other))

-- each worker has its own list, where those past the workers are empty
pub to_directed : (workers : ℕ) (lists : ℕ → List ToWorker) → ((number : ℕ) → workers ≤ number → lists number ≡ []) → (number : ℕ)
    → orders_to number (directed workers lists) ≡ lists number
to_directed workers lists none number = elim (cases_lt number workers) [
  | inl below ↦ own_among lists number 0 workers (omega arith) (omega (arith, below))
  | inr past ↦
      none_among lists number 0 workers (λ worker from within. ne_eqb worker number (λ is. omega (arith, is, within, past)))
      ∙ sym (none number past)
]

-- more orders of all workers
pub more_directed : (given : List Directed) (workers : ℕ) (more : ℕ → List ToWorker) → ((number : ℕ) → workers ≤ number → more number ≡ [])
    → by_number (given ++ directed workers more) ≡ longer (by_number given) more
more_directed given workers more none =
    fun_ext (λ number. to_append number given (directed workers more)
    ∙ ap (λ (xs : List ToWorker). orders_to number given ++ xs) (to_directed workers more none number))
