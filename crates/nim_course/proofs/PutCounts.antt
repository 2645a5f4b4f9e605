-- What orders and instances add to the counts of a summary.
use Rattle.std.proofs.Common.{◌≡◌, ℕ, ◌+◌, zero, suc, Bool, true, false, List, [], ◌∷◌, length, refl, ap, ap₂, sym, ◌∙◌, arith, Option, None, Some}
use Rattle.std.specs.Prelude.{◌==◌, min, if◌then◌else◌, map, slice_get, slice_set}
use Rattle.std.specs.List.{filter, fold, sum_by}
use Rattle.std.specs.Option.{option_map_or}
use Rattle.std.proofs.lemmas.Bool.{eqb-false, eqb-true}
use Rattle.std.proofs.lemmas.List.{length-set}
use Rattle.std.proofs.lemmas.List.Sums.{sum_by-cons}
use Rattle.nim_base.specs.declared.number.Worker.{Worker}
use Rattle.nim_command.specs.Numbers.{counted_from}
use Rattle.nim_message.specs.declared.order.ToWorker.{ToWorker}
use Rattle.nim_message.specs.Lengths.{capped, order_length_of}
use Rattle.nim_place.specs.Directed.{Directed, orders_to}
use Rattle.nim_reuse.specs.Decisions.{Decisions}
use Rattle.nim_course.specs.declared.summary.Summary.{Summary}
use Rattle.nim_course.specs.declared.summary.WorkerLine.{WorkerLine}
use Rattle.nim_course.specs.Summaries.{line_counted, orders_counted, tasks_for}

-- ---- capped sums

-- a sum that is capped twice is capped
pub capped_more : (a more most : ℕ) → min (min a most + more) most ≡ min (a + more) most
capped_more a more most = omega arith

-- ---- the bytes

-- a count of bytes behind orders
abbrev pub control_after : List Directed → ℕ → ℕ
control_after orders control = fold (λ (n : ℕ) (d : Directed). counted_from n (order_length_of d.1)) control orders

-- it is that of all of them
pub control_counted : (orders : List Directed) (a : ℕ) → control_after orders (capped a) ≡ capped (a + sum_by (λ (d : Directed). order_length_of d.1) orders)
control_counted [] a = let same : a ≡ a + 0 = omega arith in ap capped same
control_counted (d ∷ orders) a =
    let own : ℕ = order_length_of d.1 in
    let total : List Directed → ℕ = sum_by (λ (e : Directed). order_length_of e.1) in
    let first : counted_from (capped a) own ≡ capped (a + own) = capped_more a own _ in
    let all : (a + own) + total orders ≡ a + total (d ∷ orders) =
    omega (arith, sum_by-cons (λ (e : Directed). order_length_of e.1) d orders) in
    ap (control_after orders) first ∙ control_counted orders (a + own) ∙ ap capped all

-- ---- the workers' lines

-- lines with one order more
abbrev lines_with : Decisions → List WorkerLine → Directed → List WorkerLine
lines_with decisions lines d =
    option_map_or (λ (line : WorkerLine). slice_set lines d.0.0 (line_counted (tasks_for decisions d.0 d.1) line)) (slice_get lines d.0.0) lines

-- with orders
abbrev lines_after : Decisions → List Directed → List WorkerLine → List WorkerLine
lines_after decisions orders lines = fold (lines_with decisions) lines orders

-- nothing else of a summary changes
pub orders_keep : (decisions : Decisions) (orders : List Directed) (summary : Summary)
    → orders_counted decisions orders summary
    ≡ record summary { control = control_after orders summary.control; workers = lines_after decisions orders summary.workers }
orders_keep decisions [] summary = refl
orders_keep decisions (d ∷ orders) summary = orders_keep decisions orders (orders_counted decisions (d ∷ []) summary)

-- what was set
set_same : {X : Type 0} (xs : List X) (i : ℕ) (x y : X) → slice_get xs i ≡ Some x → slice_get (slice_set xs i y) i ≡ Some y
set_same [] i x y there = absurd cc
set_same (z ∷ xs) zero x y there = refl
set_same (z ∷ xs) (suc i) x y there = set_same xs i x y there

-- what stays
set_other : {X : Type 0} (xs : List X) (i j : ℕ) (y : X) → (i ≡ j → ⊥) → slice_get (slice_set xs i y) j ≡ slice_get xs j
set_other [] i j y apart = refl
set_other (x ∷ xs) zero zero y apart = absurd (apart refl)
set_other (x ∷ xs) zero (suc j) y apart = refl
set_other (x ∷ xs) (suc i) zero y apart = refl
set_other (x ∷ xs) (suc i) (suc j) y apart = set_other xs i j y (λ is. apart (ap suc is))

-- as many lines
lines_length : (decisions : Decisions) (lines : List WorkerLine) (d : Directed) → length (lines_with decisions lines d) ≡ length lines
lines_length decisions lines d = either (slice_get lines d.0.0) where
  either : (o : Option WorkerLine)
      → length (option_map_or (λ (line : WorkerLine). slice_set lines d.0.0 (line_counted (tasks_for decisions d.0 d.1) line)) o lines) ≡ length lines
  either None = refl
  either (Some line) = length-set lines d.0.0 (line_counted (tasks_for decisions d.0 d.1) line)

-- and so behind all orders
pub lines_many : (decisions : Decisions) (orders : List Directed) (lines : List WorkerLine) → length (lines_after decisions orders lines) ≡ length lines
lines_many decisions [] lines = refl
lines_many decisions (d ∷ orders) lines = lines_many decisions orders (lines_with decisions lines d) ∙ lines_length decisions lines d

-- a worker's line behind its orders
abbrev line_after : Decisions → Worker → List ToWorker → WorkerLine → WorkerLine
line_after decisions worker orders line = fold (λ (l : WorkerLine) (o : ToWorker). line_counted (tasks_for decisions worker o) l) line orders

-- each worker's line has what its own orders add
pub lines_each : (decisions : Decisions) (worker : Worker) (orders : List Directed) (lines : List WorkerLine) (line : WorkerLine)
    → slice_get lines worker.0 ≡ Some line
    → slice_get (lines_after decisions orders lines) worker.0 ≡ Some (line_after decisions worker (orders_to worker.0 orders) line)
lines_each decisions worker [] lines line there = there
lines_each decisions worker (d ∷ orders) lines line there =
    either (d.0.0 == worker.0) refl (λ now is. lines_each decisions worker orders (lines_with decisions lines d) now is) where
      mine : List ToWorker
      mine = orders_to worker.0 orders

      next : List WorkerLine
      next = lines_with decisions lines d

      either : (b : Bool) → (d.0.0 == worker.0) ≡ b
          → ((now : WorkerLine) → slice_get next worker.0 ≡ Some now
          → slice_get (lines_after decisions orders next) worker.0 ≡ Some (line_after decisions worker mine now))
          → slice_get (lines_after decisions orders next) worker.0
          ≡ Some (line_after decisions worker (map (λ (e : Directed). e.1) (if b then d ∷ filter (λ (e : Directed). e.0.0 == worker.0) orders
          else filter (λ (e : Directed). e.0.0 == worker.0) orders)) line)
      either true same rest =
          let is : d.0.0 ≡ worker.0 = eqb-true d.0.0 worker.0 same in
          let who : d.0 ≡ worker = ap (λ (n : ℕ). record { 0 = n }) is in
          let counted : WorkerLine = line_counted (tasks_for decisions d.0 d.1) line in
          let here : slice_get lines d.0.0 ≡ Some line = ap (slice_get lines) is ∙ there in
          let put : next ≡ slice_set lines d.0.0 counted =
          ap (λ (o : Option WorkerLine).
          option_map_or (λ (l : WorkerLine). slice_set lines d.0.0 (line_counted (tasks_for decisions d.0 d.1) l)) o lines) here in
          let now : slice_get next worker.0 ≡ Some counted =
          ap (λ (ls : List WorkerLine). slice_get ls worker.0) put ∙ ap (slice_get (slice_set lines d.0.0 counted)) (sym is)
          ∙ set_same lines d.0.0 line counted here in
          rest counted now
          ∙ ap (λ (w : Worker). Some (line_after decisions worker mine (line_counted (tasks_for decisions w d.1) line))) who
      either false other rest = rest line (still (slice_get lines d.0.0) ∙ there) where
        still : (o : Option WorkerLine)
            → slice_get (option_map_or (λ (l : WorkerLine). slice_set lines d.0.0 (line_counted (tasks_for decisions d.0 d.1) l)) o lines) worker.0
            ≡ slice_get lines worker.0
        still None = refl
        still (Some l) = set_other lines d.0.0 worker.0 (line_counted (tasks_for decisions d.0 d.1) l) (eqb-false d.0.0 worker.0 other)

-- the line of a live worker, by the tasks and orders so far
abbrev pub line_of : ℕ → ℕ → WorkerLine
line_of tasks orders = record { live = true; tasks = capped tasks; orders = capped orders }

-- what orders add to it
pub line_counts : (decisions : Decisions) (worker : Worker) (orders : List ToWorker) (a b : ℕ)
    → line_after decisions worker orders (line_of a b) ≡ line_of (a + sum_by (tasks_for decisions worker) orders) (b + length orders)
line_counts decisions worker [] a b =
    let tasks : a ≡ a + 0 = omega arith in
    let many : b ≡ b + 0 = omega arith in
    ap₂ line_of tasks many
line_counts decisions worker (order ∷ orders) a b =
    let own : ℕ = tasks_for decisions worker order in
    let total : List ToWorker → ℕ = sum_by (tasks_for decisions worker) in
    let made : ℕ → ℕ → WorkerLine = λ m n. record { live = true; tasks = m; orders = n } in
    let first : line_counted own (line_of a b) ≡ line_of (a + own) (b + 1) = ap₂ made (capped_more a own _) (capped_more b 1 _) in
    let tasks : (a + own) + total orders ≡ a + total (order ∷ orders) = omega (arith, sum_by-cons (tasks_for decisions worker) order orders) in
    let many : (b + 1) + length orders ≡ b + length (order ∷ orders) = omega arith in
    ap (line_after decisions worker orders) first ∙ line_counts decisions worker orders (a + own) (b + 1) ∙ ap₂ line_of tasks many
