-- Which runs instances in flight await, by moves and reports.
use Rattle.std.proofs.Common.{◌≡◌, ◌⊎◌, ℕ, zero, suc, ◌+◌, ◌-◌, ◌<◌, ◌≤◌, Bool, true, false, List, [], ◌∷◌, ◌++◌, length, map, refl, ap, sym, ◌∙◌, inl, inr, Option, None, arith}
use Rattle.std.specs.Prelude.{◌&&◌, ◌==◌, nat_le, nat_lt, not, if◌then◌else◌, slice_get, slice_set}
use Rattle.std.specs.List.{filter, list_any}
use Rattle.std.specs.Option.{is_some, option_map_or}
use Rattle.std.proofs.lemmas.Bool.{and_from, and_parts, both_ways, cond-true, cond_both, eq-eqb, eqb-true, le-leb, leb-true, lt-ltb, ne_eqb, or_cases, or_left, or_right}
use Rattle.std.proofs.lemmas.List.Folds.{list_any-append}
use Rattle.nim_base.specs.declared.number.Worker.{Worker}
use Rattle.nim_base.specs.declared.task.Task.{Task}
use Rattle.nim_command.specs.Waits.{Group}
use Rattle.nim_order.proofs.Items.{any_of_filter, any_weaker}
use Rattle.nim_course.specs.Controller.{Controller, Flight, is_in_flight}
use Rattle.nim_course.specs.OrdersGiven.{awaited_worker, flight_of, reused_flight}
use Rattle.nim_course.specs.Reports.{after_ran, after_through, flight_after, flight_through, is_of}
use Rattle.nim_lockstep.proofs.NodesLists.{get_set_other}
use Rattle.nim_lockstep.proofs.UnderWay.{awaits_through, is_awaited_by, is_awaited_in, is_from_instance}

-- ---- more instances in flight

-- each task of a new instance is awaited
each_awaited : (c : Controller) (tasks : List Task) (k : ℕ) → k < length tasks
    → option_map_or (λ (run : Option Worker). is_some run) (slice_get (map (awaited_worker c) tasks) k) false ≡ true
each_awaited c [] k below = absurd (omega (arith, below))
each_awaited c (task ∷ tasks) zero below = refl
each_awaited c (task ∷ tasks) (suc k) below = each_awaited c tasks k (omega (arith, below))

new_awaited : (c : Controller) (tasks : List Task) (position : ℕ) → c.position ≤ position → position < c.position + length tasks
    → list_any (is_awaited_in position) (flight_of c tasks) ≡ true
new_awaited c [] position from below = absurd (omega (arith, from, below))
new_awaited c (task ∷ tasks) position from below =
    or_left (is_awaited_in position (record { instance = c.instance; base = c.position; runs = map (awaited_worker c) (task ∷ tasks); through = [] })) false
    (and_from (nat_le c.position position)
    (option_map_or (λ (run : Option Worker). is_some run) (slice_get (map (awaited_worker c) (task ∷ tasks)) (position - c.position)) false)
    (le-leb c.position position from) (each_awaited c (task ∷ tasks) (position - c.position) (omega (arith, from, below))))

-- a task that was scheduled by itself is awaited with its instance
pub single_awaited : (c : Controller) (flights : List Flight) (tasks : List Task) (number : ℕ) (group : Group) (position : ℕ)
    → is_from_instance group.source ≡ false → c.position ≤ position → position < c.position + length tasks
    → is_awaited_by (flights ++ flight_of c tasks) number group position ≡ true
single_awaited c flights tasks number group position single from below =
    let Awaited : Flight → Bool = is_awaited_in position in
    let all : List Flight = flights ++ flight_of c tasks in
    ap (λ (b : Bool). if b then list_any (awaits_through number group.instance) all else list_any Awaited all) single
    ∙ list_any-append Awaited flights (flight_of c tasks)
    ∙ or_right (list_any Awaited flights) (list_any Awaited (flight_of c tasks)) (new_awaited c tasks position from below)

reused_awaits : (c : Controller) (number : ℕ) (awaited : List Worker) → list_any (λ (worker : Worker). worker.0 == number) awaited ≡ true
    → list_any (awaits_through number c.instance) (reused_flight c awaited) ≡ true
reused_awaits c number [] is = absurd (both_ways false refl is)
reused_awaits c number (worker ∷ awaited) is =
    let flight : Flight = record { instance = c.instance; base = c.position; runs = []; through = worker ∷ awaited } in
    or_left (awaits_through number c.instance flight) false
    (and_from (c.instance == c.instance) (list_any (λ (w : Worker). w.0 == number) (worker ∷ awaited)) (eq-eqb c.instance c.instance refl) is)

-- an instance that was asked for as a whole is awaited of its workers
pub reused_awaited : (c : Controller) (flights : List Flight) (awaited : List Worker) (number : ℕ) (group : Group) (position : ℕ)
    → is_from_instance group.source ≡ true → group.instance ≡ c.instance → list_any (λ (worker : Worker). worker.0 == number) awaited ≡ true
    → is_awaited_by (flights ++ reused_flight c awaited) number group position ≡ true
reused_awaited c flights awaited number group position whole same is =
    let Awaits : ℕ → Flight → Bool = awaits_through number in
    let all : List Flight = flights ++ reused_flight c awaited in
    ap (λ (b : Bool). if b then list_any (Awaits group.instance) all else list_any (is_awaited_in position) all) whole
    ∙ ap (λ (instance : ℕ). list_any (Awaits instance) all) same
    ∙ list_any-append (Awaits c.instance) flights (reused_flight c awaited)
    ∙ or_right (list_any (Awaits c.instance) flights) (list_any (Awaits c.instance) (reused_flight c awaited)) (reused_awaits c number awaited is)

any_more : (test : Flight → Bool) (flights more : List Flight) → list_any test flights ≡ true → list_any test (flights ++ more) ≡ true
any_more test flights more is = list_any-append test flights more ∙ or_left (list_any test flights) (list_any test more) is

-- what is awaited still is with more in flight
pub more_awaited : (flights more : List Flight) (number : ℕ) (group : Group) (position : ℕ) → is_awaited_by flights number group position ≡ true
    → is_awaited_by (flights ++ more) number group position ≡ true
more_awaited flights more number group position = either (is_from_instance group.source) where
  either : (b : Bool) → (if b then list_any (awaits_through number group.instance) flights else list_any (is_awaited_in position) flights) ≡ true
      → (if b then list_any (awaits_through number group.instance) (flights ++ more) else list_any (is_awaited_in position) (flights ++ more)) ≡ true
  either true is = any_more (awaits_through number group.instance) flights more is
  either false is = any_more (is_awaited_in position) flights more is

-- ---- what a report changes

-- what passes a test passes it once each was changed, where it stays in flight
still_any : (test : Flight → Bool) (change : Flight → Flight) → ((flight : Flight) → test flight ≡ true → test (change flight) ≡ true)
    → ((flight : Flight) → test flight ≡ true → is_in_flight flight ≡ true) → (flights : List Flight) → list_any test flights ≡ true
    → list_any test (filter is_in_flight (map change flights)) ≡ true
still_any test change keeps flies [] is = absurd (both_ways false refl is)
still_any test change keeps flies (flight ∷ flights) is =
    either (or_cases (test flight) (list_any test flights) is) (still_any test change keeps flies flights) where
      now : Flight
      now = change flight

      rest : List Flight
      rest = filter is_in_flight (map change flights)

      either : ((test flight ≡ true) ⊎ (list_any test flights ≡ true)) → (list_any test flights ≡ true → list_any test rest ≡ true)
          → list_any test (if is_in_flight now then now ∷ rest else rest) ≡ true
      either (inl here) later =
          let passes : test now ≡ true = keeps flight here in
          ap (list_any test) (cond-true (is_in_flight now) (now ∷ rest) rest (flies now passes)) ∙ or_left (test now) (list_any test rest) passes
      either (inr there) later =
          cond_both (is_in_flight now) (now ∷ rest) rest (λ (all : List Flight). list_any test all ≡ true)
          (λ stays. or_right (test now) (list_any test rest) (later there)) (λ stays. later there)

some_at : (runs : List (Option Worker)) (k : ℕ) → option_map_or (λ (run : Option Worker). is_some run) (slice_get runs k) false ≡ true
    → list_any (λ (run : Option Worker). is_some run) runs ≡ true
some_at [] k is = absurd (both_ways false refl is)
some_at (run ∷ runs) zero is = or_left (is_some run) (list_any (λ (r : Option Worker). is_some r) runs) is
some_at (run ∷ runs) (suc k) is = or_right (is_some run) (list_any (λ (r : Option Worker). is_some r) runs) (some_at runs k is)

-- what awaits a task is in flight
awaiting_flies : (position : ℕ) (flight : Flight) → is_awaited_in position flight ≡ true → is_in_flight flight ≡ true
awaiting_flies position flight is =
    or_left (list_any (λ (run : Option Worker). is_some run) flight.runs) (nat_lt 0 (length flight.through))
    (some_at flight.runs (position - flight.base)
    (and_parts (nat_le flight.base position)
    (option_map_or (λ (run : Option Worker). is_some run) (slice_get flight.runs (position - flight.base)) false) is).1)

some_there : (number : ℕ) (workers : List Worker) → list_any (λ (worker : Worker). worker.0 == number) workers ≡ true → nat_lt 0 (length workers) ≡ true
some_there number [] is = absurd (both_ways false refl is)
some_there number (worker ∷ workers) is = lt-ltb 0 (length (worker ∷ workers)) (omega arith)

-- and so is what awaits a worker
through_flies : (number instance : ℕ) (flight : Flight) → awaits_through number instance flight ≡ true → is_in_flight flight ≡ true
through_flies number instance flight is =
    or_right (list_any (λ (run : Option Worker). is_some run) flight.runs) (nat_lt 0 (length flight.through))
    (some_there number flight.through
    (and_parts (flight.instance == instance) (list_any (λ (worker : Worker). worker.0 == number) flight.through) is).1)

-- ---- a run is reported

-- where another task is reported, one that is awaited still is
still_awaited : (from : Worker) (at position : ℕ) → (position ≡ at → ⊥) → (flight : Flight) → is_awaited_in position flight ≡ true
    → is_awaited_in position (after_ran from at flight) ≡ true
still_awaited from at position other flight is =
    let runs : List (Option Worker) = slice_set flight.runs (at - flight.base) None in
    cond_both (nat_le flight.base at && option_map_or (is_of from) (slice_get flight.runs (at - flight.base)) false) (record flight { runs = runs }) flight
    (λ (f : Flight). is_awaited_in position f ≡ true)
    (λ counts.
    let first = and_parts (nat_le flight.base position)
    (option_map_or (λ (run : Option Worker). is_some run) (slice_get flight.runs (position - flight.base)) false) is in
    let second = and_parts (nat_le flight.base at) (option_map_or (is_of from) (slice_get flight.runs (at - flight.base)) false) counts in
    let past : flight.base ≤ position = leb-true flight.base position first.0 in
    let from_base : flight.base ≤ at = leb-true flight.base at second.0 in
    let apart : position - flight.base ≡ at - flight.base → ⊥ = λ same. other (omega (arith, same, past, from_base)) in
    and_from (nat_le flight.base position)
    (option_map_or (λ (run : Option Worker). is_some run) (slice_get runs (position - flight.base)) false) first.0
    (ap (λ (o : Option (Option Worker)). option_map_or (λ (run : Option Worker). is_some run) o false)
    (get_set_other flight.runs (at - flight.base) (position - flight.base) None apart)
    ∙ first.1))
    (λ counts. is)

-- and so are the workers that are to be through
ran_through : (from : Worker) (at number instance : ℕ) (flight : Flight) → awaits_through number instance flight ≡ true
    → awaits_through number instance (after_ran from at flight) ≡ true
ran_through from at number instance flight is =
    cond_both (nat_le flight.base at && option_map_or (is_of from) (slice_get flight.runs (at - flight.base)) false)
    (record flight { runs = slice_set flight.runs (at - flight.base) None }) flight
    (λ (f : Flight). awaits_through number instance f ≡ true) (λ counts. is) (λ counts. is)

pub still_ran : (from : Worker) (at : ℕ) (flights : List Flight) (number : ℕ) (group : Group) (position : ℕ) → (position ≡ at → ⊥)
    → is_awaited_by flights number group position ≡ true → is_awaited_by (flight_after from at flights) number group position ≡ true
still_ran from at flights number group position other = either (is_from_instance group.source) where
  either : (b : Bool) → (if b then list_any (awaits_through number group.instance) flights else list_any (is_awaited_in position) flights) ≡ true
      → (if b then list_any (awaits_through number group.instance) (flight_after from at flights)
      else list_any (is_awaited_in position) (flight_after from at flights))
      ≡ true
  either true is =
      still_any (awaits_through number group.instance) (after_ran from at) (ran_through from at number group.instance)
      (through_flies number group.instance) flights is
  either false is =
      still_any (is_awaited_in position) (after_ran from at) (still_awaited from at position other) (awaiting_flies position) flights is

-- ---- a worker reports that it is through

-- another worker is among those that are left
kept_number : (from number : ℕ) (workers : List Worker) → (number ≡ from → ⊥) → list_any (λ (worker : Worker). worker.0 == number) workers ≡ true
    → list_any (λ (worker : Worker). worker.0 == number) (filter (λ (worker : Worker). not (worker.0 == from)) workers) ≡ true
kept_number from number workers other is =
    let Is : Worker → Bool = λ worker. worker.0 == number in
    let Left : Worker → Bool = λ worker. not (worker.0 == from) in
    any_of_filter Is Left workers
    (any_weaker Is (λ (worker : Worker). Left worker && Is worker)
    (λ worker own. and_from (Left worker) (Is worker)
    (ap not (ne_eqb worker.0 from (λ same. other (sym (eqb-true worker.0 number own) ∙ same)))) own)
    workers is)

-- what is awaited of another worker or instance still is
through_still : (from : Worker) (ended number instance : ℕ) → (number ≡ from.0 → instance ≡ ended → ⊥) → (flight : Flight)
    → awaits_through number instance flight ≡ true → awaits_through number instance (after_through from ended flight) ≡ true
through_still from ended number instance other flight is =
    let left : List Worker = filter (λ (worker : Worker). not (worker.0 == from.0)) flight.through in
    let parts = and_parts (flight.instance == instance) (list_any (λ (worker : Worker). worker.0 == number) flight.through) is in
    cond_both (flight.instance == ended) (record flight { through = left }) flight (λ (f : Flight). awaits_through number instance f ≡ true)
    (λ same. and_from (flight.instance == instance) (list_any (λ (worker : Worker). worker.0 == number) left) parts.0
    (kept_number from.0 number flight.through
    (λ own. other own (sym (eqb-true flight.instance instance parts.0) ∙ eqb-true flight.instance ended same)) parts.1))
    (λ apart. is)

-- and so is each run
through_runs : (from : Worker) (ended position : ℕ) (flight : Flight) → is_awaited_in position flight ≡ true
    → is_awaited_in position (after_through from ended flight) ≡ true
through_runs from ended position flight is =
    cond_both (flight.instance == ended)
    (record flight { through = filter (λ (worker : Worker). not (worker.0 == from.0)) flight.through }) flight
    (λ (f : Flight). is_awaited_in position f ≡ true) (λ same. is) (λ apart. is)

pub still_through : (from : Worker) (ended : ℕ) (flights : List Flight) (number : ℕ) (group : Group) (position : ℕ)
    → (is_from_instance group.source ≡ true → number ≡ from.0 → group.instance ≡ ended → ⊥) → is_awaited_by flights number group position ≡ true
    → is_awaited_by (flight_through from ended flights) number group position ≡ true
still_through from ended flights number group position other = either (is_from_instance group.source) refl where
  either : (b : Bool) → is_from_instance group.source ≡ b
      → (if b then list_any (awaits_through number group.instance) flights else list_any (is_awaited_in position) flights) ≡ true
      → (if b then list_any (awaits_through number group.instance) (flight_through from ended flights)
      else list_any (is_awaited_in position) (flight_through from ended flights))
      ≡ true
  either true whole is =
      still_any (awaits_through number group.instance) (after_through from ended) (through_still from ended number group.instance (other whole))
      (through_flies number group.instance) flights is
  either false whole is =
      still_any (is_awaited_in position) (after_through from ended) (through_runs from ended position) (awaiting_flies position) flights is
