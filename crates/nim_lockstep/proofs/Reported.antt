-- Runs stay accounted for when a report is taken, and when more were performed.
use Rattle.std.proofs.Common.{◌≡◌, ℕ, ◌<◌, Bool, true, false, List, [], ◌∷◌, ◌++◌, refl, ap, sym, subst, ◌∙◌, inl, inr, Some}
use Rattle.std.specs.Prelude.{◌||◌, ◌==◌, if◌then◌else◌}
use Rattle.std.proofs.lemmas.Bool.{both_ways, cases_eq, or_cases, or_left, or_right}
use Rattle.std.proofs.lemmas.List.Folds.{list_any-append}
use Rattle.nim_base.specs.declared.number.Worker.{Worker}
use Rattle.nim_command.specs.Waits.{Group}
use Rattle.nim_message.specs.declared.report.FromWorker.{FromWorker}
use Rattle.nim_message.specs.declared.report.FromWorker.TheVariants.{Value, Ran, Through, NoMemory}
use Rattle.nim_message.specs.Orders.{session_of}
use Rattle.nim_place.specs.Directed.{Directed, orders_to}
use Rattle.nim_place.specs.Extends.{is_live, worker_of}
use Rattle.nim_place.specs.TaskRuns.{position_run}
use Rattle.nim_course.specs.declared.setup.Setup.{Setup}
use Rattle.nim_course.specs.Controller.{Controller, Flight}
use Rattle.nim_course.specs.Reports.{after_report, flight_after, flight_through, reported, value_reported}
use Rattle.nim_history.specs.History.{Asked, asked_at}
use Rattle.nim_lockstep.specs.declared.ran.Ran.{Ran as ran_type}
use Rattle.nim_lockstep.specs.InStep.{was_run}
use Rattle.nim_lockstep.proofs.Counted.{IsCounted}
use Rattle.nim_lockstep.proofs.Flights.{still_ran, still_through}
use Rattle.nim_lockstep.proofs.Groups.{group_asked}
use Rattle.nim_lockstep.proofs.UnderWay.{AreAccounted, AreAllSeparate, IsThrough, IsTold, is_awaited_by, is_from_instance}

-- ---- a longer trace

or_wider : (x y z : Bool) → (x || y) ≡ true → (x || (y || z)) ≡ true
or_wider true y z is = refl
or_wider false true z is = refl
or_wider false false z is = absurd (both_ways false refl is)

longer_accounted : (flights : List Flight) (workers : ℕ) (put : List Directed) (trace more : List ran_type) → AreAccounted flights workers put trace
    → AreAccounted flights workers put (trace ++ more)
longer_accounted flights workers put trace more accounted = λ number below place asked there position runs.
    let awaited : Bool = is_awaited_by flights number asked.group position in
    ap (λ (b : Bool). awaited || b) (list_any-append (λ (ran : ran_type). ran.position == position) trace more)
    ∙ or_wider awaited (was_run trace position) (was_run more position) (accounted number below place asked there position runs)

-- a longer trace accounts for more
pub longer_counted : (setup : Setup) (c : Controller) (put : List Directed) (trace more : List ran_type) → IsCounted setup c put trace
    → IsCounted setup c put (trace ++ more)
longer_counted setup c put trace more counted = record {
  accounted = longer_accounted c.flight setup.workers put trace more counted.accounted;
  separate = counted.separate;
}

-- ---- a report

ran_accounted : (flights : List Flight) (workers : ℕ) (put : List Directed) (trace : List ran_type) (from : Worker) (at : ℕ) → was_run trace at ≡ true
    → AreAccounted flights workers put trace → AreAccounted (flight_after from at flights) workers put trace
ran_accounted flights workers put trace from at ran accounted = λ number below place asked there position runs.
    let awaited : Bool = is_awaited_by (flight_after from at flights) number asked.group position in
    elim (cases_eq position at) [
      | inl same ↦ or_right awaited (was_run trace position) (subst (λ (p : ℕ). was_run trace p ≡ true) (sym same) ran)
      | inr other ↦
          elim
          (or_cases (is_awaited_by flights number asked.group position) (was_run trace position) (accounted number below place asked there position runs)) [
            | inl was ↦ or_left awaited (was_run trace position) (still_ran from at flights number asked.group position other was)
            | inr done ↦ or_right awaited (was_run trace position) done
          ]
    ]

-- what a worker is asked for of the instance that it is through with was performed
through_ran : (instance workers : ℕ) (put : List Directed) (trace : List ran_type) (from ended number place position : ℕ) (asked : Asked)
    → IsThrough (orders_to from put) trace ended → AreAllSeparate instance workers put → number < workers
    → asked_at (session_of (orders_to number put)).groups place ≡ Some asked → position_run asked.command.kind ≡ position ∷ []
    → is_from_instance asked.group.source ≡ true → number ≡ from → asked.group.instance ≡ ended → was_run trace position ≡ true
through_ran instance workers put trace from ended number place position asked through separate below there runs whole own same =
    let groups : List Group = (session_of (orders_to number put)).groups in
    let here : IsThrough (orders_to number put) trace ended = subst (λ (n : ℕ). IsThrough (orders_to n put) trace ended) (sym own) through in
    here.all place asked position there
    ((separate number below).apart asked.number here.number asked.group here.group (group_asked groups place asked there) here.there whole here.whole
    (same ∙ sym here.is)) runs

through_accounted : (flights : List Flight) (instance workers : ℕ) (put : List Directed) (trace : List ran_type) (from ended : ℕ)
    → IsThrough (orders_to from put) trace ended → AreAllSeparate instance workers put → AreAccounted flights workers put trace
    → AreAccounted (flight_through (worker_of from) ended flights) workers put trace
through_accounted flights instance workers put trace from ended through separate accounted = λ number below place asked there position runs.
    let awaited : Bool = is_awaited_by (flight_through (worker_of from) ended flights) number asked.group position in
    elim (or_cases (is_awaited_by flights number asked.group position) (was_run trace position) (accounted number below place asked there position runs)) [
      | inl was ↦
          either number below place asked there position runs was (was_run trace position) refl
      | inr done ↦ or_right awaited (was_run trace position) done
    ] where
      -- a run that wasn't performed isn't of what it is through with
      either : (number : ℕ) → number < workers → (place : ℕ) (asked : Asked) → asked_at (session_of (orders_to number put)).groups place ≡ Some asked
          → (position : ℕ) → position_run asked.command.kind ≡ position ∷ [] → is_awaited_by flights number asked.group position ≡ true
          → (b : Bool) → was_run trace position ≡ b
          → (is_awaited_by (flight_through (worker_of from) ended flights) number asked.group position || was_run trace position) ≡ true
      either number below place asked there position runs was true done =
          or_right (is_awaited_by (flight_through (worker_of from) ended flights) number asked.group position) (was_run trace position) done
      either number below place asked there position runs was false done =
          or_left (is_awaited_by (flight_through (worker_of from) ended flights) number asked.group position) (was_run trace position)
          (still_through (worker_of from) ended flights number asked.group position
          (λ whole own same. both_ways (was_run trace position) done
          (through_ran instance workers put trace from ended number place position asked through separate below there runs whole own same)) was)

reported_counted : (setup : Setup) (c : Controller) (put : List Directed) (from : ℕ) (report : FromWorker) (trace : List ran_type)
    → IsTold (orders_to from put) trace report → IsCounted setup c put trace → IsCounted setup (reported c (worker_of from) report) put trace
reported_counted setup c put from (Value epoch ticket object version value) trace is counted = either (epoch == c.epoch) where
  either : (b : Bool) → IsCounted setup (if b then record c { fetched = value_reported c ticket object version value } else c) put trace
  either true = record { accounted = counted.accounted; separate = counted.separate }
  either false = counted
reported_counted setup c put from (Ran epoch position reads) trace is counted = either (epoch == c.epoch) where
  either : (b : Bool) → IsCounted setup (if b then record c { flight = flight_after (worker_of from) position c.flight } else c) put trace
  either true = record {
    accounted = ran_accounted c.flight setup.workers put trace (worker_of from) position is counted.accounted;
    separate = counted.separate;
  }
  either false = counted
reported_counted setup c put from (Through epoch instance) trace is counted = either (epoch == c.epoch) where
  either : (b : Bool) → IsCounted setup (if b then record c { flight = flight_through (worker_of from) instance c.flight } else c) put trace
  either true = record {
    accounted = through_accounted c.flight c.instance setup.workers put trace from instance is counted.separate counted.accounted;
    separate = counted.separate;
  }
  either false = counted
reported_counted setup c put from NoMemory trace is counted = record { accounted = counted.accounted; separate = counted.separate }
reported_counted setup c put from report trace is counted = counted

pub report_counted : (setup : Setup) (c : Controller) (put : List Directed) (from : ℕ) (report : FromWorker) (trace : List ran_type)
    → IsTold (orders_to from put) trace report → IsCounted setup c put trace → IsCounted setup (after_report c (worker_of from) report) put trace
report_counted setup c put from report trace is counted = either (is_live c.live (worker_of from)) where
  due : IsCounted setup (record c { due = true }) put trace
  due = record { accounted = counted.accounted; separate = counted.separate }

  either : (b : Bool) → IsCounted setup (if b then reported (record c { due = true }) (worker_of from) report else record c { due = true }) put trace
  either true = reported_counted setup (record c { due = true }) put from report trace is due
  either false = due
