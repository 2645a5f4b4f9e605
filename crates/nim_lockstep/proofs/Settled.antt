-- How the job of a controller ends that loses no worker: done only where no instance is in flight, never for want of a worker.
use Rattle.std.proofs.Common.{◌≡◌, ◌≢◌, ℕ, zero, suc, Bool, true, false, List, [], ◌∷◌, length, refl, sym, subst, ◌∙◌, None, Some, arith}
use Rattle.std.specs.Prelude.{◌==◌, ℤ, nat_le, if◌then◌else◌}
use Rattle.std.proofs.lemmas.Bool.{leb-false}
use Rattle.nim_base.specs.declared.number.Worker.{Worker}
use Rattle.nim_message.specs.declared.report.FromWorker.{FromWorker}
use Rattle.nim_message.specs.declared.report.FromWorker.TheVariants.{Value, Ran, Through, NoMemory}
use Rattle.nim_job.specs.declared.ask.Ask.{Ask}
use Rattle.nim_job.specs.Machine.{ask_of}
use Rattle.nim_place.specs.Extends.{is_live}
use Rattle.nim_reuse.specs.Decisions.{is_recorded}
use Rattle.nim_course.specs.declared.outcome.Outcome.{Outcome}
use Rattle.nim_course.specs.declared.outcome.Outcome.TheVariants.{Done, NoWorker}
use Rattle.nim_course.specs.declared.pending.Pending.{Pending}
use Rattle.nim_course.specs.declared.pending.Pending.TheVariants.{Begin, Idle, Block, Cell, Parts, Ended}
use Rattle.nim_course.specs.Controller.{Controller, Flight}
use Rattle.nim_place.specs.Directed.{Directed}
use Rattle.nim_course.specs.Moves.{AreFree, IsTurned, after_moves, asked, does_wait, after_pending, with_block}
use Rattle.nim_course.specs.Reports.{after_report, flight_after, flight_through, reported, value_reported}
use Rattle.nim_course.proofs.Standing.{held_parts}

-- how it ends
pub record EndsSettled (c : Controller) : Type 0 where
  pub settled : c.outcome ≡ Some Done → c.flight ≡ []
  pub some : c.outcome ≢ Some NoWorker

-- one without an outcome
pub none_settled : (c : Controller) → c.outcome ≡ None → EndsSettled c
none_settled c none = record { settled = λ is. absurd (apart Done (sym none ∙ is)); some = λ is. apart NoWorker (sym none ∙ is) } where
  apart : (outcome : Outcome) → None ≡ Some outcome → ⊥
  apart outcome is = cc

-- one with another outcome
other_settled : (c : Controller) (outcome : Outcome) → c.outcome ≡ Some outcome → (outcome ≡ Done → ⊥) → (outcome ≡ NoWorker → ⊥) → EndsSettled c
other_settled c outcome is done lost =
    record { settled = λ now. absurd (done (same Done (sym is ∙ now))); some = λ now. lost (same NoWorker (sym is ∙ now)) } where
      same : (other : Outcome) → Some outcome ≡ Some other → outcome ≡ other
      same other equal = cc

asked_settled : (c : Controller) (ask : Ask) → c.outcome ≡ None → EndsSettled (asked c ask)
asked_settled c Ask.Limit none = other_settled (asked c Ask.Limit) Outcome.Limit refl (λ is. absurd cc) (λ is. absurd cc)
asked_settled c Ask.Checkpoint none = none_settled (asked c Ask.Checkpoint) none
asked_settled c (Ask.Run block args) none = none_settled (asked c (Ask.Run block args)) none
asked_settled c (Ask.Get object row cell) none = none_settled (asked c (Ask.Get object row cell)) none
asked_settled c (Ask.Output var) none = none_settled (asked c (Ask.Output var)) none
asked_settled c Ask.Finished none = none_settled (asked c Ask.Finished) none

-- no instance is in flight
none_fly : (flights : List Flight) → nat_le 1 (length flights) ≡ false → flights ≡ []
none_fly [] is = refl
none_fly (flight ∷ flights) is = absurd (omega (arith, leb-false 1 (length (flight ∷ flights)) is))

block_settled : (recorded : Bool) (c : Controller) (block : ℕ) (args : List ℤ) → c.outcome ≡ None → EndsSettled (with_block recorded c block args)
block_settled false c block args none = none_settled (with_block false c block args) none
block_settled true c block args none = none_settled (with_block true c block args) none

done_settled : (c : Controller) (pending : Pending) → c.outcome ≡ None → does_wait c pending ≡ false → EndsSettled (after_pending c pending)
done_settled c Begin none free = none_settled (after_pending c Begin) none
done_settled c Idle none free = asked_settled c (ask_of c.machine) none
done_settled c (Block block args) none free = block_settled (is_recorded c.decisions block) c block args none
done_settled c (Cell row cell) none free = none_settled (after_pending c (Cell row cell)) none
done_settled c (Parts var) none free = none_settled (after_pending c (Parts var)) none
done_settled c Ended none free =
    record { settled = λ is. none_fly c.flight free; some = λ is. let done : Some Done ≡ Some NoWorker = is in absurd cc }

moves_settled : (c : Controller) (count : ℕ) → AreFree count c → EndsSettled c → EndsSettled (after_moves count c)
moves_settled c zero free settled = settled
moves_settled c (suc count) free settled =
    let now : Controller = after_moves count c in
    let parts = held_parts now.outcome (does_wait now now.pending) free.1 in
    let next = done_settled now now.pending parts.0 parts.1 in
    record { settled = next.settled; some = next.some }

due_settled : (c : Controller) → EndsSettled c → EndsSettled (record c { due = false })
due_settled c settled = record { settled = settled.settled; some = settled.some }

pub turn_settled : (before after : Controller) (orders : List Directed) → EndsSettled before → IsTurned before orders after → EndsSettled after
turn_settled before after orders settled turned =
    subst EndsSettled (sym turned.rests)
    (due_settled turned.end
    (subst EndsSettled (sym turned.moved.state) (moves_settled before turned.moved.count turned.moved.free settled)))

-- ---- a report

reported_settled : (c : Controller) (from : Worker) (report : FromWorker) → c.outcome ≡ None → EndsSettled (reported c from report)
reported_settled c from (Value epoch ticket object version value) none = either (epoch == c.epoch) where
  either : (b : Bool) → EndsSettled (if b then record c { fetched = value_reported c ticket object version value } else c)
  either true = none_settled (record c { fetched = value_reported c ticket object version value }) none
  either false = none_settled c none
reported_settled c from (Ran epoch position reads) none = either (epoch == c.epoch) where
  either : (b : Bool) → EndsSettled (if b then record c { flight = flight_after from position c.flight } else c)
  either true = none_settled (record c { flight = flight_after from position c.flight }) none
  either false = none_settled c none
reported_settled c from (Through epoch instance) none = either (epoch == c.epoch) where
  either : (b : Bool) → EndsSettled (if b then record c { flight = flight_through from instance c.flight } else c)
  either true = none_settled (record c { flight = flight_through from instance c.flight }) none
  either false = none_settled c none
reported_settled c from NoMemory none = other_settled (reported c from NoMemory) Outcome.NoMemory refl (λ is. absurd cc) (λ is. absurd cc)
reported_settled c from report none = none_settled c none

pub report_settled : (c : Controller) (from : Worker) (report : FromWorker) → c.outcome ≡ None → EndsSettled (after_report c from report)
report_settled c from report none = either (is_live c.live from) where
  either : (b : Bool) → EndsSettled (if b then reported (record c { due = true }) from report else record c { due = true })
  either true = reported_settled (record c { due = true }) from report none
  either false = none_settled (record c { due = true }) none
