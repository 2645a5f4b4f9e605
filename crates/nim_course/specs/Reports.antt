-- What a report does to a controller.
use Rattle.std.specs.Prelude.{ℕ, ◌-◌, ◌==◌, nat_le, Bool, true, false, not, ◌&&◌, if◌then◌else◌, List, map, slice_get, slice_set, Option, None, Some}
use Rattle.std.specs.List.{filter}
use Rattle.std.specs.Option.{option_map_or}
use Rattle.nim_base.specs.declared.number.Object.{Object}
use Rattle.nim_base.specs.declared.number.Worker.{Worker}
use Rattle.nim_base.specs.Value.{Grid}
use Rattle.nim_message.specs.declared.report.FromWorker.{FromWorker}
use Rattle.nim_message.specs.declared.report.FromWorker.TheVariants.{Value, Ran, Through, NoMemory}
use Rattle.nim_place.specs.Extends.{is_live}
use Rattle.nim_course.specs.declared.fetched.Fetched.{Fetched}
use Rattle.nim_course.specs.declared.outcome.Outcome.{Outcome}
use Rattle.nim_course.specs.Controller.{Controller, Flight, is_in_flight}
use Rattle.nim_course.specs.Moves.{is_open}

-- whether something that was fetched is this version of an object, and wasn't reported yet
abbrev pub is_asked : Object → ℕ → Fetched → Bool
is_asked object version f = is_open f && (f.object.0 == object.0) && (f.version == version)

-- a value is reported of what was fetched at a place, if it is what was asked for
abbrev pub told_at : List Fetched → ℕ → Object → ℕ → Grid → List Fetched
told_at fetched place object version value =
    option_map_or
    (λ (f : Fetched). if is_asked object version f then slice_set fetched place (record f { value = Some value })
    else fetched)
    (slice_get fetched place) fetched

-- a value is reported under a ticket
abbrev pub value_reported : Controller → ℕ → Object → ℕ → Grid → List Fetched
value_reported c ticket object version value =
    if nat_le c.first ticket then told_at c.fetched (ticket - c.first) object version value else c.fetched

-- whether a run is awaited of a worker
abbrev pub is_of : Worker → Option Worker → Bool
is_of from None = false
is_of from (Some worker) = worker.0 == from.0

-- a worker reports the run of the task at a position; it counts from its owner alone
abbrev pub after_ran : Worker → ℕ → Flight → Flight
after_ran from position flight =
    if nat_le flight.base position && option_map_or (is_of from) (slice_get flight.runs (position - flight.base)) false
    then record flight { runs = slice_set flight.runs (position - flight.base) None }
    else flight

-- a worker reports that it is through with an instance
abbrev pub after_through : Worker → ℕ → Flight → Flight
after_through from instance flight =
    if flight.instance == instance
    then record flight { through = filter (λ (worker : Worker). not (worker.0 == from.0)) flight.through }
    else flight

-- what is in flight then
abbrev pub flight_through : Worker → ℕ → List Flight → List Flight
flight_through from instance flight = filter is_in_flight (map (after_through from instance) flight)

-- what is in flight once a run was reported
abbrev pub flight_after : Worker → ℕ → List Flight → List Flight
flight_after from position flight = filter is_in_flight (map (after_ran from position) flight)

-- A report of a live worker: a Value, a Ran and a Through count where they are of this epoch.
abbrev pub reported : Controller → Worker → FromWorker → Controller
reported c from (Value epoch ticket object version value) =
    if epoch == c.epoch then record c { fetched = value_reported c ticket object version value } else c
reported c from (Ran epoch position reads) =
    if epoch == c.epoch then record c { flight = flight_after from position c.flight } else c
reported c from (Through epoch instance) =
    if epoch == c.epoch then record c { flight = flight_through from instance c.flight } else c
reported c from NoMemory = record c { outcome = Some Outcome.NoMemory }
reported c from _ = c

-- A report of a worker that isn't live is dropped. Behind each report a turn is due.
abbrev pub after_report : Controller → Worker → FromWorker → Controller
after_report c from report =
    let due : Controller = record c { due = true } in
    if is_live c.live from then reported due from report else due
