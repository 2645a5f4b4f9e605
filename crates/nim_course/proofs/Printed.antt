-- A controller prints nothing but texts of values that were reported to it.
use Rattle.std.proofs.Common.{◌≡◌, ℕ, ◌+◌, ◌-◌, zero, suc, Bool, true, false, List, [], ◌∷◌, ◌++◌, length, map, refl, ap, ap₂, sym, subst, ◌∙◌, inl, inr, Option, None, Some}
use Rattle.std.specs.Prelude.{◌==◌, nat_le, if◌then◌else◌, slice_get, slice_set, IfSome}
use Rattle.std.specs.List.{AllByRecursion, flat_map, list_any}
use Rattle.std.specs.Option.{is_none, option_map_or}
use Rattle.std.proofs.lemmas.Bool.{cond_both, or_parts}
use Rattle.std.proofs.lemmas.List.{append-nil, append_assoc}
use Rattle.std.proofs.lemmas.List.Concat.{flat_map-append}
use Rattle.nim_base.specs.declared.number.Object.{Object}
use Rattle.nim_base.specs.declared.number.Worker.{Worker}
use Rattle.nim_base.specs.Text.{text_of}
use Rattle.nim_base.specs.Value.{Grid, empty_grid}
use Rattle.nim_message.specs.declared.report.FromWorker.{FromWorker}
use Rattle.nim_message.specs.declared.report.FromWorker.TheVariants.{Value, Ran, Through, NoMemory, PeerDown}
use Rattle.nim_job.specs.declared.ask.Ask.{Ask}
use Rattle.nim_job.specs.declared.item.Item.{Item}
use Rattle.nim_job.specs.Driver.{Driver, output_limit}
use Rattle.nim_job.specs.Machine.{Machine, appended, ask_of, asked_now, before_ask, items_asked, quiet_steps}
use Rattle.nim_job.specs.Quiet.{is_quiet, quiet_step}
use Rattle.nim_job.specs.Step.{part_texts}
use Rattle.nim_place.specs.Extends.{is_live}
use Rattle.nim_place.specs.Versions.{Versions}
use Rattle.nim_reuse.specs.Decisions.{is_recorded}
use Rattle.nim_course.specs.declared.fetched.Fetched.{Fetched}
use Rattle.nim_course.specs.declared.pending.Pending.{Pending}
use Rattle.nim_course.specs.declared.pending.Pending.TheVariants.{Begin, Idle, Block, Cell, Parts, Ended}
use Rattle.nim_course.specs.Controller.{Controller, new_controller}
use Rattle.nim_place.specs.Directed.{Directed}
use Rattle.nim_course.specs.Moves.{AreFree, IsTurned, after_moves, asked, does_wait, after_pending, is_open, objects_in, value_in, with_block}
use Rattle.nim_course.specs.OrdersGiven.{fetched_of}
use Rattle.nim_course.specs.Printed.{Happened, IsAmong, IsOfValues, LeadsTo, PrintedPart, PrintsWhatIsTold, Reported, Turned, part_text, value_of, values_by}
use Rattle.nim_course.specs.Reports.{after_report, flight_after, flight_through, is_asked, reported, value_reported, told_at}
use Rattle.nim_course.proofs.Asking.{asking_prints_nothing}
use Rattle.nim_course.proofs.Standing.{held_parts}

-- ---- values among others

among_more : (value : Grid) (values more : List Grid) → IsAmong value values → IsAmong value (values ++ more)
among_more value [] more is = absurd is
among_more value (one ∷ values) more (inl same) = inl same
among_more value (one ∷ values) more (inr is) = inr (among_more value values more is)

among_last : (value : Grid) (values : List Grid) → IsAmong value (values ++ value ∷ [])
among_last value [] = inl refl
among_last value (one ∷ values) = inr (among_last value values)

parts_more : (values more : List Grid) (parts : List PrintedPart) → AllByRecursion (λ (part : PrintedPart). IsAmong part.value values) parts
    → AllByRecursion (λ (part : PrintedPart). IsAmong part.value (values ++ more)) parts
parts_more values more [] all = tt
parts_more values more (part ∷ parts) all = (among_more part.value values more all.0, parts_more values more parts all.1)

text_more : (values more : List Grid) (text : List ℕ) → IsOfValues values text → IsOfValues (values ++ more) text
text_more values more text is = record { parts = is.parts; is = is.is; told = parts_more values more is.parts is.told }

both_parts : (P : PrintedPart → Type 0) (first second : List PrintedPart) → AllByRecursion P first → AllByRecursion P second
    → AllByRecursion P (first ++ second)
both_parts P [] second all also = also
both_parts P (part ∷ first) second all also = (all.0, both_parts P first second all.1 also)

-- ---- what was fetched

-- what was reported of something is among the values
abbrev IsToldOf : List Grid → Fetched → Type 0
IsToldOf values f = IfSome f.value (λ (value : Grid). IsAmong value values)

some_more : (values more : List Grid) (o : Option Grid) → IfSome o (λ (value : Grid). IsAmong value values)
    → IfSome o (λ (value : Grid). IsAmong value (values ++ more))
some_more values more None is = tt
some_more values more (Some value) is = among_more value values more is

fetched_more : (values more : List Grid) (fs : List Fetched) → AllByRecursion (IsToldOf values) fs → AllByRecursion (IsToldOf (values ++ more)) fs
fetched_more values more [] all = tt
fetched_more values more (f ∷ fs) all = (some_more values more f.value all.0, fetched_more values more fs all.1)

none_told : (values : List Grid) (versions : Versions) (objects : List Object) → AllByRecursion (IsToldOf values) (map (fetched_of versions) objects)
none_told values versions [] = tt
none_told values versions (object ∷ objects) = (tt, none_told values versions objects)

-- ---- the invariant

-- what a controller printed and what it was told are of these values
record Tells (values : List Grid) (c : Controller) : Type 0 where
  printed : IsOfValues values c.machine.driver.output
  fetched : AllByRecursion (IsToldOf values) c.fetched

-- ---- asking prints nothing

quiet_prints : (n : ℕ) (driver : Driver) → (quiet_steps n driver).output ≡ driver.output
quiet_prints zero driver = refl
quiet_prints (suc n) driver =
    cond_both (is_quiet driver.todo) (quiet_steps n (quiet_step driver)) driver (λ (d : Driver). d.output ≡ driver.output)
    (λ quiet. quiet_prints n (quiet_step driver)) (λ asks. refl)

before_prints : (m : Machine) → (before_ask m).driver.output ≡ m.driver.output
before_prints m =
    cond_both m.full m (record m { driver = quiet_steps (m.steps - m.driver.count) m.driver }) (λ (n : Machine). n.driver.output ≡ m.driver.output)
    (λ full. refl) (λ open_still. quiet_prints (m.steps - m.driver.count) m.driver)

items_print : (m : Machine) (items : List Item) → (items_asked m items).driver.output ≡ m.driver.output
items_print m [] = refl
items_print m (item ∷ rest) =
    cond_both (nat_le m.steps m.driver.count) m (items_asked_once m item) (λ (n : Machine). n.driver.output ≡ m.driver.output)
    (λ counted. refl) (λ more. refl) where
      items_asked_once : Machine → Item → Machine
      items_asked_once m item = record m { driver = quiet_step m.driver; asked = Rattle.nim_job.specs.Machine.item_asked item }

asked_prints : (m : Machine) → (asked_now m).driver.output ≡ m.driver.output
asked_prints m =
    cond_both m.full m (items_asked m m.driver.todo) (λ (n : Machine). n.driver.output ≡ m.driver.output) (λ full. refl)
    (λ open_still. items_print m m.driver.todo)

same_text : (values : List Grid) (text other : List ℕ) → other ≡ text → IsOfValues values text → IsOfValues values other
same_text values text other same is = subst (IsOfValues values) (sym same) is

asked_tells : (values : List Grid) (c : Controller) (ask : Ask) → Tells values c → Tells values (asked c ask)
asked_tells values c (Ask.Run block args) tells =
    record { printed = same_text values _ _ (asking_prints_nothing c.machine) tells.printed; fetched = tells.fetched }
asked_tells values c (Ask.Get object row cell) tells =
    record { printed = same_text values _ _ (asking_prints_nothing c.machine) tells.printed; fetched = none_told values c.versions (object ∷ []) }
asked_tells values c Ask.Checkpoint tells =
    record { printed = same_text values _ _ (asking_prints_nothing c.machine) tells.printed; fetched = tells.fetched }
asked_tells values c (Ask.Output var) tells =
    record { printed = same_text values _ _ (asking_prints_nothing c.machine) tells.printed; fetched = none_told values c.versions (objects_in c var) }
asked_tells values c Ask.Finished tells =
    record { printed = same_text values _ _ (asking_prints_nothing c.machine) tells.printed; fetched = tells.fetched }
asked_tells values c Ask.Limit tells =
    record { printed = same_text values _ _ (asking_prints_nothing c.machine) tells.printed; fetched = tells.fetched }

-- ---- what is printed

-- the parts of what was fetched, the first of this number
abbrev parts_from : List ℕ → ℕ → List Fetched → List PrintedPart
parts_from name number [] = []
parts_from name number (f ∷ fs) = record { name = name; number = number; value = value_in f } ∷ parts_from name (number + 1) fs

text_parts : (name : List ℕ) (number : ℕ) (fs : List Fetched) → part_texts name number (map value_in fs) ≡ flat_map part_text (parts_from name number fs)
text_parts name number [] = refl
text_parts name number (f ∷ fs) = ap (λ (t : List ℕ). text_of name number (value_in f) ++ t) (text_parts name (number + 1) fs)

value_told : (values : List Grid) (o : Option Grid) → IfSome o (λ (value : Grid). IsAmong value values) → is_none o ≡ false
    → IsAmong (option_map_or (λ (value : Grid). value) o empty_grid) values
value_told values None is told = absurd cc
value_told values (Some value) is told = is

parts_told : (values : List Grid) (name : List ℕ) (number : ℕ) (fs : List Fetched) → AllByRecursion (IsToldOf values) fs → list_any is_open fs ≡ false
    → AllByRecursion (λ (part : PrintedPart). IsAmong part.value values) (parts_from name number fs)
parts_told values name number [] all none = tt
parts_told values name number (f ∷ fs) all none =
    let parts = or_parts (is_open f) (list_any is_open fs) none in
    (value_told values f.value all.0 parts.0, parts_told values name (number + 1) fs all.1 parts.1)

text_printed : (values : List Grid) (output : List ℕ) (name : List ℕ) (fs : List Fetched) → IsOfValues values output → AllByRecursion (IsToldOf values) fs
    → list_any is_open fs ≡ false → IsOfValues values (output ++ part_texts name 0 (map value_in fs))
text_printed values output name fs is all told =
    let more : List PrintedPart = parts_from name 0 fs in
    record {
      parts = is.parts ++ more;
      is = ap₂ (λ (a b : List ℕ). a ++ b) is.is (text_parts name 0 fs) ∙ sym (flat_map-append part_text is.parts more);
      told = both_parts (λ (part : PrintedPart). IsAmong part.value values) is.parts more is.told (parts_told values name 0 fs all told);
    }

appended_prints : (values : List Grid) (m : Machine) (text : List ℕ) → IsOfValues values m.driver.output → IsOfValues values (m.driver.output ++ text)
    → IsOfValues values (appended m text).driver.output
appended_prints values m text before after =
    cond_both (nat_le (length m.driver.output + length text) output_limit)
    (record m { driver = record m.driver { output = m.driver.output ++ text }; asked = None }) (record m { asked = None; full = true })
    (λ (n : Machine). IsOfValues values n.driver.output) (λ fits. after) (λ past. before)

-- ---- a move

move_tells : (values : List Grid) (c : Controller) (pending : Pending) → does_wait c pending ≡ false → Tells values c → Tells values (after_pending c pending)
move_tells values c Begin free tells = record { printed = tells.printed; fetched = tells.fetched }
move_tells values c Idle free tells = asked_tells values c (ask_of c.machine) tells
move_tells values c (Block block args) free tells = either (is_recorded c.decisions block) where
  either : (b : Bool) → Tells values (with_block b c block args)
  either false = record { printed = tells.printed; fetched = tells.fetched }
  either true = record { printed = tells.printed; fetched = tells.fetched }
move_tells values c (Cell row cell) free tells = record { printed = tells.printed; fetched = tt }
move_tells values c (Parts var) free tells =
    let name : List ℕ = option_map_or (λ v. v.name) (slice_get c.job.vars var) [] in
    record {
      printed = appended_prints values c.machine (part_texts name 0 (map value_in c.fetched)) tells.printed
          (text_printed values c.machine.driver.output name c.fetched tells.printed tells.fetched free);
      fetched = tt;
    }
move_tells values c Ended free tells = record { printed = tells.printed; fetched = tells.fetched }

moves_tell : (values : List Grid) (c : Controller) (count : ℕ) → AreFree count c → Tells values c → Tells values (after_moves count c)
moves_tell values c zero free tells = tells
moves_tell values c (suc count) free tells =
    let now : Controller = after_moves count c in
    let parts = held_parts now.outcome (does_wait now now.pending) free.1 in
    let next : Tells values (after_pending now now.pending) = move_tells values now now.pending parts.1 (moves_tell values c count free.0 tells) in
    record { printed = next.printed; fetched = next.fetched }

turn_tells : (values : List Grid) (before after : Controller) (orders : List Directed) → IsTurned before orders after → Tells values before → Tells values after
turn_tells values before after orders turned tells =
    let end : Tells values turned.end = subst (Tells values) (sym turned.moved.state) (moves_tell values before turned.moved.count turned.moved.free tells) in
    subst (Tells values) (sym turned.rests) (record { printed = end.printed; fetched = end.fetched })

-- ---- a report

set_told : (values : List Grid) (fs : List Fetched) (place : ℕ) (f : Fetched) (value : Grid) → AllByRecursion (IsToldOf values) fs → IsAmong value values
    → AllByRecursion (IsToldOf values) (slice_set fs place (record f { value = Some value }))
set_told values [] place f value all is = tt
set_told values (g ∷ fs) zero f value all is = (is, all.1)
set_told values (g ∷ fs) (suc place) f value all is = (all.0, set_told values fs place f value all.1 is)

at_told : (values : List Grid) (fs : List Fetched) (place : ℕ) (object : Object) (version : ℕ) (value : Grid) → AllByRecursion (IsToldOf values) fs
    → IsAmong value values → AllByRecursion (IsToldOf values) (told_at fs place object version value)
at_told values fs place object version value all is = either (slice_get fs place) where
  either : (o : Option Fetched) → AllByRecursion (IsToldOf values) (option_map_or
      (λ (f : Fetched). if is_asked object version f then slice_set fs place (record f { value = Some value }) else fs) o fs)
  either None = all
  either (Some f) =
      cond_both (is_asked object version f) (slice_set fs place (record f { value = Some value })) fs (AllByRecursion (IsToldOf values))
      (λ asked. set_told values fs place f value all is) (λ other. all)

told_tells : (values : List Grid) (c : Controller) (ticket : ℕ) (object : Object) (version : ℕ) (value : Grid) → Tells values c → IsAmong value values
    → Tells values (record c { fetched = value_reported c ticket object version value })
told_tells values c ticket object version value tells is = record {
  printed = tells.printed;
  fetched = cond_both (nat_le c.first ticket) (told_at c.fetched (ticket - c.first) object version value) c.fetched (AllByRecursion (IsToldOf values))
      (λ behind. at_told values c.fetched (ticket - c.first) object version value tells.fetched is) (λ before. tells.fetched);
}

tells_more : (values more : List Grid) (c : Controller) → Tells values c → Tells (values ++ more) c
tells_more values more c tells =
    record { printed = text_more values more c.machine.driver.output tells.printed; fetched = fetched_more values more c.fetched tells.fetched }

live_tells : (values : List Grid) (c : Controller) (from : Worker) (report : FromWorker) → Tells values c
    → Tells (values ++ value_of report) (reported c from report)
live_tells values c from (Value epoch ticket object version value) tells =
    let more : Tells (values ++ value ∷ []) c = tells_more values (value ∷ []) c tells in
    cond_both (epoch == c.epoch) (record c { fetched = value_reported c ticket object version value }) c (Tells (values ++ value ∷ []))
    (λ now. told_tells (values ++ value ∷ []) c ticket object version value more (among_last value values)) (λ other. more)
live_tells values c from (Ran epoch position reads) tells =
    let more : Tells (values ++ []) c = tells_more values [] c tells in
    cond_both (epoch == c.epoch) (record c { flight = flight_after from position c.flight }) c (Tells (values ++ []))
    (λ now. record { printed = more.printed; fetched = more.fetched }) (λ other. more)
live_tells values c from NoMemory tells =
    let more : Tells (values ++ []) c = tells_more values [] c tells in record { printed = more.printed; fetched = more.fetched }
live_tells values c from (Through epoch instance) tells =
    let more : Tells (values ++ []) c = tells_more values [] c tells in
    cond_both (epoch == c.epoch) (record c { flight = flight_through from instance c.flight }) c (Tells (values ++ []))
    (λ now. record { printed = more.printed; fetched = more.fetched }) (λ other. more)
live_tells values c from (PeerDown peer) tells = tells_more values [] c tells

report_tells : (values : List Grid) (c : Controller) (from : Worker) (report : FromWorker) → Tells values c
    → Tells (values ++ value_of report) (after_report c from report)
report_tells values c from report tells =
    let due : Controller = record c { due = true } in
    let now : Tells values due = record { printed = tells.printed; fetched = tells.fetched } in
    cond_both (is_live c.live from) (reported due from report) due (Tells (values ++ value_of report))
    (λ live. live_tells values due from report now) (λ gone. tells_more values (value_of report) due now)

-- ---- all that happens

all_tell : (values : List Grid) (happened : List Happened) (before after : Controller) → LeadsTo happened before after → Tells values before
    → Tells (values ++ values_by happened) after
all_tell values [] before after is tells =
    subst (λ (vs : List Grid). Tells vs after) (sym (append-nil values)) (subst (Tells values) (sym is) tells)
all_tell values (Turned ∷ more) before after leads tells =
    all_tell values more leads.0 after leads.1.1 (turn_tells values before leads.0 leads.1.0.0 leads.1.0.1 tells)
all_tell values (Reported from report ∷ more) before after leads tells =
    subst (λ (vs : List Grid). Tells vs after) (append_assoc values (value_of report) (values_by more))
    (all_tell (values ++ value_of report) more (after_report before from report) after leads (report_tells values before from report tells))

pub prints_what_is_told : PrintsWhatIsTold
prints_what_is_told job setup happened c leads =
    (all_tell [] happened (new_controller job setup) c leads
    (record { printed = record { parts = []; is = refl; told = tt }; fetched = tt })).printed
