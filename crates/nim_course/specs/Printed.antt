-- What a controller prints: texts of values that were reported to it, whatever else was.
use Rattle.std.specs.Prelude.{◌≡◌, ℕ, List, [], ◌∷◌, ◌⊎◌}
use Rattle.std.specs.List.{AllByRecursion, flat_map}
use Rattle.nim_base.specs.declared.number.Worker.{Worker}
use Rattle.nim_base.specs.Text.{text_of}
use Rattle.nim_base.specs.Value.{Grid}
use Rattle.nim_message.specs.declared.report.FromWorker.{FromWorker}
use Rattle.nim_message.specs.declared.report.FromWorker.TheVariants.{Value}
use Rattle.nim_job.specs.declared.job.Job.{Job}
use Rattle.nim_course.specs.declared.setup.Setup.{Setup}
use Rattle.nim_course.specs.Controller.{Controller, new_controller}
use Rattle.nim_place.specs.Directed.{Directed}
use Rattle.nim_course.specs.Moves.{IsTurned}
use Rattle.nim_course.specs.Reports.{after_report}

-- One thing that happened at a controller: it took a turn, or was handed a report of a worker, true or not.
pub data Happened : Type 0 where
  Turned : Happened
  Reported : (from : Worker) (report : FromWorker) → Happened

-- all this leads from one controller to another
abbrev pub LeadsTo : List Happened → Controller → Controller → Type 0
LeadsTo [] before after = after ≡ before
LeadsTo (Turned ∷ more) before after =
    (next : Controller) × (((orders : List Directed) × IsTurned before orders next) × LeadsTo more next after)
LeadsTo (Reported from report ∷ more) before after = LeadsTo more (after_report before from report) after

-- the value in a report
abbrev pub value_of : FromWorker → List Grid
value_of (Value epoch ticket object version value) = value ∷ []
value_of report = []

-- the value that was reported, where that is what happened
abbrev pub value_by : Happened → List Grid
value_by (Reported from report) = value_of report
value_by Turned = []

-- the values that were reported, in order
abbrev pub values_by : List Happened → List Grid
values_by happened = flat_map value_by happened

-- a value is one of these
abbrev pub IsAmong : Grid → List Grid → Type 0
IsAmong value [] = ⊥
IsAmong value (one ∷ values) = (value ≡ one) ⊎ IsAmong value values

-- a part of a variable that is printed: the variable's name, the part's number, and its value
pub record PrintedPart : Type 0 where
  pub name : List ℕ
  pub number : ℕ
  pub value : Grid

-- its text
abbrev pub part_text : PrintedPart → List ℕ
part_text part = text_of part.name part.number part.value

-- A text is that of parts, one after another, whose values are all among these.
pub record IsOfValues (values : List Grid) (text : List ℕ) : Type 0 where
  pub parts : List PrintedPart
  pub is : text ≡ flat_map part_text parts
  pub told : AllByRecursion (λ (part : PrintedPart). IsAmong part.value values) parts

-- Whatever happens at a controller, it prints nothing but texts of values that were reported to it.
abbrev pub PrintsWhatIsTold : Type 0
PrintsWhatIsTold =
    (job : Job) (setup : Setup) (happened : List Happened) (c : Controller)
    → LeadsTo happened (new_controller job setup) c
    → IsOfValues (values_by happened) c.machine.driver.output
