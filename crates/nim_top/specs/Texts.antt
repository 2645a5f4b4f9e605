-- The files that words name: their bytes, and why they are refused.
use Rattle.std.specs.Prelude.{◌≡◌, ℕ, ◌<◌, Option, None, Some, List, [], ◌∷◌, codes, decimal, length, ◌++◌, IfSome, IsSomeAnd}
use Rattle.std.specs.Option.{option_map, option_or}
use Rattle.nim_io.specs.Files.{content}
use Rattle.nim_lex.specs.declared.fault.Refusal.{Refusal}
use Rattle.nim_schedule.specs.Schedule as schedule
use Rattle.nim_check.specs.Faults as check
use Rattle.nim_check.specs.Refusals.{job_refusal}
use Rattle.nim_check.specs.declared.fault.Input.{Input}
use Rattle.nim_check.specs.declared.fault.Input.TheVariants as input
use Rattle.clap.specs.Words.{Text}
use Rattle.nim_top.specs.Words.{data_given, driver_name, schedule_given}
use Rattle.nim_top.specs.declared.load.FileText.{FileText}
use Rattle.nim_top.specs.declared.load.FileText.TheVariants.{Whole, TooLong}
use Rattle.nim_top.specs.declared.load.Inputs.{Inputs}
use Rattle.nim_top.specs.declared.status.InputFile.{InputFile}
use Rattle.nim_top.specs.declared.status.InputFile.TheVariants.{Driver, Data, Schedule}
use Rattle.nim_top.specs.declared.verb.Verb.{Verb}

-- ---- their bytes

-- what stands in a driver, in its data and in a schedule
pub record Texts : Type 0 where
  pub driver : List ℕ
  pub data_file : List ℕ
  pub schedule : List ℕ

-- these three texts
abbrev pub texts : List ℕ → List ℕ → List ℕ → Texts
texts driver data_file schedule = record { driver = driver; data_file = data_file; schedule = schedule }

-- the bytes of a file in a list of files; one that isn't named is empty
abbrev pub bytes_in : Option Text → List (List ℕ × List ℕ) → Option (List ℕ)
bytes_in None files = Some []
bytes_in (Some name) files = content name files

-- where files are told, one has this name, if there is a name, and its bytes meet P
abbrev pub OfFile : Option (List (List ℕ × List ℕ)) → Option Text → (List ℕ → Type 0) → Type 0
OfFile told name P = IfSome told (λ files. IsSomeAnd (bytes_in name files) P)

-- where files are told, they have those that the words name, and the bytes of all three meet P
abbrev pub OfTexts : Option (List (List ℕ × List ℕ)) → Verb → List Text → (Texts → Type 0) → Type 0
OfTexts told verb words P =
    OfFile told (Some (driver_name verb words))
    (λ driver. OfFile told (data_given verb words)
    (λ data_file. OfFile told (schedule_given verb words)
    (λ schedule. P (texts driver data_file schedule))))

-- what was read of a file of this text, of which at most so many bytes are wanted
abbrev pub IsTextRead : ℕ → FileText → List ℕ → Type 0
IsTextRead most (Whole bytes) text = text ≡ bytes.items
IsTextRead most TooLong text = most < length text

-- what was read of a driver, its data and a schedule
abbrev pub AreOf : Inputs → Texts → Type 0
AreOf inputs t =
    IsTextRead 1048576 inputs.driver t.driver × IsTextRead 33554432 inputs.data_file t.data_file
    × IsTextRead 16777216 inputs.schedule t.schedule

-- ---- why they are refused

-- a refused line, and the file that it stands in
pub record FileRefusal : Type 0 where
  pub file : InputFile
  pub refusal : Refusal

-- what refuses a driver or its data
abbrev pub file_of : Input → InputFile
file_of input.Driver = Driver
file_of input.Data = Data

-- what refuses a driver or its data, as the refusal of a file
abbrev pub of_job : check.FileRefusal → FileRefusal
of_job refusal = record { file = file_of refusal.input; refusal = refusal.refusal }

-- what refuses a schedule
abbrev pub of_schedule : Refusal → FileRefusal
of_schedule refusal = record { file = Schedule; refusal = refusal }

-- why files are refused, if they are: the driver first, then its data, then the schedule
abbrev pub files_refusal : Texts → Option FileRefusal
files_refusal t =
    option_or (option_map of_job (job_refusal t.driver t.data_file))
    (option_map of_schedule (schedule.schedule_refusal t.schedule))

-- how the line that tells a refusal names a file
abbrev pub file_name : InputFile → List ℕ
file_name Driver = codes "driver"
file_name Data = codes "data"
file_name Schedule = codes "schedule"

-- the line that tells which line of which file is refused, and by which rule
abbrev pub refusal_line : FileRefusal → List ℕ
refusal_line refusal =
    codes "nimbus: "
    ++ (file_name refusal.file
    ++ (codes " line "
    ++ (decimal refusal.refusal.line ++ (codes " rule " ++ (decimal refusal.refusal.rule ++ 10 ∷ [])))))
