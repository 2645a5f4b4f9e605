-- What the parts of a command answer.
use Rattle.std.specs.Prelude.{◌≡◌, ℕ, nat_lt, Bool, true, false, if◌then◌else◌, Option, None, Some, List, [], take, drop, codes, string_bytes, IsSomeAnd, Result, Ok, Err, Vec}
use Rattle.std.specs.Io.KnownBytes.{Appends}
use Rattle.std.specs.Option.{option_and_then}
use Rattle.std.specs.Str.{bytes_eq}
use Rattle.std.specs.declared.alloc.Global.{Global}
use Rattle.nim_io.specs.Counts.{Rose}
use Rattle.nim_io.specs.Sink.{AppendsFront}
use Rattle.nim_schedule.specs.Schedule as schedule
use Rattle.nim_schedule.specs.declared.event.Line.{Line}
use Rattle.nim_schedule.specs.declared.fault.ScheduleFault.{ScheduleFault}
use Rattle.nim_schedule.specs.declared.fault.ScheduleFault.TheVariants as schedule_fault
use Rattle.nim_check.specs.Faults.{TellsFile}
use Rattle.nim_check.specs.Refusals.{job_from, job_refusal}
use Rattle.nim_check.specs.declared.fault.ReadFault.{ReadFault}
use Rattle.nim_check.specs.declared.fault.ReadFault.TheVariants as read_fault
use Rattle.nim_job.specs.declared.job.Job.{Job}
use Rattle.nim_job.specs.Serial.{Ending}
use Rattle.nim_place.specs.declared.placement.Placement.{Placement}
use Rattle.nim_course.specs.declared.setup.Setup.{Setup}
use Rattle.nim_course.specs.SummaryText.{text_of_summary}
use Rattle.nim_lockstep.specs.Cluster.{ClusterState}
use Rattle.nim_lockstep.specs.InStep.{IsInStep}
use Rattle.nim_lockstep.specs.Schedules.{IsRunBy}
use Rattle.nim_cluster.specs.declared.cluster.Cluster.{Cluster}
use Rattle.nim_cluster.specs.Stands.{ClusterStands}
use Rattle.clap.specs.Words.{Text}
use Rattle.nim_top.specs.Answer.{came_to, has_run, is_summary_told, error_text}
use Rattle.nim_top.specs.Texts.{Texts, file_of, refusal_line, files_refusal}
use Rattle.nim_top.specs.Words.{is_accepted, mixed_by, number_word}
use Rattle.nim_top.specs.declared.fault.InputFault.{InputFault}
use Rattle.nim_top.specs.declared.fault.InputFault.TheVariants as fault
use Rattle.nim_top.specs.declared.read.Plan.{Plan}
use Rattle.nim_top.specs.declared.replayed.Replayed.{Replayed}
use Rattle.nim_top.specs.declared.status.InputFile.TheVariants.{Schedule}
use Rattle.nim_top.specs.declared.status.Outcome.{Outcome}
use Rattle.nim_top.specs.declared.status.Outcome.TheVariants as outcome
use Rattle.nim_top.specs.declared.verb.Verb.{Verb}

-- ---- words and files

-- a number that is below 2^64
abbrev pub below_2_64 : ℕ → Option ℕ
below_2_64 number = if nat_lt number 18446744073709551616 then Some number else None

-- `mixed-` and a number
abbrev pub mixed_word : Text → Option Placement
mixed_word word =
    if bytes_eq (take 6 word) (codes "mixed-") then option_and_then mixed_by (number_word (drop 6 word)) else None

-- why no files were loaded
abbrev pub IsUnloaded : Verb → List Text → ℕ → ℕ → Outcome → Type 0
IsUnloaded verb words old new outcome.Words = (is_accepted verb words ≡ false) × (new ≡ old)
IsUnloaded verb words old new outcome.Memory = new ≡ old
IsUnloaded verb words old new outcome.Read = (is_accepted verb words ≡ true) × Rose old new
IsUnloaded verb words old new _ = ⊥

-- why a file wasn't read
abbrev pub IsUnread : ℕ → ℕ → Outcome → Type 0
IsUnread old new outcome.Memory = new ≡ old
IsUnread old new outcome.Read = Rose old new
IsUnread old new _ = ⊥

-- ---- what is read

-- the fault of a driver or its data
abbrev pub of_read : ReadFault → InputFault
of_read (read_fault.At input refusal) = fault.At (file_of input) refusal
of_read read_fault.NoMemory = fault.NoMemory

-- the fault of a schedule
abbrev pub of_schedule : ScheduleFault → InputFault
of_schedule (schedule_fault.Refused refusal) = fault.At Schedule refusal
of_schedule schedule_fault.NoMemory = fault.NoMemory

-- what reading gave is the job of a driver and its data, or why they are refused
abbrev pub ReadsJob : List ℕ → List ℕ → Result Job ReadFault → Type 0
ReadsJob driver file (Ok job) = (job_refusal driver file ≡ None) × (job ≡ job_from driver file)
ReadsJob driver file (Err fault) = TellsFile (job_refusal driver file) fault

-- the same of the lines of a schedule
abbrev pub ReadsSchedule : List ℕ → Result (Vec Line Global) ScheduleFault → Type 0
ReadsSchedule bytes (Ok lines) = (schedule.schedule_refusal bytes ≡ None) × (lines.items ≡ schedule.schedule_of bytes)
ReadsSchedule bytes (Err (schedule_fault.Refused refusal)) = schedule.schedule_refusal bytes ≡ Some refusal
ReadsSchedule bytes (Err schedule_fault.NoMemory) = Unit {0}

-- a plan is that of these files
pub record IsPlanOf (t : Texts) (plan : Plan) : Type 0 where
  pub job : plan.job ≡ job_from t.driver t.data_file
  pub schedule : plan.schedule.items ≡ schedule.schedule_of t.schedule

-- what reading gave is the plan of these files, or why they are refused
abbrev pub ReadsPlan : Texts → Result Plan InputFault → Type 0
ReadsPlan t (Ok plan) = (files_refusal t ≡ None) × IsPlanOf t plan
ReadsPlan t (Err (fault.At file refusal)) = files_refusal t ≡ Some (record { file = file; refusal = refusal })
ReadsPlan t (Err fault.NoMemory) = Unit {0}

-- the outcome tells why files are refused, unless memory was refused
abbrev pub TellsInputFault : InputFault → Outcome → Type 0
TellsInputFault (fault.At file refusal) (outcome.Refused text) =
    string_bytes text ≡ refusal_line (record { file = file; refusal = refusal })
TellsInputFault _ outcome.Memory = Unit {0}
TellsInputFault _ _ = ⊥

-- ---- what is written and kept

-- bytes were written, or the front of them where a fault came
abbrev pub PrintsBytes : List ℕ → Option (List ℕ) → Option (List ℕ) → ℕ → ℕ → Outcome → Type 0
PrintsBytes bytes old new old_faults new_faults outcome.Done = Appends old new bytes × (new_faults ≡ old_faults)
PrintsBytes bytes old new old_faults new_faults outcome.Write = AppendsFront old new bytes × Rose old_faults new_faults
PrintsBytes bytes old new old_faults new_faults _ = ⊥

-- the same, or memory was refused before
abbrev pub MayPrint : List ℕ → Option (List ℕ) → Option (List ℕ) → ℕ → ℕ → Outcome → Type 0
MayPrint bytes old new old_faults new_faults outcome.Memory = Appends old new [] × (new_faults ≡ old_faults)
MayPrint bytes old new old_faults new_faults outcome = PrintsBytes bytes old new old_faults new_faults outcome

-- a job was run that ends so: its bytes were written, or the front of them where a fault came; or it passes its limits;
-- or nothing is told of it
abbrev pub Finishes : Ending → Option (List ℕ) → Option (List ℕ) → ℕ → ℕ → Outcome → Type 0
Finishes ending old new old_faults new_faults outcome.Done =
    (ending.status ≡ 0) × Appends old new ending.bytes × (new_faults ≡ old_faults)
Finishes ending old new old_faults new_faults outcome.Write =
    (ending.status ≡ 0) × AppendsFront old new ending.bytes × Rose old_faults new_faults
Finishes ending old new old_faults new_faults outcome.Limit =
    (ending.status ≡ 4) × Appends old new [] × (new_faults ≡ old_faults)
Finishes ending old new old_faults new_faults outcome.Stalled = Appends old new [] × (new_faults ≡ old_faults)
Finishes ending old new old_faults new_faults outcome.Memory = Appends old new [] × (new_faults ≡ old_faults)
Finishes ending old new old_faults new_faults _ = ⊥

-- a cluster of a job, in which events were given that follow these lines: it came to the end of this status
pub record IsJobReplay (job : Job) (lines : List Line) (setup : Setup) (status : ℕ) (cluster : Cluster) : Type 0 where
  pub state : ClusterState
  pub run : IsRunBy job setup lines state
  pub stands : ClusterStands cluster state
  pub in_step : IsInStep state
  pub ended : state.control.outcome ≡ came_to status

-- what is kept where a plan was followed, and where it wasn't
abbrev pub LeavesIf : Bool → Plan → Setup → ℕ → Option Cluster → Option Cluster → Type 0
LeavesIf true plan setup status old new = IsSomeAnd new (IsJobReplay plan.job plan.schedule.items setup status)
LeavesIf false plan setup status old new = new ≡ old

-- what is kept, by the status: a plan was followed where the job has run
abbrev pub Leaves : Plan → Setup → ℕ → Option Cluster → Option Cluster → Type 0
Leaves plan setup status old new = LeavesIf (has_run status) plan setup status old new

-- ---- what is told of a run

-- the summary, where there is one, or how it ended
abbrev pub told_by : Option (Vec ℕ Global) → Outcome → List ℕ
told_by (Some text) outcome = text.items
told_by None outcome = error_text outcome

-- what is told of a replay
abbrev pub told_of : Replayed → List ℕ
told_of replayed = told_by replayed.summary replayed.outcome

-- the text is the summary of what a cluster has come to, where it is told; else there is none
abbrev pub SumsUpState : Bool → Option (Vec ℕ Global) → ClusterState → Type 0
SumsUpState true text s = IsSomeAnd text (λ (t : Vec ℕ Global). t.items ≡ text_of_summary s.control.summary)
SumsUpState false text s = text ≡ None

-- the same of the cluster that is kept
abbrev pub SumsUpIf : Bool → Option (Vec ℕ Global) → Option Cluster → Type 0
SumsUpIf true text kept =
    IsSomeAnd kept (λ (cluster : Cluster). (s : ClusterState) × (ClusterStands cluster s × SumsUpState true text s))
SumsUpIf false text kept = text ≡ None

-- a replay has a summary where it is asked for and all is done
abbrev pub SumsUp : Bool → Replayed → Option Cluster → Type 0
SumsUp asked replayed kept = SumsUpIf (is_summary_told asked replayed.outcome) replayed.summary kept
