-- What a command answers: how it may end, what is told of that, and the cluster that it leaves behind.
use Rattle.std.specs.Prelude.{◌≡◌, ℕ, ◌⊎◌, Bool, true, false, ◌||◌, Option, None, Some, List, [], ◌∷◌, ◌==◌, codes, if◌then◌else◌, ◌++◌, string_bytes, IsSomeAnd}
use Rattle.std.specs.Io.KnownBytes.{Appends}
use Rattle.nim_io.specs.Counts.{Rose}
use Rattle.nim_io.specs.Sink.{AppendsFront}
use Rattle.nim_schedule.specs.Schedule.{schedule_of}
use Rattle.nim_check.specs.Refusals.{job_from}
use Rattle.nim_job.specs.Serial.{Ending, serial_of}
use Rattle.nim_course.specs.declared.outcome.Outcome as course
use Rattle.nim_course.specs.declared.outcome.Outcome.TheVariants as came
use Rattle.nim_course.specs.declared.setup.Setup.{Setup}
use Rattle.nim_course.specs.SummaryText.{text_of_summary}
use Rattle.nim_lockstep.specs.Cluster.{ClusterState}
use Rattle.nim_lockstep.specs.InStep.{IsInStep}
use Rattle.nim_lockstep.specs.Schedules.{IsRunBy}
use Rattle.nim_cluster.specs.declared.cluster.Cluster.{Cluster}
use Rattle.nim_cluster.specs.Stands.{ClusterStands}
use Rattle.clap.specs.Words.{Text}
use Rattle.nim_top.specs.Texts.{FileRefusal, OfTexts, Texts, refusal_line, files_refusal}
use Rattle.nim_top.specs.Words.{is_accepted, setup_of, sums_up}
use Rattle.nim_top.specs.declared.status.Outcome.{Outcome}
use Rattle.nim_top.specs.declared.status.Outcome.TheVariants as outcome
use Rattle.nim_top.specs.declared.verb.Verb.{Verb}
use Rattle.nim_top.specs.declared.verb.Verb.TheVariants.{Check, Replay}

-- ---- what a command makes of files

-- a line of text
abbrev pub with_newline : List ℕ → List ℕ
with_newline text = text ++ 10 ∷ []

-- The status and the bytes that a command gives for files that aren't refused: `check` says that it accepts them, and
-- `replay` does the job of the driver and its data, as if its tasks ran one by one.
abbrev pub command_ending : Verb → Texts → Ending
command_ending Check t = record { status = 0; bytes = with_newline (codes "accepted") }
command_ending Replay t = serial_of (job_from t.driver t.data_file)

-- nothing is refused, and this is the status
abbrev pub Comes : Verb → ℕ → Texts → Type 0
Comes verb status t = (files_refusal t ≡ None) × ((command_ending verb t).status ≡ status)

-- ---- how a command ends

-- what is seen of the outside: which files it tells and what stands in the output, with the counts of faults of both
pub record Outside : Type 0 where
  pub told : Option (List (List ℕ × List ℕ))
  pub read_faults : ℕ
  pub written : Option (List ℕ)
  pub write_faults : ℕ

-- the outside with these four
abbrev pub outside_with : Option (List (List ℕ × List ℕ)) → ℕ → Option (List ℕ) → ℕ → Outside
outside_with told read_faults written write_faults =
    record { told = told; read_faults = read_faults; written = written; write_faults = write_faults }

-- no count rose
abbrev pub IsFaultless : Outside → Outside → Type 0
IsFaultless old new = (new.read_faults ≡ old.read_faults) × (new.write_faults ≡ old.write_faults)

-- nothing is written
abbrev pub IsSilent : Outside → Outside → Type 0
IsSilent old new = Appends old.written new.written []

-- the line tells the refusal of the files
abbrev pub TellsRefusal : Outside → Verb → List Text → List ℕ → Type 0
TellsRefusal old verb words line =
    (refusal : FileRefusal) × (line ≡ refusal_line refusal)
    × OfTexts old.told verb words (λ t. files_refusal t ≡ Some refusal)

-- a run may come to a point where nothing may happen next; nothing else may
abbrev pub does_run : Verb → Bool
does_run Check = false
does_run Replay = true

-- all that holds where a command ends in this way
abbrev pub Ends : Verb → List Text → Outside → Outside → Outcome → Type 0
-- the words are none of the command
Ends verb words old new outcome.Words = (is_accepted verb words ≡ false) × IsFaultless old new × IsSilent old new
-- want of memory hides no fault
Ends verb words old new outcome.Memory = IsFaultless old new × IsSilent old new
-- a file couldn't be read
Ends verb words old new outcome.Read =
    (is_accepted verb words ≡ true) × Rose old.read_faults new.read_faults × (new.write_faults ≡ old.write_faults)
    × IsSilent old new
-- a file is refused
Ends verb words old new (outcome.Refused line) =
    (is_accepted verb words ≡ true) × TellsRefusal old verb words (string_bytes line) × IsFaultless old new
    × IsSilent old new
-- the job passes its limits
Ends verb words old new outcome.Limit =
    (is_accepted verb words ≡ true) × OfTexts old.told verb words (Comes verb 4) × IsFaultless old new
    × IsSilent old new
-- no event is enabled, and the job hasn't ended
Ends verb words old new outcome.Stalled =
    (is_accepted verb words ≡ true) × (does_run verb ≡ true) × OfTexts old.told verb words (λ t. files_refusal t ≡ None)
    × IsFaultless old new × IsSilent old new
-- all is done, and all its bytes are written
Ends verb words old new outcome.Done =
    (is_accepted verb words ≡ true)
    × OfTexts old.told verb words (λ t. Comes verb 0 t × Appends old.written new.written (command_ending verb t).bytes)
    × IsFaultless old new
-- the output couldn't be written, and the front of its bytes is
Ends verb words old new outcome.Write =
    (is_accepted verb words ≡ true)
    × OfTexts old.told verb words
    (λ t. Comes verb 0 t × AppendsFront old.written new.written (command_ending verb t).bytes)
    × (new.read_faults ≡ old.read_faults) × Rose old.write_faults new.write_faults

-- ---- what is told of that

-- the status that the program ends with
abbrev pub status_of : Outcome → ℕ
status_of outcome.Done = 0
status_of outcome.Words = 1
status_of (outcome.Refused line) = 2
status_of outcome.Memory = 3
status_of outcome.Limit = 4
status_of outcome.Read = 6
status_of outcome.Write = 7
status_of outcome.Stalled = 9

-- the line of a status on standard error; 0 has none, and that of 2 tells the refusal
abbrev pub status_text : ℕ → List ℕ
status_text status =
    if status == 1 then with_newline (codes "nimbus: words refused")
    else (if status == 3 then with_newline (codes "nimbus: memory")
    else (if status == 4 then with_newline (codes "nimbus: limit")
    else (if status == 6 then with_newline (codes "nimbus: read fault")
    else (if status == 7 then with_newline (codes "nimbus: write fault")
    else (if status == 9 then with_newline (codes "nimbus: stalled")
    else [])))))

-- what is told on standard error
abbrev pub error_text : Outcome → List ℕ
error_text (outcome.Refused line) = string_bytes line
error_text outcome.Done = []
error_text outcome.Words = status_text 1
error_text outcome.Memory = status_text 3
error_text outcome.Limit = status_text 4
error_text outcome.Read = status_text 6
error_text outcome.Write = status_text 7
error_text outcome.Stalled = status_text 9

-- whether the summary is told of that, where it is asked for: all is done
abbrev pub is_summary_told : Bool → Outcome → Bool
is_summary_told asked outcome.Done = asked
is_summary_told asked _ = false

-- whether the summary is told, by the words
abbrev pub is_summed : Verb → List Text → Outcome → Bool
is_summed verb words way = is_summary_told (sums_up verb words) way

-- this text was told, or the front of it where a fault came
abbrev pub WritesText : Option (List ℕ) → Option (List ℕ) → ℕ → ℕ → List ℕ → Type 0
WritesText old new old_faults new_faults text =
    Appends old new text ⊎ (Rose old_faults new_faults × AppendsFront old new text)

-- A top call: it ended in one of the ways, with that status, and told it, but where it tells the summary.
abbrev pub EndsAndTells : Verb → List Text → Outside → Outside → (List ℕ → Type 0) → ℕ → Type 0
EndsAndTells verb words old new IsTold status =
    (way : Outcome) × (status ≡ status_of way) × Ends verb words old new way
    × (is_summed verb words way ≡ false → IsTold (error_text way))

-- ---- what a run leaves behind

-- whether a command that ended with this status has run a job
abbrev pub has_run : ℕ → Bool
has_run status = (status == 0) || ((status == 4) || ((status == 7) || (status == 9)))

-- how the job ended then: it is done, it passes its limits, or it hasn't ended
abbrev pub came_to : ℕ → Option course.Outcome
came_to status =
    if (status == 0) || (status == 7) then Some came.Done else (if status == 4 then Some came.Limit else None)

-- A cluster of the job of these files, in which events were given that follow the schedule: it stayed in step with
-- program order, and came to the end of this status.
pub record IsReplayOf (t : Texts) (setup : Setup) (status : ℕ) (cluster : Cluster) : Type 0 where
  pub state : ClusterState
  pub run : IsRunBy (job_from t.driver t.data_file) setup (schedule_of t.schedule) state
  pub stands : ClusterStands cluster state
  pub in_step : IsInStep state
  pub ended : state.control.outcome ≡ came_to status

-- what is kept where a job was run, and where none was
abbrev pub KeepsIf : Bool → Option (List (List ℕ × List ℕ)) → List Text → ℕ → Option Cluster → Option Cluster → Type 0
KeepsIf true told words status old new =
    OfTexts told Replay words (λ t. IsSomeAnd new (IsReplayOf t (setup_of Replay words) status))
KeepsIf false told words status old new = new ≡ old

-- `replay` keeps its cluster, and where no job was run what was kept before.
abbrev pub KeepsCluster : Option (List (List ℕ × List ℕ)) → List Text → ℕ → Option Cluster → Option Cluster → Type 0
KeepsCluster told words status old new = KeepsIf (has_run status) told words status old new

-- Where all is done and the words ask for it, the summary of the cluster that is kept is told.
abbrev pub TellsSummary : List Text → (List ℕ → Type 0) → ℕ → Option Cluster → Type 0
TellsSummary words IsTold status kept =
    status ≡ 0 → sums_up Replay words ≡ true
    → IsSomeAnd kept (λ (cluster : Cluster). (s : ClusterState)
    × (ClusterStands cluster s × IsTold (text_of_summary s.control.summary)))
