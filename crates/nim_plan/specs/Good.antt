-- Which reports and frames are true of a job.
use Rattle.std.specs.Prelude.{◌≡◌, true, IsSomeAnd, slice_get}
use Rattle.nim_message.specs.declared.frame.Data.{Data}
use Rattle.nim_message.specs.declared.report.FromWorker.{FromWorker}
use Rattle.nim_message.specs.declared.report.FromWorker.TheVariants.{Value, Ran, Through, NoMemory, PeerDown}
use Rattle.nim_job.specs.declared.job.Job.{Job}
use Rattle.nim_job.specs.Serial.{tasks_of}
use Rattle.nim_job.specs.Versions.{version_value}
use Rattle.nim_plan.specs.Legal.{is_version, reads_at}

-- A value is that of its object and version, which the job has. What ran is the task at its position, and what it
-- read is what the task reads.
abbrev pub IsGood : Job → FromWorker → Type 0
IsGood job (Value epoch ticket object version value) =
    (is_version job object version ≡ true) × (value ≡ version_value job object version)
IsGood job (Ran epoch position reads) =
    IsSomeAnd (slice_get (tasks_of job) position) (λ task. reads ≡ reads_at job position task)
IsGood job (Through epoch instance) = Unit {0}
IsGood job NoMemory = Unit {0}
IsGood job (PeerDown peer) = Unit {0}

-- What a frame carries is the value of its object and version, which the job has.
abbrev pub IsGoodFrame : Job → Data → Type 0
IsGoodFrame job frame =
    (is_version job frame.object frame.version ≡ true) × (frame.value ≡ version_value job frame.object frame.version)
