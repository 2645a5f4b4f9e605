-- When what a work reads is what its task reads.
use Rattle.std.specs.Prelude.{◌≡◌, ℕ, Some, IsSomeAnd, slice_get}
use Rattle.nim_base.specs.Functions.{read_values}
use Rattle.nim_job.specs.declared.job.Job.{Job}
use Rattle.nim_job.specs.Serial.{tasks_of}
use Rattle.nim_plan.specs.Legal.{reads_at}
use Rattle.nim_history.specs.Truth.{values_read}
use Rattle.nim_worker.specs.declared.batch.Work.{Work}

-- A Run reads the versions that program order names, and their values.
abbrev pub ReadsRight : Job → Work → Type 0
ReadsRight job work = (position : ℕ) → work.position ≡ Some position
    → IsSomeAnd (slice_get (tasks_of job) position)
    (λ task. (work.inputs.value.contents.items ≡ reads_at job position task)
    × (read_values work.inputs.value.values.items work.inputs.value.places.items ≡ values_read job position task))
