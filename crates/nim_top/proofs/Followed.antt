-- What a run of a job comes to.
use Rattle.std.proofs.Common.{◌≡◌, ℕ, Option, Some, List, [], refl, sym, ap, subst}
use Rattle.std.specs.Prelude.{IfSome}
use Rattle.std.specs.Io.KnownBytes.{Appends}
use Rattle.std.proofs.KnownBytes.{Appends-nil}
use Rattle.nim_io.specs.Sink.{AppendsFront}
use Rattle.nim_job.specs.declared.job.Job.{Job}
use Rattle.nim_job.specs.Serial.{Ending, serial_of}
use Rattle.nim_course.specs.declared.outcome.Outcome as course
use Rattle.nim_course.specs.declared.outcome.Outcome.TheVariants as came
use Rattle.nim_course.specs.Leads.{EndsBy}
use Rattle.nim_lockstep.specs.Cluster.{ClusterState}
use Rattle.nim_lockstep.specs.InStep.{IsInStep}
use Rattle.nim_top.specs.Parts.{Finishes, MayPrint}
use Rattle.nim_top.specs.declared.status.Outcome.{Outcome}
use Rattle.nim_top.specs.declared.status.Outcome.TheVariants.{Done, Limit, Memory, Stalled, Write}

abbrev Bytes : Type 0
Bytes = Option (List ℕ)

-- what is printed of a job that is done
printed : (job : Job) (s : ClusterState) → s.job ≡ job → IsInStep s → s.control.outcome ≡ Some came.Done
    → serial_of job ≡ record { status = 0; bytes = s.control.machine.driver.output }
printed job s is step done =
    subst (λ (j : Job). serial_of j ≡ record { status = 0; bytes = s.control.machine.driver.output }) is
    (subst (λ (o : Option course.Outcome). IfSome o (EndsBy s.job s.control)) done step.ends)

-- the ending of a job that passes its limits
passed : (job : Job) (s : ClusterState) → s.job ≡ job → IsInStep s → s.control.outcome ≡ Some came.Limit
    → serial_of job ≡ record { status = 4; bytes = [] }
passed job s is step limit =
    subst (λ (j : Job). serial_of j ≡ record { status = 4; bytes = [] }) is
    (subst (λ (o : Option course.Outcome). IfSome o (EndsBy s.job s.control)) limit step.ends)

-- the bytes of an ending were written, or memory was refused before
finishes_printed : (ending : Ending) (output : List ℕ) (old new : Bytes) (old_faults new_faults : ℕ) (outcome : Outcome)
    → ending ≡ record { status = 0; bytes = output } → MayPrint output old new old_faults new_faults outcome
    → Finishes ending old new old_faults new_faults outcome
finishes_printed ending output old new old_faults new_faults Done is prints =
    (ap (λ (e : Ending). e.status) is, subst (λ (bytes : List ℕ). Appends old new bytes) (sym (ap (λ (e : Ending). e.bytes) is)) prints.0, prints.1)
finishes_printed ending output old new old_faults new_faults Write is prints =
    (ap (λ (e : Ending). e.status) is, subst (λ (bytes : List ℕ). AppendsFront old new bytes) (sym (ap (λ (e : Ending). e.bytes) is)) prints.0, prints.1)
finishes_printed ending output old new old_faults new_faults Memory is prints = prints
finishes_printed ending output old new old_faults new_faults outcome is prints = absurd prints

-- a job is done, and what its cluster printed was written
pub finishes_done : (job : Job) (s : ClusterState) (old new : Bytes) (old_faults new_faults : ℕ) (outcome : Outcome)
    → s.job ≡ job → IsInStep s → s.control.outcome ≡ Some came.Done
    → MayPrint s.control.machine.driver.output old new old_faults new_faults outcome → Finishes (serial_of job) old new old_faults new_faults outcome
finishes_done job s old new old_faults new_faults outcome is step done =
    finishes_printed (serial_of job) s.control.machine.driver.output old new old_faults new_faults outcome (printed job s is step done)

-- a job passes its limits
pub finishes_limit : (job : Job) (s : ClusterState) (old : Bytes) (faults : ℕ) → s.job ≡ job → IsInStep s → s.control.outcome ≡ Some came.Limit
    → Finishes (serial_of job) old old faults faults Limit
finishes_limit job s old faults is step limit = (ap (λ (e : Ending). e.status) (passed job s is step limit), Appends-nil old, refl)

-- a run is stalled
pub finishes_stalled : (job : Job) (old : Bytes) (faults : ℕ) → Finishes (serial_of job) old old faults faults Stalled
finishes_stalled job old faults = (Appends-nil old, refl)
