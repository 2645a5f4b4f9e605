-- What a command keeps, from what its parts leave.
use Rattle.std.proofs.Common.{◌≡◌, ℕ, Bool, true, false, Option, None, Some, List, refl, subst}
use Rattle.nim_schedule.specs.Schedule.{schedule_of}
use Rattle.nim_schedule.specs.declared.event.Line.{Line}
use Rattle.nim_check.specs.Refusals.{job_from}
use Rattle.nim_job.specs.declared.job.Job.{Job}
use Rattle.nim_course.specs.declared.setup.Setup.{Setup}
use Rattle.nim_lockstep.specs.Schedules.{IsRunBy}
use Rattle.nim_cluster.specs.declared.cluster.Cluster.{Cluster}
use Rattle.clap.specs.Words.{Text}
use Rattle.nim_top.specs.Answer.{IsReplayOf, KeepsCluster, KeepsIf, has_run, status_of}
use Rattle.nim_top.specs.Parts.{TellsInputFault, IsPlanOf, IsJobReplay, IsUnloaded, Leaves, LeavesIf}
use Rattle.nim_top.specs.Texts.{OfTexts, Texts}
use Rattle.nim_top.specs.Words.{setup_of}
use Rattle.nim_top.specs.declared.fault.InputFault.{InputFault}
use Rattle.nim_top.specs.declared.fault.InputFault.TheVariants.{At, NoMemory}
use Rattle.nim_top.specs.declared.read.Plan.{Plan}
use Rattle.nim_top.specs.declared.status.Outcome.{Outcome}
use Rattle.nim_top.specs.declared.status.Outcome.TheVariants.{Words, Refused, Memory, Read}
use Rattle.nim_top.specs.declared.verb.Verb.{Verb}
use Rattle.nim_top.specs.declared.verb.Verb.TheVariants.{Replay}
use Rattle.nim_top.proofs.NamedFiles.{Told, texts_more}

-- no files were loaded
pub keeps_unloaded : (told : Told) (verb : Verb) (words : List Text) (old new : ℕ) (outcome : Outcome) (kept : Option Cluster)
    → IsUnloaded verb words old new outcome → KeepsCluster told words (status_of outcome) kept kept
keeps_unloaded told verb words old new Words kept is = refl
keeps_unloaded told verb words old new Memory kept is = refl
keeps_unloaded told verb words old new Read kept is = refl
keeps_unloaded told verb words old new outcome kept is = absurd is

-- files are refused
pub keeps_refused : (told : Told) (words : List Text) (fault : InputFault) (outcome : Outcome) (kept : Option Cluster)
    → TellsInputFault fault outcome → KeepsCluster told words (status_of outcome) kept kept
keeps_refused told words (At file refusal) (Refused text) kept is = refl
keeps_refused told words (At file refusal) Memory kept is = refl
keeps_refused told words (At file refusal) outcome kept is = absurd is
keeps_refused told words NoMemory Memory kept is = refl
keeps_refused told words NoMemory outcome kept is = absurd is

-- a run of a plan is one of the files that it is of
pub run_of_plan : (t : Texts) (plan : Plan) (setup setup2 : Setup) (status : ℕ) (cluster : Cluster) → IsPlanOf t plan → setup ≡ setup2
    → IsJobReplay plan.job plan.schedule.items setup status cluster → IsReplayOf t setup2 status cluster
run_of_plan t plan setup setup2 status cluster of same run = record {
  state = run.state;
  run = subst (λ (s : Setup). IsRunBy (job_from t.driver t.data_file) s (schedule_of t.schedule) run.state) same
      (subst (λ (lines : List Line). IsRunBy (job_from t.driver t.data_file) setup lines run.state) of.schedule
      (subst (λ (job : Job). IsRunBy job setup plan.schedule.items run.state) of.job run.run));
  stands = run.stands;
  in_step = run.in_step;
  ended = run.ended;
}

-- a plan was followed, or memory was refused
pub keeps_left : (told : Told) (words : List Text) (plan : Plan) (setup : Setup) (status : ℕ) (old new : Option Cluster)
    → OfTexts told Replay words (λ t. IsPlanOf t plan) → setup ≡ setup_of Replay words → Leaves plan setup status old new
    → KeepsCluster told words status old new
keeps_left told words plan setup status old new of same leaves = by_flag (has_run status) new leaves where
  by_flag : (flag : Bool) (new : Option Cluster) → LeavesIf flag plan setup status old new → KeepsIf flag told words status old new
  by_flag true (Some cluster) run =
      texts_more told Replay words (λ t. IsPlanOf t plan) (λ t. IsReplayOf t (setup_of Replay words) status cluster)
      (λ t is. run_of_plan t plan setup (setup_of Replay words) status cluster is same run) of
  by_flag true None run = absurd run
  by_flag false new same = same
