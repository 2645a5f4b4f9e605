-- What is true of every controller that there is.
use Rattle.std.specs.Prelude.{◌≡◌, ℕ, ◌≤◌, Bool, true, List, length, map, Option, None}
use Rattle.nim_base.specs.declared.task.TaskForm.{TaskForm}
use Rattle.nim_job.specs.declared.ask.Asked.{Asked}
use Rattle.nim_job.specs.declared.block.Block.{Block}
use Rattle.nim_job.specs.declared.job.Job.{Job}
use Rattle.nim_job.specs.Follows.{IsOf}
use Rattle.nim_job.specs.Machine.{takes_cell, takes_text}
use Rattle.nim_job.specs.Objects.{objects_of}
use Rattle.nim_job.specs.Tasks.{forms_of}
use Rattle.nim_job.specs.Whole.{is_whole}
use Rattle.nim_reuse.specs.Decisions.{Decisions, decided_of}
use Rattle.nim_reuse.specs.Reuse.{CanReuse}
use Rattle.nim_course.specs.declared.pending.Pending.{Pending}
use Rattle.nim_course.specs.declared.pending.Pending.TheVariants.{Begin, Idle, Block as block_waits, Cell, Parts, Ended}
use Rattle.nim_course.specs.Controller.{Controller}
use Rattle.nim_control.specs.Sites.{AreSites}

-- what the driver's machine has asked fits what is pending
abbrev pub Fits : Pending → Option Asked → Type 0
Fits Begin asked = asked ≡ None
Fits Idle asked = asked ≡ None
Fits (block_waits block args) asked = takes_cell asked ≡ true
Fits (Cell row cell) asked = takes_cell asked ≡ true
Fits (Parts var) asked = takes_text asked ≡ true
Fits Ended asked = asked ≡ None

-- whatever was decided of a block, its next instance may be asked for as a whole where it was recorded
abbrev pub AreUsable : ℕ → List Bool → Decisions → Type 0
AreUsable objects live decisions = (block : ℕ) → CanReuse objects live block (decided_of decisions block)

-- The job is whole, the machine is of the job and has asked what is pending, there are 1 to 16 workers, one of them
-- live, the map of versions has them and the job's objects, no more is fetched at once than a variable has parts, and
-- what was decided of blocks may be used.
pub record IsInForm (c : Controller) : Type 0 where
  pub whole : is_whole c.job ≡ true
  pub machine : IsOf c.job c.machine
  pub fits : Fits c.pending c.machine.asked
  pub sites : AreSites (record { place = c.place; live = c.live; versions = c.versions })
  pub objects : c.versions.objects ≡ objects_of c.job.vars
  pub fetched : length c.fetched ≤ 64
  pub decided : AreUsable c.versions.objects c.live c.decisions

-- the tasks of each block of a job in order, their arguments not yet put in
abbrev pub forms_in : Job → List (List TaskForm)
forms_in job = map (λ (block : Block). forms_of job.vars block.stages) job.blocks

-- an instance of a block waits for room
abbrev pub IsBlock : Pending → Type 0
IsBlock (block_waits block args) = Unit {0}
IsBlock pending = ⊥
