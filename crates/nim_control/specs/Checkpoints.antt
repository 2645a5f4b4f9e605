-- Which state of a job a checkpoint stands for.
use Rattle.std.specs.Prelude.{◌≡◌, ℕ, pos, map, slice_index_or}
use Rattle.nim_base.specs.declared.number.Object.{Object}
use Rattle.nim_base.specs.declared.number.Shape.{Shape}
use Rattle.nim_base.specs.Value.{Grid, empty_grid, filled, iota_of}
use Rattle.nim_job.specs.declared.job.Init.{Init}
use Rattle.nim_job.specs.declared.job.Init.TheVariants.{Fill, Iota, Loaded}
use Rattle.nim_job.specs.declared.job.Job.{Job}
use Rattle.nim_job.specs.Objects.{first_cell, objects_of}
use Rattle.nim_job.specs.Saved.{driver_in}
use Rattle.nim_job.specs.Serial.{driver_at}
use Rattle.nim_job.specs.Versions.{read_version, version_value}
use Rattle.nim_control.specs.Given.{objects_from}
use Rattle.nim_control.specs.declared.checkpoint.Checkpoint.{Checkpoint}

-- the version of an object that a task at a position reads, and the content of that version
abbrev pub version_read : Job → ℕ → Object → ℕ × Grid
version_read job position object =
    (read_version job position object, version_value job object (read_version job position object))

-- A checkpoint stands for a job after so many statements: where the driver is, how many tasks ran, and of each object
-- the version that a task there would read, with that version's content.
pub record IsCheckpointAt (job : Job) (n : ℕ) (checkpoint : Checkpoint) : Type 0 where
  pub state : driver_in job.body checkpoint.state ≡ (driver_at job n).driver
  pub position : checkpoint.position ≡ (driver_at job n).position
  pub objects : checkpoint.objects
      ≡ map (version_read job (driver_at job n).position) (objects_from 0 (objects_of job.vars))

-- what a part of a variable holds at first
abbrev pub first_value : Shape → Init → ℕ → Grid
first_value shape (Fill number) part = filled shape number
first_value shape Iota part = iota_of shape (pos (first_cell shape part))
first_value shape (Loaded values) part = slice_index_or values part empty_grid

-- a value as a first version
abbrev pub at_first : Grid → ℕ × Grid
at_first value = (0, value)
