-- A driver's state that was saved, and the machines that it fits.
use Rattle.std.specs.Prelude.{Bool, false, ◌&&◌, ◌==◌, nat_le, None, List, length}
use Rattle.nim_job.specs.declared.state.DriverState.{DriverState}
use Rattle.nim_job.specs.declared.stmt.Stmt.{Stmt}
use Rattle.nim_job.specs.Driver.{Driver, output_limit}
use Rattle.nim_job.specs.Levels.{is_path, todo_of}
use Rattle.nim_job.specs.Machine.{Machine}

-- the driver that a state stands for in a body
abbrev pub driver_in : List Stmt → DriverState → Driver
driver_in body state =
    record { todo = todo_of body state.levels; scalars = state.scalars; count = state.count; output = state.output }

-- whether a state fits a machine: its path is one of the machine's body, it has as many scalars, and it is within the
-- limits
abbrev pub fits : Machine → DriverState → Bool
fits m state =
    is_path m.body state.levels && (length state.scalars == length m.driver.scalars) && nat_le state.count m.steps
    && nat_le (length state.output) output_limit

-- the machine where it stood when a state was saved; nothing is unanswered
abbrev pub gone_back : Machine → DriverState → Machine
gone_back m state = record m { driver = driver_in m.body state; asked = None; full = false }
