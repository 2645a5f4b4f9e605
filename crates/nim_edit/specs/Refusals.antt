-- By which rule a move of a task is refused.
use Rattle.std.specs.Prelude.{◌≡◌, ℕ, ◌==◌, nat_le, Bool, not, ◌||◌, if◌then◌else◌, List, length, count_by}
use Rattle.std.specs.Prelude.{Option, None, Some}
use Rattle.nim_base.specs.declared.number.Worker.{Worker}
use Rattle.nim_command.specs.declared.edit.Edit.{Edit}
use Rattle.nim_command.specs.declared.template.WorkerTemplate.{WorkerTemplate}
use Rattle.nim_place.specs.Extends.{is_live}
use Rattle.nim_edit.specs.declared.fault.EditFault.{EditFault}
use Rattle.nim_edit.specs.declared.fault.EditFault.TheVariants.{Refused, NoMemory}
use Rattle.nim_edit.specs.declared.fault.EditRefused.{EditRefused}
use Rattle.nim_edit.specs.declared.fault.EditRefused.TheVariants.{NoSuchTask, NotLive, SamePlace, TooMany}
use Rattle.nim_edit.specs.Moves.{worker_at}

-- how many of the edits are a worker's
abbrev pub count_for : List (Worker × Edit) → Worker → ℕ
count_for edits worker = count_by (λ (e : Worker × Edit). e.0.0 == worker.0) edits

-- whether a worker has four edits that weren't sent yet
abbrev pub is_full : List (Worker × Edit) → Worker → Bool
is_full unsent worker = nat_le 4 (count_for unsent worker)

-- whether one of these workers has
abbrev pub is_one_full : List (Worker × Edit) → Worker → Worker → Worker → Bool
is_one_full unsent home owner to = is_full unsent home || is_full unsent owner || is_full unsent to

-- whether a worker that the move of a task touches has: the home, the owner or the new one
abbrev pub are_too_many : WorkerTemplate → ℕ → Worker → Bool
are_too_many template task to =
    is_one_full template.unsent (worker_at template.homes task) (worker_at template.owners task) to

-- The first rule that refuses the move of a task to a worker: there is no such task, the worker isn't live, it is the
-- owner, or the move touches one with too many edits.
abbrev pub refusal_of : WorkerTemplate → ℕ → Worker → List Bool → Option EditRefused
refusal_of template task to live =
    if nat_le (length template.forms) task then Some NoSuchTask
    else if not (is_live live to) then Some NotLive
    else if (worker_at template.owners task).0 == to.0 then Some SamePlace
    else if are_too_many template task to then Some TooMany
    else None

-- A fault tells the refusal, if there is one. Want of memory may come in place of any answer.
abbrev pub IsToldBy : Option EditRefused → EditFault → Type 0
IsToldBy refusal (Refused refused) = refusal ≡ Some refused
IsToldBy refusal NoMemory = Unit {0}
