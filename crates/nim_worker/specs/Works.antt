-- A command that is out, and what it comes to once it is performed.
use Rattle.std.specs.Prelude.{◌≡◌, ℕ, ℤ, Bool, not, ◌||◌, if◌then◌else◌, List, [], length, Option, None, Some, IfSome}
use Rattle.std.specs.Option.{is_some, option_map, option_or}
use Rattle.nim_base.specs.declared.number.Shape.{Shape}
use Rattle.nim_base.specs.declared.number.Slot.{Slot}
use Rattle.nim_base.specs.declared.task.Func.{Func}
use Rattle.nim_base.specs.Apply.{apply_of, has_counts}
use Rattle.nim_base.specs.Functions.{read_values}
use Rattle.nim_base.specs.Value.{Grid}
use Rattle.nim_command.specs.declared.command.Kind.{Kind}
use Rattle.nim_command.specs.declared.command.Kind.TheVariants.{Run}
use Rattle.nim_store.specs.declared.held.Held.{Held}
use Rattle.nim_history.specs.Kept.{results_for}
use Rattle.nim_worker.specs.declared.batch.Work.{Work}
use Rattle.nim_worker.specs.declared.inputs.Inputs.{Inputs}
use Rattle.nim_worker.specs.Inputs.{AreInputs}

-- what a work is begun for: the ticket of a command, and what it does
pub record Begun : Type 0 where
  pub ticket : ℕ
  pub kind : Kind

-- what the work of a command is begun for
abbrev pub begun_as : ℕ → Kind → Begun
begun_as ticket kind = record { ticket = ticket; kind = kind }

-- the position of the task that a command runs, if it runs one
abbrev pub position_of : Kind → Option ℕ
position_of (Run position func params reads writes) = Some position
position_of _ = None

-- The function that a command applies. This and what follows: nothing where it is no Run, or its counts aren't its
-- function's.
abbrev pub func_taken : Kind → Option Func
func_taken (Run position func params reads writes) =
    if has_counts func (length params) (length reads) (length writes) then Some func else None
func_taken _ = None

-- the parameters that it takes
abbrev pub params_taken : Kind → List ℤ
params_taken (Run position func params reads writes) =
    if has_counts func (length params) (length reads) (length writes) then params else []
params_taken _ = []

-- the slots that its inputs are taken from
abbrev pub reads_taken : Kind → List Slot
reads_taken (Run position func params reads writes) =
    if has_counts func (length params) (length reads) (length writes) then reads else []
reads_taken _ = []

-- the slots that its results go to
abbrev pub writes_taken : Kind → List Slot
writes_taken (Run position func params reads writes) =
    if has_counts func (length params) (length reads) (length writes) then writes else []
writes_taken _ = []

-- the inputs of a command, taken out of slots that had this before and have that now
abbrev pub AreInputsOf : List Shape → Kind → (Slot → Option Held) → (Slot → Option Held) → Inputs → Type 0
AreInputsOf shapes kind before now inputs =
    AreInputs shapes (params_taken kind) (reads_taken kind) (writes_taken kind) before now inputs

-- the results of a command that was performed
abbrev pub results_performed : List Shape → Kind → (Slot → Option Held) → Option (List Grid)
results_performed shapes kind before =
    option_map (λ (func : Func). results_for shapes func (params_taken kind) (reads_taken kind) (writes_taken kind)
    before) (func_taken kind)

-- the results that a work has
abbrev pub results_in : Work → Option (List Grid)
results_in work = option_map (λ values. values.items) work.results

-- the results that a work's inputs have
abbrev pub results_from : Work → Option (List Grid)
results_from work =
    option_map
    (λ (func : Func).
    apply_of func work.inputs.value.params.items (read_values work.inputs.value.values.items
    work.inputs.value.places.items) work.inputs.value.shapes.items)
    work.func

-- whether nothing is left to perform
abbrev pub is_performed : Work → Bool
is_performed work = is_some work.results || not (is_some work.func)

-- a work once it is performed: its task's results are there
pub record IsPerformed (old new : Work) : Type 0 where
  pub ticket : new.ticket ≡ old.ticket
  pub position : new.position ≡ old.position
  pub func : new.func ≡ old.func
  pub inputs : new.inputs ≡ old.inputs
  pub results : results_in new ≡ option_or (results_in old) (results_from old)

-- A work is that of a command, whose slots had this before it was begun and have that now; it may be performed.
pub record IsWork (shapes : List Shape) (before now : Slot → Option Held) (begun : Begun) (work : Work) : Type 0 where
  pub ticket : work.ticket ≡ begun.ticket
  pub position : work.position ≡ position_of begun.kind
  pub func : work.func ≡ func_taken begun.kind
  pub inputs : AreInputsOf shapes begun.kind before now work.inputs.value
  pub results : IfSome (results_in work) (λ results. results_performed shapes begun.kind before ≡ Some results)

-- whatever a work is the work of, it stays
abbrev pub KeepsWork : Work → Work → Type 0
KeepsWork old new =
    (shapes : List Shape) (before now : Slot → Option Held) (begun : Begun) → IsWork shapes before now begun old
    → IsWork shapes before now begun new
