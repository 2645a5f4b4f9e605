-- What an instance of an installed template costs each worker.
use Rattle.std.specs.Prelude.{◌≡◌, ℕ, ◌+◌, ◌*◌, ◌≤◌, Bool, ℤ, List, [], ◌∷◌, length}
use Rattle.std.specs.List.{sum_by}
use Rattle.nim_command.specs.declared.edit.PatchPart.{PatchPart}
use Rattle.nim_command.specs.declared.template.WorkerTemplate.{WorkerTemplate}
use Rattle.nim_message.specs.declared.order.ToWorker.{ToWorker}
use Rattle.nim_message.specs.Lengths.{order_length_of}
use Rattle.nim_place.specs.declared.placement.Placement.{Placement}
use Rattle.nim_place.specs.Directed.{orders_to}
use Rattle.nim_place.specs.Extends.{worker_of}
use Rattle.nim_place.specs.Versions.{Versions}
use Rattle.nim_template.specs.Instance.{half_of}
use Rattle.nim_patch.specs.declared.patch.PatchCopy.{PatchCopy}
use Rattle.nim_patch.specs.Parts.{patch_parts_of}
use Rattle.nim_patch.specs.Patches.{patch_copies}
use Rattle.nim_reuse.specs.declared.decided.Decided.TheVariants.{Installed}
use Rattle.nim_reuse.specs.declared.instance.InstanceAt.{InstanceAt}
use Rattle.nim_reuse.specs.declared.reused.Patched.{Patched}
use Rattle.nim_reuse.specs.declared.reused.Patched.TheVariants.{Made}
use Rattle.nim_reuse.specs.Decisions.{Decisions, decided_of}
use Rattle.nim_reuse.specs.Received.{received_in}
use Rattle.nim_reuse.specs.Reuse.{orders_at, patched_at}

-- the bytes of orders as frames
abbrev pub bytes_of : List ToWorker → ℕ
bytes_of orders = sum_by order_length_of orders

-- what an Instantiate may take, of so many arguments and versions
abbrev pub instance_bound : ℕ → ℕ → ℕ
instance_bound args versions = 48 + 8 * args + 8 * versions

-- what a RunPatch may take for a worker's ends of copies; it gets none where it has no ends
abbrev pub patch_bound : List PatchPart → ℕ
patch_bound [] = 0
patch_bound (part ∷ parts) = 32 + 8 * length (part ∷ parts)

-- what an instance may take at a worker, with the copies of a repeated patch
abbrev pub bound_at : ℕ → List PatchCopy → List ℤ → WorkerTemplate → ℕ
bound_at number copies args template =
    instance_bound (length args) (length (received_in (half_of template number)))
    + patch_bound (patch_parts_of copies (worker_of number))

-- whether a patch is no new one
abbrev pub IsNotMade : Patched → Type 0
IsNotMade (Made number) = ⊥
IsNotMade _ = Unit {0}

-- Of an instance whose template is installed a worker gets a RunPatch, if it has copies, and an Instantiate, if it has
-- entries, where no new patch is made; and that is within the bound, however many tasks the block has.
pub record IsShort (place : Placement) (live : List Bool) (at : InstanceAt) (args : List ℤ) (versions : Versions)
    (decisions : Decisions) (template : WorkerTemplate) (number : ℕ) : Type 0 where
  pub few : length (orders_to number (orders_at place live at args versions decisions)) ≤ 2
  pub bytes : bytes_of (orders_to number (orders_at place live at args versions decisions))
      ≤ bound_at number (patch_copies versions template.preconditions) args template

-- So is each instance from the third on.
abbrev pub LaterInstancesAreShort : Type 0
LaterInstancesAreShort =
    (place : Placement) (live : List Bool) (at : InstanceAt) (args : List ℤ) (versions : Versions)
    (decisions : Decisions) (template : WorkerTemplate) (number : ℕ)
    → decided_of decisions at.block ≡ Installed template
    → IsNotMade (patched_at place live at versions decisions)
    → IsShort place live at args versions decisions template number
