-- What a list of orders that one worker was given comes to.
use Rattle.std.specs.Prelude.{ℕ, ◌==◌, Bool, true, false, ◌&&◌, if◌then◌else◌, ℤ, List, [], ◌∷◌, ◌++◌, Option, None, Some}
use Rattle.std.specs.List.{fold}
use Rattle.std.specs.Option.{option_map_or}
use Rattle.nim_base.specs.declared.number.Shape.{Shape}
use Rattle.nim_command.specs.declared.edit.PatchPart.{PatchPart}
use Rattle.nim_command.specs.declared.entry.Entry.{Entry}
use Rattle.nim_command.specs.Edits.{edited_by}
use Rattle.nim_command.specs.Expansion.{expanded, patch_commands}
use Rattle.nim_command.specs.Waits.{FromInstance, FromPatch, Group, single_group}
use Rattle.nim_message.specs.declared.order.ToWorker.{ToWorker}
use Rattle.nim_message.specs.declared.order.ToWorker.TheVariants.{Single, InstallTemplate, Instantiate, InstallPatch, RunPatch, Reset, Stop}

-- What counts since the last Reset: whether there was one, its epoch and shapes, the half of each block and the copies
-- of each patch as they are now, and what the orders after it that name its epoch stand for.
pub record Session : Type 0 where
  pub begun : Bool
  pub epoch : ℕ
  pub shapes : List Shape
  pub halves : ℕ → List Entry
  pub patches : ℕ → List PatchPart
  pub groups : List Group

-- nothing of any number
abbrev pub none_yet : {X : Type 0} → ℕ → List X
none_yet number = []

-- one list by its number in place of the one before
abbrev pub with_list : {X : Type 0} → ℕ → List X → (ℕ → List X) → ℕ → List X
with_list number list lists = λ other. if other == number then list else lists other

-- after a Reset
abbrev pub new_session : ℕ → List Shape → Session
new_session epoch shapes =
    record { begun = true; epoch = epoch; shapes = shapes; halves = none_yet; patches = none_yet; groups = [] }

-- before the first Reset
abbrev pub no_session : Session
no_session = record { begun = false; epoch = 0; shapes = []; halves = none_yet; patches = none_yet; groups = [] }

-- whether an order of this epoch counts
abbrev pub is_current : Session → ℕ → Bool
is_current session epoch = session.begun && (epoch == session.epoch)

-- with one more group
abbrev pub with_group : Session → Group → Session
with_group session group = record session { groups = session.groups ++ group ∷ [] }

-- with the half of a block
abbrev pub with_half : Session → ℕ → List Entry → Session
with_half session block entries = record session { halves = with_list block entries session.halves }

-- with the copies of a patch
abbrev pub with_patch : Session → ℕ → List PatchPart → Session
with_patch session patch copies = record session { patches = with_list patch copies session.patches }

-- what an instance of a block with this half stands for
abbrev pub instance_group : ℕ → ℕ → ℕ → List ℤ → List ℕ → List Entry → Group
instance_group epoch instance base args versions half =
    record {
      epoch = epoch;
      instance = instance;
      source = FromInstance base;
      commands =
          expanded base args versions 0 half;
    }

-- what a run of a patch with these copies stands for
abbrev pub patch_group : ℕ → ℕ → List ℕ → List PatchPart → Group
patch_group epoch instance versions copies =
    record { epoch = epoch; instance = instance; source = FromPatch; commands = patch_commands versions copies }

-- the epoch that an order names, if it is of one
abbrev pub epoch_named : ToWorker → Option ℕ
epoch_named (Single epoch instance commands) = Some epoch
epoch_named (InstallTemplate epoch block entries) = Some epoch
epoch_named (Instantiate epoch instance block base args versions edits) = Some epoch
epoch_named (InstallPatch epoch patch copies) = Some epoch
epoch_named (RunPatch epoch instance patch versions) = Some epoch
epoch_named (Reset epoch worker workers shapes) = None
epoch_named Stop = None

-- whether an order counts
abbrev pub does_count : Session → ToWorker → Bool
does_count session order = option_map_or (is_current session) (epoch_named order) false

-- after one more order that counts: an instance first edits the half of its block
abbrev pub counted : Session → ToWorker → Session
counted session (Single epoch instance commands) = with_group session (single_group epoch instance commands)
counted session (InstallTemplate epoch block entries) = with_half session block entries
counted session (Instantiate epoch instance block base args versions edits) =
    let half : List Entry = edited_by edits (session.halves block) in
    with_group (with_half session block half) (instance_group epoch instance base args versions half)
counted session (InstallPatch epoch patch copies) = with_patch session patch copies
counted session (RunPatch epoch instance patch versions) =
    with_group session (patch_group epoch instance versions (session.patches patch))
counted session (Reset epoch worker workers shapes) = session
counted session Stop = session

-- after one more order; one of another epoch is passed over
abbrev pub after_order : Session → ToWorker → Session
after_order session (Reset epoch worker workers shapes) = new_session epoch shapes
after_order session order = if does_count session order then counted session order else session

-- what all orders come to that a worker was given, from its start on
abbrev pub session_of : List ToWorker → Session
session_of orders = fold after_order no_session orders
