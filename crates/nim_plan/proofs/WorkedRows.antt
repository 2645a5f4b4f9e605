-- Worked by hand, and computed: what edits do to halves, what instances and patches ask for, how long orders are, and
-- what a list of them comes to. Two workers, objects 0 and 1 of one cell, and a block that adds 4 to each.
use Rattle.std.proofs.Common.{◌≡◌, ℕ, List, [], ◌∷◌, refl, pos}
use Rattle.std.specs.Prelude.{false, true}
use Rattle.nim_base.specs.declared.number.Object.{Object}
use Rattle.nim_base.specs.declared.number.Shape.{Shape}
use Rattle.nim_base.specs.declared.number.Slot.{Slot}
use Rattle.nim_base.specs.declared.number.Worker.{Worker}
use Rattle.nim_base.specs.declared.task.Func.TheVariants.{Addc}
use Rattle.nim_base.specs.declared.task.Param.TheVariants.{Const}
use Rattle.nim_command.specs.declared.command.Command.{Command}
use Rattle.nim_command.specs.declared.command.Kind.{Kind}
use Rattle.nim_command.specs.declared.edit.Edit.{Edit}
use Rattle.nim_command.specs.declared.edit.Spec.{Spec}
use Rattle.nim_command.specs.declared.entry.Entry.{Entry}
use Rattle.nim_command.specs.declared.entry.EntryKind.{EntryKind}
use Rattle.nim_command.specs.Edits.{edited}
use Rattle.nim_command.specs.Expansion.{expanded, patch_commands}
use Rattle.nim_message.specs.declared.order.ToWorker.{ToWorker}
use Rattle.nim_message.specs.Lengths.{order_length_of}
use Rattle.nim_message.specs.Orders.{session_of}
use Rattle.nim_command.specs.Waits.{placed_commands}

abbrev slot : ℕ → Slot
slot n = record { 0 = n }

abbrev object : ℕ → Object
object n = record { 0 = n }

abbrev worker : ℕ → Worker
worker n = record { 0 = n }

abbrev shape : Shape
shape = record { width = 1; rows = 1 }

abbrev run : ℕ → ℕ → ℕ → List ℕ → Entry
run id from to before = record { id = id; kind = EntryKind.Run Addc (Const (pos 4) ∷ []) (slot from ∷ []) (slot to ∷ []); before = before }

abbrev moved : Spec
moved = record { func = Addc; params = Const (pos 4) ∷ []; reads = (object 1, 0) ∷ []; writes = object 1 ∷ [] }

abbrev here : Edit
here = Edit.Here 1 (worker 1) 0 moved

abbrev away : Edit
away = Edit.Away 1 (worker 0) 0 moved

abbrev half0 : List Entry
half0 = run 32 0 0 [] ∷ record { id = 88; kind = EntryKind.Receive (slot 513) 0; before = [] } ∷ run 96 513 513 (88 ∷ [])
    ∷ record { id = 104; kind = EntryKind.Send (slot 513) (worker 1) 112; before = 96 ∷ [] } ∷ []

-- the task of worker 1 moves to worker 0
edit_here : edited here (run 32 0 0 [] ∷ []) ≡ half0
edit_here = refl

edit_away : edited away (run 96 1 1 [] ∷ []) ≡ record { id = 80; kind = EntryKind.Send (slot 1) (worker 0) 88; before = [] }
    ∷ record { id = 112; kind = EntryKind.Receive (slot 1) 2; before = 80 ∷ [] } ∷ []
edit_away = refl

-- and away again
edit_gone : edited (Edit.Gone 1) half0 ≡ run 32 0 0 [] ∷ []
edit_gone = refl

edit_home : edited (Edit.Home 1 moved) (edited away (run 96 1 1 [] ∷ [])) ≡ run 96 1 1 [] ∷ []
edit_home = refl

-- read twice, and there already
edit_mask : edited (Edit.Here 1 (worker 1) 3 (record moved { reads = (object 1, 0) ∷ (object 1, 0) ∷ [] })) [] ≡
    record { id = 88; kind = EntryKind.Copy (slot 1) (slot 513); before = [] }
    ∷ record { id = 96; kind = EntryKind.Run Addc (Const (pos 4) ∷ []) (slot 513 ∷ slot 513 ∷ []) (slot 513 ∷ []); before = 88 ∷ [] }
    ∷ record { id = 104; kind = EntryKind.Send (slot 513) (worker 1) 112; before = 96 ∷ [] } ∷ []
edit_mask = refl

abbrev command_run : ℕ → ℕ → ℕ → ℕ → List ℕ → Command
command_run id position from to before = record { id = id; kind = Kind.Run position Addc (pos 4 ∷ []) (slot from ∷ []) (slot to ∷ []); before = before }

-- the instance that carries the edit, at position 8
expands : expanded 8 [] (8 ∷ []) 0 half0 ≡ command_run 32 8 0 0 [] ∷ record { id = 88; kind = Kind.Receive (slot 513) 8; before = [] }
    ∷ command_run 96 9 513 513 (88 ∷ [])
    ∷ record { id = 104; kind = Kind.Send (slot 513) (worker 1) 112; before = 96 ∷ [] } ∷ []
expands = refl

-- the ends of two copies at worker 0
patch : patch_commands (8 ∷ []) (record { number = 0; receives = true; object = object 1; peer = worker 1 }
    ∷ record { number = 1; receives = false; object = object 0; peer = worker 1 } ∷ [])
    ≡ record { id = 131072; kind = Kind.Receive (slot 1) 8; before = [] } ∷ record { id = 131073; kind = Kind.Send (slot 0) (worker 1) 131073; before = [] }
    ∷ []
patch = refl

abbrev create : ToWorker
create = ToWorker.Single 0 4294967295 (record { id = 0; kind = Kind.Create (slot 0) false (pos 3); before = [] } ∷ [])

abbrev single : ToWorker
single = ToWorker.Single 0 0 (command_run 32 0 0 0 [] ∷ [])

abbrev install : ToWorker
install = ToWorker.InstallTemplate 0 0 (run 32 0 0 [] ∷ [])

abbrev instance : ℕ → ℕ → ToWorker
instance number base = ToWorker.Instantiate 0 number 0 base [] [] []

abbrev fetch : ToWorker
fetch = ToWorker.Single 0 4294967295 (record { id = 0; kind = Kind.Fetch (slot 0) 0; before = [] } ∷ [])

abbrev reset : ToWorker
reset = ToWorker.Reset 0 (worker 0) 2 (shape ∷ shape ∷ [])

-- lengths
reset_length : order_length_of reset ≡ 26
reset_length = refl

create_length : order_length_of create ≡ 30
create_length = refl

single_length : order_length_of single ≡ 43
single_length = refl

install_length : order_length_of install ≡ 35
install_length = refl

instance_length : order_length_of (instance 1 2) ≡ 23
instance_length = refl

fetch_length : order_length_of fetch ≡ 25
fetch_length = refl

instance_with_here_length : order_length_of (ToWorker.Instantiate 0 4 0 8 [] (8 ∷ []) (here ∷ [])) ≡ 55
instance_with_here_length = refl

instance_with_away_length : order_length_of (ToWorker.Instantiate 0 4 0 8 [] [] (away ∷ [])) ≡ 47
instance_with_away_length = refl

patch_length : order_length_of (ToWorker.RunPatch 0 4 0 (8 ∷ [])) ≡ 21
patch_length = refl

-- what worker 0 is asked for, with places and waits
rows_listed : placed_commands (session_of (reset ∷ create ∷ single ∷ install ∷ instance 1 2 ∷ instance 2 4 ∷ fetch ∷ [])).groups
    ≡ record { id = 0; kind = Kind.Create (slot 0) false (pos 3); before = [] } ∷ command_run 1 0 0 0 (0 ∷ []) ∷ command_run 2 2 0 0 (1 ∷ [])
    ∷ command_run 3 4 0 0 (2 ∷ [])
    ∷ record { id = 4; kind = Kind.Fetch (slot 0) 0; before = 3 ∷ [] } ∷ []
rows_listed = refl
