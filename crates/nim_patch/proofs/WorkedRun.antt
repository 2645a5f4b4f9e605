-- Worked by hand, and computed: two workers and two objects, a[0] at home at worker 0, a[1] at worker 1. A block reads
-- both at worker 0, whose main slot of a[1] has version 4 where version 8 is the latest.
use Rattle.std.proofs.Common.{◌≡◌, ℕ, Bool, true, false, List, [], ◌∷◌, refl, Some, None}
use Rattle.nim_base.specs.declared.number.Object.{Object}
use Rattle.nim_base.specs.declared.number.Slot.{Slot}
use Rattle.nim_base.specs.declared.number.Worker.{Worker}
use Rattle.nim_command.specs.declared.command.Command.{Command}
use Rattle.nim_command.specs.declared.command.Kind.{Kind}
use Rattle.nim_command.specs.declared.edit.PatchPart.{PatchPart}
use Rattle.nim_message.specs.declared.order.ToWorker.TheVariants.{InstallPatch, RunPatch}
use Rattle.nim_plan.specs.Paired.{Key}
use Rattle.nim_patch.specs.declared.patch.PatchCopy.{PatchCopy}
use Rattle.nim_patch.specs.Given.{is_patch_key_in, patch_installs_of, patch_runs_of}
use Rattle.nim_patch.specs.Parts.{patch_parts_of, patch_commands_of}
use Rattle.nim_patch.specs.Patches.{after_copies, patch_copies}
use Rattle.nim_place.specs.Versions.{Versions}
use Rattle.nim_template.specs.Again.{are_current}
use Rattle.nim_template.specs.Given.{is_key_in}
use Rattle.nim_template.specs.MainSlots.{do_slots_ascend}

abbrev worker : ℕ → Worker
worker number = record { 0 = number }

abbrev object : ℕ → Object
object number = record { 0 = number }

abbrev slot : ℕ → Slot
slot number = record { 0 = number }

abbrev preconditions : List (Worker × Object)
preconditions = (worker 0, object 0) ∷ (worker 0, object 1) ∷ []

they_ascend : do_slots_ascend 2 0 preconditions ≡ true
they_ascend = refl

-- each once
not_twice : do_slots_ascend 2 0 ((worker 0, object 1) ∷ (worker 0, object 1) ∷ []) ≡ false
not_twice = refl

abbrev before : Versions
before = record { workers = 2; objects = 2; held = Some 7 ∷ Some 4 ∷ None ∷ Some 8 ∷ []; latest = 7 ∷ 8 ∷ [] }

abbrev copy : ℕ → ℕ → ℕ → PatchCopy
copy from to number = record { from = worker from; to = worker to; object = object number }

abbrev copies : List PatchCopy
copies = copy 1 0 1 ∷ []

one_copy : patch_copies before preconditions ≡ copies
one_copy = refl

abbrev part : ℕ → Bool → ℕ → ℕ → PatchPart
part number receives of peer = record { number = number; receives = receives; object = object of; peer = worker peer }

-- patch 2 of epoch 3: worker 0 has the end that receives, worker 1 the one that sends, and no other worker any
installed_0 : patch_installs_of 3 2 copies 0 ≡ InstallPatch 3 2 (part 0 true 1 1 ∷ []) ∷ []
installed_0 = refl

installed_1 : patch_installs_of 3 2 copies 1 ≡ InstallPatch 3 2 (part 0 false 1 0 ∷ []) ∷ []
installed_1 = refl

installed_2 : patch_installs_of 3 2 copies 2 ≡ []
installed_2 = refl

-- before instance 5: worker 0 is told to receive version 8
run_0 : patch_runs_of 3 5 2 copies before 0 ≡ RunPatch 3 5 2 (8 ∷ []) ∷ []
run_0 = refl

run_1 : patch_runs_of 3 5 2 copies before 1 ≡ RunPatch 3 5 2 [] ∷ []
run_1 = refl

-- what a command of a copy is
abbrev command_at : ℕ → ℕ → Kind → Worker × Command
command_at at number kind = (worker at, record { id = number; kind = kind; before = [] })

commands : patch_commands_of copies before ≡ command_at 0 131072 (Kind.Receive (slot 1) 8) ∷ command_at 1 131072 (Kind.Send (slot 1) (worker 0) 131072) ∷ []
commands = refl

-- behind them the block may begin
copied : (after_copies before copies).held ≡ Some 7 ∷ Some 8 ∷ None ∷ Some 8 ∷ []
copied = refl

they_hold : are_current (after_copies before copies) preconditions ≡ true
they_hold = refl

-- the key of the copy is the patch's, and not one of the instance behind it
abbrev key : Key
key = record { epoch = 3; instance = 5; entry = 131072; object = object 1; version = 8 }

of_patch : is_patch_key_in 3 5 key ≡ true
of_patch = refl

not_of_instance : is_key_in 3 5 key ≡ false
not_of_instance = refl

-- a second copy goes the other way: each worker has an end of both, in their order
ends_0 : patch_parts_of (copy 1 0 1 ∷ copy 0 1 0 ∷ []) (worker 0) ≡ part 0 true 1 1 ∷ part 1 false 0 1 ∷ []
ends_0 = refl

ends_1 : patch_parts_of (copy 1 0 1 ∷ copy 0 1 0 ∷ []) (worker 1) ≡ part 0 false 1 0 ∷ part 1 true 0 0 ∷ []
ends_1 = refl
