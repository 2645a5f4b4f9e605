-- The ends of a patch's copies, worker by worker, and the commands that a run of the patch asks for.
use Rattle.std.specs.Prelude.{ℕ, ◌+◌, ◌==◌, true, false, if◌then◌else◌, List, [], ◌∷◌, ◌++◌, map}
use Rattle.std.specs.List.{flat_map, range_with_len}
use Rattle.nim_base.specs.declared.number.Worker.{Worker}
use Rattle.nim_command.specs.declared.command.Command.{Command}
use Rattle.nim_command.specs.declared.edit.PatchPart.{PatchPart}
use Rattle.nim_command.specs.Expansion.{patch_commands}
use Rattle.nim_patch.specs.declared.patch.PatchCopy.{PatchCopy}
use Rattle.nim_place.specs.Extends.{worker_of}
use Rattle.nim_place.specs.Versions.{Versions, latest_of}

-- ---- ends

-- the end of a copy that sends, by the copy's number
abbrev pub sending_part : ℕ → PatchCopy → PatchPart
sending_part number copy = record { number = number; receives = false; object = copy.object; peer = copy.to }

-- the end that receives
abbrev pub receiving_part : ℕ → PatchCopy → PatchPart
receiving_part number copy = record { number = number; receives = true; object = copy.object; peer = copy.from }

-- what a worker has of a copy: its source sends, its receiver receives
abbrev pub copy_parts : ℕ → PatchCopy → Worker → List PatchPart
copy_parts number copy worker =
    (if copy.from.0 == worker.0 then sending_part number copy ∷ [] else [])
    ++ (if copy.to.0 == worker.0 then receiving_part number copy ∷ [] else [])

-- what it has of copies, the first of them with this number
abbrev pub patch_parts_from : ℕ → List PatchCopy → Worker → List PatchPart
patch_parts_from number [] worker = []
patch_parts_from number (copy ∷ copies) worker =
    copy_parts number copy worker ++ patch_parts_from (number + 1) copies worker

-- A worker's ends of the copies of a patch, in their order. A copy's number is its place.
abbrev pub patch_parts_of : List PatchCopy → Worker → List PatchPart
patch_parts_of copies worker = patch_parts_from 0 copies worker

-- ---- commands

-- the version that an end takes: the latest one of its object, if it receives
abbrev pub version_taken : Versions → PatchPart → List ℕ
version_taken versions part = if part.receives then latest_of versions part.object ∷ [] else []

-- the versions that a worker's order names, in the order of its ends
abbrev pub versions_taken : Versions → List PatchPart → List ℕ
versions_taken versions parts = flat_map (version_taken versions) parts

-- the commands of a worker's ends
abbrev pub run_commands : Versions → List PatchPart → List Command
run_commands versions parts = patch_commands (versions_taken versions parts) parts

-- the commands of so many workers, the first of them with this number
abbrev pub run_commands_from : List PatchCopy → Versions → ℕ → ℕ → List (Worker × Command)
run_commands_from copies versions number workers =
    flat_map
    (λ (n : ℕ). map (λ (c : Command). (worker_of n, c)) (run_commands versions (patch_parts_of copies (worker_of n))))
    (range_with_len number workers)

-- The commands of a run of a patch, worker by worker, from a map on whose latest versions are copied.
abbrev pub patch_commands_of : List PatchCopy → Versions → List (Worker × Command)
patch_commands_of copies versions = run_commands_from copies versions 0 versions.workers
