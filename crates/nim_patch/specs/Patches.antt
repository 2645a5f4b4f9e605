-- Which preconditions of a template fail, and the copies that mend them.
use Rattle.std.specs.Prelude.{ℕ, Bool, not, if◌then◌else◌, List, [], ◌∷◌, map, Option, None, Some, option_map}
use Rattle.std.specs.List.{count_by, fold}
use Rattle.nim_base.specs.declared.number.Object.{Object}
use Rattle.nim_base.specs.declared.number.Worker.{Worker}
use Rattle.nim_command.specs.declared.command.Kind.{Kind}
use Rattle.nim_command.specs.Numbers.{main_slot}
use Rattle.nim_patch.specs.declared.patch.PatchCopy.{PatchCopy}
use Rattle.nim_place.specs.Versions.{Versions, after_kind, holder, is_current, latest_of}

-- a precondition fails where the worker's main slot doesn't hold the latest version of the object
abbrev pub fails : Versions → Worker × Object → Bool
fails versions precondition = not (is_current versions precondition.1 precondition.0)

-- a flag for each precondition: whether it fails
abbrev pub flags_of : Versions → List (Worker × Object) → List Bool
flags_of versions preconditions = map (fails versions) preconditions

-- how many of them fail
abbrev pub failing_in : Versions → List (Worker × Object) → ℕ
failing_in versions preconditions = count_by (fails versions) preconditions

-- the copy to a precondition's slot from a worker
abbrev pub copy_to_precondition : Worker × Object → Worker → PatchCopy
copy_to_precondition precondition from = record { from = from; to = precondition.0; object = precondition.1 }

-- the copy for a precondition that fails, from the lowest worker whose main slot holds the latest version
abbrev pub copy_of : Versions → Worker × Object → Option PatchCopy
copy_of versions precondition =
    if fails versions precondition then option_map (copy_to_precondition precondition)
    (holder versions precondition.1) else None

-- a copy, if there is one, before others
abbrev pub copy_first : Option PatchCopy → List PatchCopy → List PatchCopy
copy_first None copies = copies
copy_first (Some copy) copies = copy ∷ copies

-- The copies of a patch: one for each precondition that fails, in their order.
abbrev pub patch_copies : Versions → List (Worker × Object) → List PatchCopy
patch_copies versions [] = []
patch_copies versions (precondition ∷ rest) = copy_first (copy_of versions precondition) (patch_copies versions rest)

-- a copy has its receiver take in the latest version of its object
abbrev pub after_copy : Versions → PatchCopy → Versions
after_copy versions copy =
    after_kind copy.to versions (Kind.Receive (main_slot copy.object) (latest_of versions copy.object))

-- what copies leave, one after another
abbrev pub after_copies : Versions → List PatchCopy → Versions
after_copies versions copies = fold after_copy versions copies
