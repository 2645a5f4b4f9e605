-- The halves and the patches that a worker was given.
use Rattle.std.specs.Prelude.{◌≡◌, ℕ, List, [], IsSome, unwrap_or}
use Rattle.std.specs.BTreeMap.{get}
use Rattle.std.specs.Ordering.{nat_cmp}
use Rattle.nim_command.specs.declared.edit.PatchPart.{PatchPart}
use Rattle.nim_command.specs.declared.entry.Entry.{Entry}
use Rattle.nim_plan.specs.declared.installed.Installed.{Installed}

-- the half of each block: no entries where none was given
abbrev pub halves_of : Installed → ℕ → List Entry
halves_of installed = λ block. unwrap_or (get nat_cmp installed.halves block) []

-- the copies of each patch
abbrev pub patches_of : Installed → ℕ → List PatchPart
patches_of installed = λ patch. unwrap_or (get nat_cmp installed.patches patch) []

-- they are these
pub record Has (installed : Installed) (by_block : ℕ → List Entry) (by_patch : ℕ → List PatchPart) : Type 0 where
  pub halves : halves_of installed ≡ by_block
  pub patches : patches_of installed ≡ by_patch

-- there is a place for the half of a block
abbrev pub HasHalfPlace : Installed → ℕ → Type 0
HasHalfPlace installed block = IsSome (get nat_cmp installed.halves block)
