-- Worked by hand, and computed: two workers, a[0] and b[0] at home at worker 0, a[1] and b[1] at worker 1. A block that
-- reads a[0] and a[1] at both workers takes turns with one that writes each at its home; four instances ran, of two tasks.
use Rattle.std.proofs.Common.{◌≡◌, ℕ, true, false, List, [], ◌∷◌, refl, Some, None}
use Rattle.nim_base.specs.declared.number.Object.{Object}
use Rattle.nim_base.specs.declared.number.Worker.{Worker}
use Rattle.nim_patch.specs.declared.patch.PatchCopy.{PatchCopy}
use Rattle.nim_patch.specs.declared.kept.Key.{Key}
use Rattle.nim_patch.specs.Cache.{after_use, patch_number_kept, least_free, number_for}
use Rattle.nim_patch.specs.Patches.{after_copies, patch_copies, failing_in, flags_of}
use Rattle.nim_patch.specs.Uses.{Use, hit, patch_key, use_of}
use Rattle.nim_place.specs.Versions.{Versions}

abbrev needs : ℕ → ℕ → Worker × Object
needs worker object = (record { 0 = worker }, record { 0 = object })

abbrev preconditions : List (Worker × Object)
preconditions = needs 0 0 ∷ needs 0 1 ∷ needs 1 0 ∷ needs 1 1 ∷ []

-- before instance 4: tasks 6 and 7 wrote a[0] and a[1], tasks 4 and 5 b[0] and b[1]
abbrev before : Versions
before = record {
  workers = 2;
  objects = 4;
  held = Some 7 ∷ Some 4 ∷ Some 5 ∷ None ∷ Some 3 ∷ Some 8 ∷ None ∷ Some 6 ∷ [];
  latest = 7 ∷ 8 ∷ 5 ∷ 6 ∷ [];
}

abbrev copy : ℕ → ℕ → ℕ → PatchCopy
copy from to object = record { from = record { 0 = from }; to = record { 0 = to }; object = record { 0 = object } }

abbrev copies : List PatchCopy
copies = copy 1 0 1 ∷ copy 0 1 0 ∷ []

-- two preconditions fail
two_fail : flags_of before preconditions ≡ false ∷ true ∷ true ∷ false ∷ []
two_fail = refl

two_in : failing_in before preconditions ≡ 2
two_in = refl

-- worker 0 gets a[1] in version 8, and worker 1 a[0] in version 7
copies_two : patch_copies before preconditions ≡ copies
copies_two = refl

copied : (after_copies before copies).held ≡ Some 7 ∷ Some 8 ∷ Some 5 ∷ None ∷ Some 7 ∷ Some 8 ∷ None ∷ Some 6 ∷ []
copied = refl

none_left : failing_in (after_copies before copies) preconditions ≡ 0
none_left = refl

-- block 0 after block 1
abbrev zero_behind_one : Key
zero_behind_one = patch_key 1 0

-- before instance 2 no patch is kept, and the one that is made gets the number 0
first_missed : patch_number_kept zero_behind_one copies [] ≡ None
first_missed = refl

first_number : number_for zero_behind_one [] ≡ 0
unfolding least_free
first_number = refl

abbrev made : List Use
made = after_use (use_of zero_behind_one 0 copies) []

-- before instance 4 it is found, since that is a hit
then_found : patch_number_kept zero_behind_one copies made ≡ Some 0
then_found = refl

then_hit : hit zero_behind_one copies (use_of zero_behind_one 0 copies ∷ []) ≡ Some 0
then_hit = refl

-- one with other copies, or for other blocks, isn't
others_missed : patch_number_kept zero_behind_one (copy 1 0 1 ∷ []) made ≡ None
others_missed = refl

elsewhere_missed : patch_number_kept (patch_key 0 0) copies made ≡ None
elsewhere_missed = refl
