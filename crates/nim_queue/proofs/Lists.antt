-- What stands at a place of a list.
use Rattle.std.proofs.Common.{◌≡◌, ◌++◌, ◌∷◌, List, [], length, refl, Some}
use Rattle.std.specs.Prelude.{slice_get}

pub get_at : {X : Type 0} (xs ys : List X) (y : X) → slice_get (xs ++ y ∷ ys) (length xs) ≡ Some y
get_at [] ys y = refl
get_at (x ∷ xs) ys y = get_at xs ys y
