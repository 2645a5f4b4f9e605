-- What slots of a list have once there is room for more.
use Rattle.std.proofs.Common.{◌≡◌, ◌≤◌, ◌++◌, ◌∷◌, [], ℕ, zero, suc, List, Option, None, length, take, get_or, refl}
use Rattle.std.proofs.lemmas.List.{take_all}
use Rattle.std.specs.List.{AppendsResults, FoldsTo}
use Rattle.nim_queue.specs.Used.{used_in}
use Rattle.nim_queue.specs.declared.slot_use.SlotUse.{SlotUse}

-- what makes only empty slots makes a list without uses
only_empty : {X F : Type 0} (step : F → Option X → F → Type 0) → ((f : F) (y : Option X) (g : F) → step f y g → y ≡ None)
    → (ys : List (Option X)) (f g : F) → FoldsTo step f ys g → (n : ℕ) → get_or ys n None ≡ None
only_empty step empty [] f g ran zero = refl
only_empty step empty [] f g ran (suc n) = refl
only_empty step empty (y ∷ ys) f g ran zero = empty f y ran.0 ran.1
only_empty step empty (y ∷ ys) f g ran (suc n) = only_empty step empty ys ran.0 g ran.2 n

more_empty : {X : Type 0} (xs ys : List (Option X)) → ((n : ℕ) → get_or ys n None ≡ None) → (n : ℕ) → get_or (xs ++ ys) n None ≡ get_or xs n None
more_empty [] ys empty zero = empty zero
more_empty [] ys empty (suc n) = empty (suc n)
more_empty (x ∷ xs) ys empty zero = refl
more_empty (x ∷ xs) ys empty (suc n) = more_empty xs ys empty n

-- slots that were filled up with empty ones have what they had
pub filled_up : {F : Type 0} (step : F → Option SlotUse → F → Type 0) → ((f : F) (y : Option SlotUse) (g : F) → step f y g → y ≡ None)
    → (xs zs : List (Option SlotUse)) (count : ℕ) (f : F) → length xs ≤ count → AppendsResults step (take count xs) zs f → (s : ℕ) → used_in zs s ≡ used_in xs s
filled_up step empty xs zs count f few ran s = rw (ran.2, take_all count xs few) (more_empty xs ran.0 (only_empty step empty ran.0 f ran.1 ran.3) s)
