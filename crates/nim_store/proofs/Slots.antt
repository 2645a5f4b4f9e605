-- What slots have once there is room for more, and once one is set.
use Rattle.std.proofs.Common.{◌≡◌, ◌<◌, ◌≤◌, ◌++◌, ◌∷◌, [], ℕ, zero, suc, Bool, true, false, List, Option, None, length, take, get_or, refl}
use Rattle.std.proofs.Common.{ap, ◌∙◌}
use Rattle.std.proofs.Math.Path.{fun_ext}
use Rattle.std.proofs.lemmas.Bool.{eqb-false, eqb-true}
use Rattle.std.proofs.lemmas.List.{get_or-set_other, get_or-set_same, take_all}
use Rattle.std.specs.List.{AppendsResults, FoldsTo}
use Rattle.std.specs.Prelude.{◌==◌, if◌then◌else◌, slice_set}
use Rattle.nim_base.specs.declared.number.Slot.{Slot}
use Rattle.nim_command.specs.Holds.{put_at}

-- what slots have, by their numbers
abbrev numbered : {X : Type 0} → List (Option X) → Slot → Option X
numbered slots slot = get_or slots slot.0 None

-- what makes only empty slots makes a list without contents
only_empty : {X F : Type 0} (step : F → Option X → F → Type 0) → ((f : F) (y : Option X) (g : F) → step f y g → y ≡ None)
    → (ys : List (Option X)) (f g : F) → FoldsTo step f ys g → (n : ℕ) → get_or ys n None ≡ None
only_empty step empty [] f g ran zero = refl
only_empty step empty [] f g ran (suc n) = refl
only_empty step empty (y ∷ ys) f g ran zero = empty f y ran.0 ran.1
only_empty step empty (y ∷ ys) f g ran (suc n) = only_empty step empty ys ran.0 g ran.2 n

more_empty : {X : Type 0} (xs ys : List (Option X)) → ((n : ℕ) → get_or ys n None ≡ None) → (n : ℕ) → get_or (xs ++ ys) n None ≡ get_or xs n None
more_empty [] ys empty zero = empty zero
more_empty [] ys empty (suc n) = empty (suc n)
more_empty (x ∷ xs) ys empty zero = refl
more_empty (x ∷ xs) ys empty (suc n) = more_empty xs ys empty n

-- slots that were filled up with empty ones have what they had
pub filled_up : {X F : Type 0} (step : F → Option X → F → Type 0) → ((f : F) (y : Option X) (g : F) → step f y g → y ≡ None)
    → (xs zs : List (Option X)) (count : ℕ) (f : F) → length xs ≤ count → AppendsResults step (take count xs) zs f → numbered zs ≡ numbered xs
filled_up step empty xs zs count f few ran =
    fun_ext (λ (s : Slot). rw (ran.2, take_all count xs few) (more_empty xs ran.0 (only_empty step empty ran.0 f ran.1 ran.3) s.0))

-- a slot that is there is set
pub set_put : {X : Type 0} (xs : List (Option X)) (slot : Slot) (held : Option X) → slot.0 < length xs
    → numbered (slice_set xs slot.0 held) ≡ put_at slot held (numbered xs)
set_put xs slot held within = fun_ext (λ (s : Slot). either s (s.0 == slot.0) refl) where
  either : (s : Slot) (b : Bool) → (s.0 == slot.0) ≡ b → get_or (slice_set xs slot.0 held) s.0 None ≡ (if b then held else get_or xs s.0 None)
  either s true same = ap (λ (n : ℕ). get_or (slice_set xs slot.0 held) n None) (eqb-true s.0 slot.0 same) ∙ get_or-set_same xs slot.0 held None within
  either s false other = get_or-set_other xs slot.0 s.0 held None (eqb-false s.0 slot.0 other)
