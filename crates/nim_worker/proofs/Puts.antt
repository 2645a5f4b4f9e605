-- What one slot and the others have once something is put.
use Rattle.std.proofs.Common.{◌≡◌, ℕ, Bool, true, false, refl, ap, sym}
use Rattle.std.proofs.Math.Path.{fun_ext}
use Rattle.std.proofs.lemmas.Bool.{eqb-true}
use Rattle.std.specs.Prelude.{◌==◌, if◌then◌else◌}
use Rattle.nim_base.specs.declared.number.Slot.{Slot}
use Rattle.nim_command.specs.Holds.{put_at}

pub same_slot : (a b : Slot) → a.0 ≡ b.0 → a ≡ b
same_slot a b same = ap (λ (n : ℕ). record { 0 = n }) same

chosen : {X : Type 0} (b : Bool) (x y z : X) → (if b then x else (if b then y else z)) ≡ (if b then x else z)
chosen true x y z = refl
chosen false x y z = refl

-- the last that is put stays
pub put_again : {X : Type 0} (slot : Slot) (x y : X) (f : Slot → X) → put_at slot x (put_at slot y f) ≡ put_at slot x f
put_again slot x y f = fun_ext (λ (s : Slot). chosen (s.0 == slot.0) x y (f s))

-- what is there may be put again
pub put_same : {X : Type 0} (slot : Slot) (f : Slot → X) → put_at slot (f slot) f ≡ f
put_same slot f = fun_ext (λ (s : Slot). either s (s.0 == slot.0) refl) where
  either : (s : Slot) (b : Bool) → (s.0 == slot.0) ≡ b → (if b then f slot else f s) ≡ f s
  either s true same = ap f (sym (same_slot s slot (eqb-true s.0 slot.0 same)))
  either s false other = refl
