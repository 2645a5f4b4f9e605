-- A slot among those that pass a test, and the tests of a walk down past what writes slots.
use Rattle.std.proofs.Common.{◌≡◌, ℕ, Bool, true, false, not, List, refl, ap, ◌∙◌}
use Rattle.std.specs.Prelude.{◌==◌, ◌&&◌, ◌||◌}
use Rattle.std.specs.List.{filter}
use Rattle.std.proofs.lemmas.Bool.{eqb-true}
use Rattle.nim_base.specs.declared.number.Slot.{Slot}
use Rattle.nim_command.specs.Slots.{is_among}
use Rattle.nim_base.proofs.Lists.{any_filter, any_same}
use Rattle.nim_command.proofs.Lists.{any_and}

pub not_either : (w u : Bool) → not (w || u) ≡ (not u && not w)
not_either true true = refl
not_either true false = refl
not_either false true = refl
not_either false false = refl

pub same_slot : (x s : Slot) → (x.0 == s.0) ≡ true → x ≡ s
same_slot x s test = let slot : ℕ → Slot = λ n. record { 0 = n } in ap slot (eqb-true x.0 s.0 test)

swapped : (same first second : Bool) → (same ≡ true → first ≡ second) → (first && same) ≡ (same && second)
swapped true true second eq = eq refl
swapped true false second eq = eq refl
swapped false true second eq = refl
swapped false false second eq = refl

-- a slot is among those that pass a test where it is among all and passes it
pub among_filter : (f : Slot → Bool) (xs : List Slot) (s : Slot) → is_among (filter f xs) s ≡ (is_among xs s && f s)
among_filter f xs s =
    any_filter (λ (x : Slot). x.0 == s.0) f xs
    ∙ any_same (λ (x : Slot). f x && (x.0 == s.0)) (λ (x : Slot). (x.0 == s.0) && f s)
    (λ x. swapped (x.0 == s.0) (f x) (f s) (λ test. ap f (same_slot x s test))) xs
    ∙ any_and (λ (x : Slot). x.0 == s.0) (f s) xs

pub rewritten : (r w f : Bool) → (((r || w) && f) && w) ≡ (w && f)
rewritten true true true = refl
rewritten true true false = refl
rewritten true false true = refl
rewritten true false false = refl
rewritten false true true = refl
rewritten false true false = refl
rewritten false false f = refl
