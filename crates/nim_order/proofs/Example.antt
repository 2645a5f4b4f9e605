-- The commands of the table in docs/WAITS.md: one slot is made, sent, rewritten by a task, reported, and received anew.
use Rattle.std.proofs.Common.{◌≡◌, ℕ, List, [], ◌∷◌, refl}
use Rattle.nim_base.specs.declared.number.Slot.{Slot}
use Rattle.nim_command.specs.Before.{Footprint, befores_of}

slot : List ℕ → List Slot
slot [] = []
slot (n ∷ ns) = record { 0 = n } ∷ slot ns

print : ℕ → List ℕ → List ℕ → Footprint
unfolding slot
print number reads writes = record { number = number; reads = slot reads; writes = slot writes }

befores : befores_of
    (print 0 [] (0 ∷ []) ∷ print 1 (0 ∷ []) [] ∷ print 2 (0 ∷ 1 ∷ []) (0 ∷ []) ∷ print 3 (0 ∷ []) [] ∷ print 4 [] (0 ∷ []) ∷ [])
    ≡ [] ∷ (0 ∷ []) ∷ (0 ∷ 1 ∷ []) ∷ (2 ∷ []) ∷ (2 ∷ 3 ∷ []) ∷ []
unfolding slot print
befores = refl
