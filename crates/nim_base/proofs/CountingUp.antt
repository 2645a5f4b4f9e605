-- Numbers that count up.
use Rattle.std.proofs.Common.{◌≡◌, ℕ, ◌+◌, ◌-◌, ◌<◌, zero, suc, ℤ, pos, List, [], ◌∷◌, ◌++◌, length, refl, sym, ◌∙◌, ap, arith}
use Rattle.std.specs.Int.{int_wrapping_add, w64}
use Rattle.std.proofs.lemmas.List.{append_assoc}
use Rattle.nim_base.specs.Value.{counting_up}

pub length-counted : (n : ℕ) (first : ℤ) → length (counting_up n first) ≡ n
length-counted zero first = refl
length-counted (suc n) first = ap suc (length-counted n (int_wrapping_add w64 first (pos 1)))

pub counted-step : (cells : List ℤ) (n i : ℕ) (next : ℤ) → i < n
    → (cells ++ next ∷ []) ++ counting_up (n - (i + 1)) (int_wrapping_add w64 next (pos 1)) ≡ cells ++ counting_up (n - i) next
counted-step cells n i next more =
    let left : n - i ≡ suc (n - (i + 1)) = omega arith in
    append_assoc cells (next ∷ []) (counting_up (n - (i + 1)) (int_wrapping_add w64 next (pos 1)))
    ∙ ap (λ k. cells ++ counting_up k next) (sym left)
