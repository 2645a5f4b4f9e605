-- The text of rows, row by row and cell by cell.
use Rattle.std.proofs.Common.{◌≡◌, ◌+◌, ◌<◌, ℕ, ℤ, pos, List, [], ◌∷◌, ◌++◌, length, map, drop, get_or, sym, ◌∙◌, ap}
use Rattle.std.specs.Fmt.{signed_decimal}
use Rattle.std.specs.List.{flat_map, join_with_byte}
use Rattle.std.proofs.lemmas.List.{append-nil, append_assoc, at_drop_more}

-- a cell after the first
abbrev pub later : ℤ → List ℕ
later cell = 32 ∷ signed_decimal cell

-- the first cell, and each other with its space
pub joined : (cell : ℤ) (cells : List ℤ) → join_with_byte 32 (map signed_decimal (cell ∷ cells)) ≡ signed_decimal cell ++ flat_map later cells
joined cell [] = sym (append-nil (signed_decimal cell))
joined cell (next ∷ cells) = ap (λ (more : List ℕ). signed_decimal cell ++ 32 ∷ more) (joined next cells)

pub later-step : (text : List ℕ) (cells : List ℤ) (i : ℕ) → i < length cells
    → text ++ flat_map later (drop i cells) ≡ ((text ++ 32 ∷ []) ++ signed_decimal (get_or cells i (pos 0))) ++ flat_map later (drop (i + 1) cells)
later-step text cells i more =
    let next : flat_map later (drop i cells) ≡ later (get_or cells i (pos 0)) ++ flat_map later (drop (i + 1) cells) =
    at_drop_more (flat_map later) cells i (pos 0) more in
    ap (λ (after : List ℕ). text ++ after) next
    ∙ sym (append_assoc (text ++ 32 ∷ []) (signed_decimal (get_or cells i (pos 0))) (flat_map later (drop (i + 1) cells))
    ∙ append_assoc text (32 ∷ []) (signed_decimal (get_or cells i (pos 0)) ++ flat_map later (drop (i + 1) cells)))
