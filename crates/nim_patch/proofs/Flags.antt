-- One more flag is set, and read.
use Rattle.std.proofs.Common.{◌≡◌, ℕ, ◌+◌, ◌<◌, Bool, List, [], ◌∷◌, ◌++◌, map, length, get_or, take, drop, set, ap, sym, ◌∙◌, arith, append_assoc, length-take-le}
use Rattle.std.proofs.lemmas.List.{drop_more, get_or-map, length-map, map_more, set_at}

pub flag_more : {X : Type 0} (f : X → Bool) (xs : List X) (flags all : List Bool) (i : ℕ) (d : X) (flag : Bool)
    → flags ≡ map f (take i xs) ++ drop i all → length all ≡ length xs → i < length xs → flag ≡ f (get_or xs i d)
    → set flags i flag ≡ map f (take (i + 1) xs) ++ drop (i + 1) all
flag_more f xs flags all i d flag so_far long within told =
    let past : length (map f (take i xs)) ≡ i = length-map (take i xs) f ∙ length-take-le i xs (omega arith) in
    let more : map f (take (i + 1) xs) ++ drop (i + 1) all ≡ map f (take i xs) ++ f (get_or xs i d) ∷ drop (i + 1) all
    = ap (λ (l : List Bool). l ++ drop (i + 1) all) (map_more f xs i d within)
    ∙ append_assoc (map f (take i xs)) (f (get_or xs i d) ∷ []) (drop (i + 1) all) in
    let there : i < length all = omega (arith, long, within) in
    ap (λ (l : List Bool). set l i flag) (so_far ∙ ap (λ (l : List Bool). map f (take i xs) ++ l) (drop_more all i flag there))
    ∙ set_at (map f (take i xs)) (get_or all i flag) (drop (i + 1) all) flag i past
    ∙ ap (λ (b : Bool). map f (take i xs) ++ b ∷ drop (i + 1) all) told
    ∙ sym more

pub flag_read : {X : Type 0} (f : X → Bool) (xs : List X) (flags : List Bool) (i : ℕ) (d : X) (e : Bool) → flags ≡ map f xs → i < length xs
    → get_or flags i e ≡ f (get_or xs i d)
flag_read f xs flags i d e are within = ap (λ (l : List Bool). get_or l i e) are ∙ get_or-map f xs i d e within
