-- The first live worker of all.
use Rattle.std.proofs.Common.{◌≡◌, ℕ, ◌<◌, Bool, true, false, List, [], ◌∷◌, length, arith}
use Rattle.std.specs.List.{list_any, position_or_len}
use Rattle.std.proofs.lemmas.Bool.{false≢true}
use Rattle.nim_place.specs.Placement.{live_ahead}

first_there : (live : List Bool) → list_any (λ (flag : Bool). flag) live ≡ true → position_or_len (λ (flag : Bool). flag) live < length live
first_there [] some = absurd (false≢true some)
first_there (true ∷ live) some = omega arith
first_there (false ∷ live) some = let rest = first_there live some in omega arith

-- where one is live, the first live one is there
pub ahead_within : (live : List Bool) (at : ℕ) → list_any (λ (flag : Bool). flag) live ≡ true → at ≡ live_ahead live 0 → at < length live
ahead_within live at some is = let there = first_there live some in omega arith
