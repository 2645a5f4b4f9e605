-- The home of what a task writes is live.
use Rattle.std.proofs.Common.{◌≡◌, ℕ, ◌≤◌, Bool, true, false, List, [], ◌∷◌, length, refl, arith}
use Rattle.std.specs.Prelude.{nat_lt, slice_get, slice_index_or}
use Rattle.std.specs.List.{list_any}
use Rattle.std.specs.Option.{option_map_or}
use Rattle.std.proofs.lemmas.Bool.{cond_both, ltb-true}
use Rattle.nim_base.specs.declared.number.Object.{Object}
use Rattle.nim_base.specs.declared.task.Task.{Task}
use Rattle.nim_place.specs.declared.placement.Placement.{Placement}
use Rattle.nim_place.specs.Extends.{is_live}
use Rattle.nim_place.specs.Placement.{home, live_ahead, preferred}
use Rattle.nim_place.specs.Schedule.{owner_of}
use Rattle.nim_place.proofs.Live.{ahead_within}
use Rattle.nim_template.proofs.InTurn.{ahead_live}

-- where one is live, a home is
pub home_live : (place : Placement) (object : Object) (objects : ℕ) (live : List Bool) → list_any (λ (flag : Bool). flag) live ≡ true
    → is_live live (home place object objects live) ≡ true
home_live place object objects live some =
    let from : ℕ = preferred place object.0 objects (length live) in
    cond_both (nat_lt (live_ahead live from) (length live)) (live_ahead live from) (live_ahead live 0) (λ (n : ℕ). slice_index_or live n false ≡ true)
    (λ is. ahead_live live from (ltb-true (live_ahead live from) (length live) is))
    (λ is. ahead_live live 0 (ahead_within live (live_ahead live 0) some refl))

first_live : (place : Placement) (writes : List Object) (objects : ℕ) (live : List Bool) → list_any (λ (flag : Bool). flag) live ≡ true → 1 ≤ length writes
    → is_live live (option_map_or (λ (object : Object). home place object objects live) (slice_get writes 0) (record { 0 = 0 })) ≡ true
first_live place [] objects live some least = absurd (omega (arith, least))
first_live place (object ∷ writes) objects live some least = home_live place object objects live some

pub owner_live : (place : Placement) (task : Task) (objects : ℕ) (live : List Bool) → list_any (λ (flag : Bool). flag) live ≡ true → 1 ≤ length task.writes
    → is_live live (owner_of place task objects live) ≡ true
owner_live place task objects live some least = first_live place task.writes objects live some least
