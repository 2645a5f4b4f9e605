-- Where the map has main slots.
use Rattle.std.proofs.Common.{◌≡◌, ℕ, zero, suc, ◌+◌, ◌-◌, ◌*◌, ◌<◌, Bool, true, false, List, length, get_or, refl, ap, ap₂, sym, ◌∙◌, arith}
use Rattle.std.specs.Prelude.{◌&&◌, nat_lt, if◌then◌else◌, Option, None, Some}
use Rattle.std.proofs.lemmas.Bool.{false≢true, ltb-true}
use Rattle.std.proofs.lemmas.List.{get_or_read_under}
use Rattle.std.proofs.lemmas.Nat.{mul-add-lt}
use Rattle.nim_base.specs.declared.number.Object.{Object}
use Rattle.nim_base.specs.declared.number.Slot.{Slot}
use Rattle.nim_base.specs.declared.number.Worker.{Worker}
use Rattle.nim_place.specs.Versions.{Versions, held_at, holder_from, is_current, is_kept, place_of}

pub both_true : (a b : Bool) → (a && b) ≡ true → (a ≡ true) × (b ≡ true)
both_true true b is = (refl, is)
both_true false b is = absurd (false≢true is)

-- the place of a slot that the map has
pub place_within : (seen versions : Versions) (worker : Worker) (slot : Slot) (kept : Bool) (place size : ℕ) → seen ≡ versions → kept ≡ true
    → kept ≡ is_kept versions worker slot → place ≡ place_of versions worker slot → size ≡ seen.objects * seen.workers → place < size
place_within seen versions worker slot kept place size same is test there all =
    let each = both_true (nat_lt worker.0 versions.workers) (nat_lt slot.0 versions.objects) (sym test ∙ is) in
    let row = ltb-true worker.0 versions.workers each.0 in
    let column = ltb-true slot.0 versions.objects each.1 in
    let below = mul-add-lt worker.0 versions.objects slot.0 versions.workers row column in
    let sizes = ap (λ (v : Versions). v.objects * v.workers) same in
    omega (arith, below, sizes, there, all)

-- what a slot that the map has holds
pub held_there : (held : List (Option ℕ)) (seen versions : Versions) (worker : Worker) (slot : Slot) (kept : Bool) (place size : ℕ) (found : Option ℕ)
    → seen ≡ versions → kept ≡ true
    → kept ≡ is_kept versions worker slot → place ≡ place_of versions worker slot → size ≡ seen.objects * seen.workers → held ≡ seen.held → length held ≡ size
    → found ≡ get_or held place found → found ≡ held_at versions worker slot
held_there held seen versions worker slot kept place size found same is test there all in_map long read =
    let within = place_within seen versions worker slot kept place size same is test there all in
    let chosen : Bool → Option ℕ = λ b. if b then get_or versions.held (place_of versions worker slot) None else None in
    get_or_read_under held place size found None read within (sym long)
    ∙ ap₂ (λ (all : List (Option ℕ)) (at : ℕ). get_or all at None) (in_map ∙ ap (λ (v : Versions). v.held) same) there
    ∙ ap chosen (sym is ∙ test)

-- one worker further, where one doesn't hold the latest version
pub holder_more : (versions : Versions) (object : Object) (from more : ℕ) (next : Option Worker) → more ≡ versions.workers - from → from < versions.workers
    → is_current versions object (record { 0 = from }) ≡ false → holder_from versions object from more ≡ next
    → holder_from versions object (from + 1) (versions.workers - (from + 1)) ≡ next
holder_more versions object from zero next is within test before = absurd (omega arith)
holder_more versions object from (suc more) next is within test before =
    let rest : versions.workers - (from + 1) ≡ more = omega arith in
    let turned : Bool → Option Worker = λ b. if b then Some (record { 0 = from }) else holder_from versions object (from + 1) more in
    ap (λ (n : ℕ). holder_from versions object (from + 1) n) rest
    ∙ sym (ap turned test) ∙ before
