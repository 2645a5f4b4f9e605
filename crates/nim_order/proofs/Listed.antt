-- The commands of members, each with the places that it waits for.
use Rattle.std.proofs.Common.{◌≡◌, ℕ, zero, suc, ◌+◌, ◌<◌, Bool, true, List, [], ◌∷◌, length, refl, ap, ap₂, sym, subst, ◌∙◌, arith, Option, Some, inl, inr}
use Rattle.std.specs.Prelude.{◌==◌, ◌&&◌, ◌||◌, ◌⊎◌, nat_lt, slice_get}
use Rattle.std.specs.List.{filter, list_any, range_with_len}
use Rattle.std.specs.Option.{option_map_or}
use Rattle.std.proofs.lemmas.Bool.{and_from, eq-eqb, lt-ltb, or_left, or_right}
use Rattle.std.proofs.lemmas.Option.{none-some, same_Some}
use Rattle.nim_command.specs.declared.command.Command.{Command}
use Rattle.nim_command.specs.Covered.{is_reached, waits_at}
use Rattle.nim_command.specs.Waits.{Member, placed, waits_for, waits_of}
use Rattle.nim_base.proofs.Lists.{any_of_range}
use Rattle.nim_order.proofs.Items.{any_of_filter}
use Rattle.nim_order.proofs.Reach.{reached_more}

unfoldable pub listed : List Member → List Command
listed ms = placed ms (range_with_len 0 (length ms)) ms

-- a member as a command of the list
abbrev pub at_place : List Member → ℕ → Member → Command
at_place ms place m = record m.command { id = place; before = waits_of ms place }

length_from : (all : List Member) (a : ℕ) (ms : List Member) → length (placed all (range_with_len a (length ms)) ms) ≡ length ms
length_from all a [] = refl
length_from all a (m ∷ ms) = ap (λ (n : ℕ). suc n) (length_from all (a + 1) ms)

get_from : (all : List Member) (a : ℕ) (ms : List Member) (k : ℕ) (m : Member) → slice_get ms k ≡ Some m
    → slice_get (placed all (range_with_len a (length ms)) ms) k ≡ Some (at_place all (a + k) m)
get_from all a [] k m there = absurd (none-some m there)
get_from all a (x ∷ ms) zero m there =
    let same : a ≡ a + 0 = omega arith in ap₂ (λ (n : ℕ) (y : Member). Some (at_place all n y)) same (same_Some x m there)
get_from all a (x ∷ ms) (suc k) m there =
    let same : a + 1 + k ≡ a + suc k = omega arith in get_from all (a + 1) ms k m there ∙ ap (λ (n : ℕ). Some (at_place all n m)) same

pub length_listed : (ms : List Member) → length (listed ms) ≡ length ms
unfolding listed
length_listed ms = length_from ms 0 ms

pub get_listed : (ms : List Member) (k : ℕ) (m : Member) → slice_get ms k ≡ Some m → slice_get (listed ms) k ≡ Some (at_place ms k m)
unfolding listed
get_listed ms k m there = let same : 0 + k ≡ k = omega arith in get_from ms 0 ms k m there ∙ ap (λ (n : ℕ). Some (at_place ms n m)) same

-- one wait, and what is reached from there
pub wait_reaches : (ms : List Member) (later place earlier : ℕ) (l : Member) → slice_get ms later ≡ Some l → place < later → waits_for ms later place ≡ true
    → (place ≡ earlier) ⊎ (is_reached place (listed ms) place earlier ≡ true) → is_reached later (listed ms) later earlier ≡ true
wait_reaches ms zero place earlier l there less waits more = absurd (omega arith)
wait_reaches ms (suc m) place earlier l there less waits more =
    let goes : ℕ → Bool = λ x. (x == earlier) || is_reached m (listed ms) x earlier in
    let leads : goes place ≡ true = elim more [
      | inl same ↦ or_left (place == earlier) (is_reached m (listed ms) place earlier) (eq-eqb place earlier same)
      | inr reached ↦
          or_right (place == earlier) (is_reached m (listed ms) place earlier) (reached_more (listed ms) place m place earlier (omega arith) reached)
    ] in
    let is : waits_at (listed ms) (suc m) ≡ filter (λ x. nat_lt x (suc m)) (waits_of ms (suc m)) =
    ap (λ (o : Option Command). filter (λ x. nat_lt x (suc m)) (option_map_or (λ (c : Command). c.before) o [])) (get_listed ms (suc m) l there) in
    subst (λ (waits : List ℕ). list_any goes waits ≡ true) (sym is)
    (any_of_filter goes (λ x. nat_lt x (suc m)) (waits_of ms (suc m))
    (any_of_filter (λ x. nat_lt x (suc m) && goes x) (waits_for ms (suc m)) (range_with_len 0 (suc m))
    (any_of_range (λ x. waits_for ms (suc m) x && (nat_lt x (suc m) && goes x)) 0 (suc m) place (omega arith) (omega arith)
    (and_from (waits_for ms (suc m) place) (nat_lt place (suc m) && goes place) waits
    (and_from (nat_lt place (suc m)) (goes place) (lt-ltb place (suc m) less) leads)))))
