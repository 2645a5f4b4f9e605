-- What a map of lists by number has after one is put into it.
use Rattle.std.proofs.Common.{◌≡◌, ℕ, List, [], arith}
use Rattle.std.specs.Prelude.{Some, unwrap_or}
use Rattle.std.specs.BTreeMap.{BTreeMap, Updates, get}
use Rattle.std.specs.Ordering.{nat_cmp}
use Rattle.std.proofs.lemmas.Grind.{common_steps}
use Rattle.nim_message.specs.Orders.{with_list}

pub list_put : {X : Type 0} (old new : BTreeMap ℕ (List X)) (number : ℕ) (list : List X) → Updates nat_cmp old new number (Some list) → (other : ℕ)
    → unwrap_or (get nat_cmp new other) [] ≡ with_list number list (λ n. unwrap_or (get nat_cmp old n) []) other
list_put old new number list updates other = grind (arith, common_steps)
