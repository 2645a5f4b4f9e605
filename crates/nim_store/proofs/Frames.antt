-- What a finite map of frames has, when a tree's entries have it.
use Rattle.std.proofs.Common.{◌≡◌, [], ◌∷◌, ℕ, cond, List, Option, None, Some, refl, ap, sym, ◌∙◌, filter}
use Rattle.std.proofs.lemmas.Cmp.{eq_by_cmp_equiv, nat_cmp_total, on_total, then_total}
use Rattle.std.proofs.lemmas.Map.Entries.{lookup-filter-keys}
use Rattle.std.proofs.lemmas.Map.Lookups.{CmpEqualImpliesEq, exact_pairs, exact_unsigned}
use Rattle.std.specs.BTreeMap.{is_at}
use Rattle.std.specs.Cmp.{IsTotalOrder}
use Rattle.std.specs.FinMap.{find, from_entries, get, insert, remove, retain_keys, same_map, get-from_entries, get-insert, get-remove, get-retain_keys}
use Rattle.std.specs.Map.{lookup}
use Rattle.std.specs.Ordering.{nat_cmp}
use Rattle.nim_store.specs.Keys.{from_numbers, is_not_before, key_cmp, key_numbers}
use Rattle.nim_store.specs.declared.key.Key.{Key}
use Rattle.nim_base.proofs.Lists.{is_equal}

-- keys that compare alike are one
pub exact_keys : CmpEqualImpliesEq key_cmp
exact_keys a b alike = ap from_numbers (exact_pairs nat_cmp _ exact_unsigned (exact_pairs nat_cmp _ exact_unsigned
    (exact_pairs nat_cmp _ exact_unsigned (exact_pairs nat_cmp nat_cmp exact_unsigned exact_unsigned))) (key_numbers a) (key_numbers b) alike)

pub keys_total : IsTotalOrder key_cmp
keys_total = then_total (on_total (λ k. k.epoch) nat_cmp_total) (then_total (on_total (λ k. k.instance) nat_cmp_total)
    (then_total (on_total (λ k. k.entry) nat_cmp_total)
    (then_total (on_total (λ k. k.object.0) nat_cmp_total) (on_total (λ k. k.version) nat_cmp_total))))

-- what entries have at a key
abbrev found : {X : Type 0} → List (Key × X) → Key → Option X
found es key = lookup (is_at (key_cmp key)) es

find_found : {X : Type 0} (es : List (Key × X)) (q : Key) → find key_cmp q es ≡ found es q
find_found [] q = refl
find_found (e ∷ es) q = ap (cond (is_at (key_cmp q) e.0) (Some e.1)) (find_found es q)

-- what the map that the entries make has at a key
pub get_found : {X : Type 0} (es : List (Key × X)) (q : Key) → get (from_entries {R = key_cmp} es) q ≡ found es q
get_found es q = get-from_entries keys_total es q ∙ find_found es q

-- entries that differ at one key make maps that differ there
pub one_kept : {X : Type 0} (es fs : List (Key × X)) (k : Key) (x : X)
    → ((q : Key) → found fs q ≡ cond (is_at (key_cmp k) q) (Some x) (found es q)) → from_entries {R = key_cmp} fs ≡ insert (from_entries es) k x
one_kept es fs k x differ = same_map keys_total exact_keys _ _ (λ q.
    get_found fs q ∙ differ q ∙ ap (λ b. cond b (Some x) (found es q)) ((eq_by_cmp_equiv keys_total).symm k q)
    ∙ sym (get-insert keys_total (from_entries es) k x q ∙ ap (cond (is_at (key_cmp q) k) (Some x)) (get_found es q)))

pub one_taken : {X : Type 0} (es fs : List (Key × X)) (k : Key)
    → ((q : Key) → found fs q ≡ cond (is_at (key_cmp k) q) None (found es q)) → from_entries {R = key_cmp} fs ≡ remove (from_entries es) k
one_taken es fs k differ = same_map keys_total exact_keys _ _ (λ q.
    get_found fs q ∙ differ q ∙ ap (λ b. cond b None (found es q)) ((eq_by_cmp_equiv keys_total).symm k q)
    ∙ sym (get-remove keys_total (from_entries es) k q ∙ ap (cond (is_at (key_cmp q) k) None) (get_found es q)))

-- entries of earlier epochs that are gone are gone from the map
pub forgotten : {X : Type 0} (es : List (Key × X)) (epoch : ℕ)
    → from_entries {R = key_cmp} (filter (λ e. is_not_before epoch e.0) es) ≡ retain_keys (from_entries es) (is_not_before epoch)
forgotten es epoch = same_map keys_total exact_keys _ _ (λ q.
    get_found (filter (λ e. is_not_before epoch e.0) es) q
    ∙ lookup-filter-keys (is_at (key_cmp q)) (is_not_before epoch) (is_not_before epoch q)
    (λ k at. ap (is_not_before epoch) (sym (exact_keys q k (is_equal (key_cmp q k) at)))) es
    ∙ sym (get-retain_keys (from_entries es) (is_not_before epoch) q (λ k alike. ap (is_not_before epoch) (sym (exact_keys q k alike)))
    ∙ ap (λ o. cond (is_not_before epoch q) o None) (get_found es q)))
