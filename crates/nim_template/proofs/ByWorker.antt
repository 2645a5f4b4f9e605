-- Entries moved to the lists of their workers, one at a time.
use Rattle.std.proofs.Common.{◌≡◌, ◌<◌, ℕ, zero, suc, ◌+◌, Bool, true, false, List, [], ◌∷◌, ◌++◌, get_or, set, map, refl, ap, ap₂, sym, ◌∙◌, arith, zero-add}
use Rattle.std.specs.Prelude.{◌==◌, if◌then◌else◌}
use Rattle.std.specs.List.{filter, range_with_len}
use Rattle.std.proofs.lemmas.Bool.{eq-eqb, ne_eqb}
use Rattle.std.proofs.lemmas.List.{append-nil}
use Rattle.std.proofs.lemmas.List.FromFn.{map-range_with_len_more}
use Rattle.nim_base.specs.declared.number.Worker.{Worker}
use Rattle.nim_command.specs.declared.entry.Entry.{Entry}
use Rattle.nim_command.specs.Ruled.{entries_by_rule}
use Rattle.nim_template.specs.Built.{all_halves, entries_by_worker, entries_for, half_for}

abbrev own_entry : Worker → Worker × Entry → List Entry
own_entry worker x = if x.0.0 == worker.0 then x.1 ∷ [] else []

only_one : (b : Bool) (x : Worker × Entry) → map (λ (e : Worker × Entry). e.1) (if b then x ∷ [] else []) ≡ (if b then x.1 ∷ [] else [])
only_one true x = refl
only_one false x = refl

first_kept : (b : Bool) (y : Worker × Entry) (more all : List (Worker × Entry)) (last : List Entry)
    → map (λ (e : Worker × Entry). e.1) more ≡ map (λ (e : Worker × Entry). e.1) all ++ last
    → map (λ (e : Worker × Entry). e.1) (if b then y ∷ more else more) ≡ map (λ (e : Worker × Entry). e.1) (if b then y ∷ all else all) ++ last
first_kept true y more all last is = ap (λ (l : List Entry). y.1 ∷ l) is
first_kept false y more all last is = is

-- one entry more
one_more : (worker : Worker) (es : List (Worker × Entry)) (x : Worker × Entry) → entries_for worker (es ++ x ∷ []) ≡ entries_for worker es ++ own_entry worker x
one_more worker [] x = only_one (x.0.0 == worker.0) x
one_more worker (y ∷ es) x =
    first_kept (y.0.0 == worker.0) y (filter (λ (e : Worker × Entry). e.0.0 == worker.0) (es ++ x ∷ []))
    (filter (λ (e : Worker × Entry). e.0.0 == worker.0) es) (own_entry worker x) (one_more worker es x)

-- the entries of a worker by its number
abbrev list_of : List (Worker × Entry) → ℕ → List Entry
list_of es n = entries_for (record { 0 = n }) es

abbrev behind : List (Worker × Entry) → ℕ → Entry → List (Worker × Entry)
behind es n e = es ++ (record { 0 = n }, e) ∷ []

more_own : (es : List (Worker × Entry)) (n m : ℕ) (e : Entry) → n ≡ m → list_of (behind es n e) m ≡ list_of es m ++ e ∷ []
more_own es n m e same =
    one_more (record { 0 = m }) es (record { 0 = n }, e)
    ∙ ap (λ (b : Bool). list_of es m ++ (if b then e ∷ [] else [])) (eq-eqb n m same)

more_other : (es : List (Worker × Entry)) (n m : ℕ) (e : Entry) → (n == m) ≡ false → list_of (behind es n e) m ≡ list_of es m
more_other es n m e differ =
    one_more (record { 0 = m }) es (record { 0 = n }, e)
    ∙ ap (λ (b : Bool). list_of es m ++ (if b then e ∷ [] else [])) differ
    ∙ append-nil (list_of es m)

others_same : (es : List (Worker × Entry)) (n from many : ℕ) (e : Entry) → n < from
    → map (list_of es) (range_with_len from many) ≡ map (list_of (behind es n e)) (range_with_len from many)
others_same es n from zero e below = refl
others_same es n from (suc many) e below =
    let rest : n < from + 1 = omega (arith, below) in
    ap₂ (λ (l : List Entry) (ls : List (List Entry)). l ∷ ls)
    (sym (more_other es n from e (ne_eqb n from (omega (arith, below))))) (others_same es n (from + 1) many e rest)

own_put : (es : List (Worker × Entry)) (from many k n : ℕ) (e : Entry) → n ≡ from + k
    → set (map (list_of es) (range_with_len from many)) k (get_or (map (list_of es) (range_with_len from many)) k [] ++ e ∷ [])
    ≡ map (list_of (behind es n e)) (range_with_len from many)
own_put es from zero k n e is = refl
own_put es from (suc many) zero n e is =
    let below : n < from + 1 = omega (arith, is) in
    ap₂ (λ (l : List Entry) (ls : List (List Entry)). l ∷ ls) (sym (more_own es n from e (omega (arith, is)))) (others_same es n (from + 1) many e below)
own_put es from (suc many) (suc k) n e is =
    let next : n ≡ from + 1 + k = omega (arith, is) in
    ap₂ (λ (l : List Entry) (ls : List (List Entry)). l ∷ ls)
    (sym (more_other es n from e (ne_eqb n from (omega (arith, is))))) (own_put es (from + 1) many k n e next)

-- an entry put behind those of its worker
pub moved : (workers : ℕ) (es : List (Worker × Entry)) (worker : Worker) (e : Entry) (now next : List (List Entry)) → now ≡ entries_by_worker workers es
    → next ≡ set now worker.0 (get_or now worker.0 [] ++ e ∷ []) → next ≡ entries_by_worker workers (es ++ (worker, e) ∷ [])
moved workers es worker e now next is put =
    put ∙ ap (λ (l : List (List Entry)). set l worker.0 (get_or l worker.0 [] ++ e ∷ [])) is ∙ own_put es 0 workers worker.0 worker.0 e (sym (zero-add worker.0))

-- a list without entries for one worker more
pub none_more : (n : ℕ) (now next : List (List Entry)) (own : List Entry) → now ≡ entries_by_worker n [] → own ≡ [] → next ≡ now ++ own ∷ []
    → next ≡ entries_by_worker (n + 1) []
none_more n now next own is none push =
    push ∙ ap₂ (λ (ls : List (List Entry)) (l : List Entry). ls ++ l ∷ []) is none ∙ sym (map-range_with_len_more (list_of []) 0 n n (omega arith))

halves_are : (es : List (Worker × Entry)) (from many : ℕ)
    → map (entries_by_rule []) (map (λ (n : ℕ). entries_for (record { 0 = n }) es) (range_with_len from many))
    ≡ map (λ (n : ℕ). half_for (record { 0 = n }) es) (range_with_len from many)
halves_are es from zero = refl
halves_are es from (suc many) = ap (λ (ls : List (List Entry)). half_for (record { 0 = from }) es ∷ ls) (halves_are es (from + 1) many)

-- the halves are the entries of each worker by the rule
pub halves_made : (workers : ℕ) (es : List (Worker × Entry)) (halves lists : List (List Entry)) → halves ≡ map (entries_by_rule []) lists
    → lists ≡ entries_by_worker workers es → halves ≡ all_halves workers es
halves_made workers es halves lists made are = made ∙ ap (map (entries_by_rule [])) are ∙ halves_are es 0 workers
