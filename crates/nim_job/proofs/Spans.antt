-- Where a machine finds the objects of variables.
use Rattle.std.proofs.Common.{◌≡◌, ℕ, ◌+◌, ◌<◌, ◌≤◌, zero, suc, true, List, [], ◌∷◌, ◌++◌, get_or, length, map, refl, ap, ap₂, sym, ◌∙◌, arith, Some}
use Rattle.std.specs.Prelude.{◌%◌, nat_le, slice_get}
use Rattle.std.specs.List.{list_all, range_with_len}
use Rattle.std.proofs.lemmas.Bool.{and_from, le-leb}
use Rattle.std.proofs.lemmas.List.Folds.{list_all-map}
use Rattle.std.specs.Option.{option_map_or}
use Rattle.nim_job.specs.declared.block.Place.TheVariants.{Fixed}
use Rattle.nim_job.specs.declared.job.Var.{Var}
use Rattle.nim_job.specs.declared.span.Span.{Span}
use Rattle.nim_job.specs.Machine.{is_span, span_object, span_of, spans_of}
use Rattle.nim_job.specs.Objects.{first_object, objects_of, parts_of}
use Rattle.nim_job.specs.Step.{object_of_part}
use Rattle.nim_job.specs.Whole.{are_vars}
use Rattle.nim_job.proofs.Lists.{all_more, pushed}
use Rattle.nim_job.proofs.Whole.{part_below, parts_there, vars_sizes}

get_range : {X : Type 0} (f : ℕ → X) (a n k : ℕ) → k < n → slice_get (map f (range_with_len a n)) k ≡ Some (f (a + k))
get_range f a zero k below = absurd (omega (arith, below))
get_range f a (suc n) zero below = let same : a ≡ a + 0 = omega arith in ap (λ (i : ℕ). Some (f i)) same
get_range f a (suc n) (suc k) below =
    let same : a + 1 + k ≡ a + suc k = omega arith in
    get_range f (a + 1) n k (omega (arith, below)) ∙ ap (λ (i : ℕ). Some (f i)) same

-- the object of a part is the one that is meant
pub span_meant : (vars : List Var) (var part : ℕ) → var < length vars → span_object (spans_of vars) var part ≡ object_of_part vars var part
span_meant vars var part there =
    let same : 0 + var ≡ var = omega arith in
    ap (λ o. record { 0 = option_map_or (λ (span : Span). span.first + part % span.parts) o 0 })
    (get_range (span_of vars) 0 (length vars) var there ∙ ap (λ (i : ℕ). Some (span_of vars i)) same)

-- and it is there
pub meant_there : (vars : List Var) (var part : ℕ) → are_vars vars ≡ true → var < length vars → (object_of_part vars var part).0 < objects_of vars
meant_there vars var part are there =
    let parts = parts_there vars var (vars_sizes vars are).1 there in
    let below = part_below (Fixed part) 0 (parts_of vars var) parts.0 in
    omega (arith, parts.2, below)

parts_at : (vars : List Var) (i : ℕ) (v : Var) → i < length vars → v ≡ get_or vars i v → parts_of vars i ≡ v.parts
parts_at [] i v within is = absurd (omega (arith, within))
parts_at (w ∷ vars) zero v within is = ap (λ (x : Var). x.parts) (sym is)
parts_at (w ∷ vars) (suc i) v within is = parts_at vars i v (omega (arith, within)) is

-- where the objects of one variable more are
pub span_at : (vars : List Var) (i first : ℕ) (v : Var) → i < length vars → v ≡ get_or vars i v → first ≡ first_object vars i
    → record { first = first; parts = v.parts } ≡ span_of vars i
span_at vars i first v within is begins =
    ap₂ (λ (f p : ℕ). let span : Span = record { first = f; parts = p } in span) begins (sym (parts_at vars i v within is))

span_fits : (vars : List Var) (i : ℕ) → are_vars vars ≡ true → i < length vars → is_span (span_of vars i) ≡ true
span_fits vars i are within =
    let sizes = vars_sizes vars are in
    let parts = parts_there vars i sizes.1 within in
    and_from (nat_le 1 (parts_of vars i)) (nat_le (first_object vars i + parts_of vars i) 512) (le-leb 1 (parts_of vars i) parts.0)
    (le-leb (first_object vars i + parts_of vars i) 512 (omega (arith, parts.2, sizes.0)))

spans_fit : (vars : List Var) (n : ℕ) → are_vars vars ≡ true → n ≤ length vars → list_all (λ (i : ℕ). is_span (span_of vars i)) (range_with_len 0 n) ≡ true
spans_fit vars zero are within = refl
spans_fit vars (suc n) are within =
    let more : suc n ≡ n + 1 = omega arith in
    ap (λ (k : ℕ). list_all (λ (i : ℕ). is_span (span_of vars i)) (range_with_len 0 k)) more
    ∙ all_more (λ (i : ℕ). is_span (span_of vars i)) n (spans_fit vars n are (omega (arith, within))) (span_fits vars n are (omega (arith, within)))

-- each variable has parts, and its objects can be counted
pub all_spans : (vars : List Var) → are_vars vars ≡ true → list_all is_span (spans_of vars) ≡ true
all_spans vars are = list_all-map is_span (span_of vars) (range_with_len 0 (length vars)) ∙ spans_fit vars (length vars) are (omega arith)

-- one variable more
pub spans_more : (vars : List Var) (spans next : List Span) (span : Span) (i : ℕ) → next ≡ spans ++ span ∷ [] → spans ≡ map (span_of vars) (range_with_len 0 i)
    → span ≡ span_of vars i
    → next ≡ map (span_of vars) (range_with_len 0 (i + 1))
spans_more vars spans next span i push before is = pushed (span_of vars) [] spans next span i push before is
