-- The first object that a form writes.
use Rattle.std.proofs.Common.{◌≡◌, ℕ, zero, suc, ◌<◌, ◌≤◌, Bool, true, false, List, [], ◌∷◌, length, get_or, slice_get, ap, arith, refl, subst, sym}
use Rattle.std.proofs.Common.{◌∙◌}
use Rattle.std.specs.Prelude.{IsSomeAnd, nat_le, nat_lt, ◌==◌, ◌&&◌, ◌||◌}
use Rattle.std.specs.List.{list_all}
use Rattle.std.proofs.lemmas.Bool.{eqb-true, false≢true, leb-true, ltb-true}
use Rattle.nim_base.specs.declared.number.Object.{Object}
use Rattle.nim_base.specs.declared.task.TaskForm.{TaskForm}
use Rattle.nim_place.specs.Schedule.{is_one_of}
use Rattle.nim_place.proofs.Places.{both_true}
use Rattle.nim_template.specs.Fits.{are_below, is_fit}

-- there is a first object, and it is below the number of objects
abbrev pub IsFirstBelow : ℕ → List Object → Type 0
IsFirstBelow objects all = IsSomeAnd (slice_get all 0) (λ (object : Object). object.0 < objects)

first_below : (objects : ℕ) (all : List Object) → nat_le 1 (length all) ≡ true → are_below objects all ≡ true → IsFirstBelow objects all
first_below objects [] some below = absurd (false≢true some)
first_below objects (first ∷ rest) some below = ltb-true first.0 objects (both_true (nat_lt first.0 objects) (are_below objects rest) below).0

pub first_written : (objects : ℕ) (form : TaskForm) → is_fit objects form ≡ true → IsFirstBelow objects form.writes
first_written objects form fit =
    let some : Bool = nat_le 1 (length form.writes) in
    let few : Bool = nat_le (length form.writes) 2 in
    let reads : Bool = nat_le (length form.reads) 8 in
    let below : Bool = are_below objects form.writes in
    let front = (both_true (((some && few) && reads) && below) (are_below objects form.reads) fit).0 in
    let counts = both_true ((some && few) && reads) below front in
    first_below objects form.writes (both_true some few (both_true (some && few) reads counts.0).0).0 counts.1

-- the first object that one of the forms writes
pub first_of : (objects : ℕ) (forms : List TaskForm) (at : ℕ) (form : TaskForm) → list_all (is_fit objects) forms ≡ true → at < length forms
    → form ≡ get_or forms at form → IsFirstBelow objects form.writes
first_of objects [] at form all within is = absurd (omega arith)
first_of objects (f ∷ fs) zero form all within is =
    first_written objects form (ap (is_fit objects) is ∙ (both_true (is_fit objects f) (list_all (is_fit objects) fs) all).0)
first_of objects (f ∷ fs) (suc at) form all within is =
    first_of objects fs at form (both_true (is_fit objects f) (list_all (is_fit objects) fs) all).1 (omega (arith, within)) is

-- the same of as many objects
pub first_within : (objects more : ℕ) (all : List Object) → more ≡ objects → IsFirstBelow objects all → IsFirstBelow more all
first_within objects more all same below = subst (λ (n : ℕ). IsFirstBelow n all) (sym same) below

-- a form reads few objects
pub few_reads : (objects : ℕ) (form : TaskForm) → is_fit objects form ≡ true → length form.reads ≤ 8
few_reads objects form fit =
    let counts : Bool = nat_le 1 (length form.writes) && nat_le (length form.writes) 2 in
    let reads : Bool = nat_le (length form.reads) 8 in
    let front = (both_true ((counts && reads) && are_below objects form.writes) (are_below objects form.reads) fit).0 in
    leb-true (length form.reads) 8 (both_true counts reads (both_true (counts && reads) (are_below objects form.writes) front).0).1

below_of : (objects : ℕ) (all : List Object) (object : Object) → are_below objects all ≡ true → is_one_of all object ≡ true → object.0 < objects
below_of objects [] object below is = absurd (false≢true is)
below_of objects (first ∷ rest) object below is =
    let each = both_true (nat_lt first.0 objects) (are_below objects rest) below in
    either (first.0 == object.0) refl is each.0 (below_of objects rest object each.1) where
      either : (b : Bool) → (first.0 == object.0) ≡ b → (b || is_one_of rest object) ≡ true → nat_lt first.0 objects ≡ true
          → (is_one_of rest object ≡ true → object.0 < objects) → object.0 < objects
      either true same one low later = subst (λ (n : ℕ). n < objects) (eqb-true first.0 object.0 same) (ltb-true first.0 objects low)
      either false same one low later = later one

-- what a form reads is below the number of objects
pub read_below : (objects : ℕ) (form : TaskForm) (object : Object) → is_fit objects form ≡ true → is_one_of form.reads object ≡ true → object.0 < objects
read_below objects form object fit is =
    let counts : Bool = nat_le 1 (length form.writes) && nat_le (length form.writes) 2 in
    let front : Bool = (counts && nat_le (length form.reads) 8) && are_below objects form.writes in
    below_of objects form.reads object (both_true front (are_below objects form.reads) fit).1 is
