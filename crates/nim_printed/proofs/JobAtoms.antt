-- What the statements of a printed job read and set: it is read back, it is known, and it can be printed.
use Rattle.std.proofs.Common.{◌≡◌, ℕ, ◌+◌, ◌≤◌, ◌<◌, true, false, cond, List, [], ◌∷◌, ◌++◌, length, refl, ap, ap₂, sym, ◌∙◌, arith, Option, None, Some, inl, inr}
use Rattle.std.specs.Prelude.{◌&&◌, ◌==◌, nat_lt}
use Rattle.std.specs.List.{list_all, list_any}
use Rattle.std.proofs.lemmas.Bool.{and_from, and_parts, cases_lt, cond-false, cond-true, eqb-true, le-ltb, lt-ltb, ltb-true, or_from}
use Rattle.std.proofs.lemmas.List.FromFn.{length-map-range_with_len, map-range_with_len_more}
use Rattle.std.proofs.lemmas.Option.{cond_some, same_Some}
use Rattle.nim_job.specs.declared.job.Job.{Job}
use Rattle.nim_job.specs.declared.stmt.Arith.{Arith}
use Rattle.nim_job.specs.declared.stmt.Arith.TheVariants as arith_is
use Rattle.nim_job.specs.declared.stmt.Atom.{Atom as job_atom}
use Rattle.nim_job.specs.declared.stmt.Atom.TheVariants as atom
use Rattle.nim_job.specs.declared.stmt.Cmp.{Cmp}
use Rattle.nim_job.specs.declared.stmt.Cmp.TheVariants as cmp
use Rattle.nim_job.specs.declared.stmt.Cond.{Cond}
use Rattle.nim_job.specs.Whole as whole
use Rattle.nim_check.specs.declared.body.Names.{Names}
use Rattle.nim_check.specs.Body.{arith_of, atom_of, cmp_of, cond_of, first_of, rest_of}
use Rattle.nim_check.specs.Names.{Word, has_twice, is_in, reserved}
use Rattle.nim_check.specs.Rules.{condition_reads, is_known, value_reads}
use Rattle.nim_check.specs.declared.scope.Scope.{Scope}
use Rattle.nim_check.specs.DriverPlaces.{with_scalar}
use Rattle.nim_printed.specs.Printer.{atom_for, condition_for, operator_for, relation_for, scalar_name, value_for}
use Rattle.nim_printed.specs.Spelled as spelled
use Rattle.nim_printed.specs.Trees as trees
use Rattle.nim_printed.proofs.JobBlocks.{names_of_blocks}
use Rattle.nim_printed.proofs.JobNames.{apart, first_names, name_in, name_place, not_reserved, scalar_free, scalars_apart}
use Rattle.nim_printed.proofs.JobVars.{names_of_vars}

abbrev pub scalars : ℕ → List Word
scalars n = first_names scalar_name n

pub scalars_length : (n : ℕ) → length (scalars n) ≡ n
scalars_length n = length-map-range_with_len scalar_name 0 n

-- what statements did that set so many scalars and left so many open
abbrev pub scope_at : ℕ → ℕ → Scope
scope_at depth k = record { scalars = scalars k; depth = depth }

-- the names of a job with so many scalars
abbrev pub names_at : Job → ℕ → Names
names_at job n = record { vars = names_of_vars job.vars; blocks = names_of_blocks job.blocks; scalars = scalars n }

-- ---- atoms

pub scalar_place : (job : Job) (n s : ℕ) → s < n → n ≤ 64 → atom_of (names_at job n) (atom_for (atom.Scalar s)) ≡ atom.Scalar s
scalar_place job n s there few = ap atom.Scalar (name_place scalar_name n s there (scalars_apart n few))

pub atom_back : (job : Job) (k n : ℕ) → k ≤ n → n ≤ 64 → (a : job_atom) → whole.is_atom k a ≡ true → atom_of (names_at job n) (atom_for a) ≡ a
atom_back job k n more few (atom.Const number) is = refl
atom_back job k n more few (atom.Scalar s) is =
    let there : s < k = ltb-true s k is in
    scalar_place job n s (omega arith) few

pub atom_known : (k : ℕ) (a : job_atom) → whole.is_atom k a ≡ true → is_known (scalars k) (atom_for a) ≡ true
atom_known k (atom.Const number) is = refl
atom_known k (atom.Scalar s) is = name_in scalar_name k s (ltb-true s k is)

pub atom_printed : (k : ℕ) → k ≤ 64 → (a : job_atom) → whole.is_atom k a ≡ true → spelled.is_spelled_atom a ≡ true → trees.is_printable_atom (atom_for a) ≡ true
atom_printed k few (atom.Const number) is spells = spells
atom_printed k few (atom.Scalar s) is spells =
    let there : s < k = ltb-true s k is in
    scalar_free s (omega arith)

-- ---- values

arith_back : (a : Arith) → arith_of (operator_for a) ≡ a
arith_back arith_is.Plus = refl
arith_back arith_is.Minus = refl
arith_back arith_is.Times = refl
arith_back arith_is.Divide = refl
arith_back arith_is.Remainder = refl

pub first_back : (job : Job) (k n : ℕ) → k ≤ n → n ≤ 64 → (first : job_atom) (rest : Option (Arith × job_atom)) → whole.is_atom k first ≡ true
    → first_of (names_at job n) (value_for first rest) ≡ first
first_back job k n more few first None is = atom_back job k n more few first is
first_back job k n more few first (Some rest) is = atom_back job k n more few first is

pub rest_back : (job : Job) (k n : ℕ) → k ≤ n → n ≤ 64 → (first : job_atom) (rest : Option (Arith × job_atom)) → whole.is_rest k rest ≡ true
    → rest_of (names_at job n) (value_for first rest) ≡ rest
rest_back job k n more few first None is = refl
rest_back job k n more few first (Some rest) is =
    ap₂ (λ (a : Arith) (x : job_atom). let pair : Arith × job_atom = (a, x) in Some pair) (arith_back rest.0) (atom_back job k n more few rest.1 is)

pub value_known : (k : ℕ) (first : job_atom) (rest : Option (Arith × job_atom)) → whole.is_atom k first ≡ true → whole.is_rest k rest ≡ true
    → list_all (is_known (scalars k)) (value_reads (value_for first rest)) ≡ true
value_known k first None is rest_is = and_from (is_known (scalars k) (atom_for first)) true (atom_known k first is) refl
value_known k first (Some rest) is rest_is =
    and_from (is_known (scalars k) (atom_for first)) (is_known (scalars k) (atom_for rest.1) && true) (atom_known k first is)
    (and_from (is_known (scalars k) (atom_for rest.1)) true (atom_known k rest.1 rest_is) refl)

pub value_printed : (k : ℕ) → k ≤ 64 → (first : job_atom) (rest : Option (Arith × job_atom)) → whole.is_atom k first ≡ true → whole.is_rest k rest ≡ true
    → spelled.is_spelled_atom first ≡ true
    → spelled.is_spelled_rest rest ≡ true → trees.is_printable_value (value_for first rest) ≡ true
value_printed k few first None is rest_is spells rest_spells = atom_printed k few first is spells
value_printed k few first (Some rest) is rest_is spells rest_spells =
    and_from (trees.is_printable_atom (atom_for first)) (trees.is_printable_atom (atom_for rest.1)) (atom_printed k few first is spells)
    (atom_printed k few rest.1 rest_is rest_spells)

-- ---- conditions

cmp_back : (c : Cmp) → cmp_of (relation_for c) ≡ c
cmp_back cmp.Less = refl
cmp_back cmp.AtMost = refl
cmp_back cmp.Equal = refl
cmp_back cmp.Differs = refl
cmp_back cmp.Greater = refl
cmp_back cmp.AtLeast = refl

pub cond_back : (job : Job) (k n : ℕ) → k ≤ n → n ≤ 64 → (c : Cond) → whole.is_cond k c ≡ true → cond_of (names_at job n) (condition_for c) ≡ c
cond_back job k n more few c is =
    let parts = and_parts (whole.is_atom k c.left) (whole.is_atom k c.right) is in
    let right = atom_of (names_at job n) (atom_for c.right) in
    ap₂ (λ (left : job_atom) (is : Cmp). record c { left = left; cmp = is; right = right }) (atom_back job k n more few c.left parts.0) (cmp_back c.cmp)
    ∙ ap (λ (r : job_atom). record c { right = r }) (atom_back job k n more few c.right parts.1)

pub cond_known : (k : ℕ) (c : Cond) → whole.is_cond k c ≡ true → list_all (is_known (scalars k)) (condition_reads (condition_for c)) ≡ true
cond_known k c is =
    let parts = and_parts (whole.is_atom k c.left) (whole.is_atom k c.right) is in
    and_from (is_known (scalars k) (atom_for c.left)) (is_known (scalars k) (atom_for c.right) && true) (atom_known k c.left parts.0)
    (and_from (is_known (scalars k) (atom_for c.right)) true (atom_known k c.right parts.1) refl)

pub cond_printed : (k : ℕ) → k ≤ 64 → (c : Cond) → whole.is_cond k c ≡ true → spelled.is_spelled_cond c ≡ true → trees.is_condition (condition_for c) ≡ true
cond_printed k few c is spells =
    let parts = and_parts (whole.is_atom k c.left) (whole.is_atom k c.right) is in
    let spelled_parts = and_parts (spelled.is_spelled_atom c.left) (spelled.is_spelled_atom c.right) spells in
    and_from (trees.is_printable_atom (atom_for c.left)) (trees.is_printable_atom (atom_for c.right)) (atom_printed k few c.left parts.0 spelled_parts.0)
    (atom_printed k few c.right parts.1 spelled_parts.1)

-- ---- scalars that are set

one_more : (k : ℕ) → scalars (k + 1) ≡ scalars k ++ scalar_name k ∷ []
one_more k = map-range_with_len_more scalar_name 0 k k (omega arith)

new_scalar : (k : ℕ) → k < 64 → with_scalar (scalars k) (scalar_name k) ≡ scalars (k + 1)
new_scalar k few =
    let once : has_twice (scalars k ++ scalar_name k ∷ []) ≡ false = ap has_twice (sym (one_more k)) ∙ scalars_apart (k + 1) (omega arith) in
    cond-false (is_in (scalars k) (scalar_name k)) (scalars k) (scalars k ++ scalar_name k ∷ []) (apart (scalars k) (scalar_name k) [] once) ∙ sym (one_more k)

-- A scalar that may be set is among those that are set then.
pub record Sets (k s behind : ℕ) : Type 0 where
  pub there : s < behind
  pub grows : k ≤ behind
  pub few : behind ≤ 64
  pub scalars_are : with_scalar (scalars k) (scalar_name s) ≡ scalars behind

pub sets : (k s behind : ℕ) → k ≤ 64 → whole.set_at k s ≡ Some behind → Sets k s behind
sets k s behind few set =
    let next = cond ((s == k) && nat_lt s 64) (Some (k + 1)) None in
    elim (cases_lt s k) [
      | inl old ↦
          let same : k ≡ behind = same_Some k behind (sym (cond-true (nat_lt s k) (Some k) next (lt-ltb s k old)) ∙ set) in
          record {
            there = omega arith;
            grows = omega arith;
            few = omega arith;
            scalars_are =
                cond-true (is_in (scalars k) (scalar_name s)) (scalars k) (scalars k ++ scalar_name s ∷ []) (name_in scalar_name k s old) ∙ ap scalars same;
          }
      | inr later ↦
          let found = cond_some ((s == k) && nat_lt s 64) (k + 1) behind (sym (cond-false (nat_lt s k) (Some k) next (le-ltb s k later)) ∙ set) in
          let parts = and_parts (s == k) (nat_lt s 64) found.0 in
          let is : s ≡ k = eqb-true s k parts.0 in
          let within : s < 64 = ltb-true s 64 parts.1 in
          let same : k + 1 ≡ behind = found.1 in
          record {
            there = omega arith;
            grows = omega arith;
            few = omega arith;
            scalars_are = ap (λ (x : ℕ). with_scalar (scalars k) (scalar_name x)) is ∙ new_scalar k (omega arith) ∙ ap scalars same;
          }
    ]

pub set_free : (s behind : ℕ) → s < behind → behind ≤ 64 → list_any (is_in reserved) (scalar_name s ∷ []) ≡ false
set_free s behind there few = or_from (is_in reserved (scalar_name s)) false (not_reserved (scalar_name s) (scalar_free s (omega arith))) refl
