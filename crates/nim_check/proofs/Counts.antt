-- Scalars count from 0 in the order of the lines that first set them, so their numbers at a line are those of the whole driver.
use Rattle.std.proofs.Common.{◌≡◌, ◌∙◌, ℕ, suc, ◌+◌, cond, Bool, true, false, List, [], ◌∷◌, ◌++◌, length, map, refl, ap, sym, subst, arith, append_assoc, append-nil, Some}
use Rattle.std.specs.Prelude.{bytes_eq, nat_lt, not, ◌&&◌, ◌==◌}
use Rattle.std.specs.List.{list_all}
use Rattle.std.proofs.lemmas.Bool.{and_from, and_parts}
use Rattle.std.proofs.lemmas.Bool.Decides.{Decides-eqb, nat_tests}
use Rattle.std.proofs.lemmas.List.{length_push}
use Rattle.std.proofs.lemmas.Slice.Eq.{bytes_eq-Decides}
use Rattle.nim_job.specs.Whole.{is_atom, is_cond, is_rest, set_at}
use Rattle.nim_parse.specs.declared.sections.Atom.{Atom}
use Rattle.nim_parse.specs.declared.sections.Atom.TheVariants.{Number, Name}
use Rattle.nim_parse.specs.declared.sections.Condition.{Condition}
use Rattle.nim_parse.specs.declared.sections.Condition.TheVariants.{NotZero, Holds}
use Rattle.nim_parse.specs.declared.sections.Expression.{Expression}
use Rattle.nim_parse.specs.declared.sections.Expression.TheVariants.{Alone, Two}
use Rattle.nim_parse.specs.declared.sections.Line.{Line}
use Rattle.nim_parse.specs.declared.sections.Statement.{Statement}
use Rattle.nim_parse.specs.declared.sections.Statement.TheVariants.{Do, Let, Get, Loop, While, If, Else, End, Checkpoint, Output}
use Rattle.nim_check.specs.declared.body.Names.{Names}
use Rattle.nim_check.specs.declared.scope.Scope.{Scope}
use Rattle.nim_check.specs.Body.{atom_of, cond_of, first_of, rest_of}
use Rattle.nim_check.specs.Names.{Word, is_in, place_in}
use Rattle.nim_check.specs.Rules.{condition_reads, is_known, value_reads}
use Rattle.nim_check.specs.DriverPlaces.{scope_of, scope_with, with_scalar}
use Rattle.nim_check.proofs.Places.{lt_suc, lt_zero}

-- more words behind change no place
pub place_front : (xs ys : List Word) (w : Word) → is_in xs w ≡ true → place_in (xs ++ ys) w ≡ place_in xs w
place_front [] ys w is = cc
place_front (x ∷ xs) ys w is =
    elim (bytes_eq x w) as (λ (b : Bool). nat_lt (cond (not b) (1 + place_in xs w) 0) (suc (length xs)) ≡ true
    → cond (not b) (1 + place_in (xs ++ ys) w) 0 ≡ cond (not b) (1 + place_in xs w) 0) [
      | true ↦ λ h. refl
      | false ↦ λ h. ap (λ n. 1 + n) (place_front xs ys w (sym (lt_suc (place_in xs w) (length xs)) ∙ h))
    ] is

same : (w : Word) → bytes_eq w w ≡ true
same w = (bytes_eq-Decides w w).1 refl

at_front : (w : Word) (ys : List Word) (b : Bool) → b ≡ true → cond (not b) (1 + place_in ys w) 0 ≡ 0
at_front w ys b is = rw is refl

-- a new word stands behind the others
pub place_end : (xs ys : List Word) (w : Word) → is_in xs w ≡ false → place_in (xs ++ w ∷ ys) w ≡ length xs
place_end [] ys w is = at_front w ys (bytes_eq w w) (same w)
place_end (x ∷ xs) ys w is =
    elim (bytes_eq x w) as (λ (b : Bool). nat_lt (cond (not b) (1 + place_in xs w) 0) (suc (length xs)) ≡ false
    → cond (not b) (1 + place_in (xs ++ w ∷ ys) w) 0 ≡ suc (length xs)) [
      | true ↦ λ h. let t : nat_lt 0 (suc (length xs)) ≡ true = lt_zero (length xs) in cc
      | false ↦ λ h. let e : place_in (xs ++ w ∷ ys) w ≡ length xs = place_end xs ys w (sym (lt_suc (place_in xs w) (length xs)) ∙ h) in omega arith
    ] is

-- ---- the scalars only grow

-- these words begin those
pub record Begins (xs all : List Word) : Type 0 where
  pub more : List Word
  pub is : all ≡ xs ++ more

pub begins_self : (xs : List Word) → Begins xs xs
begins_self xs = record { more = []; is = sym (append-nil xs) }

with_begins : (xs : List Word) (w : Word) → Begins xs (with_scalar xs w)
with_begins xs w =
    elim (is_in xs w) as (λ (b : Bool). Begins xs (cond b xs (xs ++ w ∷ []))) [ true ↦ begins_self xs | false ↦ record { more = w ∷ []; is = refl } ]

begins_trans : (xs ys zs : List Word) → Begins xs ys → Begins ys zs → Begins xs zs
begins_trans xs ys zs a b = record { more = a.more ++ b.more; is = b.is ∙ ap (λ (l : List Word). l ++ b.more) a.is ∙ append_assoc xs a.more b.more }

pub one_begins : (scope : Scope) (stmt : Statement) → Begins scope.scalars (scope_with scope stmt).scalars
one_begins scope (Do block arguments) = begins_self scope.scalars
one_begins scope (Let name value) = with_begins scope.scalars name
one_begins scope (Get name variable part row column) = with_begins scope.scalars name
one_begins scope (Loop turns) = begins_self scope.scalars
one_begins scope (While condition) = begins_self scope.scalars
one_begins scope (If condition) = begins_self scope.scalars
one_begins scope Else = begins_self scope.scalars
one_begins scope End = begins_self scope.scalars
one_begins scope Checkpoint = begins_self scope.scalars
one_begins scope (Output variable) = begins_self scope.scalars

all_begins : (scope : Scope) (lines : List Line) → Begins scope.scalars (scope_of scope lines).scalars
all_begins scope [] = begins_self scope.scalars
all_begins scope (line ∷ lines) =
    begins_trans scope.scalars (scope_with scope line.statement).scalars (scope_of (scope_with scope line.statement) lines).scalars
    (one_begins scope line.statement) (all_begins (scope_with scope line.statement) lines)

pub set_begins : (scope : Scope) (line : Line) (lines : List Line) (all : List Word) → all ≡ (scope_of scope (line ∷ lines)).scalars
    → Begins (scope_with scope line.statement).scalars all
set_begins scope line lines all is =
    subst (λ (l : List Word). Begins (scope_with scope line.statement).scalars l) (sym is) (all_begins (scope_with scope line.statement) lines)

pub read_begins : (scope : Scope) (stmt : Statement) (all : List Word) → Begins (scope_with scope stmt).scalars all → Begins scope.scalars all
read_begins scope stmt all b = begins_trans scope.scalars (scope_with scope stmt).scalars all (one_begins scope stmt) b

-- ---- what is read

known_word : (xs all : List Word) (w : Word) → Begins xs all → is_in xs w ≡ true → nat_lt (place_in all w) (length xs) ≡ true
known_word xs all w b is = ap (λ n. nat_lt n (length xs)) (ap (λ (l : List Word). place_in l w) b.is ∙ place_front xs b.more w is) ∙ is

pub known_atom : (names : Names) (xs : List Word) (atom : Atom) → Begins xs names.scalars → is_known xs atom ≡ true
    → is_atom (length xs) (atom_of names atom) ≡ true
known_atom names xs (Number n) b is = refl
known_atom names xs (Name w) b is = known_word xs names.scalars w b is

pub known_atoms : (names : Names) (xs : List Word) (atoms : List Atom) → Begins xs names.scalars → list_all (is_known xs) atoms ≡ true
    → list_all (is_atom (length xs)) (map (atom_of names) atoms) ≡ true
known_atoms names xs [] b all = refl
known_atoms names xs (atom ∷ atoms) b all =
    let parts = and_parts (is_known xs atom) (list_all (is_known xs) atoms) all in
    and_from (is_atom (length xs) (atom_of names atom)) (list_all (is_atom (length xs)) (map (atom_of names) atoms))
    (known_atom names xs atom b parts.0) (known_atoms names xs atoms b parts.1)

and_true : (b : Bool) → (b && true) ≡ true → b ≡ true
and_true true h = refl
and_true false h = h

pub one_known : (names : Names) (xs : List Word) (atom : Atom) → Begins xs names.scalars → list_all (is_known xs) (atom ∷ []) ≡ true
    → is_atom (length xs) (atom_of names atom) ≡ true
one_known names xs atom b all = known_atom names xs atom b (and_true (is_known xs atom) all)

pub two_known : (names : Names) (xs : List Word) (left right : Atom) → Begins xs names.scalars → list_all (is_known xs) (left ∷ right ∷ []) ≡ true
    → (is_atom (length xs) (atom_of names left) && is_atom (length xs) (atom_of names right)) ≡ true
two_known names xs left right b all =
    let parts = and_parts (is_known xs left) (is_known xs right && true) all in
    and_from (is_atom (length xs) (atom_of names left)) (is_atom (length xs) (atom_of names right))
    (known_atom names xs left b parts.0) (known_atom names xs right b (and_true (is_known xs right) parts.1))

pub known_cond : (names : Names) (xs : List Word) (condition : Condition) → Begins xs names.scalars → list_all (is_known xs) (condition_reads condition) ≡ true
    → is_cond (length xs) (cond_of names condition) ≡ true
known_cond names xs (NotZero atom) b all = and_from (is_atom (length xs) (atom_of names atom)) true (one_known names xs atom b all) refl
known_cond names xs (Holds left relation right) b all = two_known names xs left right b all

pub known_value : (names : Names) (xs : List Word) (value : Expression) → Begins xs names.scalars → list_all (is_known xs) (value_reads value) ≡ true
    → (is_atom (length xs) (first_of names value) && is_rest (length xs) (rest_of names value)) ≡ true
known_value names xs (Alone atom) b all = and_from (is_atom (length xs) (atom_of names atom)) true (one_known names xs atom b all) refl
known_value names xs (Two left operator right) b all = two_known names xs left right b all

-- ---- what is set

equal : (n : ℕ) → (n == n) ≡ true
equal n = (Decides-eqb n n).1 refl

below_not : (n : ℕ) → nat_lt n n ≡ false
below_not n = grind (arith, nat_tests)

few_then : (n m : ℕ) → m ≡ n + 1 → nat_lt 64 m ≡ false → nat_lt n 64 ≡ true
few_then n m is few = grind (arith, nat_tests)

next_set : (n s m : ℕ) → s ≡ n → m ≡ n + 1 → nat_lt 64 m ≡ false → set_at n s ≡ Some m
next_set n s m at is few =
    let below : nat_lt n n ≡ false = below_not n in
    let same_number : (n == n) ≡ true = equal n in
    let room : nat_lt n 64 ≡ true = few_then n m is few in
    rw (at, is, below, same_number, room) refl

old_set : (n s m : ℕ) → nat_lt s n ≡ true → m ≡ n → set_at n s ≡ Some m
old_set n s m below is = rw (below, is) refl

pub sets : (xs all : List Word) (w : Word) → Begins (with_scalar xs w) all → nat_lt 64 (length (with_scalar xs w)) ≡ false
    → set_at (length xs) (place_in all w) ≡ Some (length (with_scalar xs w))
sets xs all w =
    elim (is_in xs w) as (λ (b : Bool). is_in xs w ≡ b → Begins (cond b xs (xs ++ w ∷ [])) all → nat_lt 64 (length (cond b xs (xs ++ w ∷ []))) ≡ false
    → set_at (length xs) (place_in all w) ≡ Some (length (cond b xs (xs ++ w ∷ [])))) [
      | true ↦ λ is b few. old_set (length xs) (place_in all w) (length xs) (known_word xs all w b is) refl
      | false ↦ λ is b few. next_set (length xs) (place_in all w) (length (xs ++ w ∷ []))
          (ap (λ (l : List Word). place_in l w) (b.is ∙ append_assoc xs (w ∷ []) b.more) ∙ place_end xs b.more w is) (length_push xs w) few
    ] refl
