-- What the tests for equal keys and equal copies say.
use Rattle.std.proofs.Common.{◌≡◌, ℕ, true, false, List, refl, ap, ap₂, sym, ◌∙◌, eq-eqb, eqb-true, Decides}
use Rattle.std.specs.Prelude.{◌==◌, ◌&&◌}
use Rattle.std.proofs.lemmas.Bool.{and_from, and_parts}
use Rattle.std.proofs.lemmas.Slice.Eq.{slice_eq-Decides}
use Rattle.nim_patch.specs.declared.kept.Key.{Key}
use Rattle.nim_patch.specs.declared.patch.PatchCopy.{PatchCopy}
use Rattle.nim_patch.specs.Uses.{patch_key, same_copies, same_copy, same_key}

pub key_equal : (a b : Key) → same_key a b ≡ true → a ≡ b
key_equal a b is =
    let each = and_parts (a.previous == b.previous) (a.next == b.next) is in
    ap₂ patch_key (eqb-true a.previous b.previous each.0) (eqb-true a.next b.next each.1)

-- where a key has one key, and another doesn't, the two differ
pub key_apart : (a key other : Key) → same_key a other ≡ true → same_key key a ≡ false → same_key key other ≡ false
key_apart a key other same apart = ap (same_key key) (sym (key_equal a other same)) ∙ apart

copy_decides : (a b : PatchCopy) → Decides (same_copy a b) (a ≡ b)
copy_decides a b = (equal, tested) where
  equal : same_copy a b ≡ true → a ≡ b
  equal is =
      let first = and_parts (a.from.0 == b.from.0) ((a.to.0 == b.to.0) && (a.object.0 == b.object.0)) is in
      let rest = and_parts (a.to.0 == b.to.0) (a.object.0 == b.object.0) first.1 in
      let from : a.from ≡ b.from = ap (λ (n : ℕ). record { 0 = n }) (eqb-true a.from.0 b.from.0 first.0) in
      let to : a.to ≡ b.to = ap (λ (n : ℕ). record { 0 = n }) (eqb-true a.to.0 b.to.0 rest.0) in
      let object : a.object ≡ b.object = ap (λ (n : ℕ). record { 0 = n }) (eqb-true a.object.0 b.object.0 rest.1) in
      λ i. record { from = from i; to = to i; object = object i }

  tested : a ≡ b → same_copy a b ≡ true
  tested is =
      and_from (a.from.0 == b.from.0) ((a.to.0 == b.to.0) && (a.object.0 == b.object.0)) (eq-eqb a.from.0 b.from.0 (ap (λ (c : PatchCopy). c.from.0) is))
      (and_from (a.to.0 == b.to.0) (a.object.0 == b.object.0) (eq-eqb a.to.0 b.to.0 (ap (λ (c : PatchCopy). c.to.0) is))
      (eq-eqb a.object.0 b.object.0 (ap (λ (c : PatchCopy). c.object.0) is)))

pub copies_equal : (a b : List PatchCopy) → same_copies a b ≡ true → a ≡ b
copies_equal a b = (slice_eq-Decides copy_decides a b (same_copies a b) refl).0
