-- Where the copies of a patch come from.
use Rattle.std.proofs.Common.{◌≡◌, ℕ, zero, suc, ◌+◌, ◌<◌, ◌≤◌, Bool, true, false, List, [], ◌∷◌, length, refl, ap, subst, ◌∙◌, arith, inl, inr}
use Rattle.std.specs.Prelude.{if◌then◌else◌, Option, None, Some, option_map}
use Rattle.std.proofs.lemmas.Bool.{cases_eq}
use Rattle.nim_base.specs.declared.number.Object.{Object}
use Rattle.nim_base.specs.declared.number.Worker.{Worker}
use Rattle.nim_patch.specs.declared.patch.PatchCopy.{PatchCopy}
use Rattle.nim_patch.specs.Mends.{AreSourced, IsSourced}
use Rattle.nim_patch.specs.Patches.{patch_copies, copy_first, copy_to_precondition, copy_of, fails}
use Rattle.nim_place.specs.Versions.{Versions, holder, holder_from, is_current}

-- a worker holds the latest version, and none from one on that is lower
abbrev pub IsFirst : Versions → Object → Worker → ℕ → Type 0
IsFirst versions object found from =
    (is_current versions object found ≡ true) × ((worker : Worker) → from ≤ worker.0 → worker.0 < found.0 → is_current versions object worker ≡ false)

-- the worker that a search from one on finds
pub found_from : (versions : Versions) (object : Object) (from more : ℕ) (found : Worker) → holder_from versions object from more ≡ Some found
    → IsFirst versions object found from
found_from versions object from zero found is = cc
found_from versions object from (suc more) found is =
    by (is_current versions object (record { 0 = from })) refl is (found_from versions object (from + 1) more found) where
      by : (b : Bool) → is_current versions object (record { 0 = from }) ≡ b
          → (if b then Some (record { 0 = from }) else holder_from versions object (from + 1) more) ≡ Some found
          → (holder_from versions object (from + 1) more ≡ Some found → IsFirst versions object found (from + 1)) → IsFirst versions object found from
      by true holds e next =
          let same : ◌≡◌ {A = Worker} (record { 0 = from }) found = cc in
          let number = ap (λ (w : Worker). w.0) same in
          (subst (λ (w : Worker). is_current versions object w ≡ true) same holds, λ worker low high. absurd (omega arith))
      by false holds e next =
          let on = next e in (
            on.0,
            λ worker low high. elim (cases_eq worker.0 from) [
              | inl same ↦ ap (λ (n : ℕ). is_current versions object (record { 0 = n })) same ∙ holds
              | inr apart ↦ on.1 worker (omega arith) high
            ],
          )

-- the lowest worker that holds the latest version
pub holder_sourced : (versions : Versions) (precondition : Worker × Object) (from : Worker) → holder versions precondition.1 ≡ Some from
    → IsSourced versions (copy_to_precondition precondition from)
holder_sourced versions precondition from is =
    let on = found_from versions precondition.1 0 versions.workers from is in
    record { holds = on.0; lowest = λ worker below. on.1 worker (omega arith) below }

-- all copies
pub copies_sourced : (versions : Versions) (preconditions : List (Worker × Object)) → AreSourced versions (patch_copies versions preconditions)
copies_sourced versions [] = tt
copies_sourced versions (precondition ∷ rest) = first (fails versions precondition) (holder versions precondition.1) refl (copies_sourced versions rest) where
  first : (b : Bool) (o : Option Worker) → holder versions precondition.1 ≡ o → AreSourced versions (patch_copies versions rest)
      → AreSourced versions (copy_first (if b then option_map (copy_to_precondition precondition) o else None) (patch_copies versions rest))
  first true None is others = others
  first true (Some from) is others = (holder_sourced versions precondition from is, others)
  first false o is others = others

-- there are no more copies than preconditions
pub copies_few : (versions : Versions) (preconditions : List (Worker × Object)) → length (patch_copies versions preconditions) ≤ length preconditions
copies_few versions [] = omega arith
copies_few versions (precondition ∷ rest) = first (copy_of versions precondition) (copies_few versions rest) where
  first : (o : Option PatchCopy) → length (patch_copies versions rest) ≤ length rest
      → length (copy_first o (patch_copies versions rest)) ≤ length (precondition ∷ rest)
  first None few = omega (arith, few)
  first (Some copy) few = omega (arith, few)
