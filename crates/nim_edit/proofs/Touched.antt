-- The halves that the edits of a move touch, put in place each with its edit, are those with all edits.
use Rattle.std.proofs.Common.{◌≡◌, ℕ, zero, suc, ◌≤◌, ◌<◌, Bool, true, false, List, [], ◌∷◌, ◌++◌, get_or, length, map, take, refl, ap, ap₂, sym, ◌∙◌}
use Rattle.std.proofs.Common.{arith}
use Rattle.std.specs.Prelude.{◌==◌, ◌&&◌, not, if◌then◌else◌, slice_set}
use Rattle.std.specs.List.{AllByRecursion, fold, list_all}
use Rattle.std.proofs.lemmas.Bool.{eqb-true, eqb-false, ltb-true, ne_eqb}
use Rattle.std.proofs.lemmas.List.{get_or-set_other}
use Rattle.nim_base.specs.declared.number.Worker.{Worker}
use Rattle.nim_command.specs.declared.edit.Edit.{Edit}
use Rattle.nim_command.specs.declared.edit.Edit.TheVariants.{Away, Here, Gone}
use Rattle.nim_command.specs.declared.edit.Spec.{Spec}
use Rattle.nim_command.specs.declared.entry.Entry.{Entry}
use Rattle.nim_command.specs.declared.template.WorkerTemplate.{WorkerTemplate}
use Rattle.nim_command.specs.Edits.{edited}
use Rattle.nim_place.proofs.Places.{both_true}
use Rattle.nim_edit.specs.Form.{is_edit_below, is_half_below}
use Rattle.nim_edit.specs.Moves.{are_apart, edits_away, edits_home, edits_of, mask_for, spec_of, half_touched, with_edit, with_half, worker_at}
use Rattle.nim_edit.proofs.Migrations.{IsMove}

-- ---- what is touched

-- edits find these halves as they were
abbrev AreAsWere : List (List Entry) → List (List Entry) → List (Worker × Edit) → Type 0
AreAsWere old now edits = AllByRecursion (λ (e : Worker × Edit). get_or now e.0.0 [] ≡ get_or old e.0.0 []) edits

not_same : (b : Bool) → not b ≡ true → b ≡ false
not_same true is = sym is
not_same false is = refl

still_were : (old now : List (List Entry)) (worker : Worker) (half : List Entry) (edits : List (Worker × Edit))
    → list_all (λ (other : Worker × Edit). not (other.0.0 == worker.0)) edits ≡ true → AreAsWere old now edits
    → AreAsWere old (slice_set now worker.0 half) edits
still_were old now worker half [] apart same = tt
still_were old now worker half (e ∷ edits) apart same =
    let each = both_true (not (e.0.0 == worker.0)) (list_all (λ (other : Worker × Edit). not (other.0.0 == worker.0)) edits) apart in (
      get_or-set_other now worker.0 e.0.0 half [] (eqb-false e.0.0 worker.0 (not_same (e.0.0 == worker.0) each.0)) ∙ same.0,
      still_were old now worker half edits each.1 same.1,
    )

touched_then : (old now : List (List Entry)) (edits : List (Worker × Edit)) → are_apart edits ≡ true → AreAsWere old now edits
    → fold with_half now (map (half_touched old) edits) ≡ fold with_edit now edits
touched_then old now [] apart same = refl
touched_then old now (e ∷ edits) apart same =
    let each = both_true (list_all (λ (other : Worker × Edit). not (other.0.0 == e.0.0)) edits) (are_apart edits) apart in
    ap (λ (half : List Entry). fold with_half (slice_set now e.0.0 (edited e.1 half)) (map (half_touched old) edits)) (sym same.0)
    ∙ touched_then old (with_edit now e) edits each.1 (still_were old now e.0 (edited e.1 (get_or now e.0.0 [])) edits each.0 same.1)

as_were : (halves : List (List Entry)) (edits : List (Worker × Edit)) → AreAsWere halves halves edits
as_were halves [] = tt
as_were halves (e ∷ edits) = (refl, as_were halves edits)

touched_all : (halves : List (List Entry)) (edits : List (Worker × Edit)) → are_apart edits ≡ true
    → fold with_half halves (map (half_touched halves) edits) ≡ fold with_edit halves edits
touched_all halves edits apart = touched_then halves halves edits apart (as_were halves edits)

touched_below : (n : ℕ) (halves : List (List Entry)) (edits : List (Worker × Edit)) → list_all (is_edit_below n) edits ≡ true
    → list_all (is_half_below n) (map (half_touched halves) edits) ≡ true
touched_below n halves [] below = refl
touched_below n halves (e ∷ edits) below =
    let each = both_true (is_edit_below n e) (list_all (is_edit_below n) edits) below in
    ap₂ (λ (a b : Bool). a && b) each.0 (touched_below n halves edits each.1)

taken_all : (n : ℕ) (xs : List (Worker × Edit)) → length xs ≤ n → take n xs ≡ xs
taken_all zero [] few = refl
taken_all (suc n) [] few = refl
taken_all zero (x ∷ xs) few = absurd (omega (arith, few))
taken_all (suc n) (x ∷ xs) few = ap (λ (ys : List (Worker × Edit)). x ∷ ys) (taken_all n xs (omega (arith, few)))

-- the first of halves that are still to be put is one of so many
pub first_below : (n : ℕ) (worker : Worker) (half : List Entry) (rest : List (Worker × List Entry))
    → list_all (is_half_below n) ((worker, half) ∷ rest) ≡ true → worker.0 < n
first_below n worker half rest below =
    ltb-true worker.0 n (both_true (is_half_below n (worker, half)) (list_all (is_half_below n) rest) below).0

-- once all are touched
pub all_touched : (halves : List (List Entry)) (edits : List (Worker × Edit)) (touched : List (Worker × List Entry)) (n : ℕ)
    → touched ≡ map (half_touched halves) (take n edits) → length edits ≤ n → are_apart edits ≡ true
    → fold with_half halves touched ≡ fold with_edit halves edits
all_touched halves edits touched n are few apart =
    ap (fold with_half halves) (are ∙ ap (map (half_touched halves)) (taken_all n edits few)) ∙ touched_all halves edits apart

pub all_below : (k : ℕ) (halves : List (List Entry)) (edits : List (Worker × Edit)) (touched : List (Worker × List Entry)) (n : ℕ)
    → touched ≡ map (half_touched halves) (take n edits) → length edits ≤ n → list_all (is_edit_below k) edits ≡ true
    → list_all (is_half_below k) touched ≡ true
all_below k halves edits touched n are few below =
    ap (list_all (is_half_below k)) (are ∙ ap (map (half_touched halves)) (taken_all n edits few)) ∙ touched_below k halves edits below

-- ---- the edits of a move

apart_if : (a b : ℕ) → (a ≡ b → ⊥) → not (a == b) ≡ true
apart_if a b different = ap not (ne_eqb a b different)

-- no two of them are at one worker
pub moves_apart : (template : WorkerTemplate) (task : ℕ) (to : Worker) → IsMove template task to → are_apart (edits_of template task to) ≡ true
moves_apart template task to move = either (to.0 == home.0) refl where
  home : Worker
  home = worker_at template.homes task

  owner : Worker
  owner = worker_at template.owners task

  spec : Spec
  spec = spec_of template.forms task

  mask : ℕ
  mask = mask_for template task to

  other : owner.0 ≡ to.0 → ⊥
  other = eqb-false owner.0 to.0 move.apart

  between : Bool → List (Worker × Edit)
  between b = if b then [] else (owner, Gone task) ∷ []

  chosen : (b : Bool) → (owner.0 == home.0) ≡ b → (home.0 ≡ to.0 → ⊥)
      → are_apart ((home, Away task to mask spec) ∷ between b ++ (to, Here task home mask spec) ∷ []) ≡ true
  chosen true same away = ap (λ (b : Bool). (b && true) && true) (apart_if to.0 home.0 (λ is. away (sym is)))
  chosen false apart away =
      ap₂ (λ (a b : Bool). (a && (b && true)) && ((not (to.0 == owner.0) && true) && true)) (ap not apart) (apart_if to.0 home.0 (λ is. away (sym is)))
      ∙ ap (λ (b : Bool). (b && true) && true) (apart_if to.0 owner.0 (λ is. other (sym is)))

  either : (b : Bool) → (to.0 == home.0) ≡ b
      → are_apart (if b then edits_home task home owner spec else edits_away task mask spec home owner to) ≡ true
  either true same =
      let here : to.0 ≡ home.0 = eqb-true to.0 home.0 same in
      ap (λ (b : Bool). (b && true) && true) (apart_if home.0 owner.0 (λ is. other (sym is ∙ sym here)))
  either false away = chosen (owner.0 == home.0) refl (λ is. eqb-false to.0 home.0 away (sym is))
