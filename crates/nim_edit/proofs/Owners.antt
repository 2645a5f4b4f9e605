-- A half as built with the edits of all tasks has under each number what its task's edits make of it. So an edit of one
-- task more makes the half of the new owners.
use Rattle.std.proofs.Common.{◌≡◌, ℕ, zero, suc, ◌+◌, ◌≤◌, ◌<◌, Bool, true, false, List, [], ◌∷◌, refl, ap, sym, subst, ◌∙◌, arith}
use Rattle.std.proofs.Common.{Option, inl, inr}
use Rattle.std.specs.Prelude.{◌==◌, if◌then◌else◌}
use Rattle.std.specs.List.{flat_map, list_any, range_with_len}
use Rattle.std.proofs.lemmas.Bool.{cases_order, eqb-true}
use Rattle.std.proofs.lemmas.List.Sums.{fold-append}
use Rattle.nim_command.specs.declared.edit.Edit.{Edit}
use Rattle.nim_command.specs.declared.entry.Entry.{Entry}
use Rattle.nim_command.specs.declared.entry.EntryKind.{EntryKind}
use Rattle.nim_command.specs.Edits.{edited, edited_by, is_of_number, put_by}
use Rattle.nim_command.specs.Numbers.{phase_of, task_of}
use Rattle.nim_command.specs.Ruled.{entries_by_rule}
use Rattle.nim_place.proofs.Places.{both_true}
use Rattle.nim_edit.specs.Cells.{kind_at}
use Rattle.nim_edit.proofs.Cells.{Ascend, same_half}
use Rattle.nim_edit.proofs.Puts.{IsEdited, PutsItsOwn, edited_is, takes}

-- ---- the edits of one task

-- an edit of a task
pub record IsOf (task : ℕ) (edit : Edit) : Type 0 where
  pub puts : PutsItsOwn edit
  pub of : (number : ℕ) → takes edit number ≡ true → task_of number ≡ task

abbrev pub AllOf : ℕ → List Edit → Type 0
AllOf task [] = Unit {0}
AllOf task (edit ∷ edits) = IsOf task edit × AllOf task edits

pub number_of : (task number : ℕ) (phases : List ℕ) → is_of_number task phases number ≡ true → task_of number ≡ task
number_of task number phases is =
    eqb-true (task_of number) task (both_true (task_of number == task) (list_any (λ (p : ℕ). phase_of number == p) phases) is).0

-- what edits make of what was under a number
abbrev pub act : List Edit → ℕ → Option EntryKind → Option EntryKind
act [] number under = under
act (edit ∷ edits) number under = act edits number (if takes edit number then kind_at (put_by edit) number else under)

pub act_other : (task : ℕ) (edits : List Edit) (number : ℕ) (under : Option EntryKind) → AllOf task edits → (task_of number ≡ task → ⊥)
    → act edits number under ≡ under
act_other task [] number under own apart = refl
act_other task (edit ∷ edits) number under own apart =
    ap (act edits number) (either (takes edit number) refl) ∙ act_other task edits number under own.1 apart where
      either : (b : Bool) → takes edit number ≡ b → (if takes edit number then kind_at (put_by edit) number else under) ≡ under
      either true is = absurd (apart (own.0.of number is))
      either false is = ap (λ (b : Bool). if b then kind_at (put_by edit) number else under) is

-- what edits of one task make of a half
pub record AreEdited (edits : List Edit) (before after : List Entry) : Type 0 where
  pub ascend : Ascend 0 after
  pub ruled : entries_by_rule [] before ≡ before → entries_by_rule [] after ≡ after
  pub at : (number : ℕ) → kind_at after number ≡ act edits number (kind_at before number)

pub after_edits : (task : ℕ) (edits : List Edit) (half : List Entry) → Ascend 0 half → AllOf task edits → AreEdited edits half (edited_by edits half)
after_edits task [] half are own = record { ascend = are; ruled = λ r. r; at = λ number. refl }
after_edits task (edit ∷ edits) half are own =
    let first : IsEdited edit half (edited edit half) = edited_is edit half are own.0.puts in
    let rest : AreEdited edits (edited edit half) (edited_by edits (edited edit half)) = after_edits task edits (edited edit half) first.ascend own.1 in
    record {
      ascend = rest.ascend;
      ruled = λ r. rest.ruled first.ruled;
      at = λ number. rest.at number ∙ ap (act edits number) (first.at number);
    }

-- ---- the edits of tasks in order

-- what the edits of so many tasks from one on make of a half
pub record AreAll (f : ℕ → List Edit) (from n : ℕ) (before after : List Entry) : Type 0 where
  pub ascend : Ascend 0 after
  pub ruled : entries_by_rule [] before ≡ before → entries_by_rule [] after ≡ after
  pub at : (number : ℕ) → from ≤ task_of number → task_of number < from + n
      → kind_at after number ≡ act (f (task_of number)) number (kind_at before number)
  pub below : (number : ℕ) → task_of number < from → kind_at after number ≡ kind_at before number
  pub beyond : (number : ℕ) → from + n ≤ task_of number → kind_at after number ≡ kind_at before number

pub after_tasks : (f : ℕ → List Edit) (from n : ℕ) (half : List Entry) → Ascend 0 half
    → ((task : ℕ) → task < from + n → AllOf task (f task))
    → AreAll f from n half (edited_by (flat_map f (range_with_len from n)) half)
after_tasks f from zero half are own = record {
  ascend = are;
  ruled = λ r. r;
  at = λ number low high. absurd (omega (arith, low, high));
  below = λ number less. refl;
  beyond = λ number more. refl;
}
after_tasks f from (suc n) half are own =
    subst (AreAll f from (suc n) half)
    (sym (fold-append (λ (h : List Entry) (e : Edit). edited e h) half (f from) (flat_map f (range_with_len (from + 1) n))))
    (joined (after_tasks f (from + 1) n (edited_by (f from) half) first.ascend (λ task less. own task (omega (arith, less))))) where
      own_from : AllOf from (f from)
      own_from = own from (omega arith)

      first : AreEdited (f from) half (edited_by (f from) half)
      first = after_edits from (f from) half are own_from

      passed : (number : ℕ) → (task_of number ≡ from → ⊥) → kind_at (edited_by (f from) half) number ≡ kind_at half number
      passed number apart = first.at number ∙ act_other from (f from) number (kind_at half number) own_from apart

      joined : AreAll f (from + 1) n (edited_by (f from) half) (edited_by (flat_map f (range_with_len (from + 1) n)) (edited_by (f from) half))
          → AreAll f from (suc n) half (edited_by (flat_map f (range_with_len (from + 1) n)) (edited_by (f from) half))
      joined rest = record {
        ascend = rest.ascend;
        ruled = λ r. rest.ruled (first.ruled r);
        at = λ number low high. elim (cases_order from (task_of number)) [
          | inl same ↦ rest.below number (omega (arith, same)) ∙ first.at number
              ∙ ap (λ (task : ℕ). act (f task) number (kind_at half number)) same
          | inr other ↦ elim other [
            | inl less ↦ rest.at number (omega (arith, less)) (omega (arith, high))
                ∙ ap (act (f (task_of number)) number) (passed number (λ same. absurd (omega (arith, same, less))))
            | inr more ↦ absurd (omega (arith, more, low))
          ]
        ];
        below = λ number less. rest.below number (omega (arith, less)) ∙ passed number (λ same. absurd (omega (arith, same, less)));
        beyond = λ number more. rest.beyond number (omega (arith, more)) ∙ passed number (λ same. absurd (omega (arith, same, more)));
      }

-- ---- one task more

-- Where the edits of one task are others than they were, a half with one of these more is the half with the others.
pub one_more : (f g : ℕ → List Edit) (n task : ℕ) (half : List Entry) (edits : List Edit) → task < n
    → Ascend 0 half → entries_by_rule [] half ≡ half
    → ((t : ℕ) → t < n → AllOf t (f t)) → ((t : ℕ) → t < n → AllOf t (g t)) → AllOf task edits
    → ((t : ℕ) → (t ≡ task → ⊥) → f t ≡ g t)
    → ((number : ℕ) → task_of number ≡ task → act edits number (act (f task) number (kind_at half number)) ≡ act (g task) number (kind_at half number))
    → edited_by edits (edited_by (flat_map f (range_with_len 0 n)) half) ≡ edited_by (flat_map g (range_with_len 0 n)) half
one_more f g n task half edits within are ruled of_f of_g own same here =
    same_half (edited_by edits old) new more.ascend after.ascend (more.ruled (before.ruled ruled)) (after.ruled ruled) (λ number. each number) where
      old : List Entry
      old = edited_by (flat_map f (range_with_len 0 n)) half

      new : List Entry
      new = edited_by (flat_map g (range_with_len 0 n)) half

      before : AreAll f 0 n half old
      before = after_tasks f 0 n half are (λ t less. of_f t (omega (arith, less)))

      after : AreAll g 0 n half new
      after = after_tasks g 0 n half are (λ t less. of_g t (omega (arith, less)))

      more : AreEdited edits old (edited_by edits old)
      more = after_edits task edits old before.ascend own

      apart : (number : ℕ) → (task_of number ≡ task → ⊥) → kind_at (edited_by edits old) number ≡ kind_at new number
      apart number other =
          more.at number ∙ act_other task edits number (kind_at old number) own other
          ∙ elim (cases_order (task_of number) n) [
            | inl is ↦ before.beyond number (omega (arith, is)) ∙ sym (after.beyond number (omega (arith, is)))
            | inr either ↦ elim either [
              | inl less ↦ before.at number (omega arith) (omega (arith, less))
                  ∙ ap (λ (es : List Edit). act es number (kind_at half number)) (same (task_of number) other)
                  ∙ sym (after.at number (omega arith) (omega (arith, less)))
              | inr greater ↦ before.beyond number (omega (arith, greater)) ∙ sym (after.beyond number (omega (arith, greater)))
            ]
          ]

      there : (number : ℕ) → task_of number ≡ task → kind_at (edited_by edits old) number ≡ kind_at new number
      there number is =
          more.at number
          ∙ ap (act edits number) (before.at number (omega arith) (omega (arith, is, within)) ∙ ap (λ (t : ℕ). act (f t) number (kind_at half number)) is)
          ∙ here number is
          ∙ sym (after.at number (omega arith) (omega (arith, is, within)) ∙ ap (λ (t : ℕ). act (g t) number (kind_at half number)) is)

      each : (number : ℕ) → kind_at (edited_by edits old) number ≡ kind_at new number
      each number = elim (cases_order (task_of number) task) [
        | inl is ↦ there number is
        | inr either ↦ elim either [
          | inl less ↦ apart number (λ is. absurd (omega (arith, is, less)))
          | inr greater ↦ apart number (λ is. absurd (omega (arith, is, greater)))
        ]
      ]
