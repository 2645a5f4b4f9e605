-- The halves of a template in form ascend by number, and their before sets are those of the rule.
use Rattle.std.proofs.Common.{◌≡◌, ℕ, suc, ◌+◌, ◌<◌, Bool, true, List, [], ◌∷◌, length, map, get_or, refl, ap, ap₂, sym, subst, ◌∙◌, arith}
use Rattle.std.specs.Prelude.{◌&&◌, slice_index_or}
use Rattle.std.specs.List.{list_all}
use Rattle.std.proofs.lemmas.Bool.{le-leb}
use Rattle.std.proofs.lemmas.List.{get_or-map, length-map}
use Rattle.std.proofs.lemmas.List.FromFn.{get_or-map-range_with_len}
use Rattle.nim_command.specs.declared.entry.Entry.{Entry}
use Rattle.nim_command.specs.declared.template.WorkerTemplate.{WorkerTemplate}
use Rattle.nim_command.specs.Ruled.{entries_by_rule}
use Rattle.nim_template.specs.Ascends.{does_ascend}
use Rattle.nim_edit.specs.Form.{IsInForm}
use Rattle.nim_edit.specs.Halves.{edits_at, edited_half}
use Rattle.nim_edit.specs.Moves.{worker_at}
use Rattle.nim_edit.proofs.Cells.{Ascend, ascend_from}
use Rattle.nim_edit.proofs.Forms.{halves_long}
use Rattle.nim_edit.proofs.Migrations.{all_at, same_at, same_list, task_short, with_own}
use Rattle.nim_edit.proofs.Owners.{AreAll, after_tasks}

ascend_to : (low : ℕ) (entries : List Entry) → Ascend low entries → does_ascend low entries ≡ true
ascend_to low [] are = refl
ascend_to low (entry ∷ entries) are =
    ap₂ (λ (a b : Bool). a && b) (le-leb low entry.id are.0) (ascend_to (entry.id + 1) entries are.1)

-- where each item passes, all do
all_of : {X : Type 0} (p : X → Bool) (d : X) (xs : List X) → ((i : ℕ) → i < length xs → p (get_or xs i d) ≡ true) → list_all p xs ≡ true
all_of p d [] each = refl
all_of p d (x ∷ xs) each =
    ap₂ (λ (a b : Bool). a && b) (each 0 (omega arith)) (all_of p d xs (λ i less. each (suc i) (omega (arith, less))))

-- a half of a template in form
half_is : (template : WorkerTemplate) (form : IsInForm template) (i : ℕ) → i < length template.built
    → AreAll (edits_at template template.owners (record { 0 = i })) 0 (length template.forms) (slice_index_or template.built i [])
    (edited_half template template.owners (record { 0 = i }))
half_is template form i below =
    after_tasks (edits_at template template.owners (record { 0 = i })) 0 (length template.forms) (slice_index_or template.built i [])
    (ascend_from 0 (slice_index_or template.built i []) (all_at (does_ascend 0) template.built i [] form.ascend below))
    (λ t less. with_own template (record { 0 = i }) t (worker_at template.owners t) (omega (arith, less, form.many))
    (task_short template.forms t form.fit (omega (arith, less))))

pub half_at : (template : WorkerTemplate) (form : IsInForm template) (i : ℕ) → i < length template.built
    → get_or template.halves i [] ≡ edited_half template template.owners (record { 0 = i })
half_at template form i below =
    ap (λ (hs : List (List Entry)). get_or hs i []) form.halves
    ∙ get_or-map-range_with_len (λ (n : ℕ). edited_half template template.owners (record { 0 = n })) 0 (length template.built) i i [] below (omega arith)

pub halves_ascend : (template : WorkerTemplate) → IsInForm template → list_all (does_ascend 0) template.halves ≡ true
halves_ascend template form =
    all_of (does_ascend 0) [] template.halves
    (λ i less. let below : i < length template.built = subst (λ (n : ℕ). i < n) (halves_long template form) less in
    ap (does_ascend 0) (half_at template form i below)
    ∙ ascend_to 0 (edited_half template template.owners (record { 0 = i })) (half_is template form i below).ascend)

pub halves_ruled : (template : WorkerTemplate) → IsInForm template → map (entries_by_rule []) template.halves ≡ template.halves
halves_ruled template form =
    same_list [] (map (entries_by_rule []) template.halves) template.halves (length-map template.halves (entries_by_rule []))
    (λ i less. let within : i < length template.halves = subst (λ (n : ℕ). i < n) (length-map template.halves (entries_by_rule [])) less in
    let below : i < length template.built = subst (λ (n : ℕ). i < n) (halves_long template form) within in
    get_or-map (entries_by_rule []) template.halves i [] [] within
    ∙ ap (entries_by_rule []) (half_at template form i below)
    ∙ (half_is template form i below).ruled (same_at (entries_by_rule []) template.built i [] form.ruled below)
    ∙ sym (half_at template form i below))
