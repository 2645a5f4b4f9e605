-- Decisions behind more orders.
use Rattle.std.proofs.Common.{◌≡◌, ℕ, ◌<◌, ◌≤◌, Bool, true, false, List, get_or, set, length, refl, sym, subst, arith}
use Rattle.std.specs.Prelude.{◌==◌}
use Rattle.std.proofs.Common.{inl, inr}
use Rattle.std.specs.Prelude.{◌⊎◌}
use Rattle.std.proofs.lemmas.Bool.{cases_lt, eqb-true, eqb-false}
use Rattle.std.proofs.lemmas.List.{get_or_past, get_or-set_other, get_or-set_same, length-set}
use Rattle.nim_base.specs.declared.number.Worker.{Worker}
use Rattle.nim_base.specs.declared.task.TaskForm.{TaskForm}
use Rattle.nim_command.specs.declared.edit.PatchPart.{PatchPart}
use Rattle.nim_command.specs.declared.entry.Entry.{Entry}
use Rattle.nim_command.specs.declared.template.WorkerTemplate.{WorkerTemplate}
use Rattle.nim_message.specs.declared.order.ToWorker.{ToWorker}
use Rattle.nim_message.specs.Orders.{session_of}
use Rattle.nim_place.specs.declared.placement.Placement.{Placement}
use Rattle.nim_place.specs.Extends.{is_live}
use Rattle.nim_template.specs.Given.{AreInstalled, IsInstalled}
use Rattle.nim_template.specs.Instance.{half_of}
use Rattle.nim_patch.specs.declared.patch.PatchCopy.{PatchCopy}
use Rattle.nim_patch.specs.Given.{ArePartsInstalled, HasParts}
use Rattle.nim_patch.specs.Parts.{patch_parts_of}
use Rattle.nim_reuse.specs.declared.decided.Decided.{Decided}
use Rattle.nim_reuse.specs.declared.decided.Decided.TheVariants.{Open, Recorded, Installed}
use Rattle.nim_reuse.specs.GoesOn.{IsDecided}

-- live workers have the half of a block that they had
abbrev pub KeepHalf : List Bool → (ℕ → List ToWorker) → (ℕ → List ToWorker) → ℕ → Type 0
KeepHalf live before after block =
    (worker : Worker) → is_live live worker ≡ true → (session_of (after worker.0)).halves block ≡ (session_of (before worker.0)).halves block

-- and the copies of a patch
abbrev pub KeepPatch : List Bool → (ℕ → List ToWorker) → (ℕ → List ToWorker) → ℕ → Type 0
KeepPatch live before after patch =
    (worker : Worker) → is_live live worker ≡ true → (session_of (after worker.0)).patches patch ≡ (session_of (before worker.0)).patches patch

-- then a template is installed still
pub halves_stay : (live : List Bool) (before after : ℕ → List ToWorker) (template : WorkerTemplate) → KeepHalf live before after template.block
    → AreInstalled live template before → AreInstalled live template after
halves_stay live before after template kept installed worker there =
    subst (λ (now : List Entry). IsInstalled now (half_of template worker.0)) (sym (kept worker there)) (installed worker there)

-- and so are parts
pub parts_stay : (live : List Bool) (before after : ℕ → List ToWorker) (patch : ℕ) (copies : List PatchCopy) → KeepPatch live before after patch
    → ArePartsInstalled live patch copies before → ArePartsInstalled live patch copies after
parts_stay live before after patch copies kept installed worker there =
    subst (λ (now : List PatchPart). HasParts now (patch_parts_of copies worker)) (sym (kept worker there)) (installed worker there)

-- what was decided of a block whose halves stay stands
pub decided_stays : (place : Placement) (live : List Bool) (objects : ℕ) (forms : List TaskForm) (before after : ℕ → List ToWorker) (block : ℕ)
    (decided : Decided) → KeepHalf live before after block → IsDecided place live objects forms before block decided
    → IsDecided place live objects forms after block decided
decided_stays place live objects forms before after block Open kept is = tt
decided_stays place live objects forms before after block (Recorded recorded) kept is = is
decided_stays place live objects forms before after block (Installed template) kept is =
    (is.0, halves_stay live before after template (subst (KeepHalf live before after) (sym is.0.is_block) kept) is.1)

-- one decision in place of another: what holds of it, of none and of those of other blocks holds of all
pub set_decided : (P : ℕ → Decided → Type 0) (blocks : List Decided) (at : ℕ) (decided : Decided) → P at decided → P at Open
    → ((block : ℕ) → (block == at) ≡ false → P block (get_or blocks block Open)) → (block : ℕ) → P block (get_or (set blocks at decided) block Open)
set_decided P blocks at decided own none others block = by (block == at) refl where
  same : (length blocks ≤ at) ⊎ (at < length blocks) → P at (get_or (set blocks at decided) at Open)
  same (inl past) =
      subst (P at) (sym (get_or_past (set blocks at decided) at Open (let long = length-set blocks at decided in omega (arith, long, past)))) none
  same (inr below) = subst (P at) (sym (get_or-set_same blocks at decided Open below)) own

  either : (at < length blocks) ⊎ (length blocks ≤ at) → (length blocks ≤ at) ⊎ (at < length blocks)
  either (inl below) = inr below
  either (inr past) = inl past

  by : (b : Bool) → (block == at) ≡ b → P block (get_or (set blocks at decided) block Open)
  by true is =
      subst (λ (n : ℕ). P n (get_or (set blocks at decided) n Open)) (sym (eqb-true block at is)) (same (either (cases_lt at (length blocks))))
  by false is = subst (P block) (sym (get_or-set_other blocks at block decided Open (eqb-false block at is))) (others block is)
