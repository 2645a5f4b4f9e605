-- Lists of ends and of objects, one step at a time, and versions by the objects received.
use Rattle.std.proofs.Common.{◌≡◌, ℕ, zero, suc, ◌+◌, ◌<◌, Bool, true, false, List, [], ◌∷◌, ◌++◌, drop, get_or, length, map, refl, ap, ap₂, sym, ◌∙◌, arith}
use Rattle.std.specs.Prelude.{◌==◌, if◌then◌else◌, None, option_map, slice_index_or, slice_set, Vec}
use Rattle.std.proofs.Common.{Global}
use Rattle.std.proofs.lemmas.List.Sums.{sum_by-cons}
use Rattle.std.specs.List.{filter, flat_map, range_with_len}
use Rattle.std.proofs.lemmas.List.{append_assoc, drop_more, map-append}
use Rattle.std.proofs.lemmas.List.Elements.{filter-append}
use Rattle.nim_base.specs.declared.number.Object.{Object}
use Rattle.nim_base.specs.declared.number.Worker.{Worker}
use Rattle.nim_command.specs.declared.edit.PatchPart.{PatchPart}
use Rattle.nim_command.specs.declared.entry.Entry.{Entry}
use Rattle.nim_command.specs.declared.entry.EntryKind.{EntryKind}
use Rattle.nim_command.specs.declared.template.WorkerTemplate.{WorkerTemplate}
use Rattle.nim_command.specs.Slots.{object_of}
use Rattle.nim_job.proofs.Lists.{range_more}
use Rattle.nim_place.specs.Directed.{Directed, directed, for_worker}
use Rattle.nim_place.specs.Extends.{worker_of}
use Rattle.nim_place.specs.Sound.{version_named}
use Rattle.nim_place.specs.Versions.{Versions, holder}
use Rattle.nim_patch.specs.declared.patch.PatchCopy.{PatchCopy}
use Rattle.nim_patch.specs.Given.{patch_runs_of}
use Rattle.nim_patch.specs.Parts.{copy_parts, patch_parts_from}
use Rattle.nim_patch.specs.Patches.{patch_copies, copy_first, copy_to_precondition, failing_in, fails}
use Rattle.nim_reuse.specs.Received.{object_received, received_in}
use Rattle.nim_reuse.specs.declared.instance.InstanceAt.{InstanceAt}
use Rattle.nim_reuse.specs.declared.reused.Patched.TheVariants.{Not, Repeated}
use Rattle.nim_reuse.specs.Reuse.{awaited_of, has_entries, no_orders, patch_orders}

-- ---- steps of loops

-- the ends of one copy more
pub parts_more : (copies : List PatchCopy) (at : ℕ) (worker : Worker) (copy : PatchCopy) (all now next : List PatchPart)
    → now ++ patch_parts_from at (drop at copies) worker ≡ all → at < length copies → copy ≡ get_or copies at copy
    → next ≡ now ++ copy_parts at copy worker → next ++ patch_parts_from (at + 1) (drop (at + 1) copies) worker ≡ all
parts_more copies at worker copy all now next so_far within is pushed =
    let rest : List PatchPart = patch_parts_from (at + 1) (drop (at + 1) copies) worker in
    ap (λ (ps : List PatchPart). ps ++ rest) pushed
    ∙ append_assoc now (copy_parts at copy worker) rest
    ∙ ap (λ (c : PatchCopy). now ++ patch_parts_from at (c ∷ drop (at + 1) copies) worker) is
    ∙ ap (λ (cs : List PatchCopy). now ++ patch_parts_from at cs worker) (sym (drop_more copies at copy within))
    ∙ so_far

-- one worker more, which is awaited or not
pub awaited_more : (number : ℕ) (template : WorkerTemplate)
    → awaited_of (number + 1) template
    ≡ awaited_of number template ++ (if has_entries template (worker_of number) then worker_of number ∷ [] else [])
awaited_more number template =
    ap (λ (ns : List ℕ). filter (has_entries template) (map worker_of ns)) (range_more number)
    ∙ ap (filter (has_entries template)) (map-append worker_of (range_with_len 0 number) (number ∷ []))
    ∙ filter-append (has_entries template) (map worker_of (range_with_len 0 number)) (worker_of number ∷ [])

-- ---- versions

-- what an entry names is the version of the object that it receives
named_by : (before : Object → ℕ) (kind : EntryKind) → version_named before kind ≡ map before (object_received kind)
named_by before (EntryKind.Receive slot offset) = either (offset == 0) where
  either : (b : Bool)
      → (if b then before (object_of slot) ∷ [] else []) ≡ map before (if b then object_of slot ∷ [] else [])
  either true = refl
  either false = refl
named_by before _ = refl

-- An order for an instance names the versions of the objects that the half receives.
pub named_received : (before : Object → ℕ) (half : List Entry)
    → flat_map (λ (e : Entry). version_named before e.kind) half ≡ map before (received_in half)
named_received before [] = refl
named_received before (entry ∷ half) =
    ap₂ (λ (xs ys : List ℕ). xs ++ ys) (named_by before entry.kind) (named_received before half)
    ∙ sym (map-append before (object_received entry.kind) (received_in half))

-- ---- nothing to patch

-- where no precondition fails there are no copies
pub none_copied : (versions : Versions) (preconditions : List (Worker × Object)) → failing_in versions preconditions ≡ 0
    → patch_copies versions preconditions ≡ []
none_copied versions [] none = refl
none_copied versions (precondition ∷ rest) none = either (fails versions precondition) refl (none_copied versions rest) where
  fewer : (if fails versions precondition then 1 else 0) + failing_in versions rest ≡ 0
  fewer = sym (sum_by-cons (λ (one : Worker × Object). if fails versions one then 1 else 0) precondition rest) ∙ none

  either : (b : Bool) → fails versions precondition ≡ b → (failing_in versions rest ≡ 0 → patch_copies versions rest ≡ [])
      → patch_copies versions (precondition ∷ rest) ≡ []
  either true is later =
      let counted : 1 + failing_in versions rest ≡ 0 =
      ap (λ (b : Bool). (if b then 1 else 0) + failing_in versions rest) (sym is) ∙ fewer in
      absurd (omega (arith, counted))
  either false is later =
      let counted : 0 + failing_in versions rest ≡ 0 =
      ap (λ (b : Bool). (if b then 1 else 0) + failing_in versions rest) (sym is) ∙ fewer in
      ap (λ (b : Bool). copy_first (if b then option_map (copy_to_precondition precondition) (holder versions precondition.1) else None)
      (patch_copies versions rest)) is
      ∙ later (omega (arith, counted))

-- no orders for so many workers
none_directed : (first count : ℕ) → flat_map (for_worker no_orders) (range_with_len first count) ≡ []
none_directed first zero = refl
none_directed first (suc count) = none_directed (first + 1) count

pub no_directed : (workers : ℕ) → directed workers no_orders ≡ []
no_directed workers = none_directed 0 workers

-- no orders for no patch
pub patch_of_none : (workers : ℕ) (at : InstanceAt) (copies : List PatchCopy) (versions : Versions)
    → patch_orders workers at Not copies versions ≡ []
patch_of_none workers at copies versions = ap₂ (λ (xs ys : List Directed). xs ++ ys) (no_directed workers) (no_directed workers)

-- and for one that was found its run alone
pub patch_found_again : (workers : ℕ) (at : InstanceAt) (number : ℕ) (copies : List PatchCopy) (versions : Versions)
    → patch_orders workers at (Repeated number) copies versions
    ≡ directed workers (patch_runs_of at.epoch at.instance number copies versions)
patch_found_again workers at number copies versions =
    ap (λ (xs : List Directed). xs ++ directed workers (patch_runs_of at.epoch at.instance number copies versions)) (no_directed workers)

-- ---- what is kept of halves

-- the objects that are kept at a place are those that the half there receives
pub received_at : (kept : List (Vec Object Global)) (halves : List (List Entry)) (place : ℕ) (d : Vec Object Global)
    → map (λ (objects : Vec Object Global). objects.items) kept ≡ map received_in halves → place < length kept
    → (slice_index_or kept place d).items ≡ received_in (slice_index_or halves place [])
received_at [] halves place d same within = absurd (omega (arith, within))
received_at (objects ∷ kept) [] place d same within = absurd cc
received_at (objects ∷ kept) (half ∷ halves) zero d same within = ap (λ (all : List (List Object)). slice_index_or all 0 []) same
received_at (objects ∷ kept) (half ∷ halves) (suc place) d same within =
    received_at kept halves place d (ap (drop 1) same) (omega (arith, within))

-- what is put at a place takes the place of what was put there before
pub set_again : {X : Type 0} (xs : List X) (place : ℕ) (first second : X)
    → slice_set (slice_set xs place first) place second ≡ slice_set xs place second
set_again [] place first second = refl
set_again (x ∷ xs) zero first second = refl
set_again {X} (x ∷ xs) (suc place) first second = ap (λ (ys : List X). x ∷ ys) (set_again xs place first second)
