-- The orders of a reused instance, as each worker gets them.
use Rattle.std.proofs.Common.{◌≡◌, ℕ, ◌+◌, ◌<◌, ◌≤◌, zero, suc, Bool, true, false, ℤ, List, [], ◌∷◌, ◌++◌, length, ap, ap₂, sym, ◌∙◌, arith}
use Rattle.std.specs.Prelude.{nat_lt}
use Rattle.std.specs.List.{AllByRecursion, range_with_len}
use Rattle.std.proofs.lemmas.Bool.{cond-true, lt-ltb}
use Rattle.nim_command.specs.declared.edit.PatchPart.{PatchPart}
use Rattle.nim_command.specs.declared.entry.Entry.{Entry}
use Rattle.nim_command.specs.declared.template.WorkerTemplate.{WorkerTemplate}
use Rattle.nim_message.specs.declared.order.ToWorker.{ToWorker}
use Rattle.nim_message.specs.declared.order.ToWorker.TheVariants.{InstallTemplate, InstallPatch, RunPatch}
use Rattle.nim_place.specs.Directed.{Directed, directed, for_worker, orders_to}
use Rattle.nim_place.specs.Extends.{worker_of}
use Rattle.nim_place.specs.Versions.{Versions}
use Rattle.nim_place.proofs.Directed.{to_append}
use Rattle.nim_template.specs.Given.{install_with, instances_of}
use Rattle.nim_template.specs.Instance.{half_of}
use Rattle.nim_patch.specs.declared.patch.PatchCopy.{PatchCopy}
use Rattle.nim_patch.specs.Given.{install_parts, run_parts}
use Rattle.nim_patch.specs.Parts.{patch_parts_of}
use Rattle.nim_patch.specs.Patches.{after_copies, patch_copies}
use Rattle.nim_reuse.specs.declared.reused.Patched.{Patched}
use Rattle.nim_reuse.specs.declared.reused.Patched.TheVariants.{Not, Repeated, Made}
use Rattle.nim_reuse.specs.Decisions.{decided_of}
use Rattle.nim_reuse.specs.Reuse.{is_new, patch_installs, patch_runs, patched_at, template_at, template_installs}
use Rattle.nim_course.specs.Controller.{Controller}
use Rattle.nim_course.specs.OrdersGiven.{instance_at, reused_orders}
use Rattle.nim_base.proofs.Lists.{each_append}
use Rattle.nim_course.proofs.PutTasks.{cut, to_own}

-- ---- the list of one of so many workers

alike_within : (workers : ℕ) (lists : ℕ → List ToWorker) (first count : ℕ) → first + count ≤ workers
    → AllByRecursion (λ (number : ℕ). for_worker lists number ≡ for_worker (cut workers lists) number) (range_with_len first count)
alike_within workers lists first zero few = tt
alike_within workers lists first (suc count) few = (
  ap (λ (orders : List ToWorker). for_worker (λ (number : ℕ). orders) first)
      (sym (cond-true (nat_lt first workers) (lists first) [] (lt-ltb first workers (omega (arith, few))))),
  alike_within workers lists (first + 1) count (omega (arith, few)),
)

-- ---- of a reused instance

-- its template
abbrev pub template_for : Controller → ℕ → WorkerTemplate
template_for c block = template_at c.place c.live (instance_at c block) c.versions c.decisions

-- the patch before it
abbrev pub patch_for : Controller → ℕ → Patched
patch_for c block = patched_at c.place c.live (instance_at c block) c.versions c.decisions

abbrev pub copies_for : Controller → ℕ → List PatchCopy
copies_for c block = patch_copies c.versions (template_for c block).preconditions

-- what a worker gets before its part of the instance
abbrev pub orders_before : Controller → ℕ → ℕ → List ToWorker
orders_before c block number =
    template_installs (is_new (decided_of c.decisions block)) c.epoch (template_for c block) number
    ++ (patch_installs (patch_for c block) c.epoch (copies_for c block) number
    ++ patch_runs (patch_for c block) c.epoch c.instance (copies_for c block) c.versions number)

-- its part of the instance
abbrev pub order_last : Controller → ℕ → List ℤ → ℕ → List ToWorker
order_last c block args number =
    instances_of c.epoch c.instance (template_for c block) c.position args (after_copies c.versions (copies_for c block)) number

all_to : (number : ℕ) (a b c d : List Directed) → orders_to number (a ++ (b ++ c) ++ d)
    ≡ (orders_to number a ++ (orders_to number b ++ orders_to number c)) ++ orders_to number d
all_to number a b c d =
    to_append number (a ++ (b ++ c)) d
    ∙ ap (λ (front : List ToWorker). front ++ orders_to number d)
    (to_append number a (b ++ c) ∙ ap (λ (rest : List ToWorker). orders_to number a ++ rest) (to_append number b c))

pub reused_to : (c : Controller) (block : ℕ) (args : List ℤ) (number : ℕ) → number < length c.live
    → orders_to number (reused_orders c block args) ≡ orders_before c block number ++ order_last c block args number
reused_to c block args number below =
    let workers : ℕ = length c.live in
    let installs : ℕ → List ToWorker = template_installs (is_new (decided_of c.decisions block)) c.epoch (template_for c block) in
    let parts : ℕ → List ToWorker = patch_installs (patch_for c block) c.epoch (copies_for c block) in
    let runs : ℕ → List ToWorker = patch_runs (patch_for c block) c.epoch c.instance (copies_for c block) c.versions in
    all_to number (directed workers installs) (directed workers parts) (directed workers runs) (directed workers (order_last c block args))
    ∙ ap₂ (λ (front last : List ToWorker). front ++ last)
    (ap₂ (λ (front rest : List ToWorker). front ++ rest) (to_own workers installs number below)
    (ap₂ (λ (front rest : List ToWorker). front ++ rest) (to_own workers parts number below) (to_own workers runs number below)))
    (to_own workers (order_last c block args) number below)

-- ---- what is true of each that comes before

-- it is true of each order that installs something or runs a patch
pub record OfPatches (Q : ToWorker → Type 0) : Type 0 where
  pub template : (epoch block : ℕ) (half : List Entry) → Q (InstallTemplate epoch block half)
  pub patch : (epoch number : ℕ) (parts : List PatchPart) → Q (InstallPatch epoch number parts)
  pub run : (epoch instance number : ℕ) (versions : List ℕ) → Q (RunPatch epoch instance number versions)

half_each : (Q : ToWorker → Type 0) → OfPatches Q → (epoch block : ℕ) (half : List Entry) → AllByRecursion Q (install_with epoch block half)
half_each Q of epoch block [] = tt
half_each Q of epoch block (entry ∷ half) = (of.template epoch block (entry ∷ half), tt)

parts_each : (Q : ToWorker → Type 0) → OfPatches Q → (epoch number : ℕ) (parts : List PatchPart) → AllByRecursion Q (install_parts epoch number parts)
parts_each Q of epoch number [] = tt
parts_each Q of epoch number (part ∷ parts) = (of.patch epoch number (part ∷ parts), tt)

run_each : (Q : ToWorker → Type 0) → OfPatches Q → (epoch instance number : ℕ) (versions : Versions) (parts : List PatchPart)
    → AllByRecursion Q (run_parts epoch instance number versions parts)
run_each Q of epoch instance number versions [] = tt
run_each Q of epoch instance number versions (part ∷ parts) = (of.run epoch instance number _, tt)

template_each : (Q : ToWorker → Type 0) → OfPatches Q → (new : Bool) (epoch : ℕ) (template : WorkerTemplate) (number : ℕ)
    → AllByRecursion Q (template_installs new epoch template number)
template_each Q of false epoch template number = tt
template_each Q of true epoch template number = half_each Q of epoch template.block (half_of template number)

patch_each : (Q : ToWorker → Type 0) → OfPatches Q → (patched : Patched) (epoch : ℕ) (copies : List PatchCopy) (number : ℕ)
    → AllByRecursion Q (patch_installs patched epoch copies number)
patch_each Q of (Made patch) epoch copies number = parts_each Q of epoch patch (patch_parts_of copies (worker_of number))
patch_each Q of patched epoch copies number = tt

runs_each : (Q : ToWorker → Type 0) → OfPatches Q → (patched : Patched) (epoch instance : ℕ) (copies : List PatchCopy) (versions : Versions) (number : ℕ)
    → AllByRecursion Q (patch_runs patched epoch instance copies versions number)
runs_each Q of Not epoch instance copies versions number = tt
runs_each Q of (Repeated patch) epoch instance copies versions number =
    run_each Q of epoch instance patch versions (patch_parts_of copies (worker_of number))
runs_each Q of (Made patch) epoch instance copies versions number =
    run_each Q of epoch instance patch versions (patch_parts_of copies (worker_of number))

pub before_each : (Q : ToWorker → Type 0) → OfPatches Q → (c : Controller) (block number : ℕ) → AllByRecursion Q (orders_before c block number)
before_each Q of c block number =
    let installs : List ToWorker = template_installs (is_new (decided_of c.decisions block)) c.epoch (template_for c block) number in
    let parts : List ToWorker = patch_installs (patch_for c block) c.epoch (copies_for c block) number in
    let runs : List ToWorker = patch_runs (patch_for c block) c.epoch c.instance (copies_for c block) c.versions number in
    each_append Q installs (parts ++ runs)
    (template_each Q of (is_new (decided_of c.decisions block)) c.epoch (template_for c block) number)
    (each_append Q parts runs (patch_each Q of (patch_for c block) c.epoch (copies_for c block) number)
    (runs_each Q of (patch_for c block) c.epoch c.instance (copies_for c block) c.versions number))
