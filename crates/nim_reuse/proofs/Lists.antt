-- The orders of an instance, one after another, and the lists that they make longer.
use Rattle.std.proofs.Common.{◌≡◌, ℕ, ◌+◌, ◌≤◌, Bool, true, false, List, [], ◌∷◌, ◌++◌, length, refl, ap, ap₂, ◌∙◌, arith, append_assoc}
use Rattle.std.specs.Prelude.{if◌then◌else◌, ℤ}
use Rattle.std.proofs.Math.Path.{fun_ext}
use Rattle.std.proofs.lemmas.Bool.{ne_eqb}
use Rattle.std.proofs.lemmas.List.{get_or_past}
use Rattle.nim_command.specs.declared.edit.PatchPart.{PatchPart}
use Rattle.nim_command.specs.declared.template.WorkerTemplate.{WorkerTemplate}
use Rattle.nim_message.specs.declared.order.ToWorker.{ToWorker}
use Rattle.nim_place.specs.Directed.{Directed, by_number, directed}
use Rattle.nim_place.specs.Extends.{longer, worker_of}
use Rattle.nim_place.specs.Versions.{Versions, latest_of}
use Rattle.nim_place.proofs.Directed.{more_directed, to_append}
use Rattle.nim_template.specs.Given.{install_with, instance_with, instances_of}
use Rattle.nim_template.specs.Instance.{half_of}
use Rattle.nim_patch.specs.declared.patch.PatchCopy.{PatchCopy}
use Rattle.nim_patch.specs.Given.{install_parts, run_parts}
use Rattle.nim_patch.specs.Parts.{patch_parts_from, receiving_part, sending_part}
use Rattle.nim_patch.proofs.Runs.{AreWithinWorkers}
use Rattle.nim_reuse.specs.declared.reused.Patched.{Patched}
use Rattle.nim_reuse.specs.declared.reused.Patched.TheVariants.{Not, Repeated, Made}
use Rattle.nim_reuse.specs.Reuse.{patch_installs, patch_runs, template_installs}

-- a worker past so many has no orders
abbrev pub NonePast : ℕ → (ℕ → List ToWorker) → Type 0
NonePast workers lists = (number : ℕ) → workers ≤ number → lists number ≡ []

-- the list of each worker is longer by its own
pub number_append : (given more : List Directed) → by_number (given ++ more) ≡ longer (by_number given) (by_number more)
number_append given more = fun_ext (λ number. to_append number given more)

-- by four lists of all workers one after another
pub four_longer : (given : List Directed) (workers : ℕ) (first second third last : ℕ → List ToWorker) → NonePast workers first → NonePast workers second
    → NonePast workers third → NonePast workers last
    → by_number (given ++ (directed workers first ++ (directed workers second ++ directed workers third) ++ directed workers last))
    ≡ longer (longer (longer (longer (by_number given) first) second) third) last
four_longer given workers first second third last none_first none_second none_third none_last =
    let one : List Directed = given ++ directed workers first in
    let two : List Directed = one ++ directed workers second in
    let three : List Directed = two ++ directed workers third in
    let is : given ++ (directed workers first ++ (directed workers second ++ directed workers third) ++ directed workers last)
    ≡ three ++ directed workers last = simp append_assoc in
    ap by_number is ∙ more_directed three workers last none_last
    ∙ ap (λ (lists : ℕ → List ToWorker). longer lists last)
    (more_directed two workers third none_third
    ∙ ap (λ (lists : ℕ → List ToWorker). longer lists third)
    (more_directed one workers second none_second
    ∙ ap (λ (lists : ℕ → List ToWorker). longer lists second) (more_directed given workers first none_first)))

-- ---- none past the workers

-- a worker past the halves has none
half_past : (template : WorkerTemplate) (workers : ℕ) → length template.halves ≡ workers → (number : ℕ) → workers ≤ number → half_of template number ≡ []
half_past template workers long number past = get_or_past template.halves number [] (omega (arith, long, past))

pub installs_past : (new : Bool) (epoch : ℕ) (template : WorkerTemplate) (workers : ℕ) → length template.halves ≡ workers
    → NonePast workers (template_installs new epoch template)
installs_past false epoch template workers long number past = refl
installs_past true epoch template workers long number past = ap (install_with epoch template.block) (half_past template workers long number past)

pub instances_past : (epoch instance : ℕ) (template : WorkerTemplate) (base : ℕ) (args : List ℤ) (versions : Versions) (workers : ℕ)
    → length template.halves ≡ workers → NonePast workers (instances_of epoch instance template base args versions)
instances_past epoch instance template base args versions workers long number past =
    ap (instance_with epoch instance template.block base args (latest_of versions)) (half_past template workers long number past)

-- one past the workers of copies has no ends
parts_past : (workers at : ℕ) (copies : List PatchCopy) → AreWithinWorkers workers copies → (number : ℕ) → workers ≤ number
    → patch_parts_from at copies (worker_of number) ≡ []
parts_past workers at [] within number past = refl
parts_past workers at (copy ∷ copies) within number past =
    let below = within.0.0 in
    let also = within.0.1 in
    let ends : Bool → Bool → List PatchPart =
    λ a b. (if a then sending_part at copy ∷ [] else []) ++ (if b then receiving_part at copy ∷ [] else []) in
    ap₂ (λ (xs ys : List PatchPart). xs ++ ys)
    (ap₂ ends (ne_eqb copy.from.0 number (λ same. omega (arith, same, below, past))) (ne_eqb copy.to.0 number (λ same. omega (arith, same, also, past))))
    (parts_past workers (at + 1) copies within.1 number past)

pub patch_installs_past : (patched : Patched) (epoch : ℕ) (copies : List PatchCopy) (workers : ℕ) → AreWithinWorkers workers copies
    → NonePast workers (patch_installs patched epoch copies)
patch_installs_past Not epoch copies workers within number past = refl
patch_installs_past (Repeated patch) epoch copies workers within number past = refl
patch_installs_past (Made patch) epoch copies workers within number past =
    ap (install_parts epoch patch) (parts_past workers 0 copies within number past)

pub patch_runs_past : (patched : Patched) (epoch instance : ℕ) (copies : List PatchCopy) (versions : Versions) (workers : ℕ)
    → AreWithinWorkers workers copies → NonePast workers (patch_runs patched epoch instance copies versions)
patch_runs_past Not epoch instance copies versions workers within number past = refl
patch_runs_past (Repeated patch) epoch instance copies versions workers within number past =
    ap (run_parts epoch instance patch versions) (parts_past workers 0 copies within number past)
patch_runs_past (Made patch) epoch instance copies versions workers within number past =
    ap (run_parts epoch instance patch versions) (parts_past workers 0 copies within number past)
