-- The orders that install a patch and those of a run of it: what they keep true of all orders so far.
use Rattle.std.specs.Prelude.{◌≡◌, ℕ, ◌<◌, ◌==◌, Bool, true, false, ◌&&◌, List, [], ◌∷◌, ◌++◌, length}
use Rattle.std.specs.Option.{is_some}
use Rattle.nim_base.specs.declared.number.Object.{Object}
use Rattle.nim_base.specs.declared.number.Worker.{Worker}
use Rattle.nim_command.specs.declared.command.Command.{Command}
use Rattle.nim_command.specs.declared.edit.PatchPart.{PatchPart}
use Rattle.nim_command.specs.Ranks.{is_patch_number}
use Rattle.nim_message.specs.declared.order.ToWorker.{ToWorker}
use Rattle.nim_message.specs.declared.order.ToWorker.TheVariants.{InstallPatch, RunPatch}
use Rattle.nim_message.specs.Orders.{session_of}
use Rattle.nim_job.specs.declared.job.Job.{Job}
use Rattle.nim_plan.specs.Paired.{Key}
use Rattle.nim_patch.specs.declared.patch.PatchCopy.{PatchCopy}
use Rattle.nim_patch.specs.Parts.{patch_parts_of, patch_commands_of, versions_taken}
use Rattle.nim_patch.specs.Patches.{after_copies}
use Rattle.nim_place.specs.Extends.{AskFor, LongerIsCovered, LongerIsLegal, LongerIsPaired, is_live, longer, worker_of}
use Rattle.nim_place.specs.TaskOrders.{AreSoFar, IsAt}
use Rattle.nim_place.specs.Versions.{Versions, holder}
use Rattle.nim_template.specs.Again.{IsBefore, are_current}

-- ---- the orders

-- the order that installs a worker's ends under the patch's number; none where it has no ends
abbrev pub install_parts : ℕ → ℕ → List PatchPart → List ToWorker
install_parts epoch patch [] = []
install_parts epoch patch (part ∷ parts) = InstallPatch epoch patch (part ∷ parts) ∷ []

-- the ends of a patch's copies, one order to each worker that has some
abbrev pub patch_installs_of : ℕ → ℕ → List PatchCopy → ℕ → List ToWorker
patch_installs_of epoch patch copies = λ number. install_parts epoch patch (patch_parts_of copies (worker_of number))

-- the order that asks a worker for its ends, with the versions that they take; none where it has no ends
abbrev pub run_parts : ℕ → ℕ → ℕ → Versions → List PatchPart → List ToWorker
run_parts epoch instance patch versions [] = []
run_parts epoch instance patch versions (part ∷ parts) =
    RunPatch epoch instance patch (versions_taken versions (part ∷ parts)) ∷ []

-- a run of a patch, one order to each worker that has ends
abbrev pub patch_runs_of : ℕ → ℕ → ℕ → List PatchCopy → Versions → ℕ → List ToWorker
patch_runs_of epoch instance patch copies versions =
    λ number. run_parts epoch instance patch versions (patch_parts_of copies (worker_of number))

-- ---- installed

-- ends are installed, if there are any
abbrev pub HasParts : List PatchPart → List PatchPart → Type 0
HasParts now [] = Unit {0}
HasParts now (part ∷ parts) = now ≡ part ∷ parts

-- each live worker has its ends of the copies under the patch's number
abbrev pub ArePartsInstalled : List Bool → ℕ → List PatchCopy → (ℕ → List ToWorker) → Type 0
ArePartsInstalled live patch copies lists =
    (worker : Worker) → is_live live worker ≡ true
    → HasParts ((session_of (lists worker.0)).patches patch) (patch_parts_of copies worker)

-- each live worker has the halves that it had
abbrev pub KeepHalves : List Bool → (ℕ → List ToWorker) → (ℕ → List ToWorker) → Type 0
KeepHalves live before after =
    (worker : Worker) → is_live live worker ≡ true
    → (session_of (after worker.0)).halves ≡ (session_of (before worker.0)).halves

-- and the copies of this patch that it had
abbrev pub KeepsPatch : List Bool → ℕ → (ℕ → List ToWorker) → (ℕ → List ToWorker) → Type 0
KeepsPatch live patch before after =
    (worker : Worker) → is_live live worker ≡ true
    → (session_of (after worker.0)).patches patch ≡ (session_of (before worker.0)).patches patch

-- Orders that install a patch extend orders so far: they ask for nothing more, and the ends are installed then.
pub record IsPatchGivenOut (live : List Bool) (copies : List PatchCopy) (epoch patch : ℕ) (lists : ℕ → List ToWorker)
    (given : List (Worker × Command)) : Type 0 where
  pub asked : AskFor live epoch (longer lists (patch_installs_of epoch patch copies)) given
  pub installed : ArePartsInstalled live patch copies (longer lists (patch_installs_of epoch patch copies))
  -- halves and other patches stay as they were
  pub halves : KeepHalves live lists (longer lists (patch_installs_of epoch patch copies))
  pub others : (other : ℕ) → (other == patch) ≡ false
      → KeepsPatch live other lists (longer lists (patch_installs_of epoch patch copies))
  pub legal : (job : Job) → LongerIsLegal job live lists (patch_installs_of epoch patch copies)
  pub covered : LongerIsCovered lists (patch_installs_of epoch patch copies)
  -- no key is new
  pub paired : LongerIsPaired (λ (key : Key). false) live lists (patch_installs_of epoch patch copies)

-- So they do behind all orders that ask for something.
abbrev pub PatchInstallsExtend : List Bool → List PatchCopy → Type 0
PatchInstallsExtend live copies =
    (epoch patch : ℕ) (lists : ℕ → List ToWorker) (given : List (Worker × Command)) → AskFor live epoch lists given
    → IsPatchGivenOut live copies epoch patch lists given

-- ---- a run

-- A patch may be run behind orders so far: its ends are installed, and the map that stands for these orders, of so many
-- objects, is the one whose versions are copied.
pub record MayRunPatch (live : List Bool) (objects : ℕ) (copies : List PatchCopy) (epoch patch base : ℕ)
    (lists : ℕ → List ToWorker) (given : List (Worker × Command)) (versions : Versions) : Type 0 where
  pub so_far : AreSoFar live epoch lists given versions
  pub before : IsBefore (length live) objects base versions
  pub installed : ArePartsInstalled live patch copies lists

-- whether a key is of the patch before an instance
abbrev pub is_patch_key_in : ℕ → ℕ → Key → Bool
is_patch_key_in epoch instance key = (key.epoch == epoch) && (key.instance == instance) && is_patch_number key.entry

-- A run of a patch was asked for behind orders so far.
pub record IsPatchRun (live : List Bool) (objects : ℕ) (preconditions : List (Worker × Object))
    (copies : List PatchCopy) (epoch instance patch base : ℕ) (lists : ℕ → List ToWorker)
    (given : List (Worker × Command)) (versions : Versions) : Type 0 where
  -- all orders ask for its commands too, and the map behind the copies stands for them
  pub so_far : AreSoFar live epoch (longer lists (patch_runs_of epoch instance patch copies versions))
      (given ++ patch_commands_of copies versions) (after_copies versions copies)
  pub before : IsBefore (length live) objects base (after_copies versions copies)
  -- the preconditions hold in this map, where some worker held each object
  pub current : ((object : Object) → object.0 < versions.objects → is_some (holder versions object) ≡ true)
      → are_current (after_copies versions copies) preconditions ≡ true
  -- its ends are installed still, and halves and patches stay as they were
  pub installed : ArePartsInstalled live patch copies
      (longer lists (patch_runs_of epoch instance patch copies versions))
  pub halves : KeepHalves live lists (longer lists (patch_runs_of epoch instance patch copies versions))
  pub patches : (other : ℕ)
      → KeepsPatch live other lists (longer lists (patch_runs_of epoch instance patch copies versions))
  pub covered : LongerIsCovered lists (patch_runs_of epoch instance patch copies versions)
  -- each new key is one of this patch
  pub paired : LongerIsPaired (is_patch_key_in epoch instance) live lists
      (patch_runs_of epoch instance patch copies versions)
  -- where the map is at the base of a job, legal lists stay legal, and the map behind the copies is there too
  pub legal : (job : Job) → IsAt job base versions
      → LongerIsLegal job live lists (patch_runs_of epoch instance patch copies versions)
  pub next : (job : Job) → IsAt job base versions → IsAt job base (after_copies versions copies)

-- So a run of a patch extends all orders so far.
abbrev pub PatchRunsExtend : List Bool → ℕ → List (Worker × Object) → List PatchCopy → Versions → Type 0
PatchRunsExtend live objects preconditions copies versions =
    (epoch instance patch base : ℕ) (lists : ℕ → List ToWorker) (given : List (Worker × Command))
    → MayRunPatch live objects copies epoch patch base lists given versions
    → IsPatchRun live objects preconditions copies epoch instance patch base lists given versions
