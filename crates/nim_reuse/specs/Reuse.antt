-- An instance of a block that was recorded: by which template it is done, what is patched before it, and its orders.
use Rattle.std.specs.Prelude.{◌≡◌, ℕ, ◌==◌, nat_lt, Bool, true, false, if◌then◌else◌, ℤ, List, [], ◌++◌}
use Rattle.std.specs.Prelude.{length, map, slice_set}
use Rattle.std.specs.List.{filter, range_with_len}
use Rattle.std.specs.Option.{option_map_or}
use Rattle.nim_base.specs.declared.number.Worker.{Worker}
use Rattle.nim_command.specs.declared.command.Command.{Command}
use Rattle.nim_command.specs.declared.template.WorkerTemplate.{WorkerTemplate}
use Rattle.nim_message.specs.declared.order.ToWorker.{ToWorker}
use Rattle.nim_place.specs.declared.placement.Placement.{Placement}
use Rattle.nim_place.specs.Directed.{Directed, directed}
use Rattle.nim_place.specs.Extends.{worker_of}
use Rattle.nim_place.specs.Versions.{Versions, after_effect}
use Rattle.nim_template.specs.declared.template.ControllerTemplate.{ControllerTemplate}
use Rattle.nim_template.specs.Built.{built}
use Rattle.nim_template.specs.Given.{installs_of, instances_of}
use Rattle.nim_template.specs.Instance.{half_of, instance_of}
use Rattle.nim_template.specs.MayBuild.{MayBuild}
use Rattle.nim_patch.specs.declared.kept.Key.{Key}
use Rattle.nim_patch.specs.declared.patch.PatchCopy.{PatchCopy}
use Rattle.nim_patch.specs.Cache.{after_use, patch_number_kept, number_for}
use Rattle.nim_patch.specs.Given.{patch_installs_of, patch_runs_of}
use Rattle.nim_patch.specs.Parts.{patch_commands_of}
use Rattle.nim_patch.specs.Patches.{after_copies, patch_copies, failing_in}
use Rattle.nim_patch.specs.Uses.{Use, patch_key, use_of}
use Rattle.nim_reuse.specs.declared.decided.Decided.{Decided}
use Rattle.nim_reuse.specs.declared.decided.Decided.TheVariants.{Recorded, Installed}
use Rattle.nim_reuse.specs.declared.instance.InstanceAt.{InstanceAt}
use Rattle.nim_reuse.specs.declared.reused.Patched.{Patched}
use Rattle.nim_reuse.specs.declared.reused.Patched.TheVariants.{Not, Repeated, Made}
use Rattle.nim_reuse.specs.declared.reused.Reused.{Reused}
use Rattle.nim_reuse.specs.Decisions.{Decisions, decided_of}

-- ---- the template

-- what a block is without a record: no tasks
abbrev pub nothing_recorded : ℕ → ControllerTemplate
nothing_recorded block = record { block = block; forms = [] }

-- the record that a template is built of
abbrev pub record_of : ℕ → Decided → ControllerTemplate
record_of block (Recorded recorded) = recorded
record_of block _ = nothing_recorded block

-- the template of a block: the one that is installed, else the one that its record gives
abbrev pub template_by : Placement → ℕ → List Bool → ℕ → Decided → WorkerTemplate
template_by place objects live block (Installed template) = template
template_by place objects live block decided = built place objects live (record_of block decided)

-- whether a template has to be installed
abbrev pub is_new : Decided → Bool
is_new (Installed template) = false
is_new _ = true

-- a block may be reused: its record is one that a template may be built of
abbrev pub CanReuse : ℕ → List Bool → ℕ → Decided → Type 0
CanReuse objects live block decided = MayBuild objects live (record_of block decided).forms

-- ---- the patch before an instance

-- what a patch is kept under
abbrev pub patch_key_at : Decisions → ℕ → Key
patch_key_at decisions block = patch_key decisions.previous block

-- a patch with these copies: one that is kept, or a new one
abbrev pub patch_found : Key → List PatchCopy → List Use → Patched
patch_found key copies uses = option_map_or Repeated (patch_number_kept key copies uses) (Made (number_for key uses))

-- What is needed before an instance of a template: nothing where no precondition fails.
abbrev pub patched_by : Key → Versions → List Use → WorkerTemplate → Patched
patched_by key versions uses template =
    if failing_in versions template.preconditions == 0 then Not
    else patch_found key (patch_copies versions template.preconditions) uses

-- so it is by what was decided so far
abbrev pub patched_in : Decisions → ℕ → Versions → WorkerTemplate → Patched
patched_in decisions block versions template = patched_by
    (patch_key_at decisions block) versions decisions.patches template

-- the kept patches then
abbrev pub patches_after : Key → List PatchCopy → List Use → Patched → List Use
patches_after key copies uses Not = uses
patches_after key copies uses (Repeated number) = after_use (use_of key number copies) uses
patches_after key copies uses (Made number) = after_use (use_of key number copies) uses

-- ---- the orders

-- no orders
abbrev pub no_orders : ℕ → List ToWorker
no_orders number = []

-- those that install a template, if it is new
abbrev pub template_installs : Bool → ℕ → WorkerTemplate → ℕ → List ToWorker
template_installs false epoch template = no_orders
template_installs true epoch template = installs_of epoch template

-- those that install a patch, if it was made
abbrev pub patch_installs : Patched → ℕ → List PatchCopy → ℕ → List ToWorker
patch_installs (Made number) epoch copies = patch_installs_of epoch number copies
patch_installs _ epoch copies = no_orders

-- those that run a patch
abbrev pub patch_runs : Patched → ℕ → ℕ → List PatchCopy → Versions → ℕ → List ToWorker
patch_runs Not epoch instance copies versions = no_orders
patch_runs (Repeated number) epoch instance copies versions = patch_runs_of epoch instance number copies versions
patch_runs (Made number) epoch instance copies versions = patch_runs_of epoch instance number copies versions

-- the orders of a patch: for each worker its parts, if it was made, and then its run
abbrev pub patch_orders : ℕ → InstanceAt → Patched → List PatchCopy → Versions → List Directed
patch_orders workers at patched copies versions =
    directed workers (patch_installs patched at.epoch copies)
    ++ directed workers (patch_runs patched at.epoch at.instance copies versions)

-- The orders of an instance: for each worker its half, if the template is new; those of the patch; and the instance.
abbrev pub orders_by : ℕ → InstanceAt → List ℤ → Bool → Patched → Versions → WorkerTemplate → List Directed
orders_by workers at args new patched versions template =
    let copies : List PatchCopy = patch_copies versions template.preconditions in
    directed workers (template_installs new at.epoch template)
    ++ patch_orders workers at patched copies versions
    ++ directed workers (instances_of at.epoch at.instance template at.base args (after_copies versions copies))

-- the commands that they ask for
abbrev pub commands_by : InstanceAt → List ℤ → Versions → WorkerTemplate → List (Worker × Command)
commands_by at args versions template =
    let copies : List PatchCopy = patch_copies versions template.preconditions in
    patch_commands_of copies versions ++ instance_of template at.base args (after_copies versions copies)

-- the map behind them: the copies first, then the effect
abbrev pub versions_by : InstanceAt → Versions → WorkerTemplate → Versions
versions_by at versions template =
    after_effect at.base (after_copies versions (patch_copies versions template.preconditions)) template.effect

-- ---- what the instance comes to

-- whether a worker's half has entries
abbrev pub has_entries : WorkerTemplate → Worker → Bool
has_entries template worker = nat_lt 0 (length (half_of template worker.0))

-- the workers that are to report an instance
abbrev pub awaited_of : ℕ → WorkerTemplate → List Worker
awaited_of workers template = filter (has_entries template) (map worker_of (range_with_len 0 workers))

-- the decisions then
abbrev pub decisions_by : ℕ → Patched → Versions → WorkerTemplate → Decisions → Decisions
decisions_by block patched versions template decisions = record {
  blocks = slice_set decisions.blocks block (Installed template);
  previous = block;
  patches =
      patches_after (patch_key_at decisions block)
      (patch_copies versions template.preconditions) decisions.patches patched;
}

-- a map has the workers and objects that it had
pub record MapStays (old new : Versions) : Type 0 where
  pub workers : new.workers ≡ old.workers
  pub objects : new.objects ≡ old.objects

-- ---- by the decisions so far

-- the template of an instance
abbrev pub template_at : Placement → List Bool → InstanceAt → Versions → Decisions → WorkerTemplate
template_at place live at versions decisions =
    template_by place versions.objects live at.block (decided_of decisions at.block)

-- the patch before it
abbrev pub patched_at : Placement → List Bool → InstanceAt → Versions → Decisions → Patched
patched_at place live at versions decisions =
    patched_in decisions at.block versions (template_at place live at versions decisions)

-- its orders
abbrev pub orders_at : Placement → List Bool → InstanceAt → List ℤ → Versions → Decisions → List Directed
orders_at place live at args versions decisions =
    orders_by (length live) at args (is_new (decided_of decisions at.block))
    (patched_at place live at versions decisions) versions (template_at place live at versions decisions)

-- the commands that they ask for
abbrev pub commands_at : Placement → List Bool → InstanceAt → List ℤ → Versions → Decisions → List (Worker × Command)
commands_at place live at args versions decisions =
    commands_by at args versions (template_at place live at versions decisions)

-- the map behind it
abbrev pub versions_at : Placement → List Bool → InstanceAt → Versions → Decisions → Versions
versions_at place live at versions decisions = versions_by at versions (template_at place live at versions decisions)

-- what it comes to
abbrev pub reused_at : Placement → List Bool → InstanceAt → Versions → Decisions → Reused
reused_at place live at versions decisions = record {
  awaited = awaited_of (length live) (template_at place live at versions decisions);
  is_new = is_new (decided_of decisions at.block);
  patched = patched_at place live at versions decisions;
}

-- the decisions behind it
abbrev pub decisions_at : Placement → List Bool → InstanceAt → Versions → Decisions → Decisions
decisions_at place live at versions decisions =
    decisions_by at.block (patched_at place live at versions decisions) versions
    (template_at place live at versions decisions) decisions
