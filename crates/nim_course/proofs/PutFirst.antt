-- The orders that moves give: Singles of the epoch, where no instance is asked for as a whole. But for the start none
-- makes what an object holds at first.
use Rattle.std.proofs.Common.{◌≡◌, ℕ, ◌+◌, Bool, true, false, ℤ, List, [], ◌∷◌, ◌++◌, length, map, refl, Option, None, Some}
use Rattle.std.specs.Prelude.{◌==◌, All, if◌then◌else◌}
use Rattle.std.specs.List.{AllByRecursion, filter}
use Rattle.std.specs.Option.{option_map_or}
use Rattle.std.proofs.lemmas.List.Elements.{All-from_recursion}
use Rattle.nim_base.specs.declared.number.Object.{Object}
use Rattle.nim_base.specs.declared.number.Worker.{Worker}
use Rattle.nim_base.specs.declared.task.Task.{Task}
use Rattle.nim_command.specs.declared.command.Command.{Command}
use Rattle.nim_command.specs.declared.edit.PatchPart.{PatchPart}
use Rattle.nim_command.specs.declared.entry.Entry.{Entry}
use Rattle.nim_command.specs.declared.template.WorkerTemplate.{WorkerTemplate}
use Rattle.nim_message.specs.declared.order.ToWorker.{ToWorker}
use Rattle.nim_message.specs.declared.order.ToWorker.TheVariants.{Single, InstallTemplate, Instantiate, InstallPatch, RunPatch, Reset, Stop}
use Rattle.nim_job.specs.declared.ask.Ask.{Ask}
use Rattle.nim_place.specs.declared.placement.Placement.{Placement}
use Rattle.nim_place.specs.Directed.{Directed, directed}
use Rattle.nim_place.specs.Extends.{single_with, singles_of, worker_of}
use Rattle.nim_place.specs.Schedule.{copies_of, moved_first, moves, owner_of, run_of, scheduled, source_of}
use Rattle.nim_place.specs.Stands.{commands_for}
use Rattle.nim_place.specs.Versions.{Versions, after_commands, holder, latest_of}
use Rattle.nim_template.specs.Given.{install_with, instance_with, instances_of}
use Rattle.nim_template.specs.Instance.{half_of}
use Rattle.nim_patch.specs.declared.patch.PatchCopy.{PatchCopy}
use Rattle.nim_patch.specs.Given.{install_parts, run_parts}
use Rattle.nim_patch.specs.Parts.{patch_parts_of}
use Rattle.nim_patch.specs.Patches as patches
use Rattle.nim_reuse.specs.declared.instance.InstanceAt.{InstanceAt}
use Rattle.nim_reuse.specs.declared.reused.Patched.{Patched}
use Rattle.nim_reuse.specs.declared.reused.Patched.TheVariants.{Not, Repeated, Made}
use Rattle.nim_reuse.specs.Reuse.{orders_by, patch_installs, patch_runs, template_installs}
use Rattle.nim_course.specs.Controller.{Controller}
use Rattle.nim_course.specs.Moves.{objects_in, orders_asked}
use Rattle.nim_course.specs.OrdersGiven.{fetch_at, fetch_commands, instance_orders, single_for, task_commands}
use Rattle.nim_course.specs.PutLists.{HasNoFirst, is_first}
use Rattle.nim_course.specs.Summaries.{counted_on}
use Rattle.nim_base.proofs.Lists.{each_append}
use Rattle.nim_course.proofs.PutTasks.{IsSingleOf, directed_all}

-- ---- Singles without such a command

-- commands that make or put nothing that an object holds at first
abbrev AreNoFirst : List Command → Type 0
AreNoFirst commands = AllByRecursion (λ (command : Command). is_first command.kind ≡ false) commands

-- an order is a Single of an epoch with such commands
abbrev pub IsPlainOf : ℕ → ToWorker → Type 0
IsPlainOf current (Single epoch instance commands) = (epoch ≡ current) × All (λ (command : Command). is_first command.kind ≡ false) commands
IsPlainOf current _ = ⊥

-- directed orders are
abbrev pub ArePlainOf : ℕ → List Directed → Type 0
ArePlainOf current ds = AllByRecursion (λ (d : Directed). IsPlainOf current d.1) ds

-- such an order is a Single
plain_single : (current : ℕ) (order : ToWorker) → IsPlainOf current order → IsSingleOf current order
plain_single current (Single epoch instance commands) is = is.0
plain_single current (InstallTemplate epoch block entries) is = absurd is
plain_single current (Instantiate epoch instance block base args versions edits) is = absurd is
plain_single current (InstallPatch epoch patch copies) is = absurd is
plain_single current (RunPatch epoch instance patch versions) is = absurd is
plain_single current (Reset epoch number workers shapes) is = absurd is
plain_single current Stop is = absurd is

-- and has no such command
plain_first : (current : ℕ) (order : ToWorker) → IsPlainOf current order → HasNoFirst order
plain_first current (Single epoch instance commands) is = is.1
plain_first current (InstallTemplate epoch block entries) is = absurd is
plain_first current (Instantiate epoch instance block base args versions edits) is = absurd is
plain_first current (InstallPatch epoch patch copies) is = absurd is
plain_first current (RunPatch epoch instance patch versions) is = absurd is
plain_first current (Reset epoch number workers shapes) is = absurd is
plain_first current Stop is = absurd is

-- so they are Singles
pub plain_singles : (current : ℕ) (ds : List Directed) → ArePlainOf current ds → AllByRecursion (λ (d : Directed). IsSingleOf current d.1) ds
plain_singles current [] are = tt
plain_singles current (d ∷ ds) are = (plain_single current d.1 are.0, plain_singles current ds are.1)

-- so each has none
plain_each : (current : ℕ) (ds : List Directed) → ArePlainOf current ds → AllByRecursion (λ (d : Directed). HasNoFirst d.1) ds
plain_each current [] are = tt
plain_each current (d ∷ ds) are = (plain_first current d.1 are.0, plain_each current ds are.1)

-- and make nothing that an object holds at first
pub plain_none : (current : ℕ) (ds : List Directed) → ArePlainOf current ds → All (λ (d : Directed). HasNoFirst d.1) ds
plain_none current ds are = All-from_recursion (λ (d : Directed). HasNoFirst d.1) ds (plain_each current ds are)

-- ---- the tasks of an instance

-- placed commands
abbrev NoneFirst : List (Worker × Command) → Type 0
NoneFirst commands = AllByRecursion (λ (c : Worker × Command). is_first c.1.kind ≡ false) commands

-- the copies of a task
copies_none : (versions : Versions) (number : ℕ) (owner : Worker) (past reads : List Object)
    → NoneFirst (copies_of versions number owner (moves versions owner past reads))
copies_none versions number owner past [] = tt
copies_none versions number owner past (next ∷ reads) =
    either (copies_none versions number owner (past ++ next ∷ []) reads) (source_of versions owner past next) where
      either : NoneFirst (copies_of versions number owner (moves versions owner (past ++ next ∷ []) reads)) → (o : Option Worker)
          → NoneFirst (copies_of versions number owner (moved_first (length past) next o (moves versions owner (past ++ next ∷ []) reads)))
      either rest None = rest
      either rest (Some from) = (refl, (refl, rest))

-- all its commands
task_none : (versions : Versions) (task : Task) (number position : ℕ) (place : Placement) (live : List Bool)
    → NoneFirst (scheduled versions task number position place live)
task_none versions task number position place live =
    let owner : Worker = owner_of place task versions.objects live in
    let moved = moves versions owner [] task.reads in
    let run : Worker × Command = (owner, run_of task number position moved) in
    each_append (λ (c : Worker × Command). is_first c.1.kind ≡ false) (copies_of versions number owner moved) (run ∷ [])
    (copies_none versions number owner [] task.reads) (refl, tt)

-- a worker's commands
for_none : (worker : Worker) (commands : List (Worker × Command)) → NoneFirst commands → AreNoFirst (commands_for worker commands)
for_none worker [] none = tt
for_none worker (c ∷ cs) none = either (c.0.0 == worker.0) none.0 (for_none worker cs none.1) where
  either : (b : Bool) → is_first c.1.kind ≡ false → AreNoFirst (commands_for worker cs)
      → AreNoFirst (map (λ (d : Worker × Command). d.1) (if b then c ∷ filter (λ (d : Worker × Command). d.0.0 == worker.0) cs
      else filter (λ (d : Worker × Command). d.0.0 == worker.0) cs))
  either true own rest = (own, rest)
  either false own rest = rest

-- a Single of them
single_plain : (epoch instance : ℕ) (commands : List Command) → AreNoFirst commands → AllByRecursion (IsPlainOf epoch) (single_with epoch instance commands)
single_plain epoch instance [] none = tt
single_plain epoch instance (c ∷ cs) none = ((refl, All-from_recursion (λ (command : Command). is_first command.kind ≡ false) (c ∷ cs) none), tt)

-- the orders of an instance that is given task by task
pub instance_plain : (c : Controller) (number : ℕ) (versions : Versions) (tasks : List Task) → ArePlainOf c.epoch (instance_orders c number versions tasks)
instance_plain c number versions [] = tt
instance_plain c number versions (task ∷ tasks) =
    let commands : List (Worker × Command) = task_commands c number versions task in
    let none : NoneFirst commands = task_none versions task number _ c.place c.live in
    each_append (λ (d : Directed). IsPlainOf c.epoch d.1) (directed (length c.live) (singles_of c.epoch c.instance commands))
    (instance_orders c (number + 1) (after_commands versions commands) tasks)
    (directed_all (IsPlainOf c.epoch) (length c.live) (singles_of c.epoch c.instance commands)
    (λ number. single_plain c.epoch c.instance (commands_for (worker_of number) commands) (for_none (worker_of number) commands none)))
    (instance_plain c (number + 1) (after_commands versions commands) tasks)

-- ---- commands alone

-- commands alone are Singles
pub alone_singles : (epoch : ℕ) (commands : List (Worker × Command)) → AllByRecursion (λ (d : Directed). IsSingleOf epoch d.1) (map (single_for epoch) commands)
alone_singles epoch [] = tt
alone_singles epoch (c ∷ cs) = (refl, alone_singles epoch cs)

-- without such commands
alone_plain : (epoch : ℕ) (commands : List (Worker × Command)) → NoneFirst commands → ArePlainOf epoch (map (single_for epoch) commands)
alone_plain epoch [] none = tt
alone_plain epoch (c ∷ cs) none = (
  (refl, All-from_recursion (λ (command : Command). is_first command.kind ≡ false) (c.1 ∷ []) (none.0, tt)),
  alone_plain epoch cs none.1,
)

-- those that fetch
fetches_none : (versions : Versions) (ticket : ℕ) (objects : List Object) → NoneFirst (fetch_commands versions ticket objects)
fetches_none versions ticket [] = tt
fetches_none versions ticket (object ∷ objects) = either (fetches_none versions (counted_on ticket 1) objects) (holder versions object) where
  either : NoneFirst (fetch_commands versions (counted_on ticket 1) objects) → (o : Option Worker)
      → NoneFirst (option_map_or (λ (worker : Worker). fetch_at ticket object worker ∷ []) o [] ++ fetch_commands versions (counted_on ticket 1) objects)
  either rest None = rest
  either rest (Some worker) = (refl, rest)

-- what an ask leads to
pub asked_plain : (c : Controller) (ask : Ask) → ArePlainOf c.epoch (orders_asked c ask)
asked_plain c (Ask.Run block args) = tt
asked_plain c (Ask.Get object row cell) =
    alone_plain c.epoch (fetch_commands c.versions c.ticket (object ∷ [])) (fetches_none c.versions c.ticket (object ∷ []))
asked_plain c Ask.Checkpoint = tt
asked_plain c (Ask.Output var) =
    alone_plain c.epoch (fetch_commands c.versions c.ticket (objects_in c var)) (fetches_none c.versions c.ticket (objects_in c var))
asked_plain c Ask.Finished = tt
asked_plain c Ask.Limit = tt

-- ---- an instance that is asked for as a whole

-- what installs a half
half_first : (epoch block : ℕ) (half : List Entry) → AllByRecursion HasNoFirst (install_with epoch block half)
half_first epoch block [] = tt
half_first epoch block (entry ∷ entries) = (tt, tt)

-- what installs the template
installs_first : (new : Bool) (epoch : ℕ) (template : WorkerTemplate) (number : ℕ) → AllByRecursion HasNoFirst (template_installs new epoch template number)
installs_first true epoch template number = half_first epoch template.block (half_of template number)
installs_first false epoch template number = tt

-- what installs ends of copies
parts_first : (epoch patch : ℕ) (parts : List PatchPart) → AllByRecursion HasNoFirst (install_parts epoch patch parts)
parts_first epoch patch [] = tt
parts_first epoch patch (part ∷ parts) = (tt, tt)

-- what installs the patch
patch_first : (patched : Patched) (epoch : ℕ) (copies : List PatchCopy) (number : ℕ) → AllByRecursion HasNoFirst (patch_installs patched epoch copies number)
patch_first Not epoch copies number = tt
patch_first (Repeated patch) epoch copies number = tt
patch_first (Made patch) epoch copies number = parts_first epoch patch (patch_parts_of copies (worker_of number))

-- what runs ends of copies
ends_first : (epoch instance patch : ℕ) (versions : Versions) (parts : List PatchPart)
    → AllByRecursion HasNoFirst (run_parts epoch instance patch versions parts)
ends_first epoch instance patch versions [] = tt
ends_first epoch instance patch versions (part ∷ parts) = (tt, tt)

-- what runs the patch
run_first : (patched : Patched) (epoch instance : ℕ) (copies : List PatchCopy) (versions : Versions) (number : ℕ)
    → AllByRecursion HasNoFirst (patch_runs patched epoch instance copies versions number)
run_first Not epoch instance copies versions number = tt
run_first (Repeated patch) epoch instance copies versions number = ends_first epoch instance patch versions (patch_parts_of copies (worker_of number))
run_first (Made patch) epoch instance copies versions number = ends_first epoch instance patch versions (patch_parts_of copies (worker_of number))

-- what asks for the instance
instance_first : (epoch instance block base : ℕ) (args : List ℤ) (before : Object → ℕ) (half : List Entry)
    → AllByRecursion HasNoFirst (instance_with epoch instance block base args before half)
instance_first epoch instance block base args before [] = tt
instance_first epoch instance block base args before (entry ∷ entries) = (tt, tt)

-- all its orders
pub again_none : (workers : ℕ) (at : InstanceAt) (args : List ℤ) (new : Bool) (patched : Patched) (versions : Versions) (template : WorkerTemplate)
    → All (λ (d : Directed). HasNoFirst d.1) (orders_by workers at args new patched versions template)
again_none workers at args new patched versions template =
    let copies : List PatchCopy = patches.patch_copies versions template.preconditions in
    let after : Versions = patches.after_copies versions copies in
    let P : Directed → Type 0 = λ d. HasNoFirst d.1 in
    let a : List Directed = directed workers (template_installs new at.epoch template) in
    let b : List Directed = directed workers (patch_installs patched at.epoch copies) in
    let c : List Directed = directed workers (patch_runs patched at.epoch at.instance copies versions) in
    let d : List Directed = directed workers (instances_of at.epoch at.instance template at.base args after) in
    All-from_recursion P (orders_by workers at args new patched versions template)
    (each_append P (a ++ (b ++ c)) d
    (each_append P a (b ++ c)
    (directed_all HasNoFirst workers (template_installs new at.epoch template) (installs_first new at.epoch template))
    (each_append P b c (directed_all HasNoFirst workers (patch_installs patched at.epoch copies) (patch_first patched at.epoch copies))
    (directed_all HasNoFirst workers (patch_runs patched at.epoch at.instance copies versions)
    (run_first patched at.epoch at.instance copies versions))))
    (directed_all HasNoFirst workers (instances_of at.epoch at.instance template at.base args after)
    (λ number. instance_first at.epoch at.instance template.block at.base args (latest_of after) (half_of template number))))
