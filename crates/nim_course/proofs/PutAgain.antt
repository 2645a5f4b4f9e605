-- How many tasks the orders of an instance stand for that is asked for as a whole: those of the worker's half.
use Rattle.std.proofs.Common.{◌≡◌, ℕ, ◌+◌, ◌<◌, Bool, true, false, cond, ℤ, List, [], ◌∷◌, ◌++◌, length, refl, ap, ap₂, sym, subst, ◌∙◌, arith}
use Rattle.std.specs.Prelude.{if◌then◌else◌, slice_index_or}
use Rattle.std.specs.List.{AllByRecursion, flat_map, sum_by}
use Rattle.std.proofs.lemmas.List.{append-nil, append_assoc, get_or-set_same}
use Rattle.std.proofs.lemmas.List.Sums.{sum_by-append, sum_by-cons}
use Rattle.nim_base.specs.declared.number.Object.{Object}
use Rattle.nim_base.specs.declared.number.Worker.{Worker}
use Rattle.nim_base.specs.declared.task.TaskForm.{TaskForm}
use Rattle.nim_command.specs.declared.command.Command.{Command}
use Rattle.nim_command.specs.declared.command.Kind.TheVariants.{Receive, Send}
use Rattle.nim_command.specs.declared.edit.PatchPart.{PatchPart}
use Rattle.nim_command.specs.declared.entry.Entry.{Entry}
use Rattle.nim_command.specs.declared.entry.EntryKind.{EntryKind}
use Rattle.nim_command.specs.declared.template.WorkerTemplate.{WorkerTemplate}
use Rattle.nim_command.specs.Before.{Footprint, before_of, footprint_of}
use Rattle.nim_command.specs.Expansion.{command_for, copied, expanded, kind_for, patch_commands, taken_after, taken_past}
use Rattle.nim_command.specs.Numbers.{main_slot, patch_number}
use Rattle.nim_command.specs.Ruled.{commands_by_rule}
use Rattle.nim_command.specs.Waits.{Group, commands_of}
use Rattle.nim_message.specs.declared.order.ToWorker.{ToWorker}
use Rattle.nim_message.specs.declared.order.ToWorker.TheVariants.{RunPatch}
use Rattle.nim_message.specs.Orders.{Session, patch_group, session_of}
use Rattle.nim_place.specs.declared.placement.Placement.{Placement}
use Rattle.nim_place.specs.Directed.{Directed, by_number, directed, orders_to}
use Rattle.nim_place.specs.Extends.{is_live, worker_of}
use Rattle.nim_place.specs.Sound.{version_named}
use Rattle.nim_place.specs.Versions.{Versions, latest_of}
use Rattle.nim_template.specs.Given.{IsInstalled, install_with, instance_with, instances_of}
use Rattle.nim_template.specs.Built.{built}
use Rattle.nim_template.specs.Instance.{half_of}
use Rattle.nim_patch.specs.declared.patch.PatchCopy.{PatchCopy}
use Rattle.nim_patch.specs.Given.{install_parts, run_parts}
use Rattle.nim_patch.specs.Parts.{patch_parts_of, versions_taken}
use Rattle.nim_patch.specs.Patches.{after_copies, patch_copies}
use Rattle.nim_reuse.specs.declared.decided.Decided.{Decided}
use Rattle.nim_reuse.specs.declared.decided.Decided.TheVariants.{Open, Recorded, Installed}
use Rattle.nim_reuse.specs.declared.instance.InstanceAt.{InstanceAt}
use Rattle.nim_reuse.specs.declared.reused.Patched.{Patched}
use Rattle.nim_reuse.specs.declared.reused.Patched.TheVariants.{Not, Repeated, Made}
use Rattle.nim_reuse.specs.Decisions.{Decisions, decided_of, half_tasks, is_recorded, is_reusable, tasks_decided}
use Rattle.nim_reuse.specs.GoesOn.{AreDecided, IsDecided}
use Rattle.nim_reuse.specs.HalfTasks.{runs_task, tasks_in}
use Rattle.nim_reuse.specs.Reuse.{decisions_at, is_new, orders_at, orders_by, patch_installs, patch_runs, patched_at, template_at, template_by, template_installs}
use Rattle.nim_course.specs.Summaries.{is_run, runs_among, tasks_for}
use Rattle.nim_patch.proofs.OneWorker.{patch_out}
use Rattle.nim_place.proofs.Directed.{to_append}
use Rattle.nim_place.proofs.LiveOnce.{live_within}
use Rattle.nim_template.proofs.Entries.{own_commands}
use Rattle.nim_template.proofs.OneWorker.{counts, in_for, out_for}
use Rattle.nim_course.proofs.PutTasks.{ComeToTasks, runs_more, to_own}

-- ---- the commands

-- a command runs a task where its entry does
kind_runs : (base : ℕ) (args : List ℤ) (named number : ℕ) (kind : EntryKind) → is_run (kind_for base args named number kind) ≡ runs_task kind
kind_runs base args named number (EntryKind.Send slot peer entry) = refl
kind_runs base args named number (EntryKind.Receive slot offset) = refl
kind_runs base args named number (EntryKind.Copy from to) = refl
kind_runs base args named number (EntryKind.Run func params reads writes) = refl

-- so an instance runs the tasks of its half
half_runs : (base : ℕ) (args : List ℤ) (versions : List ℕ) (taken : ℕ) (half : List Entry)
    → runs_among (expanded base args versions taken half) ≡ tasks_in half
half_runs base args versions taken [] = refl
half_runs base args versions taken (entry ∷ entries) =
    let named : ℕ = slice_index_or versions taken 0 in
    sum_by-cons (λ (c : Command). cond (is_run c.kind) 1 0) (command_for base args named entry)
    (expanded base args versions (taken_after taken entry.kind) entries)
    ∙ ap₂ (λ (b : Bool) (n : ℕ). cond b 1 0 + n) (kind_runs base args named entry.id entry.kind)
    (half_runs base args versions (taken_after taken entry.kind) entries)
    ∙ sym (sum_by-cons (λ (e : Entry). cond (runs_task e.kind) 1 0) entry entries)

-- commands that run nothing
abbrev RunNone : List Command → Type 0
RunNone commands = AllByRecursion (λ (command : Command). is_run command.kind ≡ false) commands

-- those of ends of copies
copied_quiet : (versions : List ℕ) (taken : ℕ) (parts : List PatchPart) → RunNone (copied versions taken parts)
copied_quiet versions taken [] = tt
copied_quiet versions taken (part ∷ parts) = (by part.receives, copied_quiet versions (taken_past taken part) parts) where
  by : (b : Bool)
      → is_run (if b then Receive (main_slot part.object) (slice_index_or versions taken 0)
      else Send (main_slot part.object) part.peer (patch_number part.number)) ≡ false
  by true = refl
  by false = refl

-- with their before sets
ruled_quiet : (past : List Footprint) (commands : List Command) → RunNone commands → runs_among (commands_by_rule past commands) ≡ 0
ruled_quiet past [] quiet = refl
ruled_quiet past (command ∷ commands) quiet =
    sum_by-cons (λ (c : Command). cond (is_run c.kind) 1 0) (record command { before = before_of past (footprint_of command) })
    (commands_by_rule (past ++ footprint_of command ∷ []) commands)
    ∙ ap₂ (λ (b : Bool) (n : ℕ). cond b 1 0 + n) quiet.0 (ruled_quiet (past ++ footprint_of command ∷ []) commands quiet.1)

-- so a run of a patch runs no task
patch_quiet : (versions : List ℕ) (parts : List PatchPart) → runs_among (patch_commands versions parts) ≡ 0
patch_quiet versions parts = ruled_quiet [] (copied versions 0 parts) (copied_quiet versions 0 parts)

-- ---- one worker's orders

-- its session is of an epoch, they stand for so many tasks, and its half of a block is installed
record HasHalf (current block : ℕ) (half : List Entry) (orders : List ToWorker) (tasks : ℕ) : Type 0 where
  come : ComeToTasks current orders tasks
  installed : IsInstalled ((session_of orders).halves block) half

-- no orders change nothing
none_behind : (current block : ℕ) (half : List Entry) (orders : List ToWorker) (tasks : ℕ) → HasHalf current block half orders tasks
    → HasHalf current block half (orders ++ []) tasks
none_behind current block half orders tasks has = subst (λ (os : List ToWorker). HasHalf current block half os tasks) (sym (append-nil orders)) has

-- behind the order that installs it
half_behind : (current block : ℕ) (half : List Entry) (orders : List ToWorker) (tasks : ℕ) → ComeToTasks current orders tasks
    → HasHalf current block half (orders ++ install_with current block half) tasks
half_behind current block half orders tasks come =
    let out = out_for current block half orders come.begun come.epoch in
    record {
      come = record {
        begun = out.begun;
        epoch = out.epoch;
        runs = ap (λ (gs : List Group). runs_among (commands_of gs)) out.groups ∙ come.runs;
      };
      installed = out.installed;
    }

-- behind the order that installs a patch
patch_behind : (current block worker : ℕ) (half : List Entry) (patched : Patched) (copies : List PatchCopy) (orders : List ToWorker) (tasks : ℕ)
    → HasHalf current block half orders tasks → HasHalf current block half (orders ++ patch_installs patched current copies worker) tasks
patch_behind current block worker half Not copies orders tasks has = none_behind current block half orders tasks has
patch_behind current block worker half (Repeated patch) copies orders tasks has = none_behind current block half orders tasks has
patch_behind current block worker half (Made patch) copies orders tasks has =
    let out = patch_out current patch (patch_parts_of copies (worker_of worker)) orders has.come.begun has.come.epoch in
    record {
      come = record {
        begun = out.begun;
        epoch = out.epoch;
        runs = ap (λ (gs : List Group). runs_among (commands_of gs)) out.groups ∙ has.come.runs;
      };
      installed = subst (λ (halves : ℕ → List Entry). IsInstalled (halves block) half) (sym out.halves) has.installed;
    }

-- behind the order that runs it
ends_behind : (current block instance patch : ℕ) (half : List Entry) (versions : Versions) (parts : List PatchPart) (orders : List ToWorker) (tasks : ℕ)
    → HasHalf current block half orders tasks → HasHalf current block half (orders ++ run_parts current instance patch versions parts) tasks
ends_behind current block instance patch half versions [] orders tasks has = none_behind current block half orders tasks has
ends_behind current block instance patch half versions (part ∷ parts) orders tasks has =
    let named : List ℕ = versions_taken versions (part ∷ parts) in
    let session : Session = session_of orders in
    let kept : List PatchPart = session.patches patch in
    let same = counts current orders (RunPatch current instance patch named) has.come.begun has.come.epoch refl in
    record {
      come = record {
        begun = ap (λ (s : Session). s.begun) same ∙ has.come.begun;
        epoch = ap (λ (s : Session). s.epoch) same ∙ has.come.epoch;
        runs =
            ap (λ (s : Session). runs_among (commands_of s.groups)) same ∙ runs_more session.groups (patch_group current instance named kept)
            ∙ omega (arith, patch_quiet named kept) ∙ has.come.runs;
      };
      installed = subst (λ (s : Session). IsInstalled (s.halves block) half) (sym same) has.installed;
    }

-- so behind what runs the patch, if there is one
run_behind : (current block instance worker : ℕ) (half : List Entry) (patched : Patched) (copies : List PatchCopy) (versions : Versions)
    (orders : List ToWorker) (tasks : ℕ)
    → HasHalf current block half orders tasks → HasHalf current block half (orders ++ patch_runs patched current instance copies versions worker) tasks
run_behind current block instance worker half Not copies versions orders tasks has = none_behind current block half orders tasks has
run_behind current block instance worker half (Repeated patch) copies versions orders tasks has =
    ends_behind current block instance patch half versions (patch_parts_of copies (worker_of worker)) orders tasks has
run_behind current block instance worker half (Made patch) copies versions orders tasks has =
    ends_behind current block instance patch half versions (patch_parts_of copies (worker_of worker)) orders tasks has

-- behind the order that asks for the instance
instance_behind : (current block instance base : ℕ) (args : List ℤ) (before : Object → ℕ) (half : List Entry) (orders : List ToWorker) (tasks : ℕ)
    → HasHalf current block half orders tasks
    → ComeToTasks current (orders ++ instance_with current instance block base args before half) (tasks + tasks_in half)
instance_behind current block instance base args before half orders tasks has =
    let asked = in_for current instance block base args before half orders has.come.begun has.come.epoch has.installed in
    let named : List ℕ = flat_map (λ (e : Entry). version_named before e.kind) half in
    record {
      begun = asked.begun;
      epoch = asked.epoch;
      runs =
          ap runs_among asked.asked
          ∙ sum_by-append (λ (c : Command). cond (is_run c.kind) 1 0) (commands_of (session_of orders).groups) (own_commands before base args half)
          ∙ ap₂ (λ (a b : ℕ). a + b) has.come.runs (half_runs base args named 0 half);
    }

-- ---- what the orders stand for

-- what isn't an instance stands for none
half_none : (decisions : Decisions) (worker : Worker) (epoch block : ℕ) (half : List Entry)
    → sum_by (tasks_for decisions worker) (install_with epoch block half) ≡ 0
half_none decisions worker epoch block [] = refl
half_none decisions worker epoch block (entry ∷ entries) = refl

-- so what installs the template
installs_none : (decisions : Decisions) (worker : Worker) (new : Bool) (epoch : ℕ) (template : WorkerTemplate)
    → sum_by (tasks_for decisions worker) (template_installs new epoch template worker.0) ≡ 0
installs_none decisions worker true epoch template = half_none decisions worker epoch template.block (half_of template worker.0)
installs_none decisions worker false epoch template = refl

-- what installs ends of copies
parts_none : (decisions : Decisions) (worker : Worker) (epoch patch : ℕ) (parts : List PatchPart)
    → sum_by (tasks_for decisions worker) (install_parts epoch patch parts) ≡ 0
parts_none decisions worker epoch patch [] = refl
parts_none decisions worker epoch patch (part ∷ parts) = refl

-- so what installs the patch
patch_none : (decisions : Decisions) (worker : Worker) (patched : Patched) (epoch : ℕ) (copies : List PatchCopy)
    → sum_by (tasks_for decisions worker) (patch_installs patched epoch copies worker.0) ≡ 0
patch_none decisions worker Not epoch copies = refl
patch_none decisions worker (Repeated patch) epoch copies = refl
patch_none decisions worker (Made patch) epoch copies = parts_none decisions worker epoch patch (patch_parts_of copies worker)

-- what runs ends of copies
ends_none : (decisions : Decisions) (worker : Worker) (epoch instance patch : ℕ) (versions : Versions) (parts : List PatchPart)
    → sum_by (tasks_for decisions worker) (run_parts epoch instance patch versions parts) ≡ 0
ends_none decisions worker epoch instance patch versions [] = refl
ends_none decisions worker epoch instance patch versions (part ∷ parts) = refl

-- so what runs the patch
run_none : (decisions : Decisions) (worker : Worker) (patched : Patched) (epoch instance : ℕ) (copies : List PatchCopy) (versions : Versions)
    → sum_by (tasks_for decisions worker) (patch_runs patched epoch instance copies versions worker.0) ≡ 0
run_none decisions worker Not epoch instance copies versions = refl
run_none decisions worker (Repeated patch) epoch instance copies versions =
    ends_none decisions worker epoch instance patch versions (patch_parts_of copies worker)
run_none decisions worker (Made patch) epoch instance copies versions =
    ends_none decisions worker epoch instance patch versions (patch_parts_of copies worker)

-- an instance stands for the tasks of the half
instance_some : (decisions : Decisions) (worker : Worker) (epoch instance block base : ℕ) (args : List ℤ) (before : Object → ℕ) (half : List Entry)
    → half_tasks decisions block worker.0 ≡ tasks_in half
    → sum_by (tasks_for decisions worker) (instance_with epoch instance block base args before half) ≡ tasks_in half
instance_some decisions worker epoch instance block base args before [] is = refl
instance_some decisions worker epoch instance block base args before (entry ∷ entries) is = omega (arith, is)

-- ---- all of them

-- four lists behind another
four_behind : {X : Type 0} (l a b c d : List X) → (((l ++ a) ++ b) ++ c) ++ d ≡ l ++ ((a ++ (b ++ c)) ++ d)
four_behind l a b c d =
    ap (λ (x : List _). x ++ d) (append_assoc (l ++ a) b c ∙ append_assoc l a (b ++ c)) ∙ append_assoc l (a ++ (b ++ c)) d

-- the orders of one worker
again_for : (decisions : Decisions) (worker : Worker) (workers : ℕ) (at : InstanceAt) (args : List ℤ) (new : Bool) (patched : Patched)
    (versions : Versions) (template : WorkerTemplate) (given : List ToWorker) (tasks : ℕ) → worker.0 < workers
    → HasHalf at.epoch template.block (half_of template worker.0) (given ++ template_installs new at.epoch template worker.0) tasks
    → half_tasks decisions template.block worker.0 ≡ tasks_in (half_of template worker.0)
    → let orders : List ToWorker = orders_to worker.0 (orders_by workers at args new patched versions template) in
    ComeToTasks at.epoch (given ++ orders) (tasks + sum_by (tasks_for decisions worker) orders)
again_for decisions worker workers at args new patched versions template given tasks below has runs =
    let half : List Entry = half_of template worker.0 in
    let copies : List PatchCopy = patch_copies versions template.preconditions in
    let before : Object → ℕ = latest_of (after_copies versions copies) in
    let a : List ToWorker = template_installs new at.epoch template worker.0 in
    let b : List ToWorker = patch_installs patched at.epoch copies worker.0 in
    let c : List ToWorker = patch_runs patched at.epoch at.instance copies versions worker.0 in
    let d : List ToWorker = instance_with at.epoch at.instance template.block at.base args before half in
    let to : (ℕ → List ToWorker) → List ToWorker = λ lists. orders_to worker.0 (directed workers lists) in
    let total : List ToWorker → ℕ = sum_by (tasks_for decisions worker) in
    let lists_b : ℕ → List ToWorker = patch_installs patched at.epoch copies in
    let lists_c : ℕ → List ToWorker = patch_runs patched at.epoch at.instance copies versions in
    let lists_d : ℕ → List ToWorker = instances_of at.epoch at.instance template at.base args (after_copies versions copies) in
    let lists_a : ℕ → List ToWorker = template_installs new at.epoch template in
    let patches : List Directed = directed workers lists_b ++ directed workers lists_c in
    let are : orders_to worker.0 (orders_by workers at args new patched versions template) ≡ (a ++ (b ++ c)) ++ d =
    to_append worker.0 (directed workers lists_a ++ patches) (directed workers lists_d)
    ∙ ap₂ (λ (x y : List ToWorker). x ++ y)
    (to_append worker.0 (directed workers lists_a) patches
    ∙ ap₂ (λ (x y : List ToWorker). x ++ y) (to_own workers lists_a worker.0 below)
    (to_append worker.0 (directed workers lists_b) (directed workers lists_c)
    ∙ ap₂ (λ (x y : List ToWorker). x ++ y) (to_own workers lists_b worker.0 below) (to_own workers lists_c worker.0 below)))
    (to_own workers lists_d worker.0 below) in
    let sum : tasks_in half ≡ total ((a ++ (b ++ c)) ++ d) =
    omega (
      arith,
      sum_by-append (tasks_for decisions worker) (a ++ (b ++ c)) d,
      sum_by-append (tasks_for decisions worker) a (b ++ c),
      sum_by-append (tasks_for decisions worker) b c,
      installs_none decisions worker new at.epoch template,
      patch_none decisions worker patched at.epoch copies,
      run_none decisions worker patched at.epoch at.instance copies versions,
      instance_some decisions worker at.epoch at.instance template.block at.base args before half runs,
    ) in
    subst (λ (os : List ToWorker). ComeToTasks at.epoch (given ++ os) (tasks + total os)) (sym are)
    (subst (λ (n : ℕ). ComeToTasks at.epoch (given ++ ((a ++ (b ++ c)) ++ d)) (tasks + n)) sum
    (subst (λ (os : List ToWorker). ComeToTasks at.epoch os (tasks + tasks_in half)) (four_behind given a b c d)
    (instance_behind at.epoch template.block at.instance at.base args before half (((given ++ a) ++ b) ++ c) tasks
    (run_behind at.epoch template.block at.instance worker.0 half patched copies versions ((given ++ a) ++ b) tasks
    (patch_behind at.epoch template.block worker.0 half patched copies (given ++ a) tasks has)))))

-- the template is of the block, and installed behind what installs it
template_ready : (place : Placement) (live : List Bool) (objects number : ℕ) (forms : List TaskForm) (lists : ℕ → List ToWorker) (block : ℕ)
    (decided : Decided) (worker : Worker) (current tasks : ℕ) → is_live live worker ≡ true → is_reusable decided ≡ true
    → IsDecided place live objects forms lists block decided → ComeToTasks current (lists worker.0) tasks
    → let template : WorkerTemplate = template_by place number live block decided in
    (template.block ≡ block)
    × HasHalf current template.block (half_of template worker.0) (lists worker.0 ++ template_installs (is_new decided) current template worker.0) tasks
template_ready place live objects number forms lists block Open worker current tasks there old is come = absurd cc
template_ready place live objects number forms lists block (Recorded recorded) worker current tasks there old is come =
    let template : WorkerTemplate = built place number live recorded in (
      is.is_block,
      half_behind current template.block (half_of template worker.0) (lists worker.0) tasks come,
    )
template_ready place live objects number forms lists block (Installed template) worker current tasks there old is come = (
  is.0.is_block,
  none_behind current template.block (half_of template worker.0) (lists worker.0) tasks (record { come = come; installed = is.1 worker there }),
)

-- the orders of an instance that is asked for as a whole
pub again_adds : (place : Placement) (live : List Bool) (objects : ℕ) (forms : ℕ → List TaskForm) (at : InstanceAt) (args : List ℤ) (given : List Directed)
    (versions : Versions) (decisions : Decisions) (worker : Worker) (tasks : ℕ) → is_live live worker ≡ true → at.block < length decisions.blocks
    → is_recorded decisions at.block ≡ true → AreDecided place live objects forms (by_number given) decisions
    → ComeToTasks at.epoch (orders_to worker.0 given) tasks
    → let orders : List Directed = orders_at place live at args versions decisions in
    ComeToTasks at.epoch (orders_to worker.0 (given ++ orders))
    (tasks + sum_by (tasks_for (decisions_at place live at versions decisions) worker) (orders_to worker.0 orders))
again_adds place live objects forms at args given versions decisions worker tasks there below old are come =
    let orders : List Directed = orders_at place live at args versions decisions in
    let after : Decisions = decisions_at place live at versions decisions in
    let decided : Decided = decided_of decisions at.block in
    let template : WorkerTemplate = template_at place live at versions decisions in
    let ready = template_ready place live objects versions.objects (forms at.block) (by_number given) at.block decided worker at.epoch tasks there old
    (are.blocks at.block) come in
    let kept : decided_of after template.block ≡ Installed template =
    ap (decided_of after) ready.0 ∙ get_or-set_same decisions.blocks at.block (Installed template) Open below in
    subst (λ (os : List ToWorker). ComeToTasks at.epoch os (tasks + sum_by (tasks_for after worker) (orders_to worker.0 orders)))
    (sym (to_append worker.0 given orders))
    (again_for after worker (length live) at args (is_new decided) (patched_at place live at versions decisions) versions template (orders_to worker.0 given)
    tasks (live_within live worker there) ready.1 (ap (λ (d : Decided). tasks_decided d worker.0) kept))
