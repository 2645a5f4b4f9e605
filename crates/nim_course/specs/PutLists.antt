-- What the orders of a controller consist of, move by move, and what its summary counts of them.
use Rattle.std.specs.Prelude.{◌≡◌, ℕ, zero, suc, ◌+◌, ◌-◌, ◌==◌, ◌<◌, ◌≤◌, min, nat_le, ◌⊎◌, Bool, true, false}
use Rattle.std.specs.Prelude.{if◌then◌else◌, ℤ, List, [], ◌∷◌, ◌++◌, length, All, Some, slice_get}
use Rattle.std.specs.List.{count_by, sum_by}
use Rattle.nim_base.specs.declared.number.Worker.{Worker}
use Rattle.nim_command.specs.declared.command.Command.{Command}
use Rattle.nim_command.specs.declared.command.Kind.{Kind}
use Rattle.nim_command.specs.declared.template.WorkerTemplate.{WorkerTemplate}
use Rattle.nim_command.specs.Waits.{commands_of}
use Rattle.nim_message.specs.declared.order.ToWorker.{ToWorker}
use Rattle.nim_message.specs.declared.order.ToWorker.TheVariants.{Single}
use Rattle.nim_message.specs.declared.report.FromWorker.{FromWorker}
use Rattle.nim_message.specs.Lengths.{capped, order_length_of}
use Rattle.nim_message.specs.Orders.{session_of}
use Rattle.nim_job.specs.declared.job.Job.{Job}
use Rattle.nim_job.specs.Tasks.{block_tasks_of}
use Rattle.nim_place.specs.Directed.{Directed, orders_to}
use Rattle.nim_place.specs.Extends.{is_live}
use Rattle.nim_template.specs.declared.template.ControllerTemplate.{ControllerTemplate}
use Rattle.nim_patch.specs.declared.patch.PatchCopy.{PatchCopy}
use Rattle.nim_patch.specs.Patches.{patch_copies, failing_in}
use Rattle.nim_patch.specs.Uses.{StandsFor, Use, hit, is_hit, patch_key, use_of}
use Rattle.nim_reuse.specs.declared.decided.Decided.{Decided}
use Rattle.nim_reuse.specs.declared.decided.Decided.TheVariants.{Open, Recorded, Installed}
use Rattle.nim_reuse.specs.declared.reused.Patched.{Patched}
use Rattle.nim_reuse.specs.declared.reused.Patched.TheVariants.{Not, Repeated, Made}
use Rattle.nim_reuse.specs.Cost.{IsNotMade, IsShort}
use Rattle.nim_reuse.specs.Decisions.{decided_of, is_recorded, no_block}
use Rattle.nim_reuse.specs.Reuse.{orders_by, patched_at, template_at}
use Rattle.nim_course.specs.declared.pending.Pending.{Pending}
use Rattle.nim_course.specs.declared.pending.Pending.TheVariants.{Begin, Block}
use Rattle.nim_course.specs.declared.setup.Setup.{Setup}
use Rattle.nim_course.specs.declared.summary.Summary.{Summary}
use Rattle.nim_course.specs.declared.summary.WorkerLine.{WorkerLine}
use Rattle.nim_course.specs.Controller.{Controller, new_controller}
use Rattle.nim_course.specs.Leads.{Leads}
use Rattle.nim_course.specs.Moves.{IsTurned, orders_of}
use Rattle.nim_course.specs.OrdersGiven.{epoch_orders, instance_at, instance_orders}
use Rattle.nim_course.specs.Reports.{after_report}
use Rattle.nim_course.specs.Summaries.{runs_among}

-- ---- moves, the latest first; each is where the controller stood before it

-- the orders of moves, in the order in which they were given
abbrev pub orders_by_moves : List Controller → List Directed
orders_by_moves [] = []
orders_by_moves (c ∷ earlier) = orders_by_moves earlier ++ orders_of c

-- whether what is pending is an instance of a block
abbrev pub is_instance_of : ℕ → Pending → Bool
is_instance_of block (Block other args) = other == block
is_instance_of block _ = false

-- how many instances of a block were given
abbrev pub times_given : ℕ → List Controller → ℕ
times_given block moves = count_by (λ (c : Controller). is_instance_of block c.pending) moves

-- which instance of its block is given with what is pending, the first being 1; 0 where none is
abbrev pub nth_given : Pending → List Controller → ℕ
nth_given (Block block args) earlier = times_given block earlier + 1
nth_given _ earlier = 0

-- so for each move
abbrev pub nths_given : List Controller → List ℕ
nths_given [] = []
nths_given (c ∷ earlier) = nth_given c.pending earlier ∷ nths_given earlier

-- the block of the last instance, if there was one, else the number that stands for none
abbrev pub block_after : Pending → ℕ → ℕ
block_after (Block block args) before = block
block_after _ before = before

-- so behind moves
abbrev pub last_block : List Controller → ℕ
last_block [] = no_block
last_block (c ∷ earlier) = block_after c.pending (last_block earlier)

-- ---- patches

-- the template that an instance of a block is done by
abbrev pub template_in : Controller → ℕ → WorkerTemplate
template_in c block = template_at c.place c.live (instance_at c block) c.versions c.decisions

-- the patch before it
abbrev pub patched_in_move : Controller → ℕ → Patched
patched_in_move c block = patched_at c.place c.live (instance_at c block) c.versions c.decisions

-- the copies that the instance needs before it
abbrev pub copies_before : Controller → ℕ → List PatchCopy
copies_before c block = patch_copies c.versions (template_in c block).preconditions

-- the use that a patch is, behind the instance of a block
abbrev pub use_with : ℕ → ℕ → List PatchCopy → Patched → List Use
use_with previous block copies Not = []
use_with previous block copies (Repeated number) = use_of (patch_key previous block) number copies ∷ []
use_with previous block copies (Made number) = use_of (patch_key previous block) number copies ∷ []

-- the use with what is pending, where it is an instance of a block that was recorded
abbrev pub use_in : Controller → Pending → ℕ → List Use
use_in c (Block block args) previous =
    if is_recorded c.decisions block then use_with previous block (copies_before c block) (patched_in_move c block)
    else []
use_in c _ previous = []

-- the uses of patches by moves, the latest first
abbrev pub uses_by : List Controller → List Use
uses_by [] = []
uses_by (c ∷ earlier) = use_in c c.pending (last_block earlier) ++ uses_by earlier

-- how many uses were hits
abbrev pub hits_in : List Use → ℕ
hits_in [] = 0
hits_in (latest ∷ past) = (if is_hit latest.0 latest.1.patch.copies past then 1 else 0) + hits_in past

-- A patch is none where no precondition fails, else by the uses before it: a hit is repeated, another is made.
abbrev pub IsByUses : ℕ → List Use → ℕ → ℕ → List PatchCopy → Patched → Type 0
IsByUses failing past previous block copies Not = failing ≡ 0
IsByUses failing past previous block copies (Repeated number) =
    (1 ≤ failing) × (hit (patch_key previous block) copies past ≡ Some number)
IsByUses failing past previous block copies (Made number) =
    (1 ≤ failing) × (is_hit (patch_key previous block) copies past ≡ false)

-- ---- what each move gives

-- whether a command makes what an object holds at first, or puts it there
abbrev pub is_first : Kind → Bool
is_first (Kind.Create slot iota number) = true
is_first (Kind.Load slot version value) = true
is_first _ = false

-- an order has no such command
abbrev pub HasNoFirst : ToWorker → Type 0
HasNoFirst (Single epoch instance commands) = All (λ (command : Command). is_first command.kind ≡ false) commands
HasNoFirst _ = Unit {0}

-- The epoch was begun, before all else: each worker is reset, and each object gets what it holds at first.
pub record IsStart (earlier : List Controller) (c : Controller) : Type 0 where
  pub first : earlier ≡ []
  pub orders : orders_of c ≡ epoch_orders c

-- The first instance of a block is given task by task.
pub record IsGivenFirst (earlier : List Controller) (c : Controller) (block : ℕ) (args : List ℤ) : Type 0 where
  pub times : times_given block earlier ≡ 0
  pub orders : orders_of c ≡ instance_orders c 0 c.versions (block_tasks_of c.job block args)

-- Each later one is asked for as a whole. At the second its halves are installed, and a patch is installed where its
-- use is no hit; a run of a patch stands right behind what installs it. From the third on, and where no patch is made,
-- it is short, whatever the number of tasks.
pub record IsGivenAgain (earlier : List Controller) (c : Controller) (block : ℕ) (args : List ℤ) : Type 0 where
  pub times : 1 ≤ times_given block earlier
  pub orders : orders_of c ≡ orders_by (length c.live) (instance_at c block) args (times_given block earlier == 1)
      (patched_in_move c block) c.versions (template_in c block)
  pub by_uses : IsByUses (failing_in c.versions (template_in c block).preconditions) (uses_by earlier)
      (last_block earlier) block (copies_before c block) (patched_in_move c block)
  pub short : 2 ≤ times_given block earlier → IsNotMade (patched_in_move c block) → (number : ℕ)
      → IsShort c.place c.live (instance_at c block) args c.versions c.decisions (template_in c block) number

-- what a move gives, by what is pending; but for the start no order makes what an object holds at first
abbrev pub IsMove : List Controller → Controller → Pending → Type 0
IsMove earlier c Begin = IsStart earlier c
IsMove earlier c (Block block args) =
    (IsGivenFirst earlier c block args ⊎ IsGivenAgain earlier c block args)
    × All (λ (d : Directed). HasNoFirst d.1) (orders_of c)
IsMove earlier c _ = All (λ (d : Directed). HasNoFirst d.1) (orders_of c)

-- so for each move
abbrev pub AreMoves : List Controller → Type 0
AreMoves [] = Unit {0}
AreMoves (c ∷ earlier) = IsMove earlier c c.pending × AreMoves earlier

-- ---- what is counted

-- a count of 32 bits
abbrev pub capped_count : ℕ → ℕ
capped_count n = min n 4294967295

-- a live worker's line: the tasks that its orders stand for, and how many these are
abbrev pub line_for : List Directed → Worker → WorkerLine
line_for given worker = record {
  live = true;
  tasks = capped (runs_among (commands_of (session_of (orders_to worker.0 given)).groups));
  orders = capped (length (orders_to worker.0 given));
}

-- A summary counts what was given by moves: instances, by which instance of their block they are; uses of patches, by
-- which were hits; and bytes and orders. No edit was proposed, and no worker was lost.
pub record IsSummaryOf (moves : List Controller) (live : List Bool) (given : List Directed) (summary : Summary)
    : Type 0 where
  pub instances : summary.instances ≡ capped_count (count_by (λ (nth : ℕ). nat_le 1 nth) (nths_given moves))
  pub single : summary.single ≡ capped_count (count_by (λ (nth : ℕ). nth == 1) (nths_given moves))
  pub installed : summary.installed ≡ capped_count (count_by (λ (nth : ℕ). nth == 2) (nths_given moves))
  pub cached : summary.cached ≡ capped_count (count_by (λ (nth : ℕ). nat_le 3 nth) (nths_given moves))
  pub made : summary.made ≡ capped_count (length (uses_by moves) - hits_in (uses_by moves))
  pub repeated : summary.repeated ≡ capped_count (hits_in (uses_by moves))
  pub taken : summary.taken ≡ 0
  pub refused : summary.refused ≡ 0
  pub edits : summary.edits ≡ []
  pub rollbacks : summary.rollbacks ≡ []
  pub control : summary.control ≡ capped (sum_by (λ (d : Directed). order_length_of d.1) given)
  pub workers : length summary.workers ≡ length live
  pub lines : (worker : Worker) → is_live live worker ≡ true
      → slice_get summary.workers worker.0 ≡ Some (line_for given worker)

-- ---- all that was put

-- what was decided of a block that was given so often
abbrev pub IsDecidedBy : ℕ → Decided → Type 0
IsDecidedBy zero decided = decided ≡ Open
IsDecidedBy (suc zero) decided = (recorded : ControllerTemplate) × (decided ≡ Recorded recorded)
IsDecidedBy (suc (suc more)) decided = (template : WorkerTemplate) × (decided ≡ Installed template)

-- whether an epoch is to be begun
abbrev pub is_begin : Pending → Bool
is_begin Begin = true
is_begin _ = false

-- All orders that a controller gave are those of its moves, each gave what it should, and the summary counts that. What
-- was decided rests on them.
pub record ArePut (c : Controller) (given : List Directed) : Type 0 where
  pub moves : List Controller
  pub orders : given ≡ orders_by_moves moves
  pub each : AreMoves moves
  pub summary : IsSummaryOf moves c.live given c.summary
  pub first : is_begin c.pending ≡ true → moves ≡ []
  pub previous : c.decisions.previous ≡ last_block moves
  pub uses : StandsFor (uses_by moves) c.decisions.patches
  pub blocks : length c.decisions.blocks ≡ length c.job.blocks
  pub decided : (block : ℕ) → block < length c.job.blocks
      → IsDecidedBy (times_given block moves) (decided_of c.decisions block)

-- The law: the orders of a controller that leads its job are put so.
pub record ControllersPut : Type 0 where
  -- those of one that was just made, which are none
  pub starts : (job : Job) (setup : Setup) → ArePut (new_controller job setup) []
  -- with those of a turn
  pub turns : (job : Job) (before after : Controller) (given orders : List Directed) → Leads job before given
      → IsTurned before orders after → ArePut before given → ArePut after (given ++ orders)
  -- and after a report, whatever it is
  pub reports : (c : Controller) (given : List Directed) (from : Worker) (report : FromWorker) → ArePut c given
      → ArePut (after_report c from report) given
