-- The commands of an instance as it was built, by rank: their ranks ascend, what is sent is received in the same order, and
-- those of first phases and of closing copies send and receive main slots.
use Rattle.std.proofs.Common.{◌≡◌, ℕ, ◌+◌, ◌≤◌, ◌<◌, Bool, true, false, List, [], ◌∷◌, ◌++◌, drop, length, map, take, refl, ap, sym, subst, ◌∙◌, arith}
use Rattle.std.proofs.Common.{Option, None, Some}
use Rattle.std.specs.Prelude.{◌*◌, ◌%◌, ◌^◌, ◌||◌, nat_le, nat_lt, ℤ}
use Rattle.std.specs.List.{AllByRecursion, list_all, list_any}
use Rattle.std.proofs.lemmas.Bool.{false≢true, le-leb, leb-true, lt-ltb, ltb-true, or_left, or_right}
use Rattle.std.proofs.lemmas.List.{append-nil}
use Rattle.std.proofs.lemmas.List.Elements.{recursion_from_All}
use Rattle.std.proofs.Math.Nat.{mul-le-mul_left}
use Rattle.nim_base.specs.declared.number.Object.{Object}
use Rattle.nim_base.specs.declared.number.Slot.{Slot}
use Rattle.nim_base.specs.declared.number.Worker.{Worker}
use Rattle.nim_base.specs.declared.task.Task.{Task}
use Rattle.nim_base.specs.declared.task.TaskForm.{TaskForm}
use Rattle.nim_command.specs.declared.command.Command.{Command}
use Rattle.nim_command.specs.declared.command.Kind.{Kind}
use Rattle.nim_command.specs.declared.command.Kind.TheVariants.{Create, Load, Send, Receive, Copy, Run, Fetch}
use Rattle.nim_command.specs.declared.template.WorkerTemplate.{WorkerTemplate}
use Rattle.nim_command.specs.Holds.{Content}
use Rattle.nim_command.specs.Numbers.{counted_from, entry_number, main_slot, task_of}
use Rattle.nim_job.specs.declared.job.Job.{Job}
use Rattle.nim_job.specs.Serial.{tasks_of}
use Rattle.nim_job.specs.Versions.{read_version}
use Rattle.nim_place.specs.declared.placement.Placement.{Placement}
use Rattle.nim_place.specs.Schedule.{is_one_of, moves, receive_of, run_of, scheduled, send_of}
use Rattle.nim_place.specs.Sound.{MayBegin, by_rank, commands_from}
use Rattle.nim_place.specs.Stands.{commands_for}
use Rattle.nim_place.specs.Versions.{Versions, after_commands, is_current, no_versions}
use Rattle.nim_place.proofs.GoesOn.{before_within, position_few}
use Rattle.nim_place.proofs.Held.{for_append}
use Rattle.nim_place.proofs.Moves.{AreIndexed, AreMoves, moves_facts, moves_indexed}
use Rattle.nim_place.proofs.Places.{both_true}
use Rattle.nim_template.specs.declared.template.ControllerTemplate.{ControllerTemplate}
use Rattle.nim_template.specs.Built.{all_slots, built, end_of, needs_of}
use Rattle.nim_template.specs.Closing.{closed_for, closing_entries, closing_from, closing_number, closings, copy_from}
use Rattle.nim_template.specs.Fits.{is_fit}
use Rattle.nim_template.specs.Tasks.{scheduled_from, task_with, without_before}
use Rattle.nim_template.specs.Walk.{empty_walk, home_of}
use Rattle.nim_template.proofs.Again.{home_within, needs_are, start_walked}
use Rattle.nim_template.proofs.AtEntry.{AreGood, IsAtEntry, at_entry, entry_map}
use Rattle.nim_template.proofs.ByRank.{RanksAscend, ascends_lower, ascends_plain, ascends_then, in_order, order_of}
use Rattle.nim_template.proofs.Chosen.{command_at, plain}
use Rattle.nim_template.proofs.Closes.{AreNeeds}
use Rattle.nim_template.proofs.Fits.{few_reads, read_below}
use Rattle.nim_template.proofs.Given.{tasks_from}
use Rattle.nim_template.proofs.Halves.{for_plain}
use Rattle.nim_template.proofs.InTurn.{AreTasksFrom}
use Rattle.nim_template.proofs.InOrder.{shorts}
use Rattle.nim_template.proofs.IsSound.{needs_good}
use Rattle.nim_template.proofs.Left.{IsDoneBy, closing_of, done_by}
use Rattle.nim_template.proofs.Numbers.{closings_few, filter_few, slots_long}
use Rattle.nim_template.proofs.Plain.{received_plain, sent_plain}
use Rattle.nim_template.proofs.Ranked.{closings_ascend, ranked_ascend, ranked_for, ranked_from, ranked_task}
use Rattle.nim_template.proofs.RankedEnds.{all_ends, ends_received, ends_sent}
use Rattle.nim_template.proofs.Sames.{AreSame}
use Rattle.nim_template.proofs.Walks.{IsWalked, IsWalkedTo, walk_kept}

-- the types of a walk and of closing copies
abbrev pub TypeOf : {X : Type 0} → X → Type 0
TypeOf {X} x = X

abbrev pub Walk : Type 0
Walk = TypeOf (empty_walk 0 0)

abbrev pub Closings : Type 0
Closings = TypeOf (closings (no_versions 0 0) [])

-- ---- what is begun with

-- ---- copies

-- whether a number is of one of a task's first two phases, or of a closing copy
abbrev pub is_early : ℕ → Bool
is_early number = nat_lt (number % 64) 16 || nat_le 65536 number

-- A command sends or receives a main slot, and what is sent goes to an entry of the same task, which is early too.
abbrev pub IsCopyOf : ℕ → Kind → Type 0
IsCopyOf number (Send slot peer entry) = (slot.0 < 512) × (task_of entry ≡ task_of number) × (is_early entry ≡ true)
IsCopyOf number (Receive slot version) = slot.0 < 512
IsCopyOf number (Create slot iota first) = ⊥
IsCopyOf number (Load slot version value) = ⊥
IsCopyOf number (Copy from to) = ⊥
IsCopyOf number (Run position func params reads writes) = ⊥
IsCopyOf number (Fetch slot ticket) = ⊥

-- a Run
abbrev pub IsRunKind : Kind → Type 0
IsRunKind (Run position func params reads writes) = Unit {0}
IsRunKind (Send slot peer entry) = ⊥
IsRunKind (Receive slot version) = ⊥
IsRunKind (Create slot iota first) = ⊥
IsRunKind (Load slot version value) = ⊥
IsRunKind (Copy from to) = ⊥
IsRunKind (Fetch slot ticket) = ⊥

-- those that are early are copies, others are Runs, and those behind so many tasks are early
abbrev pub AreCopied : ℕ → List (Worker × Command) → Type 0
AreCopied tasks [] = Unit {0}
AreCopied tasks (c ∷ cs) =
    (is_early c.1.id ≡ true → IsCopyOf c.1.id c.1.kind) × (is_early c.1.id ≡ false → IsRunKind c.1.kind)
    × (64 * tasks ≤ c.1.id → is_early c.1.id ≡ true) × AreCopied tasks cs

pub copied_append : (tasks : ℕ) (xs ys : List (Worker × Command)) → AreCopied tasks xs → AreCopied tasks ys → AreCopied tasks (xs ++ ys)
copied_append tasks [] ys first second = second
copied_append tasks (x ∷ xs) ys first second = (first.0, first.1, first.2, copied_append tasks xs ys first.3 second)

copied_plain : (tasks : ℕ) (cs : List (Worker × Command)) → AreCopied tasks cs → AreCopied tasks (map plain cs)
copied_plain tasks [] are = tt
copied_plain tasks (c ∷ cs) are = (are.0, are.1, are.2, copied_plain tasks cs are.3)

plain_copied : (tasks : ℕ) (cs : List (Worker × Command)) → AreCopied tasks (map plain cs) → AreCopied tasks cs
plain_copied tasks [] are = tt
plain_copied tasks (c ∷ cs) are = (are.0, are.1, are.2, plain_copied tasks cs are.3)

plain_ascends : (low high : ℕ) (cs : List (Worker × Command)) → RanksAscend low high (map plain cs) → RanksAscend low high cs
plain_ascends low high [] are = are
plain_ascends low high (c ∷ cs) are = (are.0, are.1, plain_ascends (order_of c.1 + 1) high cs are.2)

-- ---- the commands of tasks

first_early : (number task more : ℕ) → number ≡ 64 * task + more → more < 16 → is_early number ≡ true
first_early number task more is few =
    or_left (nat_lt (number % 64) 16) (nat_le 65536 number) (lt-ltb (number % 64) 16 (omega (arith, is, few)))

sends_copied : (number tasks : ℕ) (owner : Worker) (versions : Versions) (reads : List Object) (low : ℕ) (ms : List _) → number < tasks → tasks ≤ 1024
    → AreMoves versions owner reads ms → AreIndexed low 8 ms → ((object : Object) → is_one_of reads object ≡ true → object.0 < 512)
    → AreCopied tasks (map (send_of number owner) ms)
sends_copied number tasks owner versions reads low [] below few are at within = tt
sends_copied number tasks owner versions reads low (m ∷ ms) below few are at within =
    let id : entry_number number 0 m.index ≡ 64 * number + m.index = omega (arith, below, few, at.1) in
    let entry : entry_number number 1 m.index ≡ 64 * number + (8 + m.index) = omega (arith, below, few, at.1) in (
      λ early. (
        within m.object are.2,
        omega (arith, id, entry, at.1),
        first_early (entry_number number 1 m.index) number (8 + m.index) entry (omega (arith, at.1)),
      ),
      λ late. absurd (false≢true (sym late ∙ first_early (entry_number number 0 m.index) number m.index id (omega (arith, at.1)))),
      λ behind. absurd (omega (arith, behind, id, at.1, below)),
      sends_copied number tasks owner versions reads (m.index + 1) ms below few are.4 at.2 within,
    )

receives_copied : (number tasks : ℕ) (owner : Worker) (versions : Versions) (reads : List Object) (low : ℕ) (ms : List _) → number < tasks → tasks ≤ 1024
    → AreMoves versions owner reads ms → AreIndexed low 8 ms → ((object : Object) → is_one_of reads object ≡ true → object.0 < 512)
    → AreCopied tasks (map (receive_of versions number owner) ms)
receives_copied number tasks owner versions reads low [] below few are at within = tt
receives_copied number tasks owner versions reads low (m ∷ ms) below few are at within =
    let id : entry_number number 1 m.index ≡ 64 * number + (8 + m.index) = omega (arith, below, few, at.1) in (
      λ early. within m.object are.2,
      λ late. absurd (false≢true (sym late ∙ first_early (entry_number number 1 m.index) number (8 + m.index) id (omega (arith, at.1)))),
      λ behind. absurd (omega (arith, behind, id, at.1, below)),
      receives_copied number tasks owner versions reads (m.index + 1) ms below few are.4 at.2 within,
    )

-- a run isn't early
pub run_late : (number : ℕ) → number < 1024 → is_early (entry_number number 4 0) ≡ false
run_late number few = either (nat_lt (entry_number number 4 0 % 64) 16) refl (nat_le 65536 (entry_number number 4 0)) refl where
  id : entry_number number 4 0 ≡ 64 * number + 32
  id = omega (arith, few)

  either : (a : Bool) → nat_lt (entry_number number 4 0 % 64) 16 ≡ a → (b : Bool) → nat_le 65536 (entry_number number 4 0) ≡ b → (a || b) ≡ false
  either true less b more = absurd (omega (arith, id, ltb-true (entry_number number 4 0 % 64) 16 less))
  either false less true more = absurd (omega (arith, id, few, leb-true 65536 (entry_number number 4 0) more))
  either false less false more = refl

task_copied : (versions : Versions) (task : Task) (number position tasks : ℕ) (owner : Worker) → number < tasks → tasks ≤ 1024 → length task.reads ≤ 8
    → ((object : Object) → is_one_of task.reads object ≡ true → object.0 < 512) → AreCopied tasks (ranked_task versions task number position owner)
task_copied versions task number position tasks owner below few short within =
    let ms = moves versions owner [] task.reads in
    let are : AreMoves versions owner task.reads ms = moves_facts versions owner task.reads in
    let at : AreIndexed 0 8 ms = moves_indexed versions owner [] task.reads 8 (omega (arith, short)) in
    let id : entry_number number 4 0 ≡ 64 * number + 32 = omega (arith, below, few) in
    copied_append tasks (map (send_of number owner) ms)
    (map (receive_of versions number owner) ms ++ (owner, run_of task number position ms) ∷ [])
    (sends_copied number tasks owner versions task.reads 0 ms below few are at within)
    (copied_append tasks (map (receive_of versions number owner) ms) ((owner, run_of task number position ms) ∷ [])
    (receives_copied number tasks owner versions task.reads 0 ms below few are at within) (
      λ early. absurd (false≢true (sym (run_late number (omega (arith, below, few))) ∙ early)),
      λ late. tt,
      λ behind. absurd (omega (arith, behind, id, below)),
      tt,
    ))

ranked_copied : (place : Placement) (live : List Bool) (base : ℕ) (args : List ℤ) (number tasks objects : ℕ) (versions : Versions) (forms : List TaskForm)
    → number + length forms ≡ tasks → tasks ≤ 1024 → objects ≤ 512 → list_all (is_fit objects) forms ≡ true
    → AreCopied tasks (ranked_from place live base args number versions forms)
ranked_copied place live base args number tasks objects versions [] all few small fit = tt
ranked_copied place live base args number tasks objects versions (form ∷ forms) all few small fit =
    let each = both_true (is_fit objects form) (list_all (is_fit objects) forms) fit in
    let owner : Worker = home_of place versions.objects live form in
    let after : Versions = after_commands versions (scheduled versions (task_with args form) number (counted_from base number) place live) in
    copied_append tasks (ranked_task versions (task_with args form) number (counted_from base number) owner)
    (ranked_from place live base args (number + 1) after forms)
    (task_copied versions (task_with args form) number (counted_from base number) tasks owner (omega (arith, all)) few (few_reads objects form each.0)
    (λ object one. (let low = read_below objects form object each.0 one in omega (arith, low, small))))
    (ranked_copied place live base args (number + 1) tasks objects after forms (omega (arith, all)) few small each.1)

-- ---- closing copies

closing_copied : (base : ℕ) (args : List ℤ) (tasks : ℕ) (offsets : Versions) (needs : List (Worker × Object)) (copy objects : ℕ) → objects ≤ 512
    → AllByRecursion (λ (need : Worker × Object). need.1.0 < objects) needs
    → AreCopied tasks (map (command_at base args) (closing_entries copy (closings offsets needs)))
closing_copied base args tasks offsets [] copy objects small are = tt
closing_copied base args tasks offsets (need ∷ needs) copy objects small are =
    shown (closing_from offsets need) (λ k. closing_copied base args tasks (closed_for offsets need) needs k objects small are.1) where
      early : is_early (closing_number copy) ≡ true
      early = or_right (nat_lt (closing_number copy % 64) 16) (nat_le 65536 (closing_number copy)) (le-leb 65536 (closing_number copy) (omega arith))

      low : need.1.0 < 512
      low = (let first = are.0 in omega (arith, first, small))

      shown : (o : Option Worker)
          → ((k : ℕ) → AreCopied tasks (map (command_at base args) (closing_entries k (closings (closed_for offsets need) needs))))
          → AreCopied tasks (map (command_at base args) (closing_entries copy (copy_from offsets need o ++ closings (closed_for offsets need) needs)))
      shown None rest = rest copy
      shown (Some from) rest = (
        λ is. (low, refl, early),
        λ late. absurd (false≢true (sym late ∙ early)),
        λ behind. early,
        (λ is. low, λ late. absurd (false≢true (sym late ∙ early)), λ behind. early, rest (copy + 1)),
      )

needs_low : (offsets : Versions) (objects : ℕ) (needs : List (Worker × Object)) → offsets.objects ≡ objects → AreNeeds offsets needs
    → AllByRecursion (λ (need : Worker × Object). need.1.0 < objects) needs
needs_low offsets objects [] columns are = tt
needs_low offsets objects (need ∷ needs) columns are = (omega (arith, columns, are.1), needs_low offsets objects needs columns are.3)

-- ---- the order of ranks

-- what was built, single scheduling's commands of each task and then the closing copies, ascends by rank
pub record AreOrdered (place : Placement) (objects : ℕ) (live : List Bool) (forms : List TaskForm) (base : ℕ) (args : List ℤ) (versions : Versions)
    : Type 0 where
  pub few : length (closings (end_of place objects live forms).offsets (needs_of (end_of place objects live forms).needed
      (all_slots (length live) objects))) ≤ 8192
  pub last : RanksAscend (2 * (65536 + 0)) (2 * (65536 + 0 + length (closings (end_of place objects live forms).offsets
      (needs_of (end_of place objects live forms).needed (all_slots (length live) objects)))))
      (map (command_at base args) (closing_of place objects live forms))
  pub order : RanksAscend (128 * 0) (2 * (65536 + 0 + length (closings (end_of place objects live forms).offsets
      (needs_of (end_of place objects live forms).needed (all_slots (length live) objects)))))
      (ranked_from place live base args 0 versions forms ++ map (command_at base args) (closing_of place objects live forms))

pub ordered_is : (place : Placement) (objects : ℕ) (live : List Bool) (forms : List TaskForm) (base : ℕ) (args : List ℤ) (versions : Versions)
    → length live ≤ 16 → objects ≤ 512 → length forms ≤ 1024 → list_all (is_fit objects) forms ≡ true
    → AreOrdered place objects live forms base args versions
ordered_is place objects live forms base args versions workers_few objects_few many fit = record {
  few = few;
  last = last;
  order =
      ascends_then (128 * 0) (128 * (0 + length forms)) (2 * (65536 + 0 + length copies)) (ranked_from place live base args 0 versions forms)
      (map (command_at base args) (closing_of place objects live forms))
      (ranked_ascend place live base args 0 versions forms (omega (arith, many)) (shorts objects forms fit))
      (ascends_lower (128 * (0 + length forms)) (2 * (65536 + 0)) (2 * (65536 + 0 + length copies))
      (map (command_at base args) (closing_of place objects live forms)) (omega (arith, many)) last);
} where
  walk : Walk
  walk = end_of place objects live forms

  needs : List (Worker × Object)
  needs = needs_of walk.needed (all_slots (length live) objects)

  copies : Closings
  copies = closings walk.offsets needs

  few : length copies ≤ 8192
  few =
      let long : length (all_slots (length live) objects) ≡ length live * objects = slots_long objects 0 (length live) in
      let most : length live * objects ≤ length live * 512 = mul-le-mul_left (length live) objects_few in
      let filtered = filter_few (λ (slot : Worker × Object). is_current walk.needed slot.1 slot.0) (all_slots (length live) objects) in
      let fewer : length copies ≤ length needs = closings_few walk.offsets needs in
      omega (arith, long, most, filtered, fewer, workers_few)

  last : RanksAscend (2 * (65536 + 0)) (2 * (65536 + 0 + length copies)) (map (command_at base args) (closing_of place objects live forms))
  last = closings_ascend base args 0 copies (omega (arith, few))

-- ---- all commands

-- what is known of the commands by rank
pub record IsListed (tasks : ℕ) (commands listed : List (Worker × Command)) : Type 0 where
  pub same : AreSame listed commands
  pub ascend : RanksAscend 0 262144 listed
  pub copied : AreCopied tasks listed
  pub ends : ends_sent listed ≡ ends_received listed

pub listed_is : (place : Placement) (objects : ℕ) (live : List Bool) (template : ControllerTemplate) (first : TaskForm) (others : List TaskForm)
    → template.forms ≡ first ∷ others → list_any (λ (flag : Bool). flag) live ≡ true → length live ≤ 16 → objects ≤ 512 → length template.forms ≤ 1024
    → list_all (is_fit objects) template.forms ≡ true → (job : Job) (base : ℕ) (args : List ℤ) (slots : Worker → Slot → Content)
    → MayBegin (built place objects live template) job base args slots
    → let commands : List (Worker × Command) = commands_from (read_version job base) base args 0 (built place objects live template).halves in
    IsListed (length template.forms) commands (by_rank base commands)
listed_is place objects live template first others forms_are some workers_few objects_few few fit job base args slots may = record {
  same = λ worker.
      sym (for_plain worker listed) ∙ ap (commands_for worker) ordered ∙ for_plain worker all ∙ sym (same worker);
  ascend =
      plain_ascends 0 262144 listed
      (subst (RanksAscend 0 262144) (sym ordered)
      (ascends_plain 0 262144 all
      (subst (RanksAscend 0 262144) (append-nil all)
      (ascends_then 0 (2 * (65536 + 0 + length copies)) 262144 all []
      (ascends_lower 0 (128 * 0) (2 * (65536 + 0 + length copies)) all (omega arith) ranks.order) (omega (arith, ranks.few))))));
  copied =
      plain_copied (length forms) listed
      (subst (AreCopied (length forms)) (sym ordered)
      (copied_plain (length forms) all
      (copied_append (length forms) ranked last
      (ranked_copied place live base args 0 (length forms) objects entry forms (omega arith) few objects_few fit)
      (closing_copied base args (length forms) walk.offsets needs 0 objects objects_few (needs_low walk.offsets objects needs to.like.objects are_needs)))));
  ends =
      sym (sent_plain listed) ∙ ap ends_sent ordered ∙ sent_plain all ∙ all_ends place live base args entry forms copies
      ∙ sym (sym (received_plain listed) ∙ ap ends_received ordered ∙ received_plain all);
} where
  workers : ℕ
  workers = length live

  forms : List TaskForm
  forms = template.forms

  made : WorkerTemplate
  made = built place objects live template

  version : Object → ℕ
  version = read_version job base

  walk : Walk
  walk = end_of place objects live forms

  needs : List (Worker × Object)
  needs = needs_of walk.needed (all_slots workers objects)

  homes : (n : ℕ) (f : TaskForm) → (home_of place n live f).0 < workers
  homes = home_within place live some

  begins : IsWalked 0 (empty_walk workers objects)
  begins = start_walked workers objects

  to : IsWalkedTo (0 + length forms) (empty_walk workers objects) walk
  to = walk_kept place live 0 (empty_walk workers objects) forms begins homes (omega (arith, few))

  are_needs : AreNeeds walk.offsets needs
  are_needs = needs_are (0 + length forms) walk (all_slots workers objects) to.walked

  base_is : (n : ℕ) → n + 0 ≡ n
  base_is n = omega arith

  tasks : AreTasksFrom job base args 0 forms
  tasks =
      tasks_from job base args 0 forms (drop (base + 0) (tasks_of job)) refl
      (ap (λ (n : ℕ). take (length forms) (drop n (tasks_of job))) (base_is base) ∙ may.tasks)

  room : base + 1024 < 2 ^ 64
  room =
      let there = (subst (λ (fs : List TaskForm). AreTasksFrom job base args 0 fs) forms_are tasks).0 in
      let low = position_few job (base + 0) (task_with args first) may.whole there in
      omega (arith, low)

  good : AreGood version slots workers objects needs
  good =
      needs_good version slots workers objects walk.offsets needs to.like.workers to.like.objects are_needs
      (recursion_from_All (λ (one : Worker × Object). slots one.0 (main_slot one.1) ≡ Some (one.1, read_version job base one.1)) needs may.held)

  entry : Versions
  entry = entry_map version workers objects needs

  at : IsAtEntry version slots workers objects base needs entry
  at = at_entry version slots workers objects base needs good (λ object. before_within (tasks_of job) base object) (omega (arith, room))

  is : IsDoneBy place objects live template base args entry
  is = done_by place objects live template base args entry some few fit at.before room at.current

  real : List (Worker × Command)
  real = scheduled_from place live base args 0 entry forms

  copies : Closings
  copies = closings walk.offsets needs

  last : List (Worker × Command)
  last = map (command_at base args) (closing_of place objects live forms)

  ranked : List (Worker × Command)
  ranked = ranked_from place live base args 0 entry forms

  all : List (Worker × Command)
  all = ranked ++ last

  ranks : AreOrdered place objects live forms base args entry
  ranks = ordered_is place objects live forms base args entry workers_few objects_few few fit

  commands : List (Worker × Command)
  commands = commands_from version base args 0 made.halves

  listed : List (Worker × Command)
  listed = by_rank base commands

  same : AreSame commands all
  same worker =
      is.same version worker
      ∙ ap (map without_before)
      (for_append worker real last
      ∙ ap (λ (cs : List Command). cs ++ commands_for worker last) (ranked_for place live base args 0 entry forms worker)
      ∙ sym (for_append worker ranked last))

  ordered : map plain listed ≡ map plain all
  ordered = in_order base (128 * 0) (2 * (65536 + 0 + length copies)) commands all ranks.order same
