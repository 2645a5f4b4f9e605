-- What an instance of a template asks each worker for.
use Rattle.std.proofs.Common.{◌≡◌, ℕ, ◌+◌, ◌<◌, ◌≤◌, Bool, true, false, List, [], ◌∷◌, ◌++◌, length, map, refl, ap, ap₂, sym, ◌∙◌, arith, Option}
use Rattle.std.proofs.Common.{None, Some}
use Rattle.std.specs.Prelude.{◌*◌, ◌^◌, ◌==◌, ◌||◌, if◌then◌else◌, nat_lt, slice_index_or, ℤ}
use Rattle.std.specs.List.{filter, fold, list_all, list_any}
use Rattle.std.specs.Option.{is_some}
use Rattle.std.proofs.lemmas.Bool.{eqb-true, false≢true, le-ltb, lt-ltb}
use Rattle.std.proofs.lemmas.List.{append-nil, map-append}
use Rattle.std.proofs.lemmas.List.Elements.{filter-append}
use Rattle.std.proofs.lemmas.List.FromFn.{get_or-map-range_with_len}
use Rattle.std.proofs.Math.Nat.{mul-le-mul_left}
use Rattle.nim_base.specs.declared.number.Object.{Object}
use Rattle.nim_base.specs.declared.number.Worker.{Worker}
use Rattle.nim_base.specs.declared.task.TaskForm.{TaskForm}
use Rattle.nim_command.specs.declared.command.Command.{Command}
use Rattle.nim_command.specs.declared.entry.Entry.{Entry}
use Rattle.nim_command.specs.Before.{Footprint}
use Rattle.nim_command.specs.Expansion.{command_for, expanded, taken_after, version_at}
use Rattle.nim_command.specs.Numbers.{main_slot}
use Rattle.nim_command.specs.Ruled.{entries_by_rule, entry_footprint}
use Rattle.nim_place.specs.declared.placement.Placement.{Placement}
use Rattle.nim_place.specs.Stands.{commands_for}
use Rattle.nim_place.specs.Versions.{Versions, after_commands, held_at, is_current, latest_of, no_versions}
use Rattle.nim_place.proofs.Places.{both_true}
use Rattle.nim_template.specs.declared.closing.Closing.{Closing}
use Rattle.nim_template.specs.declared.template.ControllerTemplate.{ControllerTemplate}
use Rattle.nim_template.specs.declared.walk.Walk.{Walk}
use Rattle.nim_template.specs.Again.{IsBefore, are_current}
use Rattle.nim_template.specs.Built.{all_slots, built, end_of, entries_for, half_for, needs_of}
use Rattle.nim_template.specs.Closing.{closing_entries, closings}
use Rattle.nim_template.specs.Fits.{is_fit}
use Rattle.nim_template.specs.Tasks.{DoTasks, of_tasks, scheduled_from, without_before}
use Rattle.nim_template.specs.Walk.{walked_past, home_of, empty_walk, walked, with_need}
use Rattle.nim_base.proofs.Lists.{replicate_or}
use Rattle.nim_template.proofs.Again.{home_within, nothing_held, start_walked}
use Rattle.nim_template.proofs.Alike.{IsAlike}
use Rattle.nim_template.proofs.Chosen.{command_at, plain}
use Rattle.nim_template.proofs.Closes.{current_of}
use Rattle.nim_template.proofs.Effects.{is_slot, slot_there}
use Rattle.nim_template.proofs.Instances.{AreTasks, tasks_same}
use Rattle.nim_template.proofs.Numbers.{Between, closing_between, closings_apart, closings_few, filter_few, for_append, slots_long, walk_between}
use Rattle.nim_template.proofs.Offsets.{IsKept, kept_put}
use Rattle.nim_template.proofs.Sizes.{AreLike, form_like, like_need, need_if}
use Rattle.nim_template.proofs.Walks.{IsWalked, IsWalkedTo, form_walked, has_any, need_walked, walk_kept}
use Rattle.nim_template.proofs.Zeros.{IsZero}

-- ---- lists of commands

-- the command of an entry at a base, its before set aside
abbrev pub bare : ℕ → List ℤ → Entry → Command
bare base args entry = without_before (command_for base args 0 entry)

expanded_bare : (base : ℕ) (args : List ℤ) (taken : ℕ) (past : List Footprint) (entries : List Entry)
    → map without_before (expanded base args [] taken (entries_by_rule past entries)) ≡ map (bare base args) entries
expanded_bare base args taken past [] = refl
expanded_bare base args taken past (entry ∷ entries) =
    ap (λ (cs : List Command). bare base args entry ∷ cs) (expanded_bare base args (taken_after taken entry.kind) (past ++ entry_footprint entry ∷ []) entries)

pub for_commands : (base : ℕ) (args : List ℤ) (worker : Worker) (entries : List (Worker × Entry))
    → map (bare base args) (entries_for worker entries) ≡ commands_for worker (map (command_at base args) entries)
for_commands base args worker [] = refl
for_commands base args worker (e ∷ entries) = either (e.0.0 == worker.0) (for_commands base args worker entries) where
  either : (b : Bool) → map (bare base args) (entries_for worker entries) ≡ commands_for worker (map (command_at base args) entries)
      → map (bare base args) (map (λ (x : Worker × Entry). x.1) (if b then e ∷ filter (λ (x : Worker × Entry). x.0.0 == worker.0) entries else filter (λ
      (x : Worker × Entry). x.0.0 == worker.0) entries))
      ≡ map (λ (c : Worker × Command). c.1)
      (if b
      then command_at base args e ∷ filter (λ (c : Worker × Command). c.0.0 == worker.0) (map (command_at base args) entries)
      else filter (λ (c : Worker × Command). c.0.0 == worker.0) (map (command_at base args) entries))
  either true rest = ap (λ (cs : List Command). bare base args e.1 ∷ cs) rest
  either false rest = rest

pub for_plain : (worker : Worker) (commands : List (Worker × Command)) → commands_for worker (map plain commands) ≡ map without_before
    (commands_for worker commands)
for_plain worker [] = refl
for_plain worker (c ∷ commands) = either (c.0.0 == worker.0) (for_plain worker commands) where
  either : (b : Bool) → commands_for worker (map plain commands) ≡ map without_before (commands_for worker commands)
      → map (λ (x : Worker × Command). x.1)
      (if b
      then plain c ∷ filter (λ (x : Worker × Command). x.0.0 == worker.0) (map plain commands)
      else filter (λ (x : Worker × Command). x.0.0 == worker.0) (map plain commands))
      ≡ map without_before
      (map (λ (x : Worker × Command). x.1)
      (if b then c ∷ filter (λ (x : Worker × Command). x.0.0 == worker.0) commands else filter (λ (x : Worker × Command). x.0.0 == worker.0) commands))
  either true rest = ap (λ (cs : List Command). without_before c.1 ∷ cs) rest
  either false rest = rest

-- ---- numbers

abbrev is_task : Command → Bool
is_task command = nat_lt command.id 65536

ordered : (low high : ℕ) (entries : List Entry) → Between low high entries → low ≤ high
ordered low high [] are = are
ordered low high (entry ∷ entries) are = let rest = ordered (entry.id + 1) high entries are.1 in omega (arith, rest, are.0)

tasks_kept : (base : ℕ) (args : List ℤ) (low high : ℕ) (entries : List Entry) → Between low high entries → high ≤ 65536
    → filter is_task (map (bare base args) entries) ≡ map (bare base args) entries
tasks_kept base args low high [] are below = refl
tasks_kept base args low high (entry ∷ entries) are below =
    let room = ordered (entry.id + 1) high entries are.1 in
    ap₂ (λ (b : Bool) (rest : List Command). if b then bare base args entry ∷ rest else rest) (lt-ltb entry.id 65536 (omega (arith, room, below)))
    (tasks_kept base args (entry.id + 1) high entries are.1 below)

closings_dropped : (base : ℕ) (args : List ℤ) (low high : ℕ) (entries : List Entry) → Between low high entries → 65536 ≤ low
    → filter is_task (map (bare base args) entries) ≡ []
closings_dropped base args low high [] are above = refl
closings_dropped base args low high (entry ∷ entries) are above =
    ap₂ (λ (b : Bool) (rest : List Command). if b then bare base args entry ∷ rest else rest) (le-ltb entry.id 65536 (omega (arith, are.0, above)))
    (closings_dropped base args (entry.id + 1) high entries are.1 (omega (arith, are.0, above)))

-- ---- what is needed is current

need_zero : (most : ℕ) (owner : Worker) (walk : Walk) (object : Object) → IsWalked most walk → owner.0 < walk.offsets.workers → IsKept 0 walk.needed
    → IsKept 0 (with_need owner walk object).needed
need_zero most owner walk object is below kept = either (latest_of walk.offsets object == 0) where
  either : (b : Bool)
      → IsKept 0
      (need_if b owner walk object).needed
  either true =
      kept_put 0 0 walk.needed owner 0 (main_slot object ∷ []) kept (omega (arith, is.workers, below)) (omega arith) (omega arith)
      (λ other inside among. kept.latest other inside)
  either false = kept

needs_zero : (most : ℕ) (owner : Worker) (reads : List Object) (walk : Walk) → IsWalked most walk → owner.0 < walk.offsets.workers → IsKept 0 walk.needed
    → IsKept 0 (fold (with_need owner) walk reads).needed
needs_zero most owner [] walk is below kept = kept
needs_zero most owner (object ∷ reads) walk is below kept =
    let like = like_need owner walk object in
    needs_zero most owner reads (with_need owner walk object) (need_walked most owner walk object is below) (omega (arith, like.workers, below))
    (need_zero most owner walk object is below kept)

walk_zero : (place : Placement) (live : List Bool) (number : ℕ) (walk : Walk) (forms : List TaskForm) → IsWalked number walk
    → ((objects : ℕ) (f : TaskForm) → (home_of place objects live f).0 < walk.offsets.workers) → number + length forms < 2 ^ 64 → IsKept 0 walk.needed
    → IsKept 0 (walked place live number walk forms).needed
walk_zero place live number walk [] is homes room kept = kept
walk_zero place live number walk (form ∷ forms) is homes room kept =
    let next : Walk = walked_past place live number walk form in
    let like : AreLike walk.offsets next.offsets = form_like place live number walk next form refl in
    walk_zero place live (number + 1) next forms (form_walked number place live walk form is homes (omega (arith, room)))
    (λ objects f. (let low = homes objects f in omega (arith, like.workers, low))) (omega (arith, room))
    (needs_zero number (home_of place walk.offsets.objects live form) form.reads walk is (homes walk.offsets.objects form) kept)

-- what has anything in a map of nothing but 0 is current
zero_current : (offsets : Versions) (worker : Worker) (object : Object) → IsKept 0 offsets → worker.0 < offsets.workers → object.0 < offsets.objects
    → (o : Option ℕ) → held_at offsets worker (main_slot object) ≡ o → is_some o ≡ true → is_current offsets object worker ≡ true
zero_current offsets worker object kept below there None is some = absurd (false≢true some)
zero_current offsets worker object kept below there (Some offset) is some =
    let under = kept.held worker object offset below there is in
    let most = kept.latest object there in
    let same : offset ≡ latest_of offsets object = omega (arith, under, most) in
    current_of offsets object worker (is ∙ ap Some same)

-- what holds of all that pass a test
from_all : (p q : Worker × Object → Bool) (need : Worker × Object) (slots : List (Worker × Object)) → list_all q (filter p slots) ≡ true
    → list_any (is_slot need) slots ≡ true → p need ≡ true → q need ≡ true
from_all p q need [] all some passes = absurd (false≢true some)
from_all p q need (slot ∷ slots) all some passes =
    either (is_slot need slot) (p slot) refl refl all some (λ rest later. from_all p q need slots rest later passes) where
      same : is_slot need slot ≡ true → slot ≡ need
      same is =
          let each = both_true (slot.0.0 == need.0.0) (slot.1.0 == need.1.0) is in
          let pair : ℕ → ℕ → Worker × Object = λ w o. (record { 0 = w }, record { 0 = o }) in
          ap₂ pair (eqb-true slot.0.0 need.0.0 each.0) (eqb-true slot.1.0 need.1.0 each.1)

      either : (b c : Bool) → is_slot need slot ≡ b → p slot ≡ c → list_all q (if c then slot ∷ filter p slots else filter p slots) ≡ true
          → (b || list_any (is_slot need) slots) ≡ true
          → (list_all q (filter p slots) ≡ true → list_any (is_slot need) slots ≡ true → q need ≡ true) → q need ≡ true
      either true true is passed all some rest = sym (ap q (same is)) ∙ (both_true (q slot) (list_all q (filter p slots)) all).0
      either true false is passed all some rest = absurd (false≢true (sym passed ∙ ap p (same is) ∙ passes))
      either false true is passed all some rest = rest (both_true (q slot) (list_all q (filter p slots)) all).1 some
      either false false is passed all some rest = rest all some

-- ---- the template

pub start_alike : (base workers objects : ℕ) (versions : Versions) → IsBefore workers objects base versions
    → IsAlike base versions (no_versions workers objects) versions
start_alike base workers objects versions before = record {
  whole = record { slots = before.slots; all = before.all };
  workers = before.rows;
  objects = before.columns;
  latest = λ object there. sym (ap (version_at base (latest_of versions object)) (replicate_or {X = ℕ} objects object.0 0));
  held = λ worker object offset below there is.
      absurd (false≢true (ap (λ (o : Option ℕ). is_some o) (sym (nothing_held workers objects worker object) ∙ is)));
  old = λ worker object below there is. refl;
}

start_zero : (workers objects : ℕ) (versions : Versions) → IsZero versions (no_versions workers objects)
start_zero workers objects versions = record {
  current = λ worker object below there is.
      absurd (false≢true (ap (λ (o : Option ℕ). is_some o) (sym (nothing_held workers objects worker object) ∙ is)));
}

-- where the preconditions hold, what the walk needs at entry is current
pub needed_current : (place : Placement) (objects : ℕ) (live : List Bool) (forms : List TaskForm) (versions : Versions)
    → list_any (λ (flag : Bool). flag) live ≡ true → length forms ≤ 1024
    → are_current versions (needs_of (end_of place objects live forms).needed (all_slots (length live) objects)) ≡ true
    → (worker : Worker) (object : Object) → worker.0 < length live → object.0 < objects
    → has_any (end_of place objects live forms).needed worker object ≡ true → is_current versions object worker ≡ true
needed_current place objects live forms versions some few now worker object below inside has =
    let workers : ℕ = length live in
    let walk : Walk = end_of place objects live forms in
    let slots : List (Worker × Object) = all_slots workers objects in
    let begins : IsWalked 0 (empty_walk workers objects) = start_walked workers objects in
    let homes : (n : ℕ) (f : TaskForm) → (home_of place n live f).0 < workers = home_within place live some in
    let to : IsWalkedTo (0 + length forms) (empty_walk workers objects) walk = walk_kept place live 0 (empty_walk workers objects) forms begins homes (omega
    (arith, few)) in
    let zeros : IsKept 0 walk.needed = walk_zero place live 0 (empty_walk workers objects) forms begins homes (omega (arith, few)) begins.kept in
    from_all (λ (slot : Worker × Object). is_current walk.needed slot.1 slot.0) (λ (slot : Worker × Object). is_current versions slot.1 slot.0)
    (worker, object) slots now
    (slot_there workers objects (worker, object) below inside)
    (zero_current walk.needed worker object zeros (omega (arith, to.walked.workers, to.like.workers, below)) (omega
    (arith, to.walked.objects, to.like.objects, inside))
    (held_at walk.needed worker (main_slot object)) refl has)

-- what the walk over a block's tasks comes to, for a map in which what it needs is current
pub record IsDoneFrom (place : Placement) (objects : ℕ) (live : List Bool) (forms : List TaskForm) (base : ℕ) (args : List ℤ)
    (versions : Versions) : Type 0 where
  pub to : IsWalkedTo (0 + length forms) (empty_walk (length live) objects) (end_of place objects live forms)
  pub tasks : AreTasks base args versions (empty_walk (length live) objects) (end_of place objects live forms)
      (scheduled_from place live base args 0 versions forms) (after_commands versions (scheduled_from place live base args 0 versions forms))

pub done_from : (place : Placement) (objects : ℕ) (live : List Bool) (forms : List TaskForm) (base : ℕ) (args : List ℤ) (versions : Versions)
    → list_any (λ (flag : Bool). flag) live ≡ true → length forms ≤ 1024 → list_all (is_fit objects) forms ≡ true
    → IsBefore (length live) objects base versions → base + 1024 < 2 ^ 64
    → are_current versions (needs_of (end_of place objects live forms).needed (all_slots (length live) objects)) ≡ true
    → IsDoneFrom place objects live forms base args versions
done_from place objects live forms base args versions some few fit before room now =
    let workers : ℕ = length live in
    let walk : Walk = end_of place objects live forms in
    let begins : IsWalked 0 (empty_walk workers objects) = start_walked workers objects in
    let homes : (n : ℕ) (f : TaskForm) → (home_of place n live f).0 < workers = home_within place live some in
    let to : IsWalkedTo (0 + length forms) (empty_walk workers objects) walk = walk_kept place live 0 (empty_walk workers objects) forms begins homes (omega
    (arith, few)) in
    record {
      to = to;
      tasks =
          tasks_same place live base args versions 0 (empty_walk workers objects) versions forms (start_alike base workers objects versions before)
          (start_zero workers objects versions) begins homes (record { latest = before.latest; held = before.held }) fit
          (needed_current place objects live forms versions some few now)
          (omega (arith, few)) room;
    }

-- an instance asks for the tasks
pub built_tasks : (place : Placement) (objects : ℕ) (live : List Bool) (template : ControllerTemplate) → list_any (λ (flag : Bool). flag) live ≡ true
    → length live ≤ 16 → objects ≤ 512 → length template.forms ≤ 1024 → list_all (is_fit objects) template.forms ≡ true
    → DoTasks place live objects (built place objects live template)
built_tasks place objects live template some workers_few objects_few few fit base args versions before room now worker below =
    let workers : ℕ = length live in
    let forms : List TaskForm = template.forms in
    let walk : Walk = end_of place objects live forms in
    let slots : List (Worker × Object) = all_slots workers objects in
    let needs : List (Worker × Object) = needs_of walk.needed slots in
    let copies : List Closing = closings walk.offsets needs in
    let entries : List (Worker × Entry) = walk.entries ++ closing_entries 0 copies in
    let long : length slots ≡ workers * objects = slots_long objects 0 workers in
    let most : workers * objects ≤ workers * 512 = mul-le-mul_left workers objects_few in
    let filtered : length needs ≤ length slots = filter_few (λ (slot : Worker × Object). is_current walk.needed slot.1 slot.0) slots in
    let closed_few : length copies ≤ length needs = closings_few walk.offsets needs in
    let real : List (Worker × Command) = scheduled_from place live base args 0 versions forms in
    let same : map (command_at base args) walk.entries ≡ map plain real =
    (done_from place objects live forms base args versions some few fit before room now).tasks.same in
    let tasks : Between 0 (64 * (0 + length forms)) (entries_for worker walk.entries) =
    walk_between place live objects worker 0 (empty_walk workers objects) forms (omega (arith, few)) fit (omega arith) in
    let closes : Between (65536 + 0) (65536 + 0 + length copies) (entries_for worker (closing_entries 0 copies)) =
    closing_between worker 0 copies (closings_apart walk.offsets needs) (omega (arith, long, most, filtered, closed_few, workers_few)) in
    let own : List Entry = entries_for worker walk.entries in
    let behind : List Entry = entries_for worker (closing_entries 0 copies) in
    let half : slice_index_or (built place objects live template).halves worker.0 [] ≡ half_for worker entries =
    get_or-map-range_with_len (λ (n : ℕ). half_for (record { 0 = n }) entries) 0 workers worker.0 worker.0 [] below (omega arith) in
    ap (λ (es : List Entry). of_tasks (expanded base args [] 0 es)) half
    ∙ ap (filter is_task) (expanded_bare base args 0 [] (entries_for worker entries)
    ∙ ap (map (bare base args)) (for_append worker walk.entries (closing_entries 0 copies))
    ∙ map-append (bare base args) own behind)
    ∙ filter-append is_task (map (bare base args) own) (map (bare base args) behind)
    ∙ ap₂ (λ (xs ys : List Command). xs ++ ys) (tasks_kept base args 0 (64 * (0 + length forms)) own tasks (omega (arith, few)))
    (closings_dropped base args (65536 + 0) (65536 + 0 + length copies) behind closes (omega arith))
    ∙ append-nil (map (bare base args) own)
    ∙ for_commands base args worker walk.entries
    ∙ ap (commands_for worker) same
    ∙ for_plain worker real
