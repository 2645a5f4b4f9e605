-- The worker template of a block is sound.
use Rattle.std.proofs.Common.{◌≡◌, ℕ, zero, suc, ◌+◌, ◌<◌, ◌≤◌, Bool, true, false, List, [], ◌∷◌, ◌++◌, drop, length, map, refl, ap, ap₂, sym}
use Rattle.std.proofs.Common.{subst, ◌∙◌, arith}
use Rattle.std.proofs.Common.{Option, Some}
use Rattle.std.specs.Prelude.{◌*◌, ◌^◌, ◌==◌, All, count_by, if◌then◌else◌, take, ℤ}
use Rattle.std.specs.List.{AllByRecursion, list_all, list_any, range_with_len}
use Rattle.std.specs.Option.{option_map_or}
use Rattle.std.proofs.lemmas.List.{length-map}
use Rattle.std.proofs.lemmas.List.Elements.{All-from_recursion, All-nil, recursion_from_All}
use Rattle.std.proofs.Math.Nat.{mul-le-mul_left}
use Rattle.nim_base.specs.declared.number.Object.{Object}
use Rattle.nim_base.specs.declared.number.Slot.{Slot}
use Rattle.nim_base.specs.declared.number.Worker.{Worker}
use Rattle.nim_base.specs.declared.task.TaskForm.{TaskForm}
use Rattle.nim_command.specs.declared.command.Command.{Command}
use Rattle.nim_command.specs.declared.template.WorkerTemplate.{WorkerTemplate}
use Rattle.nim_command.specs.Holds.{Content}
use Rattle.nim_command.specs.Numbers.{main_slot}
use Rattle.nim_job.specs.Serial.{tasks_of}
use Rattle.nim_job.specs.Versions.{read_version}
use Rattle.nim_place.specs.declared.placement.Placement.{Placement}
use Rattle.nim_place.specs.Sound.{AreFound, DoesTasks, EachEndOnce, IsSound, Plane, by_rank, commands_from, first_plane, is_end}
use Rattle.nim_place.specs.Sound.{plane_left as walked_plane}
use Rattle.nim_place.specs.Versions.{Versions, after_commands, held_at, is_current, latest_of, no_versions}
use Rattle.nim_place.proofs.GoesOn.{before_within, position_few}
use Rattle.nim_template.specs.declared.closing.Closing.{Closing}
use Rattle.nim_template.specs.declared.template.ControllerTemplate.{ControllerTemplate}
use Rattle.nim_template.specs.declared.walk.Walk.{Walk}
use Rattle.nim_template.specs.Built.{all_halves, all_slots, built, effect_at, effect_here, effect_of, end_of, half_for, needs_of}
use Rattle.nim_template.specs.Closing.{after_closings, closing_entries, closings}
use Rattle.nim_template.specs.Fits.{is_fit}
use Rattle.nim_template.specs.Tasks.{scheduled_from, task_with}
use Rattle.nim_template.specs.Walk.{home_of, empty_walk}
use Rattle.nim_template.proofs.Again.{home_within, needs_are, nothing_held, start_walked}
use Rattle.nim_template.proofs.AtEntry.{AreGood, IsAtEntry, at_entry, entry_map}
use Rattle.nim_template.proofs.Chosen.{command_at, plain}
use Rattle.nim_template.proofs.Closes.{AreNeeds, Closes, closes}
use Rattle.nim_template.proofs.Ends.{closings_alike}
use Rattle.nim_template.proofs.Given.{tasks_from}
use Rattle.nim_template.proofs.Halves.{needed_current, start_alike}
use Rattle.nim_template.proofs.InOrder.{AreInOrder, are_in_order}
use Rattle.nim_template.proofs.InTurn.{AreTasksFrom}
use Rattle.nim_template.proofs.Left.{IsDoneBy, closing_of, done_by}
use Rattle.nim_template.proofs.Numbers.{filter_few, slots_long}
use Rattle.nim_template.proofs.Planes.{IsRun, below_more}
use Rattle.nim_template.proofs.Ranked.{ranked_from}
use Rattle.nim_template.proofs.RankedEnds.{Ends, all_ends, ends_once, ends_received, ends_sent}
use Rattle.nim_template.proofs.Sizes.{like_commands}
use Rattle.nim_template.proofs.ClosingsRun.{closings_run}
use Rattle.nim_template.proofs.TasksRun.{AreRun, run_then, tasks_run}
use Rattle.nim_template.proofs.Walks.{IsWalked, IsWalkedTo, walk_kept}
use Rattle.nim_template.proofs.Plain.{found_plain, plain_found, received_plain, sent_plain, walked_plain}
use Rattle.nim_template.proofs.Says.{IsEnd, SaysOf, each_flat_all, item_says, unnamed}

-- ---- slots that meet the preconditions

pub needs_good : (version : Object → ℕ) (slots : Worker → Slot → Content) (workers objects : ℕ) (offsets : Versions) (needs : List (Worker × Object))
    → offsets.workers ≡ workers → offsets.objects ≡ objects → AreNeeds offsets needs
    → AllByRecursion (λ (one : Worker × Object). slots one.0 (main_slot one.1) ≡ Some (one.1, version one.1)) needs
    → AreGood version slots workers objects needs
needs_good version slots workers objects offsets [] rows columns are held = tt
needs_good version slots workers objects offsets (need ∷ needs) rows columns are held =
    let row = are.0 in
    let column = are.1 in (
      omega (arith, rows, row),
      omega (arith, columns, column),
      held.0,
      needs_good version slots workers objects offsets needs rows columns are.3 held.1,
    )

-- ---- a block with tasks

sound_some : (place : Placement) (objects : ℕ) (live : List Bool) (template : ControllerTemplate) (first : TaskForm) (others : List TaskForm)
    → template.forms ≡ first ∷ others → list_any (λ (flag : Bool). flag) live ≡ true → length live ≤ 16 → objects ≤ 512 → length template.forms ≤ 1024
    → list_all (is_fit objects) template.forms ≡ true → IsSound (built place objects live template)
sound_some place objects live template first others forms_are some workers_few objects_few few fit job base args slots may =
    record {
      found = plain_found job (first_plane slots) listed (subst (AreFound job (first_plane slots)) (sym ordered) (found_plain job
          (first_plane slots) all run.found));
      matched = record {
        sent = subst (λ (es : Ends). EachEndOnce es (ends_received listed)) (sym sent_is) (subst (EachEndOnce (ends_received all)) (sym received_is) once);
        received = subst (λ (es : Ends). EachEndOnce es (ends_sent listed)) (sym received_is) (subst (EachEndOnce (ends_received all)) (sym sent_is) once);
      };
      owners = length-map forms (home_of place objects live);
      runs = are_listed.runs;
      effect =
          All-from_recursion (SaysOf (walked_plane (first_plane slots) listed).slots version base) made.effect
          (subst (λ (p : Plane). AllByRecursion (SaysOf p.slots version base) made.effect) (sym walked_is)
          (each_flat_all (SaysOf plane.slots version base) (effect_here offsets) (all_slots workers objects)
          (λ slot. item_says (0 + length forms) base slots entry offsets after plane version slot end (held_at offsets slot.0 (main_slot slot.1)) refl)));
      rest = λ worker slot low unaffected.
          ap (λ (p : Plane). p.slots worker slot) walked_is
          ∙ unnamed (0 + length forms) base workers objects slots entry offsets after plane version needs end at rows columns worker slot unaffected
          (held_at after worker slot) refl;
    } where
      workers : ℕ
      workers = length live

      forms : List TaskForm
      forms = template.forms

      made : WorkerTemplate
      made = built place objects live template

      version : Object → ℕ
      version = read_version job base

      walk : Walk
      walk = end_of place objects live forms

      needs : List (Worker × Object)
      needs = needs_of walk.needed (all_slots workers objects)

      homes : (n : ℕ) (f : TaskForm) → (home_of place n live f).0 < workers
      homes = home_within place live some

      begins : IsWalked 0 (empty_walk workers objects)
      begins = start_walked workers objects

      to : IsWalkedTo (0 + length forms) (empty_walk workers objects) walk
      to = walk_kept place live 0 (empty_walk workers objects) forms begins homes (omega (arith, few))

      are_needs : AreNeeds walk.offsets needs
      are_needs = needs_are (0 + length forms) walk (all_slots workers objects) to.walked

      base_is : (n : ℕ) → n + 0 ≡ n
      base_is n = omega arith

      tasks : AreTasksFrom job base args 0 forms
      tasks =
          tasks_from job base args 0 forms (drop (base + 0) (tasks_of job)) refl
          (ap (λ (n : ℕ). take (length forms) (drop n (tasks_of job))) (base_is base) ∙ may.tasks)

      room : base + 1024 < 2 ^ 64
      room =
          let there = (subst (λ (fs : List TaskForm). AreTasksFrom job base args 0 fs) forms_are tasks).0 in
          let low = position_few job (base + 0) (task_with args first) may.whole there in
          omega (arith, low)

      good : AreGood version slots workers objects needs
      good =
          needs_good version slots workers objects walk.offsets needs to.like.workers to.like.objects are_needs
          (recursion_from_All (λ (one : Worker × Object). slots one.0 (main_slot one.1) ≡ Some (one.1, read_version job base one.1)) needs may.held)

      entry : Versions
      entry = entry_map version workers objects needs

      at : IsAtEntry version slots workers objects base needs entry
      at = at_entry version slots workers objects base needs good (λ object. before_within (tasks_of job) base object) (omega (arith, room))

      is : IsDoneBy place objects live template base args entry
      is = done_by place objects live template base args entry some few fit at.before room at.current

      real : List (Worker × Command)
      real = scheduled_from place live base args 0 entry forms

      mid : Versions
      mid = after_commands entry real

      copies : List Closing
      copies = closings walk.offsets needs

      last : List (Worker × Command)
      last = map (command_at base args) (closing_of place objects live forms)

      after : Versions
      after = after_commands mid last

      ranked : List (Worker × Command)
      ranked = ranked_from place live base args 0 entry forms

      all : List (Worker × Command)
      all = ranked ++ last

      needs_few : length needs ≤ 8192
      needs_few =
          let long : length (all_slots workers objects) ≡ workers * objects = slots_long objects 0 workers in
          let most : workers * objects ≤ workers * 512 = mul-le-mul_left workers objects_few in
          let filtered = filter_few (λ (slot : Worker × Object). is_current walk.needed slot.1 slot.0) (all_slots workers objects) in
          omega (arith, long, most, filtered, workers_few)

      first_run : AreRun job slots (first_plane slots) ranked (64 * (0 + length forms)) (base + (0 + length forms)) mid
      first_run =
          tasks_run place live job base args slots entry 0 (empty_walk workers objects) entry forms (first_plane slots)
          (start_alike base workers objects entry at.before) begins homes (record { latest = at.before.latest; held = at.before.held }) fit
          (needed_current place objects live forms entry some few at.current) (omega (arith, few)) room may.whole tasks
          (omega (arith, at.pre.columns, objects_few))
          (λ object inside.
          at.pre.latest object (omega (arith, at.pre.columns, inside)) ∙ sym (ap (λ (n : ℕ). read_version job n object) (base_is base)))
          (record {
            whole = at.pre.whole;
            held = λ worker object found below there held.
                (let both = at.pre.held worker object found held in both.1 ∙ ap (λ (n : ℕ). Some (object, n)) (sym both.0));
            rest = λ worker slot none. refl;
          })
          tt

      last_run : AreRun job slots (walked_plane (first_plane slots) ranked) last (65536 + 0 + length copies) (base + (0 + length forms)) after
      last_run =
          let like = like_commands real entry in
          closings_run job slots (base + (0 + length forms)) (0 + length forms) base args entry walk.offsets mid needs 0
          (walked_plane (first_plane slots) ranked) is.closing (omega (arith, like.objects, at.pre.columns, objects_few)) may.whole (omega (arith, needs_few))
          first_run.latest first_run.run.like
          (below_more (64 * (0 + length forms)) (65536 + 0) (walked_plane (first_plane slots) ranked).frames (omega (arith, few)) first_run.run.frames)

      run : IsRun job slots (first_plane slots) all (65536 + 0 + length copies) after
      run =
          run_then job slots (first_plane slots) ranked last (64 * (0 + length forms)) (65536 + 0 + length copies) mid after first_run.run last_run.run

      are_listed : AreInOrder place objects live template base args entry version
      are_listed =
          are_in_order place objects live template base args entry version workers_few objects_few few fit at.pre.columns (omega (arith, room)) is

      listed : List (Worker × Command)
      listed = by_rank base (commands_from version base args 0 made.halves)

      ordered : map plain listed ≡ map plain all
      ordered = are_listed.ordered

      sent_is : ends_sent listed ≡ ends_received all
      sent_is = sym (sent_plain listed) ∙ ap ends_sent ordered ∙ sent_plain all ∙ all_ends place live base args entry forms copies

      received_is : ends_received listed ≡ ends_received all
      received_is = sym (received_plain listed) ∙ ap ends_received ordered ∙ received_plain all

      once : EachEndOnce (ends_received all) (ends_received all)
      once = ends_once 0 are_listed.high all are_listed.ascend

      walked_is : walked_plane (first_plane slots) listed ≡ walked_plane (first_plane slots) all
      walked_is =
          sym (walked_plain (first_plane slots) listed) ∙ ap (walked_plane (first_plane slots)) ordered ∙ walked_plain (first_plane slots) all

      offsets : Versions
      offsets = after_closings walk.offsets needs

      plane : Plane
      plane = walked_plane (first_plane slots) all

      ends : Closes (0 + length forms) walk.offsets needs offsets
      ends = closes (0 + length forms) walk.offsets needs to.walked.kept are_needs

      rows : offsets.workers ≡ workers
      rows = ends.closed.is_after.workers ∙ to.like.workers

      columns : offsets.objects ≡ objects
      columns = ends.closed.is_after.objects ∙ to.like.objects

      end : IsEnd (0 + length forms) base slots entry offsets after plane
      end = record {
        kept = ends.closed.is_after.kept;
        few = omega (arith, few);
        small = omega (arith, columns, objects_few);
        ends = closings_alike (0 + length forms) base args entry walk.offsets mid needs 0 is.closing is.done.tasks.zero;
        like = run.like;
      }

-- ---- a block without tasks

pub nothing_current : (workers objects : ℕ) (slot : Worker × Object) → is_current (no_versions workers objects) slot.1 slot.0 ≡ false
nothing_current workers objects slot =
    ap (λ (o : Option ℕ). option_map_or (λ (version : ℕ). version == latest_of (no_versions workers objects) slot.1) o false)
    (nothing_held workers objects slot.0 slot.1)

pub nothing_needed : (workers objects : ℕ) (slots : List (Worker × Object)) → needs_of (no_versions workers objects) slots ≡ []
nothing_needed workers objects [] = refl
nothing_needed workers objects (slot ∷ slots) =
    ap (λ (b : Bool). if b then slot ∷ needs_of (no_versions workers objects) slots else needs_of (no_versions workers objects) slots)
    (nothing_current workers objects slot) ∙ nothing_needed workers objects slots

nothing_named : (workers objects : ℕ) (slots : List (Worker × Object)) → effect_of (no_versions workers objects) slots ≡ []
nothing_named workers objects [] = refl
nothing_named workers objects (slot ∷ slots) =
    ap₂ (λ (o : Option ℕ) (items : List (Worker × Slot × ℕ)). effect_at slot o ++ items) (nothing_held workers objects slot.0 slot.1)
    (nothing_named workers objects slots)

pub nothing_asked : (before : Object → ℕ) (base : ℕ) (args : List ℤ) (from n : ℕ)
    → commands_from before base args from (map (λ (number : ℕ). half_for (record { 0 = number }) []) (range_with_len from n)) ≡ []
nothing_asked before base args from zero = refl
nothing_asked before base args from (suc n) = nothing_asked before base args (from + 1) n

sound_none : (place : Placement) (objects : ℕ) (live : List Bool) (block : ℕ) → IsSound (built place objects live (record { block = block; forms = [] }))
sound_none place objects live block job base args slots may =
    subst (DoesTasks made job base slots) (sym none)
    (record {
      found = tt;
      matched = record {
        sent = All-nil (λ (one : Worker × ℕ × Object). count_by (is_end one) [] ≡ 1);
        received = All-nil (λ (one : Worker × ℕ × Object). count_by (is_end one) [] ≡ 1);
      };
      owners = refl;
      runs = refl;
      effect =
          subst (All (SaysOf slots (read_version job base) base)) (sym unnamed_is) (All-nil (SaysOf slots (read_version job base) base));
      rest = λ worker slot low unaffected. refl;
    }) where
      workers : ℕ
      workers = length live

      made : WorkerTemplate
      made = built place objects live (record { block = block; forms = [] })

      needs : List (Worker × Object)
      needs = needs_of (no_versions workers objects) (all_slots workers objects)

      needless : needs ≡ []
      needless = nothing_needed workers objects (all_slots workers objects)

      none : by_rank base (commands_from (read_version job base) base args 0 made.halves) ≡ []
      none =
          ap (by_rank base)
          (ap (λ (ns : List (Worker × Object)). commands_from (read_version job base) base args 0
          (all_halves workers (closing_entries 0 (closings (no_versions workers objects) ns)))) needless
          ∙ nothing_asked (read_version job base) base args 0 workers)

      unnamed_is : made.effect ≡ []
      unnamed_is =
          ap (λ (ns : List (Worker × Object)). effect_of (after_closings (no_versions workers objects) ns) (all_slots workers objects)) needless
          ∙ nothing_named workers objects (all_slots workers objects)

-- whatever the block
pub built_sound : (place : Placement) (objects : ℕ) (live : List Bool) (template : ControllerTemplate) → list_any (λ (flag : Bool). flag) live ≡ true
    → length live ≤ 16 → objects ≤ 512 → length template.forms ≤ 1024 → list_all (is_fit objects) template.forms ≡ true
    → IsSound (built place objects live template)
built_sound place objects live template some workers_few objects_few few fit = either template.forms refl where
  with_forms : List TaskForm → ControllerTemplate
  with_forms forms = record { block = template.block; forms = forms }

  either : (forms : List TaskForm) → template.forms ≡ forms → IsSound (built place objects live template)
  either [] none = subst (λ (fs : List TaskForm). IsSound (built place objects live (with_forms fs))) (sym none) (sound_none place objects live template.block)
  either (form ∷ forms) are = sound_some place objects live template form forms are some workers_few objects_few few fit
