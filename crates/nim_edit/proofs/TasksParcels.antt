-- What is sent in an instance whose tasks moved is received in the same order, with the version that it has.
use Rattle.std.proofs.Common.{◌≡◌, ℕ, ◌+◌, ◌<◌, ◌≤◌, Bool, true, false, List, [], ◌∷◌, ◌++◌, length, map, refl, ap, ap₂, sym, subst, ◌∙◌}
use Rattle.std.proofs.Common.{arith, Some}
use Rattle.std.specs.Prelude.{◌*◌, ◌^◌, ◌==◌, if◌then◌else◌, slice_index_or, ℤ}
use Rattle.std.specs.List.{AllByRecursion, flat_map, list_all, list_any, range_with_len}
use Rattle.std.proofs.lemmas.Bool.{ne_eqb}
use Rattle.std.proofs.lemmas.List.{append_assoc, length-append}
use Rattle.std.proofs.lemmas.List.Sums.{fold-append}
use Rattle.nim_base.specs.declared.number.Object.{Object}
use Rattle.nim_base.specs.declared.number.Worker.{Worker}
use Rattle.nim_base.specs.declared.task.Task.{Task}
use Rattle.nim_base.specs.declared.task.TaskForm.{TaskForm}
use Rattle.nim_command.specs.declared.command.Command.{Command}
use Rattle.nim_command.specs.declared.edit.Spec.{Spec}
use Rattle.nim_command.specs.declared.template.WorkerTemplate.{WorkerTemplate}
use Rattle.nim_command.specs.Edits.{first_reads, written_slots}
use Rattle.nim_command.specs.Expansion.{version_at}
use Rattle.nim_command.specs.Holds.{version_after}
use Rattle.nim_command.specs.Numbers.{counted_from, entry_number, main_slot, task_of}
use Rattle.nim_place.specs.declared.placement.Placement.{Placement}
use Rattle.nim_place.specs.Schedule.{copies_of, is_one_of, moves, receive_of, run_of, scheduled, send_of}
use Rattle.nim_place.specs.Stands.{MapStands}
use Rattle.nim_place.specs.TaskOrders.{IsRunAt}
use Rattle.nim_place.specs.Versions.{Versions, after_commands, after_kind, latest_of}
use Rattle.nim_place.proofs.Finds.{after_copies, latest_there}
use Rattle.nim_place.proofs.Given.{all_stand, copies_fit, schedule_stands}
use Rattle.nim_place.proofs.GoesOn.{schedule_runs}
use Rattle.nim_place.proofs.Moves.{moves_facts}
use Rattle.nim_place.proofs.Places.{both_true}
use Rattle.nim_place.proofs.Puts.{IsWhole}
use Rattle.nim_template.specs.Again.{IsBefore}
use Rattle.nim_template.specs.Fits.{is_fit}
use Rattle.nim_template.specs.Tasks.{scheduled_from, task_with}
use Rattle.nim_template.specs.Walk.{home_of}
use Rattle.nim_template.proofs.Fits.{few_reads}
use Rattle.nim_template.proofs.Planes.{Has}
use Rattle.nim_template.proofs.InOrder.{shorts}
use Rattle.nim_template.proofs.Ranked.{ranked_ascend, ranked_from, ranked_task}
use Rattle.nim_template.proofs.Sizes.{AreLike, like_commands}
use Rattle.nim_template.proofs.StaysBefore.{maps_stay_before}
use Rattle.nim_edit.specs.Form.{IsInForm}
use Rattle.nim_edit.specs.Masks.{is_left}
use Rattle.nim_edit.specs.Moves.{mask_for, no_task, offset_behind, spec_for, spec_of, worker_at}
use Rattle.nim_base.proofs.Lists.{each_append}
use Rattle.nim_edit.proofs.Ascending.{late_is}
use Rattle.nim_edit.proofs.InOrder.{commands_onward, commands_under, early_commands, late_commands, task_commands}
use Rattle.nim_edit.proofs.MovedParcels.{IsAtHome, IsMovedWell, away_well, home_well}
use Rattle.nim_edit.proofs.Parcels.{Held, Puts, both_balanced, copies_balanced, copies_has, copies_ranked, has_puts, held_after, held_append, parcels, takings}
use Rattle.nim_edit.proofs.Migrations.{all_at}
use Rattle.nim_edit.proofs.Puts.{task_is}
use Rattle.nim_edit.proofs.ReadFacts.{firsts_by, writes_low}
use Rattle.nim_edit.proofs.Turn.{form_objects}
use Rattle.nim_edit.proofs.Taken.{AllOnward, AllUnder, AreTaken, copies_under, got_front, home_front, ids_onward, offset_more, onward_all, onward_none, reads_all}
use Rattle.nim_edit.proofs.Taken.{taken_front, under_front, under_more}

-- ---- one task

-- What is known at a task's turn: the map of single scheduling, what slots have of it, and which commands are behind.
pub record IsAtForm (template : WorkerTemplate) (place : Placement) (objects : ℕ) (live : List Bool) (base : ℕ) (args : List ℤ) (named : Object → ℕ)
    (all last : List (Worker × Command)) (number : ℕ) (past forms : List TaskForm) (versions : Versions) (held : Held) : Type 0 where
  pub long : length past ≡ number
  pub front : List (Worker × Command)
  pub given : List (Worker × Command)
  pub split : all ≡ front ++ (ranked_from place live base args number versions forms ++ last)
  pub under : AllUnder (64 * number) front
  pub stands : MapStands given versions
  pub before : IsBefore (length live) objects (base + number) versions
  pub latest : (object : Object) → object.0 < versions.objects → latest_of versions object ≡ version_at base (named object) (offset_behind 0 0 object past)
  pub taken : AreTaken place live base args number versions forms
  pub has : Has versions held
  pub forms_are : template.forms ≡ past ++ forms
  pub homes_are : template.homes ≡ map (home_of place objects live) (past ++ forms)

-- what is the same for all tasks
pub record AreForms (template : WorkerTemplate) (objects : ℕ) (live : List Bool) (base : ℕ) (last : List (Worker × Command)) : Type 0 where
  pub form : IsInForm template
  pub some : list_any (λ (flag : Bool). flag) live ≡ true
  pub small : objects ≤ 512
  pub room : base + 1024 < 2 ^ 64
  pub lasts : AllOnward 65536 last

-- behind a task
pub record IsFormDone (template : WorkerTemplate) (place : Placement) (objects : ℕ) (live : List Bool) (base : ℕ) (args : List ℤ) (named : Object → ℕ)
    (all last : List (Worker × Command)) (number : ℕ) (past : List TaskForm) (form : TaskForm) (forms : List TaskForm) (versions : Versions)
    (held : Held) : Type 0 where
  pub balanced : parcels held (task_commands template named base args all number) ≡ takings (task_commands template named base args all number)
  pub next : IsAtForm template place objects live base args named all last (number + 1) (past ++ form ∷ []) forms
      (after_commands versions (scheduled versions (task_with args form) number (counted_from base number) place live))
      (held_after held (task_commands template named base args all number))

onward_less : (low less : ℕ) (cs : List (Worker × Command)) → less ≤ low → AllOnward low cs → AllOnward less cs
onward_less low less [] above all = tt
onward_less low less (c ∷ cs) above all = (let first = all.0 in omega (arith, first, above), onward_less low less cs above all.1)

-- parts of a list, put together otherwise
other_parts : (a b c d e : List (Worker × Command)) → ((a ++ (b ++ c)) ++ d) ++ e ≡ (a ++ b) ++ (c ++ (d ++ e))
other_parts a b c d e =
    append_assoc (a ++ (b ++ c)) d e
    ∙ ap (λ (xs : List (Worker × Command)). xs ++ (d ++ e)) (sym (append_assoc a b c))
    ∙ append_assoc (a ++ b) c (d ++ e)

form_done : (template : WorkerTemplate) (place : Placement) (objects : ℕ) (live : List Bool) (base : ℕ) (args : List ℤ) (named : Object → ℕ)
    (all last : List (Worker × Command)) (number : ℕ) (past : List TaskForm) (form : TaskForm) (forms : List TaskForm) (versions : Versions) (held : Held)
    → AreForms template objects live base last → list_all (is_fit objects) (form ∷ forms) ≡ true → number + length (form ∷ forms) ≤ 1024
    → IsAtForm template place objects live base args named all last number past (form ∷ forms) versions held
    → IsFormDone template place objects live base args named all last number past form forms versions held
form_done template place objects live base args named all last number past form forms versions held are fit few at = record {
  balanced =
      both_balanced held early late
      (subst (λ (cs : List (Worker × Command)). parcels held cs ≡ takings cs) (sym early_is)
      (copies_balanced versions number home held form.reads at.has small))
      (subst (λ (h : Held). parcels h late ≡ takings late) (sym to_first) late_well.balanced);
  next = record {
    long = length-append past (form ∷ []) ∙ ap (λ (n : ℕ). n + 1) at.long;
    front = at.front ++ ranked_task versions task number position home;
    given = at.given ++ commands;
    split =
        at.split
        ∙ ap (λ (cs : List (Worker × Command)). at.front ++ cs) (append_assoc (ranked_task versions task number position home) rest last)
        ∙ sym (append_assoc at.front (ranked_task versions task number position home) (rest ++ last));
    under =
        each_append (λ (c : Worker × Command). c.1.id < 64 * (number + 1)) at.front (ranked_task versions task number position home)
        (under_more (64 * number) (64 * (number + 1)) at.front (omega arith) at.under) ranked_under;
    stands = schedule_stands versions after home task number position commands below refl refl at.given at.stands;
    before =
        subst (λ (n : ℕ). IsBefore (length live) objects n after) (omega (arith, counted))
        (maps_stay_before.task (length live) objects position number versions task place live
        (subst (λ (n : ℕ). IsBefore (length live) objects n versions) counted at.before) refl are.some (omega (arith, counted, few, room)));
    latest = latest_next;
    taken = at.taken.1;
    has =
        subst (Has after) (sym to_end)
        (subst (λ (v : Versions). Has v (held_after first late))
        (sym (fold-append (λ (v : Versions) (c : Worker × Command). after_kind c.0 v c.1.kind) versions copies run))
        (has_puts first (held_after first late) mid home (version_after position) (map main_slot form.writes) has_mid whole_mid below_mid small_mid puts));
    forms_are = at.forms_are ∙ sym (append_assoc past (form ∷ []) forms);
    homes_are = at.homes_are ∙ ap (map (home_of place objects live)) (sym (append_assoc past (form ∷ []) forms));
  };
} where
  room : base + 1024 < 2 ^ 64
  room = are.room

  small_number : number < 1024
  small_number = omega (arith, few)

  each : (is_fit objects form ≡ true) × (list_all (is_fit objects) forms ≡ true)
  each = both_true (is_fit objects form) (list_all (is_fit objects) forms) fit

  short : length form.reads ≤ 8
  short = few_reads objects form each.0

  columns : versions.objects ≡ objects
  columns = at.before.columns

  small : versions.objects ≤ 512
  small = (let most = are.small in omega (arith, columns, most))

  home : Worker
  home = home_of place versions.objects live form

  below : home.0 < versions.workers
  below = at.taken.0.below

  task : Task
  task = task_with args form

  position : ℕ
  position = counted_from base number

  counted : base + number ≡ position
  counted = omega (arith, few, room)

  copies : List (Worker × Command)
  copies = copies_of versions number home (moves versions home [] form.reads)

  run : List (Worker × Command)
  run = (home, run_of task number position (moves versions home [] form.reads)) ∷ []

  commands : List (Worker × Command)
  commands = scheduled versions task number position place live

  after : Versions
  after = after_commands versions commands

  mid : Versions
  mid = after_commands versions copies

  rest : List (Worker × Command)
  rest = ranked_from place live base args (number + 1) after forms

  early : List (Worker × Command)
  early = early_commands number all

  late : List (Worker × Command)
  late = late_commands template named base args number

  sends : List (Worker × Command)
  sends = map (send_of number home) (moves versions home [] form.reads)

  receives : List (Worker × Command)
  receives = map (receive_of versions number home) (moves versions home [] form.reads)

  run_id : entry_number number 4 0 ≡ 64 * number + 32
  run_id = omega (arith, few)

  rest_onward : AllOnward (64 * (number + 1)) (rest ++ last)
  rest_onward =
      each_append (λ (c : Worker × Command). 64 * (number + 1) ≤ c.1.id) rest last
      (ids_onward (128 * (number + 1)) (128 * (number + 1 + length forms)) (64 * (number + 1)) rest
      (ranked_ascend place live base args (number + 1) after forms (omega (arith, few)) (shorts objects forms each.1)) (omega arith))
      (onward_less 65536 (64 * (number + 1)) last (omega (arith, few)) are.lasts)

  all_onward : AllOnward (64 * number) (ranked_from place live base args number versions (form ∷ forms) ++ last)
  all_onward =
      each_append (λ (c : Worker × Command). 64 * number ≤ c.1.id) (ranked_from place live base args number versions (form ∷ forms)) last
      (ids_onward (128 * number) (128 * (number + length (form ∷ forms))) (64 * number) (ranked_from place live base args number versions (form ∷ forms))
      (ranked_ascend place live base args number versions (form ∷ forms) few (shorts objects (form ∷ forms) fit)) (omega arith))
      (onward_less 65536 (64 * number) last (omega (arith, few)) are.lasts)

  early_is : early ≡ copies_ranked versions number home form.reads
  early_is =
      ap (λ (cs : List (Worker × Command)). early_commands number cs) at.split
      ∙ ap (commands_under (64 * number + 16))
      (onward_none (64 * number) at.front (ranked_from place live base args number versions (form ∷ forms) ++ last) at.under
      ∙ onward_all (64 * number) (ranked_from place live base args number versions (form ∷ forms) ++ last) all_onward
      ∙ other_parts sends receives run rest last)
      ∙ under_front (64 * number + 16) (copies_ranked versions number home form.reads) (run ++ (rest ++ last))
      (copies_under versions number home form.reads small_number short)
      (omega (arith, run_id), onward_less (64 * (number + 1)) (64 * number + 16) (rest ++ last) (omega arith) rest_onward)

  ranked_under : AllUnder (64 * (number + 1)) (ranked_task versions task number position home)
  ranked_under =
      subst (AllUnder (64 * (number + 1))) (append_assoc sends receives run)
      (each_append (λ (c : Worker × Command). c.1.id < 64 * (number + 1)) (copies_ranked versions number home form.reads) run
      (under_more (64 * number + 16) (64 * (number + 1)) (copies_ranked versions number home form.reads) (omega arith)
      (copies_under versions number home form.reads small_number short)) (omega (arith, run_id), tt))

  -- what slots hold behind the first phases
  first : Held
  first = held_after held (copies_ranked versions number home form.reads)

  to_first : held_after held early ≡ first
  to_first = ap (held_after held) early_is

  to_end : held_after held (early ++ late) ≡ held_after first late
  to_end = held_append held early late ∙ ap (λ (h : Held). held_after h late) to_first

  whole : IsWhole versions
  whole = record { slots = at.stands.slots; all = at.stands.all }

  has_mid : Has mid first
  has_mid = copies_has versions number home held form.reads at.has whole below small

  stands_mid : MapStands (at.given ++ copies) mid
  stands_mid =
      all_stand copies versions (copies_fit versions number home form.reads (moves versions home [] form.reads) (moves_facts versions home form.reads) below)
      at.given at.stands

  whole_mid : IsWhole mid
  whole_mid = record { slots = stands_mid.slots; all = stands_mid.all }

  like_mid : AreLike versions mid
  like_mid = like_commands copies versions

  below_mid : home.0 < mid.workers
  below_mid = omega (arith, like_mid.workers, below)

  small_mid : mid.objects ≤ 512
  small_mid = omega (arith, like_mid.objects, small)

  -- the template
  home_is : worker_at template.homes number ≡ home
  home_is =
      ap (λ (homes : List Worker). worker_at homes number) at.homes_are
      ∙ ap (worker_at (map (home_of place objects live) (past ++ form ∷ forms))) (sym at.long)
      ∙ home_front (home_of place objects live) past form forms
      ∙ ap (λ (n : ℕ). home_of place n live form) (sym columns)

  spec_is : spec_of template.forms number ≡ spec_for past form
  spec_is =
      ap (λ (fs : List TaskForm). spec_of fs number) at.forms_are
      ∙ ap (spec_of (past ++ form ∷ forms)) (sym at.long)
      ∙ ap₂ spec_for (taken_front past (form ∷ forms)) (got_front past form forms)

  within : number < length template.forms
  within =
      (let long = ap (λ (fs : List TaskForm). length fs) at.forms_are ∙ length-append past (form ∷ forms) in
      let same = at.long in omega (arith, long, same))

  owner : Worker
  owner = worker_at template.owners number

  at_home : AllByRecursion (IsAtHome named base first (worker_at template.homes number))
      (first_reads [] (mask_for template number owner) (spec_of template.forms number).reads)
  at_home =
      firsts_by (λ (o : Object) (offset : ℕ) (b : Bool). (o.0 < 512) × (first (worker_at template.homes number) (main_slot o)
      ≡ Some (o, version_at base (named o) offset))) (is_left template number owner) [] (spec_of template.forms number).reads
      (subst (λ (w : Worker). AllByRecursion (λ (r : Object × ℕ). (r.0.0 < 512) × (first w (main_slot r.0)
      ≡ Some (r.0, version_at base (named r.0) r.1))) (spec_of template.forms number).reads) (sym home_is)
      (subst (λ (spec : Spec). AllByRecursion (λ (r : Object × ℕ). (r.0.0 < 512) × (first home (main_slot r.0)
      ≡ Some (r.0, version_at base (named r.0) r.1))) spec.reads) (sym spec_is)
      (reads_all (λ (o : Object) (offset : ℕ). (o.0 < 512) × (first home (main_slot o) ≡ Some (o, version_at base (named o) offset))) past form.reads
      (λ object one.
      let inside : object.0 < versions.objects = at.taken.0.within object one in (
        omega (arith, inside, small),
        has_mid home object (latest_of versions object) below_mid (omega (arith, like_mid.objects, inside))
            ((after_copies versions versions number home (moves versions home [] form.reads) object whole below inside).1
            ∙ latest_there versions home form.reads object one (at.taken.0.holders object one))
            ∙ ap (λ (v : ℕ). Some (object, v)) (at.latest object inside),
      )))))

  low : AllByRecursion (λ (o : Object). o.0 < 512) (spec_of template.forms number).writes
  low =
      (let mine : TaskForm = slice_index_or template.forms number no_task in
      writes_low mine.writes (form_objects mine (all_at (is_fit 512) template.forms number no_task are.form.fit within)).0)

  late_well : IsMovedWell first (worker_at template.homes number) (version_after (counted_from base (task_of (entry_number number 4 0))))
      (spec_of template.forms number).writes late
  late_well = either (owner.0 == (worker_at template.homes number).0) refl where
    Well : List (Worker × Command) → Type 0
    Well cs =
        IsMovedWell first (worker_at template.homes number) (version_after (counted_from base (task_of (entry_number number 4 0))))
        (spec_of template.forms number).writes cs

    either : (b : Bool) → (owner.0 == (worker_at template.homes number).0) ≡ b → Well late
    either true same =
        subst Well (sym (late_is template named base args number true same))
        (home_well named base args (worker_at template.homes number) number (spec_of template.forms number) first)
    either false apart =
        subst Well (sym (late_is template named base args number false apart))
        (away_well named base args (worker_at template.homes number) owner number (spec_of template.forms number)
        (first_reads [] (mask_for template number owner) (spec_of template.forms number).reads) first small_number at_home low)

  puts : Puts (held_after first late) first home (version_after position) (map main_slot form.writes)
  puts =
      subst (λ (w : Worker). Puts (held_after first late) first w (version_after position) (written_slots false form.writes)) home_is
      (subst (λ (spec : Spec). Puts (held_after first late) first (worker_at template.homes number) (version_after position) (written_slots false spec.writes))
      spec_is
      (subst (λ (n : ℕ). Puts (held_after first late) first (worker_at template.homes number) (version_after (counted_from base n))
      (written_slots false (spec_of template.forms number).writes)) (task_is number 4 0 small_number (omega arith) (omega arith)) late_well.puts))

  ran : IsRunAt versions after home task position
  ran =
      schedule_runs versions after home task number position commands below refl refl at.given at.stands (omega (arith, counted, few, room))

  latest_next : (object : Object) → object.0 < after.objects
      → latest_of after object ≡ version_at base (named object) (offset_behind 0 0 object (past ++ form ∷ []))
  latest_next object there =
      ran.latest object inside low_version
      ∙ either (is_one_of form.writes object) refl
      ∙ ap (version_at base (named object)) (sym (offset_more 0 0 object past form)) where
        inside : object.0 < versions.objects
        inside = (let same = ran.objects in omega (arith, same, there))

        low_version : latest_of versions object ≤ position
        low_version = (let most = at.before.latest object (omega (arith, columns, inside)) in omega (arith, most, counted))

        next : ℕ
        next = 0 + length past + 1

        either : (b : Bool) → is_one_of form.writes object ≡ b
            → (if is_one_of form.writes object then position + 1 else latest_of versions object)
            ≡ version_at base (named object) (if is_one_of form.writes object then next else offset_behind 0 0 object past)
        either true wrote =
            ap (λ (b : Bool). if b then position + 1 else latest_of versions object) wrote
            ∙ (let long = at.long in omega (arith, long, counted, few, room))
            ∙ sym (ap (λ (b : Bool). if b then named object else counted_from base next) (ne_eqb next 0 (λ none. absurd (omega (arith, none)))))
            ∙ ap (version_at base (named object)) (sym (ap (λ (b : Bool). if b then next else offset_behind 0 0 object past) wrote))
        either false none =
            ap (λ (b : Bool). if b then position + 1 else latest_of versions object) none
            ∙ at.latest object inside
            ∙ ap (version_at base (named object)) (sym (ap (λ (b : Bool). if b then next else offset_behind 0 0 object past) none))

-- ---- all tasks

-- the tasks of a block in turn
pub record AreFormsDone (template : WorkerTemplate) (place : Placement) (live : List Bool) (base : ℕ) (args : List ℤ) (named : Object → ℕ)
    (all last : List (Worker × Command)) (number n : ℕ) (forms : List TaskForm) (versions : Versions) (held : Held) : Type 0 where
  pub balanced : parcels held (flat_map (task_commands template named base args all) (range_with_len number n))
      ≡ takings (flat_map (task_commands template named base args all) (range_with_len number n))
  pub has : Has (after_commands versions (scheduled_from place live base args number versions forms))
      (held_after held (flat_map (task_commands template named base args all) (range_with_len number n)))
  pub behind : commands_onward (64 * (number + n)) all ≡ last

pub forms_done : (template : WorkerTemplate) (place : Placement) (objects : ℕ) (live : List Bool) (base : ℕ) (args : List ℤ) (named : Object → ℕ)
    (all last : List (Worker × Command)) (number : ℕ) (past forms : List TaskForm) (versions : Versions) (held : Held)
    → AreForms template objects live base last → list_all (is_fit objects) forms ≡ true → number + length forms ≤ 1024
    → IsAtForm template place objects live base args named all last number past forms versions held
    → AreFormsDone template place live base args named all last number (length forms) forms versions held
forms_done template place objects live base args named all last number past [] versions held are fit few at = record {
  balanced = refl;
  has = at.has;
  behind =
      ap (commands_onward (64 * (number + 0))) at.split
      ∙ onward_none (64 * (number + 0)) at.front last (under_more (64 * number) (64 * (number + 0)) at.front (omega arith) at.under)
      ∙ onward_all (64 * (number + 0)) last (onward_less 65536 (64 * (number + 0)) last (omega (arith, few)) are.lasts);
}
forms_done template place objects live base args named all last number past (form ∷ forms) versions held are fit few at =
    let one : IsFormDone template place objects live base args named all last number past form forms versions held =
    form_done template place objects live base args named all last number past form forms versions held are fit few at in
    let commands : List (Worker × Command) = scheduled versions (task_with args form) number (counted_from base number) place live in
    let after : Versions = after_commands versions commands in
    let first : List (Worker × Command) = task_commands template named base args all number in
    let behind : List (Worker × Command) = flat_map (task_commands template named base args all) (range_with_len (number + 1) (length forms)) in
    let rest : AreFormsDone template place live base args named all last (number + 1) (length forms) forms after (held_after held first) =
    forms_done template place objects live base args named all last (number + 1) (past ++ form ∷ []) forms after (held_after held first) are
    (both_true (is_fit objects form) (list_all (is_fit objects) forms) fit).1 (omega (arith, few)) one.next in
    record {
      balanced = both_balanced held first behind one.balanced rest.balanced;
      has =
          subst (Has (after_commands versions (commands ++ scheduled_from place live base args (number + 1) after forms))) (sym (held_append held first behind))
          (subst (λ (v : Versions). Has v (held_after (held_after held first) behind))
          (sym (fold-append (λ (v : Versions) (c : Worker × Command). after_kind c.0 v c.1.kind) versions commands
          (scheduled_from place live base args (number + 1) after forms))) rest.has);
      behind = subst (λ (n : ℕ). commands_onward (64 * n) all ≡ last) (omega arith) rest.behind;
    }
