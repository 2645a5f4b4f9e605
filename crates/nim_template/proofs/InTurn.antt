-- The commands of an instance, given one task after another and then one closing copy after another.
use Rattle.std.proofs.Common.{◌≡◌, ℕ, zero, suc, ◌+◌, ◌<◌, ◌≤◌, Bool, true, false, List, [], ◌∷◌, ◌++◌, length, map, refl, ap, sym, subst, ◌∙◌, arith}
use Rattle.std.proofs.Common.{Option, None, Some}
use Rattle.std.specs.Prelude.{◌*◌, ◌/◌, ◌^◌, ◌==◌, if◌then◌else◌, nat_lt, slice_get, slice_index_or, IsSomeAnd, ℤ}
use Rattle.std.specs.List.{list_all, list_any, position_or_len}
use Rattle.std.specs.Option.{is_some, option_map_or}
use Rattle.std.proofs.lemmas.Bool.{eqb-true, false≢true, ltb-true}
use Rattle.std.proofs.lemmas.List.Sums.{fold-append}
use Rattle.nim_base.specs.declared.number.Object.{Object}
use Rattle.nim_base.specs.declared.number.Worker.{Worker}
use Rattle.nim_base.specs.declared.task.Task.{Task}
use Rattle.nim_base.specs.declared.task.TaskForm.{TaskForm}
use Rattle.nim_command.specs.declared.command.Command.{Command}
use Rattle.nim_command.specs.Expansion.{version_at}
use Rattle.nim_command.specs.Numbers.{counted_from, main_slot, task_of}
use Rattle.nim_message.specs.declared.order.ToWorker.{ToWorker}
use Rattle.nim_job.specs.declared.job.Job.{Job}
use Rattle.nim_job.specs.Objects.{objects_of}
use Rattle.nim_job.specs.Serial.{tasks_of}
use Rattle.nim_job.specs.Whole.{is_whole}
use Rattle.nim_plan.specs.Legal.{AreLegal}
use Rattle.nim_plan.specs.Paired.{Key}
use Rattle.nim_place.specs.declared.placement.Placement.{Placement}
use Rattle.nim_place.specs.Extends.{is_live}
use Rattle.nim_place.specs.Placement.{home, live_ahead, live_from, preferred}
use Rattle.nim_place.specs.Schedule.{moves, scheduled}
use Rattle.nim_place.specs.Stands.{MapStands, StandsOn, commands_for}
use Rattle.nim_place.specs.TaskOrders.{AreSoFar, IsAt, IsTaskAt, is_key_of}
use Rattle.nim_place.specs.Versions.{Versions, after_commands, after_kind, held_at, latest_of, with_version}
use Rattle.nim_place.proofs.Given.{all_stand, schedule_stands}
use Rattle.nim_place.proofs.GoesOn.{schedule_goes_on}
use Rattle.nim_place.proofs.Held.{for_append, holder_lives, moves_held}
use Rattle.nim_place.proofs.Legal.{is_for, legal_append, worker_legal}
use Rattle.nim_place.proofs.Live.{ahead_within}
use Rattle.nim_place.proofs.Moves.{moves_facts}
use Rattle.nim_place.proofs.Places.{both_true}
use Rattle.nim_place.proofs.Singles.{schedule_asks}
use Rattle.nim_place.proofs.TaskPairs.{schedule_paired}
use Rattle.nim_template.specs.Closing.{closed_for, closing_entries, closing_from, closing_number, closings, copy_from}
use Rattle.nim_template.specs.Fits.{is_fit}
use Rattle.nim_template.specs.Tasks.{scheduled_from, task_with}
use Rattle.nim_template.specs.Walk.{home_of, offset_for}
use Rattle.nim_template.proofs.Again.{home_within}
use Rattle.nim_template.proofs.Alike.{at_more, same_current}
use Rattle.nim_template.proofs.Chosen.{command_at}
use Rattle.nim_template.proofs.Copies.{IsCopy, copy_at, copy_at_position, copy_given, copy_legal, held_lives}
use Rattle.nim_template.proofs.Ends.{IsClosing, closing_next, closing_version}
use Rattle.nim_template.proofs.Entries.{from_facts}
use Rattle.nim_template.proofs.Fits.{few_reads, first_written}
use Rattle.nim_template.proofs.Numbers.{from_apart}
use Rattle.nim_template.proofs.Sizes.{AreLike, like_commands}
use Rattle.nim_template.proofs.Turns.{AreGiven, between_is, given_then, is_key_between, is_key_by, nothing_given, step_given}
use Rattle.nim_template.proofs.Written.{closing_more}

-- ---- a home is live

first_live : (live : List Bool) → position_or_len (λ (flag : Bool). flag) live < length live
    → slice_index_or live (position_or_len (λ (flag : Bool). flag) live) false ≡ true
first_live [] within = absurd (omega (arith, within))
first_live (true ∷ live) within = refl
first_live (false ∷ live) within =
    let next : position_or_len (λ (flag : Bool). flag) (false ∷ live) ≡ suc (position_or_len (λ (flag : Bool). flag) live) = omega arith in
    ap (λ (n : ℕ). slice_index_or (false ∷ live) n false) next ∙ first_live live (omega (arith, within))

pub ahead_live : (live : List Bool) (from : ℕ) → live_ahead live from < length live → slice_index_or live (live_ahead live from) false ≡ true
ahead_live live zero within =
    let same : live_ahead live 0 ≡ position_or_len (λ (flag : Bool). flag) live = omega arith in
    ap (λ (n : ℕ). slice_index_or live n false) same ∙ first_live live (omega (arith, within))
ahead_live [] (suc from) within = absurd (omega (arith, within))
ahead_live (flag ∷ live) (suc from) within =
    let next : live_ahead (flag ∷ live) (suc from) ≡ suc (live_ahead live from) = omega arith in
    ap (λ (n : ℕ). slice_index_or (flag ∷ live) n false) next ∙ ahead_live live from (omega (arith, within))

pub home_lives : (place : Placement) (live : List Bool) (objects : ℕ) (form : TaskForm) → list_any (λ (flag : Bool). flag) live ≡ true
    → is_fit objects form ≡ true → is_live live (home_of place objects live form) ≡ true
home_lives place live objects form some fit = either (slice_get form.writes 0) (first_written objects form fit) where
  lives : (from : ℕ) → slice_index_or live (live_from live from) false ≡ true
  lives from = chosen (nat_lt (live_ahead live from) (length live)) refl where
    chosen : (b : Bool) → nat_lt (live_ahead live from) (length live) ≡ b
        → slice_index_or live (if b then live_ahead live from else live_ahead live 0) false ≡ true
    chosen true is = ahead_live live from (ltb-true (live_ahead live from) (length live) is)
    chosen false is = ahead_live live 0 (ahead_within live (live_ahead live 0) some refl)

  either : (o : Option Object) → IsSomeAnd o (λ (object : Object). object.0 < objects)
      → is_live live (option_map_or (λ (object : Object). home place object objects live) o (record { 0 = 0 })) ≡ true
  either None none = absurd none
  either (Some object) below = lives (preferred place object.0 objects (length live))

-- ---- tasks

-- a task's keys are of entries between two numbers
task_between : (epoch instance number : ℕ) (key : Key) → is_key_of epoch instance number key ≡ true
    → is_key_between epoch instance (64 * number) (64 * (number + 1)) key ≡ true
task_between epoch instance number key is =
    let each = both_true (is_key_by epoch instance key) (task_of key.entry == number) is in
    let same : key.entry / 64 ≡ number = eqb-true (task_of key.entry) number each.1 in
    between_is epoch instance (64 * number) (64 * (number + 1)) key each.0 (omega (arith, same)) (omega (arith, same))

pub tasks_given : (place : Placement) (live : List Bool) (epoch instance base : ℕ) (args : List ℤ) (number : ℕ) (versions : Versions) (forms : List TaskForm)
    (lists : ℕ → List ToWorker) (given : List (Worker × Command)) → AreSoFar live epoch lists given versions → versions.workers ≡ length live
    → list_any (λ (flag : Bool). flag) live ≡ true → list_all (is_fit versions.objects) forms ≡ true → number + length forms ≤ 1024
    → AreGiven live epoch instance (64 * number) (64 * (number + length forms)) lists given (scheduled_from place live base args number versions forms)
    (after_commands versions (scheduled_from place live base args number versions forms))
tasks_given place live epoch instance base args number versions [] lists given so_far rows some fit few =
    subst (λ (n : ℕ). AreGiven live epoch instance (64 * number) (64 * n) lists given [] versions) (omega arith)
    (nothing_given live epoch instance (64 * number) lists given versions so_far)
tasks_given place live epoch instance base args number versions (form ∷ forms) lists given so_far rows some fit few =
    let each = both_true (is_fit versions.objects form) (list_all (is_fit versions.objects) forms) fit in
    let task : Task = task_with args form in
    let position : ℕ = counted_from base number in
    let owner : Worker = home_of place versions.objects live form in
    let commands : List (Worker × Command) = scheduled versions task number position place live in
    let after : Versions = after_commands versions commands in
    let more : List (Worker × Command) = scheduled_from place live base args (number + 1) after forms in
    let low : owner.0 < length live = home_within place live some versions.objects form in
    let below : owner.0 < versions.workers = omega (arith, low, rows) in
    let lives : is_live live owner ≡ true = home_lives place live versions.objects form some each.0 in
    let like : AreLike versions after = like_commands commands versions in
    let one : AreGiven live epoch instance (64 * number) (64 * (number + 1)) lists given commands after =
    step_given live epoch instance (64 * number) (64 * (number + 1)) lists given commands versions after (is_key_of epoch instance number) so_far
    (task_between epoch instance number)
    (record {
      stands = schedule_stands versions after owner task number position commands below refl refl given so_far.stands;
      ask = schedule_asks versions live owner task number position commands lives refl epoch instance lists given so_far;
    })
    (schedule_paired versions live owner task number position commands (omega (arith, few)) refl epoch instance lists given so_far
    (few_reads versions.objects form each.0)) in
    let two : AreGiven live epoch instance (64 * (number + 1)) (64 * (number + 1 + length forms)) one.next (given ++ commands) more
    (after_commands after more) =
    tasks_given place live epoch instance base args (number + 1) after forms one.next (given ++ commands) one.so_far (like.workers ∙ rows) some
    (subst (λ (n : ℕ). list_all (is_fit n) forms ≡ true) (sym like.objects) each.1) (omega (arith, few)) in
    subst (AreGiven live epoch instance (64 * number) (64 * (number + length (form ∷ forms))) lists given (commands ++ more))
    (sym (fold-append (λ (before : Versions) (c : Worker × Command). after_kind c.0 before c.1.kind) versions commands more))
    (subst (λ (n : ℕ). AreGiven live epoch instance (64 * number) (64 * n) lists given (commands ++ more) (after_commands after more)) (omega arith)
    (given_then live epoch instance (64 * number) (64 * (number + 1)) (64 * (number + 1)) (64 * (number + 1 + length forms)) lists given commands more after
    (after_commands after more) (omega arith) (omega arith) (omega arith) one two))

-- ---- tasks of a job

-- a job's tasks from a position on are these forms' tasks, the first of this number
abbrev pub AreTasksFrom : Job → ℕ → List ℤ → ℕ → List TaskForm → Type 0
AreTasksFrom job base args number [] = Unit {0}
AreTasksFrom job base args number (form ∷ forms) =
    (slice_get (tasks_of job) (base + number) ≡ Some (task_with args form)) × AreTasksFrom job base args (number + 1) forms

-- commands behind others are legal, worker by worker, and the map behind them is at this position
pub record AreLegalAt (job : Job) (position : ℕ) (given commands : List (Worker × Command)) (after : Versions) : Type 0 where
  pub legal : (worker : Worker) → AreLegal job (commands_for worker given) (commands_for worker commands)
  pub at : IsAt job position after

-- one list behind another
pub legal_then : (job : Job) (position next : ℕ) (given first second : List (Worker × Command)) (between after : Versions)
    → AreLegalAt job position given first between → AreLegalAt job next (given ++ first) second after → AreLegalAt job next given (first ++ second) after
legal_then job position next given first second between after one two = record {
  legal = λ worker.
      subst (AreLegal job (commands_for worker given)) (sym (for_append worker first second))
      (legal_append job (commands_for worker given) (commands_for worker first) (commands_for worker second) (one.legal worker)
      (subst (λ (past : List Command). AreLegal job past (commands_for worker second)) (for_append worker given first) (two.legal worker)));
  at = two.at;
}

pub tasks_legal : (place : Placement) (live : List Bool) (job : Job) (base : ℕ) (args : List ℤ) (number : ℕ) (versions : Versions) (forms : List TaskForm)
    (given : List (Worker × Command)) → MapStands given versions → versions.workers ≡ length live → list_any (λ (flag : Bool). flag) live ≡ true
    → base + number + length forms < 2 ^ 64 → is_whole job ≡ true → IsAt job (base + number) versions → AreTasksFrom job base args number forms
    → AreLegalAt job (base + number + length forms) given (scheduled_from place live base args number versions forms)
    (after_commands versions (scheduled_from place live base args number versions forms))
tasks_legal place live job base args number versions [] given stands rows some room whole at are =
    record { legal = λ worker. tt; at = subst (λ (n : ℕ). IsAt job n versions) (omega arith) at }
tasks_legal place live job base args number versions (form ∷ forms) given stands rows some room whole at are =
    let task : Task = task_with args form in
    let position : ℕ = counted_from base number in
    let counted : base + number ≡ position = omega (arith, room) in
    let owner : Worker = home_of place versions.objects live form in
    let commands : List (Worker × Command) = scheduled versions task number position place live in
    let after : Versions = after_commands versions commands in
    let more : List (Worker × Command) = scheduled_from place live base args (number + 1) after forms in
    let low : owner.0 < length live = home_within place live some versions.objects form in
    let below : owner.0 < versions.workers = omega (arith, low, rows) in
    let like : AreLike versions after = like_commands commands versions in
    let here : IsAt job position versions = subst (λ (n : ℕ). IsAt job n versions) counted at in
    let next : IsTaskAt job position task =
    record { whole = whole; there = subst (λ (n : ℕ). slice_get (tasks_of job) n ≡ Some task) counted are.0 } in
    let on : StandsOn versions after commands = schedule_stands versions after owner task number position commands below refl refl in
    let gone : IsAt job (position + 1) after =
    schedule_goes_on versions after owner task number position commands below refl refl job given stands here next in
    let one : AreLegalAt job (position + 1) given commands after = record {
      legal = λ worker.
          worker_legal job versions owner worker task number position given (moves versions owner [] task.reads) refl (moves_facts versions owner task.reads)
          (moves_held versions owner task.reads) below stands here (is_for job versions task position here next);
      at = gone;
    } in
    let two : AreLegalAt job (base + (number + 1) + length forms) (given ++ commands) more (after_commands after more) =
    tasks_legal place live job base args (number + 1) after forms (given ++ commands) (on given stands) (like.workers ∙ rows) some (omega (arith, room)) whole
    (subst (λ (n : ℕ). IsAt job n after) (omega (arith, counted)) gone) are.1 in
    subst (AreLegalAt job (base + number + length (form ∷ forms)) given (commands ++ more))
    (sym (fold-append (λ (before : Versions) (c : Worker × Command). after_kind c.0 before c.1.kind) versions commands more))
    (subst (λ (n : ℕ). AreLegalAt job n given (commands ++ more) (after_commands after more)) (omega arith)
    (legal_then job (position + 1) (base + (number + 1) + length forms) given commands more after (after_commands after more) one two))

-- ---- closing copies

-- the copy for a need
pub closing_copy : (most base : ℕ) (entry offsets versions : Versions) (need : Worker × Object) (needs : List (Worker × Object)) (from : Worker)
    → IsClosing most base entry offsets versions (need ∷ needs) → closing_from offsets need ≡ Some from
    → IsCopy versions from need.0 need.1 (version_at base 0 (offset_for (latest_of offsets need.1)))
closing_copy most base entry offsets versions need needs from is found =
    let facts = from_facts offsets need from found in
    let more : (latest_of offsets need.1 == 0) ≡ false = closing_more most offsets need from is.kept is.are.0 is.are.1 is.are.2 found in
    let low = is.kept.latest need.1 is.are.1 in
    let few = is.few in
    let room = is.room in
    let sender = facts.0 in
    let row = is.are.0 in
    let column = is.are.1 in
    record {
      from_below = omega (arith, is.alike.workers, sender);
      to_below = omega (arith, is.alike.workers, row);
      there = omega (arith, is.alike.objects, column);
      apart = from_apart offsets need from found;
      current =
          same_current base most entry offsets versions from need.1 is.alike is.kept is.at facts.0 is.are.1 more (omega (arith, few, room)) ∙ facts.1;
      latest =
          closing_version base (latest_of offsets need.1) more (omega (arith, low, few)) is.room
          ∙ sym (is.alike.latest need.1 is.are.1
          ∙ at_more base (latest_of entry need.1) (latest_of offsets need.1) more (omega (arith, low, few, room)));
    }

-- a closing copy's number
pub number_is : (copy : ℕ) → copy ≤ 8192 → closing_number copy ≡ 65536 + copy
number_is copy few = omega (arith, few)

pub closings_given : (live : List Bool) (epoch instance most base : ℕ) (args : List ℤ) (entry offsets versions : Versions) (needs : List (Worker × Object))
    (copy : ℕ) (lists : ℕ → List ToWorker) (given : List (Worker × Command)) → AreSoFar live epoch lists given versions
    → IsClosing most base entry offsets versions needs → copy + length needs ≤ 8192
    → AreGiven live epoch instance (65536 + copy) (65536 + copy + length (closings offsets needs)) lists given
    (map (command_at base args) (closing_entries copy (closings offsets needs)))
    (after_commands versions (map (command_at base args) (closing_entries copy (closings offsets needs))))
closings_given live epoch instance most base args entry offsets versions [] copy lists given so_far is few =
    subst (λ (n : ℕ). AreGiven live epoch instance (65536 + copy) n lists given [] versions) (omega arith)
    (nothing_given live epoch instance (65536 + copy) lists given versions so_far)
closings_given live epoch instance most base args entry offsets versions (need ∷ needs) copy lists given so_far is few =
    either (closing_from offsets need) refl
    (λ v k l g so later. closings_given live epoch instance most base args entry (closed_for offsets need) v needs k l g so later) where
      rest_of : ℕ → List (Worker × Command)
      rest_of k = map (command_at base args) (closing_entries k (closings (closed_for offsets need) needs))

      to_lives : is_live live need.0 ≡ true
      to_lives = found (held_at offsets need.0 (main_slot need.1)) refl is.are.2 where
        found : (o : Option ℕ) → held_at offsets need.0 (main_slot need.1) ≡ o → is_some o ≡ true → is_live live need.0 ≡ true
        found None held some = absurd (false≢true some)
        found (Some offset) held some =
            let row = is.are.0 in
            let column = is.are.1 in
            held_lives live epoch lists given versions need.0 need.1 (version_at base (latest_of entry need.1) offset) so_far
            (omega (arith, is.alike.workers, row)) (omega (arith, is.alike.objects, column)) (is.alike.held need.0 need.1 offset is.are.0 is.are.1 held)

      either : (o : Option Worker) → closing_from offsets need ≡ o
          → ((v : Versions) (k : ℕ) (l : ℕ → List ToWorker) (g : List (Worker × Command)) → AreSoFar live epoch l g v
          → IsClosing most base entry (closed_for offsets need) v needs → k + length needs ≤ 8192
          → AreGiven live epoch instance (65536 + k) (65536 + k + length (closings (closed_for offsets need) needs)) l g (rest_of k)
          (after_commands v (rest_of k)))
          → AreGiven live epoch instance (65536 + copy) (65536 + copy + length (copy_from offsets need o ++ closings
          (closed_for offsets need) needs)) lists given
          (map (command_at base args) (closing_entries copy (copy_from offsets need o ++ closings (closed_for offsets need) needs)))
          (after_commands versions (map (command_at base args)
          (closing_entries copy (copy_from offsets need o ++ closings (closed_for offsets need) needs))))
      either None found rest =
          rest versions copy lists given so_far (closing_next most base entry offsets versions need needs is None found) (omega (arith, few))
      either (Some from) found rest =
          let version : ℕ = version_at base 0 (offset_for (latest_of offsets need.1)) in
          let next : Versions = with_version need.0 version versions (main_slot need.1) in
          let copied : IsCopy versions from need.0 need.1 version = closing_copy most base entry offsets versions need needs from is found in
          let numbered : closing_number copy ≡ 65536 + copy = number_is copy (omega (arith, few)) in
          let lives : is_live live from ≡ true = holder_lives versions live epoch lists given need.1 from so_far.stands so_far.ask copied.current in
          let commands : List (Worker × Command) = copy_at (closing_number copy) from need.0 need.1 version in
          let one : AreGiven live epoch instance (65536 + copy) (65536 + (copy + 1)) lists given commands next =
          subst (λ (n : ℕ). AreGiven live epoch instance (65536 + copy) n lists given commands next) (omega arith)
          (subst (λ (n : ℕ). AreGiven live epoch instance n (n + 1) lists given commands next) numbered
          (copy_given live epoch instance (closing_number copy) lists given versions from need.0 need.1 version so_far copied lives to_lives)) in
          let two = rest next (copy + 1) one.next (given ++ commands) one.so_far
          (closing_next most base entry offsets versions need needs is (Some from) found) (omega (arith, few)) in
          subst (λ (n : ℕ). AreGiven live epoch instance (65536 + copy) n lists given (commands ++ rest_of (copy + 1)) (after_commands next (rest_of
          (copy + 1))))
          (omega arith)
          (given_then live epoch instance (65536 + copy) (65536 + (copy + 1)) (65536 + (copy + 1))
          (65536 + (copy + 1) + length (closings (closed_for offsets need) needs)) lists given commands (rest_of (copy + 1)) next
          (after_commands next (rest_of (copy + 1))) (omega arith) (omega arith) (omega arith) one two)

pub closings_legal : (job : Job) (position most base : ℕ) (args : List ℤ) (entry offsets versions : Versions) (needs : List (Worker × Object)) (copy : ℕ)
    (given : List (Worker × Command)) → MapStands given versions → objects_of job.vars ≤ 512 → IsAt job position versions
    → IsClosing most base entry offsets versions needs
    → AreLegalAt job position given (map (command_at base args) (closing_entries copy (closings offsets needs)))
    (after_commands versions (map (command_at base args) (closing_entries copy (closings offsets needs))))
closings_legal job position most base args entry offsets versions [] copy given stands small at is = record { legal = λ worker. tt; at = at }
closings_legal job position most base args entry offsets versions (need ∷ needs) copy given stands small at is =
    either (closing_from offsets need) refl
    (λ v k g on here later. closings_legal job position most base args entry (closed_for offsets need) v needs k g on small here later) where
      rest_of : ℕ → List (Worker × Command)
      rest_of k = map (command_at base args) (closing_entries k (closings (closed_for offsets need) needs))

      either : (o : Option Worker) → closing_from offsets need ≡ o
          → ((v : Versions) (k : ℕ) (g : List (Worker × Command)) → MapStands g v → IsAt job position v
          → IsClosing most base entry (closed_for offsets need) v needs → AreLegalAt job position g (rest_of k) (after_commands v (rest_of k)))
          → AreLegalAt job position given
          (map (command_at base args) (closing_entries copy (copy_from offsets need o ++ closings (closed_for offsets need) needs)))
          (after_commands versions (map (command_at base args)
          (closing_entries copy (copy_from offsets need o ++ closings (closed_for offsets need) needs))))
      either None found rest = rest versions copy given stands at (closing_next most base entry offsets versions need needs is None found)
      either (Some from) found rest =
          let version : ℕ = version_at base 0 (offset_for (latest_of offsets need.1)) in
          let next : Versions = with_version need.0 version versions (main_slot need.1) in
          let copied : IsCopy versions from need.0 need.1 version = closing_copy most base entry offsets versions need needs from is found in
          let commands : List (Worker × Command) = copy_at (closing_number copy) from need.0 need.1 version in
          let here : IsAt job position next = copy_at_position job position given versions from need.0 need.1 version stands at copied in
          legal_then job position position given commands (rest_of (copy + 1)) next (after_commands next (rest_of (copy + 1)))
          (record {
            legal = copy_legal job position (closing_number copy) given versions from need.0 need.1 version stands at small copied;
            at = here;
          })
          (rest next (copy + 1) (given ++ commands)
          (all_stand commands versions (copied.from_below, refl, (copied.to_below, refl, tt)) given stands) here
          (closing_next most base entry offsets versions need needs is (Some from) found))
