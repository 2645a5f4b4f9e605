-- The orders that install a template's halves, and those of an instance of it, extend orders so far.
use Rattle.std.proofs.Common.{◌≡◌, ℕ, zero, suc, ◌+◌, ◌<◌, ◌≤◌, Bool, true, List, [], ◌∷◌, ◌++◌, drop, length, map, refl, ap, ap₂, sym, subst, ◌∙◌}
use Rattle.std.proofs.Common.{arith}
use Rattle.std.proofs.Common.{Some, inl, inr}
use Rattle.std.specs.Prelude.{◌*◌, ◌⊎◌, not, slice_get, slice_index_or, take, ℤ}
use Rattle.std.specs.List.{list_all, list_any}
use Rattle.std.proofs.lemmas.Bool.{and_from, cases_lt, false_from_ne_true, leb-true}
use Rattle.std.proofs.lemmas.List.{get_or_past}
use Rattle.std.proofs.lemmas.List.FromFn.{get_or-map-range_with_len, length-map-range_with_len}
use Rattle.std.proofs.Math.Nat.{mul-le-mul_left}
use Rattle.nim_base.specs.declared.number.Object.{Object}
use Rattle.nim_base.specs.declared.number.Worker.{Worker}
use Rattle.nim_base.specs.declared.task.Param.{Param}
use Rattle.nim_base.specs.declared.task.Param.TheVariants.{Const, Arg}
use Rattle.nim_base.specs.declared.task.Task.{Task}
use Rattle.nim_base.specs.declared.task.TaskForm.{TaskForm}
use Rattle.nim_command.specs.declared.command.Command.{Command}
use Rattle.nim_command.specs.declared.template.WorkerTemplate.{WorkerTemplate}
use Rattle.nim_command.specs.Expansion.{param_with}
use Rattle.nim_command.specs.Ranks.{is_patch_number}
use Rattle.nim_command.specs.Waits.{commands_of}
use Rattle.nim_message.specs.declared.order.ToWorker.{ToWorker}
use Rattle.nim_order.specs.Orders.{AreEntriesByRule}
use Rattle.nim_order.proofs.Sessions.{entries_ruled, orders_cover}
use Rattle.nim_job.specs.declared.job.Job.{Job}
use Rattle.nim_job.specs.Serial.{tasks_of}
use Rattle.nim_job.specs.Tasks.{param_of, task_with_args}
use Rattle.nim_plan.specs.Legal.{AreLegal}
use Rattle.nim_plan.specs.Paired.{Key, keys_received, keys_sent}
use Rattle.nim_place.specs.declared.placement.Placement.{Placement}
use Rattle.nim_place.specs.Extends.{is_live, longer}
use Rattle.nim_place.specs.Stands.{MapStands, commands_for}
use Rattle.nim_place.specs.TaskOrders.{IsAt}
use Rattle.nim_place.specs.Versions.{Versions, after_commands, is_current, latest_of}
use Rattle.nim_place.proofs.Held.{for_append}
use Rattle.nim_place.proofs.Keys.{new_received, new_sent, received_in, sent_in}
use Rattle.nim_place.proofs.LiveOnce.{live_within}
use Rattle.nim_template.specs.declared.closing.Closing.{Closing}
use Rattle.nim_template.specs.declared.template.ControllerTemplate.{ControllerTemplate}
use Rattle.nim_template.specs.declared.walk.Walk.{Walk}
use Rattle.nim_template.specs.Again.{IsBefore}
use Rattle.nim_template.specs.Built.{all_slots, built, end_of, entries_for, half_for, needs_of}
use Rattle.nim_template.specs.Closing.{closings}
use Rattle.nim_template.specs.Fits.{is_fit}
use Rattle.nim_template.specs.Given.{AreTasksAt, InstallsExtend, InstancesExtend, install_with, installs_of, instance_with, instances_of, is_key_in}
use Rattle.nim_template.specs.Instance.{half_of, instance_of}
use Rattle.nim_template.specs.Tasks.{scheduled_from, task_with, without_before}
use Rattle.nim_template.proofs.Bare.{for_both, group_of, legal_same, new_received_same, new_sent_same, stands_same}
use Rattle.nim_template.proofs.Chosen.{command_at}
use Rattle.nim_template.proofs.Entries.{one_from, own_commands}
use Rattle.nim_template.proofs.InTurn.{AreLegalAt, AreTasksFrom, closings_given, closings_legal, legal_then, tasks_given, tasks_legal}
use Rattle.nim_template.proofs.Left.{IsDoneBy, closing_of, done_by, entries_of}
use Rattle.nim_template.proofs.Numbers.{closings_few, filter_few, slots_long}
use Rattle.nim_template.proofs.Turns.{AreGiven, between_parts, given_then, have_fewer, is_key_between, is_key_by}
use Rattle.nim_template.proofs.OneWorker.{IsInFor, IsOutFor, in_for, install_legal, install_ruled, instance_legal, instance_ruled}
use Rattle.nim_template.proofs.OneWorker.{out_for}
use Rattle.nim_template.proofs.SameKeys.{SendSame, same_none, same_paired}

-- ---- a job's tasks

param_same : (args : List ℤ) (params : List Param) → map (param_of args) params ≡ map (param_with args) params
param_same args [] = refl
param_same args (Const number ∷ params) = ap (λ (rest : List ℤ). number ∷ rest) (param_same args params)
param_same args (Arg place ∷ params) = ap (λ (rest : List ℤ). param_with args (Arg place) ∷ rest) (param_same args params)

task_same : (args : List ℤ) (form : TaskForm) → task_with_args args form ≡ task_with args form
task_same args form =
    ap (λ (params : List ℤ). (
    let task : Task = record { func = form.func; params = params; reads = form.reads; writes = form.writes } in task)) (param_same args form.params)

first_drop : (tasks : List Task) (k : ℕ) (task : Task) (rest : List Task) → drop k tasks ≡ task ∷ rest
    → (slice_get tasks k ≡ Some task) × (drop (k + 1) tasks ≡ rest)
first_drop [] zero task rest is = absurd cc
first_drop [] (suc k) task rest is = absurd cc
first_drop (t ∷ tasks) zero task rest is = (ap (λ (ts : List Task). slice_get ts 0) is, ap (drop 1) is)
first_drop (t ∷ tasks) (suc k) task rest is =
    let parts = first_drop tasks k task rest is in
    let next : suc k + 1 ≡ suc (k + 1) = omega arith in
    (parts.0, ap (λ (n : ℕ). drop n (t ∷ tasks)) next ∙ parts.1)

pub tasks_from : (job : Job) (base : ℕ) (args : List ℤ) (number : ℕ) (forms : List TaskForm) (tasks : List Task) → drop (base + number) (tasks_of job) ≡ tasks
    → take (length forms) tasks ≡ map (task_with_args args) forms → AreTasksFrom job base args number forms
tasks_from job base args number [] tasks there are = tt
tasks_from job base args number (form ∷ forms) [] there are = absurd cc
tasks_from job base args number (form ∷ forms) (task ∷ tasks) there are =
    let parts = first_drop (tasks_of job) (base + number) task tasks there in
    let first : task ≡ task_with_args args form = ap (λ (ts : List Task). slice_index_or ts 0 task) are in
    let rest : take (length forms) tasks ≡ map (task_with_args args) forms = ap (drop 1) are in
    let next : base + (number + 1) ≡ base + number + 1 = omega arith in (
      parts.0 ∙ ap Some (first ∙ task_same args form),
      tasks_from job base args (number + 1) forms tasks (ap (λ (n : ℕ). drop n (tasks_of job)) next ∙ parts.1) rest,
    )

-- ---- the template

half_is : (place : Placement) (objects : ℕ) (live : List Bool) (template : ControllerTemplate) (number : ℕ) → number < length live
    → half_of (built place objects live template) number ≡ half_for (record { 0 = number }) (entries_of place objects live template.forms)
half_is place objects live template number below =
    get_or-map-range_with_len (λ (n : ℕ). half_for (record { 0 = n }) (entries_of place objects live template.forms)) 0 (length live) number number [] below
    (omega arith)

-- the orders that install a template
pub built_installs : (place : Placement) (objects : ℕ) (live : List Bool) (template : ControllerTemplate)
    → InstallsExtend live (built place objects live template)
built_installs place objects live template epoch lists given ask =
    record {
      asked = record {
        begun = λ worker there. (out worker there).begun;
        epoch = λ worker there. (out worker there).epoch;
        asked = λ worker there. ap commands_of (out worker there).groups ∙ ask.asked worker there;
        none = ask.none;
      };
      installed = λ worker there. (out worker there).installed;
      legal = λ job worker there before.
          install_legal job epoch made.block (half_of made worker.0) (lists worker.0) (ask.begun worker there) (ask.epoch worker there) before;
      covered = λ worker rule.
          (let all = install_ruled epoch made.block (half_of made worker.0) (lists worker.0) (ruled worker) rule in
          record { by_rule = all; covered = orders_cover (longer lists (installs_of epoch made) worker.0) all });
      paired = record {
        paired = λ pairs none. same_paired live lists (longer lists (installs_of epoch made)) same pairs;
        others = λ other apart none. same_none live lists (longer lists (installs_of epoch made)) other same none;
      };
    } where
      made : WorkerTemplate
      made = built place objects live template

      out : (worker : Worker) → is_live live worker ≡ true
          → IsOutFor (lists worker.0) (install_with epoch made.block (half_of made worker.0)) epoch made.block (half_of made worker.0)
      out worker there = out_for epoch made.block (half_of made worker.0) (lists worker.0) (ask.begun worker there) (ask.epoch worker there)

      ruled : (worker : Worker) → AreEntriesByRule (half_of made worker.0)
      ruled worker = either (cases_lt worker.0 (length live)) where
        either : (worker.0 < length live) ⊎ (length live ≤ worker.0) → AreEntriesByRule (half_of made worker.0)
        either (inl below) =
            subst AreEntriesByRule (sym (half_is place objects live template worker.0 below))
            (entries_ruled [] (entries_for (record { 0 = worker.0 }) (entries_of place objects live template.forms)))
        either (inr past) =
            subst AreEntriesByRule
            (sym (get_or_past made.halves worker.0 []
            (let long = length-map-range_with_len
            (λ (n : ℕ). half_for (record { 0 = n }) (entries_of place objects live template.forms)) 0 (length live) in
            omega (arith, long, past))))
            refl

      same : SendSame live lists (longer lists (installs_of epoch made))
      same = record {
        sent = λ worker to there. sym (ap (sent_in to) (out worker there).groups);
        received = λ worker there. sym (ap received_in (out worker there).groups);
      }

pub map_none : {X Y : Type 0} (f : X → Y) (xs : List X) → map f xs ≡ [] → xs ≡ []
map_none f [] is = refl
map_none f (x ∷ xs) is = absurd cc

-- an instance of a template
pub built_instances : (place : Placement) (objects : ℕ) (live : List Bool) (template : ControllerTemplate) → list_any (λ (flag : Bool). flag) live ≡ true
    → length live ≤ 16 → objects ≤ 512 → length template.forms ≤ 1024 → list_all (is_fit objects) template.forms ≡ true
    → InstancesExtend live objects (built place objects live template)
built_instances place objects live template some workers_few objects_few few fit epoch instance base args lists given versions may =
    record {
      so_far = record {
        stands =
            subst (MapStands (given ++ own)) (sym is.effect)
            (stands_same given (real ++ last) own after (λ worker. sym (is.same (latest_of versions) worker)) all.so_far.stands);
        ask = record {
          begun = λ worker there. (on worker there).begun;
          epoch = λ worker there. (on worker there).epoch;
          asked = λ worker there.
              (on worker there).asked
              ∙ ap₂ (λ (xs ys : List Command). xs ++ ys) (may.so_far.ask.asked worker there) (sym (own_is worker there))
              ∙ sym (for_append worker given own);
          none = λ worker dead.
              map_none without_before (commands_for worker (given ++ own))
              (for_both worker given own (real ++ last) (is.same (latest_of versions)) ∙ ap (map without_before) (all.so_far.ask.none worker dead));
        };
      };
      before = subst (IsBefore workers objects (base + length forms)) (sym is.effect) is.before;
      installed = λ worker there. (on worker there).installed;
      covered = λ worker rule.
          (let ruled = instance_ruled epoch instance made.block base args (latest_of versions) (half_of made worker.0) (lists worker.0) rule in
          record { by_rule = ruled; covered = orders_cover (longer lists more worker.0) ruled });
      paired = record {
        paired = λ pairs none.
            same_paired live all.next (longer lists more) same
            (all.paired pairs (have_fewer (is_key_in epoch instance) (is_key_between epoch instance (64 * 0) last_number) live lists of_halves none));
        others = λ other apart none.
            same_none live all.next (longer lists more) other same (all.others other (λ key is. apart key (of_halves key is)) none);
      };
      legal = λ job at tasks worker there before.
          instance_legal job epoch instance made.block base args (latest_of versions) (half_of made worker.0) (lists worker.0)
          (may.so_far.ask.begun worker there) (may.so_far.ask.epoch worker there) (may.installed worker there)
          (subst (λ (past : List Command). AreLegal job past (own_commands (latest_of versions) base args (half_of made worker.0)))
          (sym (may.so_far.ask.asked worker there))
          (subst (AreLegal job (commands_for worker given)) (own_is worker there)
          (legal_same job (commands_for worker given) (commands_for worker (real ++ last)) (commands_for worker own) (sym (is.same (latest_of versions) worker))
          ((legal_at job at tasks).legal worker)))) before;
      next = λ job at tasks. subst (IsAt job (base + length forms)) (sym is.effect) (legal_at job at tasks).at;
    } where
      workers : ℕ
      workers = length live

      forms : List TaskForm
      forms = template.forms

      made : WorkerTemplate
      made = built place objects live template

      walk : Walk
      walk = end_of place objects live forms

      needs : List (Worker × Object)
      needs = needs_of walk.needed (all_slots workers objects)

      real : List (Worker × Command)
      real = scheduled_from place live base args 0 versions forms

      mid : Versions
      mid = after_commands versions real

      last : List (Worker × Command)
      last = map (command_at base args) (closing_of place objects live forms)

      after : Versions
      after = after_commands mid last

      own : List (Worker × Command)
      own = instance_of made base args versions

      more : ℕ → List ToWorker
      more = instances_of epoch instance made base args versions

      is : IsDoneBy place objects live template base args versions
      is = done_by place objects live template base args versions some few fit may.before may.room may.current

      needs_few : length needs ≤ 8192
      needs_few =
          let slots : List (Worker × Object) = all_slots workers objects in
          let long : length slots ≡ workers * objects = slots_long objects 0 workers in
          let most : workers * objects ≤ workers * 512 = mul-le-mul_left workers objects_few in
          let filtered : length needs ≤ length slots = filter_few (λ (slot : Worker × Object). is_current walk.needed slot.1 slot.0) slots in
          omega (arith, long, most, filtered, workers_few)

      copies : List Closing
      copies = closings walk.offsets needs

      -- the numbers of a template's entries are below those of a patch's copies
      last_number : ℕ
      last_number = 65536 + 0 + length copies

      of_halves : (key : Key) → is_key_between epoch instance (64 * 0) last_number key ≡ true → is_key_in epoch instance key ≡ true
      of_halves key is =
          let parts = between_parts epoch instance (64 * 0) last_number key is in
          let most : key.entry < 65536 + 0 + length copies = parts.most in
          let closed_few : length copies ≤ length needs = closings_few walk.offsets needs in
          and_from (is_key_by epoch instance key) (not (is_patch_number key.entry)) parts.of
          (ap not (false_from_ne_true (is_patch_number key.entry)
          (λ patch. (let past = leb-true 131072 key.entry patch in omega (arith, past, most, closed_few, needs_few)))))

      tasks : AreGiven live epoch instance (64 * 0) (64 * (0 + length forms)) lists given real mid
      tasks =
          tasks_given place live epoch instance base args 0 versions forms lists given may.so_far may.before.rows some
          (subst (λ (n : ℕ). list_all (is_fit n) forms ≡ true) (sym may.before.columns) fit) (omega (arith, few))

      all : AreGiven live epoch instance (64 * 0) last_number lists given (real ++ last) after
      all =
          given_then live epoch instance (64 * 0) (64 * (0 + length forms)) (65536 + 0) (65536 + 0 + length copies) lists given real last mid after
          (omega arith) (omega (arith, few)) (omega arith) tasks
          (closings_given live epoch instance (0 + length forms) base args versions walk.offsets mid needs 0 tasks.next (given ++ real) tasks.so_far is.closing
          (omega (arith, needs_few)))

      on : (worker : Worker) → is_live live worker ≡ true
          → IsInFor (lists worker.0) (instance_with epoch instance made.block base args (latest_of versions) (half_of made worker.0)) epoch instance made.block
          (half_of made worker.0) (own_commands (latest_of versions) base args (half_of made worker.0))
      on worker there =
          in_for epoch instance made.block base args (latest_of versions) (half_of made worker.0) (lists worker.0) (may.so_far.ask.begun worker there)
          (may.so_far.ask.epoch worker there) (may.installed worker there)

      own_is : (worker : Worker) → is_live live worker ≡ true
          → commands_for worker own ≡ own_commands (latest_of versions) base args (half_of made worker.0)
      own_is worker there =
          let below : worker.0 < workers = live_within live worker there in
          one_from (latest_of versions) base args (entries_of place objects live forms) worker 0 workers (omega arith) (omega (arith, below))
          ∙ ap (own_commands (latest_of versions) base args) (sym (half_is place objects live template worker.0 below))

      same : SendSame live all.next (longer lists more)
      same = record {
        sent = λ worker to there.
            all.sent worker to there
            ∙ ap (λ (keys : List Key). keys_sent to (lists worker.0) ++ keys)
            (new_sent_same to (group_of epoch instance) (commands_for worker given) (commands_for worker (real ++ last)) (commands_for worker own)
            (sym (is.same (latest_of versions) worker))
            ∙ ap₂ (λ (past cs : List Command). new_sent to (group_of epoch instance) past cs) (sym (may.so_far.ask.asked worker there)) (own_is worker there))
            ∙ sym ((on worker there).sent to);
        received = λ worker there.
            all.received worker there
            ∙ ap (λ (keys : List Key). keys_received (lists worker.0) ++ keys)
            (new_received_same (group_of epoch instance) (commands_for worker (real ++ last)) (commands_for worker own) (sym (is.same
            (latest_of versions) worker))
            ∙ ap (new_received (group_of epoch instance)) (own_is worker there))
            ∙ sym (on worker there).received;
      }

      base_is : (n : ℕ) → n + 0 ≡ n
      base_is n = omega arith

      legal_at : (job : Job) → IsAt job base versions → AreTasksAt job base args made → AreLegalAt job (base + length forms) given (real ++ last) after
      legal_at job at there =
          let room = may.room in
          let first : AreLegalAt job (base + 0 + length forms) given real mid =
          tasks_legal place live job base args 0 versions forms given may.so_far.stands may.before.rows some (omega (arith, room, few)) there.whole
          (subst (λ (n : ℕ). IsAt job n versions) (omega arith) at)
          (tasks_from job base args 0 forms (drop (base + 0) (tasks_of job)) refl
          (ap (λ (n : ℕ). take (length forms) (drop n (tasks_of job))) (base_is base) ∙ there.tasks)) in
          let one : AreLegalAt job (base + length forms) given real mid = subst (λ (n : ℕ). AreLegalAt job n given real mid) (omega arith) first in
          legal_then job (base + length forms) (base + length forms) given real last mid after one
          (closings_legal job (base + length forms) (0 + length forms) base args versions walk.offsets mid needs 0 (given ++ real) tasks.so_far.stands
          (let columns = at.objects in let also = may.before.columns in omega (arith, columns, also, objects_few)) one.at is.closing)
