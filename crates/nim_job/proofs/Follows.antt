-- How a machine follows the steps of a job, from any state at which it stands.
use Rattle.std.proofs.Common.{◌≡◌, ℕ, ◌+◌, ◌-◌, ◌<◌, ◌≤◌, zero, suc, Bool, true, false, not, add-one, ℤ, List, [], ◌∷◌, ◌++◌, length, refl, ap, sym, subst, ◌∙◌, arith, append-nil}
use Rattle.std.specs.Prelude.{◌==◌, if◌then◌else◌, nat_le, nat_lt, slice_get}
use Rattle.std.specs.List.{list_all}
use Rattle.std.specs.Option.{option_map_or}
use Rattle.std.proofs.lemmas.Bool.{and_parts, both_ways, cond-true, eqb-true, le-leb, leb-false, ltb-true, or_left}
use Rattle.std.proofs.lemmas.List.{length-append, length-map}
use Rattle.nim_base.specs.declared.number.Object.{Object}
use Rattle.nim_base.specs.declared.task.Task.{Task}
use Rattle.nim_base.specs.Value.{cell_of}
use Rattle.nim_job.specs.declared.ask.Ask.{Ask}
use Rattle.nim_job.specs.declared.block.Block.{Block}
use Rattle.nim_job.specs.declared.item.Item.{Item}
use Rattle.nim_job.specs.declared.item.Item.TheVariants.{Run, Again}
use Rattle.nim_job.specs.declared.job.Job.{Job}
use Rattle.nim_job.specs.declared.stmt.Stmt.{Stmt, fold_out-Stmt, map-Stmt, out-Stmt}
use Rattle.nim_job.specs.declared.stmt.Stmt.TheOpen.{Stmt-F}
use Rattle.nim_job.specs.Driver.{Driver, atom_value, output_limit}
use Rattle.nim_job.specs.Follows.{GoesFurther, GoesOn, Follows, IsThere, StandsAt, state_at}
use Rattle.nim_job.specs.Machine.{Machine, after_ask, answered, appended, ask_now, ask_of, asked_now, before_ask, items_ask, items_asked, machine_at, quiet_steps, spans_of, start_machine, stmt_ask, stmt_asked}
use Rattle.nim_job.specs.Objects.{shapes_of, value_at}
use Rattle.nim_job.specs.Quiet.{is_quiet, quiet_step}
use Rattle.nim_job.specs.Serial.{driver_at, is_nil, serial_of}
use Rattle.nim_job.specs.Step.{State, after_tasks, items_step, items_tasks, output_of, step, stmt_tasks, stmt_told, tasks_next}
use Rattle.nim_job.specs.Tasks.{block_tasks_of}
use Rattle.nim_job.specs.Whole.{is_whole}
use Rattle.nim_job.proofs.Ends.{done_ends, full_ends, items_finished, items_limit, limit_ends}
use Rattle.nim_job.proofs.Sound.{is_sound, sound_stmt}
use Rattle.nim_job.proofs.Spans.{meant_there, span_meant}
use Rattle.nim_job.proofs.Steps.{Later, is_item, passes_all, quiet_end, step_open, tasks_open, todo_sound}
use Rattle.nim_job.proofs.Versions.{step_moves}
use Rattle.nim_job.proofs.Whole.{whole_vars}

-- ---- the start

pub starts : (job : Job) → StandsAt job (start_machine job)
unfolding driver_at
starts job = record { machine = refl; within = record { counted = omega arith; printed = omega arith } }

-- ---- before it asks

-- the machine at a state, once so many steps that ask nothing are taken
abbrev settled : Job → State → Machine
settled job state = record (machine_at job state) { driver = quiet_steps (job.steps - state.driver.count) state.driver }

settles : (job : Job) (m : Machine) → StandsAt job m → before_ask m ≡ settled job (state_at job m)
settles job m at = ap before_ask at.machine

later : (job : Job) (m : Machine) → StandsAt job m → Later job m.driver.count (job.steps - (state_at job m).driver.count) (settled job (state_at job m)).driver
later job m at =
    let state = state_at job m in
    let same = ap (λ (k : Machine). k.driver) at.machine in
    passes_all job (job.steps - state.driver.count) m.driver.count (sym (ap (λ (d : Driver). d.count) same))
    (let printed = at.within.printed in omega (arith, printed, ap (λ (d : Driver). length d.output) same))

-- what is known of the machine before it asks
record Before (job : Job) (m b : Machine) : Type 0 where
  pub goes : GoesOn job m b []
  pub printed : b.driver.output ≡ m.driver.output
  pub counted : m.driver.count ≤ b.driver.count
  pub quiet : is_quiet b.driver.todo ≡ true → job.steps ≤ b.driver.count

settled_before : (job : Job) (m : Machine) → StandsAt job m → Before job m (settled job (state_at job m))
settled_before job m at =
    let state = state_at job m in
    let steps : m.steps ≡ job.steps = ap (λ (k : Machine). k.steps) at.machine in
    let count : m.driver.count ≡ state.driver.count = ap (λ (k : Machine). k.driver.count) at.machine in
    let output : m.driver.output ≡ state.driver.output = ap (λ (k : Machine). k.driver.output) at.machine in
    let l = later job m at in
    let b = settled job state in
    let within = at.within in
    record {
      goes = record {
        stands = record {
          machine = ap (λ (d : Driver). record (machine_at job state) { driver = d }) (sym l.stands);
          within = record {
            counted = omega (arith, l.before, within.counted, steps, count);
            printed = omega (arith, ap length l.printed, within.printed, ap length output);
          };
        };
        values = l.values;
        position = omega (arith, l.position);
      };
      printed = l.printed ∙ sym output;
      counted = l.after;
      quiet = λ quiet. let end = quiet_end (job.steps - state.driver.count) state.driver quiet in omega (arith, end);
    }

before : (job : Job) (m : Machine) → StandsAt job m → Before job m (before_ask m)
before job m at = subst (λ (b : Machine). Before job m b) (sym (settles job m at)) (settled_before job m at)

-- ---- one ask

-- the machine that was answered stands at the next state, one statement was counted, and this is printed
record Steps (job : Job) (state : State) (answer : Machine) (next : State) (text : List ℕ) : Type 0 where
  pub machine : answer ≡ machine_at job next
  pub counted : next.driver.count ≡ state.driver.count + 1
  pub printed : next.driver.output ≡ state.driver.output ++ text

-- what follows from each ask of a machine at a state, where it stands then, and which state and tasks come next
abbrev Told : Job → State → Machine → State → List Task → Ask → Type 0
Told job state asked next tasks (Ask.Run block args) =
    (state.driver.count < job.steps) × (tasks ≡ block_tasks_of job block args) × ((cell : ℤ) → Steps job state (answered asked cell) next [])
Told job state asked next tasks (Ask.Get object row cell) =
    (state.driver.count < job.steps) × (tasks ≡ []) × Steps job state (answered asked (cell_of (value_at state.values object) row cell)) next []
Told job state asked next tasks Ask.Checkpoint = (state.driver.count < job.steps) × (tasks ≡ []) × ((cell : ℤ) → Steps job state (answered asked cell) next [])
Told job state asked next tasks (Ask.Output var) =
    (state.driver.count < job.steps) × (tasks ≡ [])
    × (next.driver.output ≡ state.driver.output ++ output_of job.vars state.values var)
    × (next.driver.count ≡ state.driver.count + 1)
    × (length state.driver.output + length (output_of job.vars state.values var) ≤ output_limit
    → appended asked (output_of job.vars state.values var) ≡ machine_at job next)
Told job state asked next tasks _ = Unit {0}

-- nothing more is printed
no_more : (output : List ℕ) → output ≡ output ++ []
no_more output = sym (append-nil output)

-- the state after a statement, and the machine that asked it
abbrev stmt_next : Job → State → List Task → Stmt-F Stmt → State
stmt_next job state tasks stmt = record {
  driver = stmt_told job state stmt (quiet_step state.driver);
  values = after_tasks (shapes_of job.vars) state.values tasks;
  position = state.position + length tasks;
}

stmt_follows : (job : Job) (state : State) (stmt : Stmt-F Stmt) → state.driver.count < job.steps → is_whole job ≡ true
    → sound_stmt job (map-Stmt Stmt Bool (is_sound job) stmt) ≡ true
    → Told job state (record (machine_at job state) { driver = quiet_step state.driver; asked = stmt_asked stmt })
    (stmt_next job state (stmt_tasks job state stmt) stmt)
    (stmt_tasks job state stmt) (stmt_ask state.driver.scalars (spans_of job.vars) stmt)
stmt_follows job state (Stmt-F.Do block args) room whole sound =
    (room, refl, λ cell. record { machine = refl; counted = refl; printed = no_more state.driver.output })
stmt_follows job state (Stmt-F.Get s var part row cell) room whole sound =
    let meant = span_meant job.vars var part (ltb-true var (length job.vars) sound) in
    let next = stmt_next job state [] (Stmt-F.Get s var part row cell) in
    let asked = record (machine_at job state) { driver = quiet_step state.driver; asked = stmt_asked (Stmt-F.Get s var part row cell) } in (
      room,
      refl,
      record {
        machine = ap (λ (object : Object). answered asked (cell_of (value_at state.values object) row cell)) meant;
        counted = refl;
        printed = no_more state.driver.output;
      },
    )
stmt_follows job state Stmt-F.Checkpoint room whole sound =
    (room, refl, λ cell. record { machine = refl; counted = refl; printed = no_more state.driver.output })
stmt_follows job state (Stmt-F.Output var) room whole sound =
    let text = output_of job.vars state.values var in (
      room,
      refl,
      refl,
      refl,
      λ fits. cond-true (nat_le (length state.driver.output + length text) output_limit) _ _
          (le-leb (length state.driver.output + length text) output_limit fits),
    )
stmt_follows job state (Stmt-F.Let s first rest) room whole sound = tt
stmt_follows job state (Stmt-F.Loop turns body) room whole sound = tt
stmt_follows job state (Stmt-F.While cond body) room whole sound = tt
stmt_follows job state (Stmt-F.If cond first second) room whole sound = tt

-- the same where a statement more may be counted or not
stmt_within : (job : Job) (state : State) (stmt : Stmt-F Stmt) (b : Bool) → b ≡ nat_le job.steps state.driver.count → is_whole job ≡ true
    → sound_stmt job (map-Stmt Stmt Bool (is_sound job) stmt) ≡ true
    → Told job state (if b then machine_at job state else record (machine_at job state) { driver = quiet_step state.driver; asked = stmt_asked stmt })
    (stmt_next job state (stmt_tasks job state stmt) stmt) (stmt_tasks job state stmt)
    (if b then Ask.Limit else stmt_ask state.driver.scalars (spans_of job.vars) stmt)
stmt_within job state stmt true is whole sound = tt
stmt_within job state stmt false is whole sound = stmt_follows job state stmt (leb-false job.steps state.driver.count (sym is)) whole sound

again_within : (job : Job) (state next : State) (asked : Machine) (tasks : List Task) (b : Bool)
    → Told job state asked next tasks (if b then Ask.Limit else Ask.Finished)
again_within job state next asked tasks true = tt
again_within job state next asked tasks false = tt

items_follow : (job : Job) (state : State) (items : List Item) → is_whole job ≡ true → list_all (is_item job) items ≡ true
    → Told job state (items_asked (machine_at job state) items) (items_step job state items) (items_tasks job state items)
    (items_ask (machine_at job state) items)
items_follow job state [] whole sound = tt
items_follow job state (Run stmt ∷ rest) whole sound =
    let is = (and_parts (is_sound job stmt) (list_all (is_item job) rest) sound).0 in
    stmt_within job state (out-Stmt stmt) (nat_le job.steps state.driver.count) refl whole (sym (fold_out-Stmt Bool (sound_stmt job) stmt) ∙ is)
items_follow job state (Again turns body ∷ rest) whole sound =
    again_within job state (items_step job state (Again turns body ∷ rest)) (items_asked (machine_at job state) (Again turns body ∷ rest)) []
    (nat_le job.steps state.driver.count)

-- what follows where a machine stands before it asks
asks_now : (job : Job) (b : Machine) → is_whole job ≡ true → StandsAt job b
    → Told job (state_at job b) (asked_now b) (step job (state_at job b)) (tasks_next job (state_at job b)) (ask_now b)
asks_now job b whole at =
    let state = state_at job b in
    let within : length state.driver.output ≤ output_limit = let printed =
    at.within.printed in omega (arith, printed, ap (λ (k : Machine). length k.driver.output) at.machine) in
    let here = items_follow job state state.driver.todo whole (todo_sound job b.driver.count whole) in
    subst (λ (k : Machine). Told job state (asked_now k) (step job state) (tasks_next job state) (ask_now k)) (sym at.machine)
    (subst (λ (next : State). Told job state (asked_now (machine_at job state)) next (tasks_next job state) (ask_now (machine_at job state)))
    (sym (step_open job state within))
    (subst (λ (tasks : List Task). Told job state (asked_now (machine_at job state)) (items_step job state state.driver.todo) tasks
    (ask_now (machine_at job state))) (sym (tasks_open job state within)) here))

-- ---- the next state

one_more : (job : Job) (n k : ℕ) → k ≡ n + 1 → driver_at job k ≡ step job (driver_at job n)
unfolding driver_at
one_more job n k more = ap (driver_at job) (more ∙ add-one n)

-- a machine that stands at the state after a step goes on
steps_on : (job : Job) (b next : Machine) (tasks : List Task) → StandsAt job b → (state_at job b).driver.count < job.steps
    → tasks_next job (state_at job b) ≡ tasks
    → next ≡ machine_at job (step job (state_at job b)) → (step job (state_at job b)).driver.count ≡ (state_at job b).driver.count + 1
    → length next.driver.output ≤ output_limit
    → GoesFurther job b next tasks
steps_on job b next tasks at room runs is counted printed =
    let state = state_at job b in
    let count : b.driver.count ≡ state.driver.count = ap (λ (k : Machine). k.driver.count) at.machine in
    let more : next.driver.count ≡ b.driver.count + 1 = omega (arith, ap (λ (k : Machine). k.driver.count) is, counted, count) in
    let there : state_at job next ≡ step job state = one_more job b.driver.count next.driver.count more in
    let steps : next.steps ≡ job.steps = ap (λ (k : Machine). k.steps) is in
    let moves = step_moves job state in
    record {
      goes = record {
        stands = record {
          machine = is ∙ ap (machine_at job) (sym there);
          within = record { counted = omega (arith, more, count, room, steps); printed = printed };
        };
        values = ap (λ (s : State). s.values) there ∙ moves.0 ∙ ap (after_tasks (shapes_of job.vars) state.values) runs;
        position = ap (λ (s : State). s.position) there ∙ moves.1 ∙ ap (λ (ts : List Task). state.position + length ts) runs;
      };
      counted = omega (arith, more);
    }

-- what goes on from where a machine stands before it asks goes on from where it stood
goes_from : (job : Job) (m b next : Machine) (tasks : List Task) → Before job m b → GoesFurther job b next tasks → GoesFurther job m next tasks
goes_from job m b next tasks from further = record {
  goes = record {
    stands = further.goes.stands;
    values = further.goes.values ∙ ap (λ grids. after_tasks (shapes_of job.vars) grids tasks) from.goes.values;
    position = omega (arith, further.goes.position, from.goes.position);
  };
  counted = (let more = further.counted in omega (arith, more, from.counted));
}

-- an ask whose answer prints nothing
quietly : (job : Job) (m b next : Machine) (tasks : List Task) → StandsAt job b → Before job m b → (state_at job b).driver.count < job.steps
    → tasks_next job (state_at job b) ≡ tasks
    → Steps job (state_at job b) next (step job (state_at job b)) [] → GoesFurther job m next tasks
quietly job m b next tasks at from room runs steps =
    let state = state_at job b in
    let output : length b.driver.output ≡ length state.driver.output = ap (λ (k : Machine). length k.driver.output) at.machine in
    let within = at.within.printed in
    goes_from job m b next tasks from
    (steps_on job b next tasks at room runs steps.machine steps.counted
    (omega (
      arith,
      within,
      output,
      ap (λ (k : Machine). length k.driver.output) steps.machine,
      ap length steps.printed,
      ap length
          (append-nil state.driver.output),
    )))

-- ---- what is asked is there

call_there : (blocks : List Block) (block args : ℕ) → option_map_or (λ (b : Block). args == b.args) (slice_get blocks block) false ≡ true
    → (block < length blocks) × (args ≡ option_map_or (λ (b : Block). b.args) (slice_get blocks block) 0)
call_there [] block args is = absurd (both_ways false refl is)
call_there (b ∷ blocks) zero args is = (omega arith, eqb-true args b.args is)
call_there (b ∷ blocks) (suc block) args is = let found = call_there blocks block args is in (omega (arith, found.0), found.1)

stmt_there : (job : Job) (scalars : List ℤ) (stmt : Stmt-F Stmt) (b : Bool) → is_whole job ≡ true
    → sound_stmt job (map-Stmt Stmt Bool (is_sound job) stmt) ≡ true
    → IsThere job (if b then Ask.Limit else stmt_ask scalars (spans_of job.vars) stmt)
stmt_there job scalars stmt true whole sound = tt
stmt_there job scalars (Stmt-F.Do block args) false whole sound =
    let found = call_there job.blocks block (length args) sound in (found.0, length-map args (atom_value scalars) ∙ found.1)
stmt_there job scalars (Stmt-F.Get s var part row cell) false whole sound =
    let there = ltb-true var (length job.vars) sound in
    let below = meant_there job.vars var part (whole_vars job whole) there in
    omega (arith, below, ap (λ (o : Object). o.0) (span_meant job.vars var part there))
stmt_there job scalars (Stmt-F.Output var) false whole sound = ltb-true var (length job.vars) sound
stmt_there job scalars Stmt-F.Checkpoint false whole sound = tt
stmt_there job scalars (Stmt-F.Let s first rest) false whole sound = tt
stmt_there job scalars (Stmt-F.Loop turns body) false whole sound = tt
stmt_there job scalars (Stmt-F.While cond body) false whole sound = tt
stmt_there job scalars (Stmt-F.If cond first second) false whole sound = tt

again_there : (job : Job) (b : Bool) → IsThere job (if b then Ask.Limit else Ask.Finished)
again_there job true = tt
again_there job false = tt

items_there : (job : Job) (state : State) (items : List Item) → is_whole job ≡ true → list_all (is_item job) items ≡ true
    → IsThere job (items_ask (machine_at job state) items)
items_there job state [] whole sound = tt
items_there job state (Run stmt ∷ rest) whole sound =
    let is = (and_parts (is_sound job stmt) (list_all (is_item job) rest) sound).0 in
    stmt_there job state.driver.scalars (out-Stmt stmt) (nat_le job.steps state.driver.count) whole (sym (fold_out-Stmt Bool (sound_stmt job) stmt) ∙ is)
items_there job state (Again turns body ∷ rest) whole sound = again_there job (nat_le job.steps state.driver.count)

-- ---- all together

-- the machine before it asks, seen at its state
now : (job : Job) (b : Machine) → StandsAt job b → ask_now b ≡ items_ask (machine_at job (state_at job b)) (state_at job b).driver.todo
now job b at = ap ask_now at.machine

-- an output that is answered by these texts
prints_at : (job : Job) (m b : Machine) (var : ℕ) (text : List ℕ) → StandsAt job b → Before job m b → text ≡ output_of job.vars (state_at job b).values var
    → Told job (state_at job b) (asked_now b) (step job (state_at job b)) (tasks_next job (state_at job b)) (Ask.Output var)
    → (length m.driver.output + length text ≤ output_limit → GoesFurther job m (appended (asked_now b) text) [])
    × (output_limit < length m.driver.output + length text → serial_of job ≡ record { status = 4; bytes = [] })
prints_at job m b var text at from is told =
    let state = state_at job b in
    let steps : b.steps ≡ job.steps = ap (λ (k : Machine). k.steps) at.machine in
    let count : b.driver.count ≡ state.driver.count = ap (λ (k : Machine). k.driver.count) at.machine in
    let output : length m.driver.output ≡ length state.driver.output = ap length (sym from.printed ∙ ap (λ (k : Machine). k.driver.output) at.machine) in
    let size : length text ≡ length (output_of job.vars state.values var) = ap length is in
    let sum : length (step job state).driver.output ≡ length state.driver.output + length text =
    ap length told.2 ∙ ap (λ (t : List ℕ). length (state.driver.output ++ t)) (sym is) ∙ length-append state.driver.output text in
    let room = told.0 in (
      λ fits. let next : appended (asked_now b) text ≡ machine_at job (step job state) =
          ap (appended (asked_now b)) is ∙ told.4 (omega (arith, fits, output, size)) in
          goes_from job m b (appended (asked_now b) text) [] from
          (steps_on job b (appended (asked_now b) text) [] at room told.1 next told.3
          (omega (arith, ap (λ (k : Machine). length k.driver.output) next, sum, fits, output))),
      λ past. let there : driver_at job (b.driver.count + 1) ≡ step job state = one_more job b.driver.count (b.driver.count + 1) refl in
          full_ends job (b.driver.count + 1) (omega (arith, room, count))
          (omega (arith, ap (λ (s : State). length s.driver.output) there, sum, past, output)),
    )

-- at its end
finishes : (job : Job) (m b : Machine) → StandsAt job b → Before job m b → ask_now b ≡ Ask.Finished
    → serial_of job ≡ record { status = 0; bytes = m.driver.output }
finishes job m b at from is =
    let state = state_at job b in
    let steps : b.steps ≡ job.steps = ap (λ (k : Machine). k.steps) at.machine in
    let count : b.driver.count ≡ state.driver.count = ap (λ (k : Machine). k.driver.count) at.machine in
    let output : b.driver.output ≡ state.driver.output = ap (λ (k : Machine). k.driver.output) at.machine in
    let within = at.within in
    let nil = items_finished job state state.driver.todo
    (λ quiet. let past = from.quiet (ap (λ (k : Machine). is_quiet k.driver.todo) at.machine ∙ quiet) in omega (arith, past, count)) (sym (now job b at) ∙ is)
    in
    done_ends job b.driver.count (omega (arith, within.counted, steps)) (omega (arith, within.printed, ap length output)) nil
    ∙ ap (λ (bytes : List ℕ). record { status = 0; bytes = bytes }) (sym (sym from.printed ∙ output))

-- at its limit
stops : (job : Job) (b : Machine) → StandsAt job b → ask_now b ≡ Ask.Limit → serial_of job ≡ record { status = 4; bytes = [] }
stops job b at is =
    let state = state_at job b in
    let steps : b.steps ≡ job.steps = ap (λ (k : Machine). k.steps) at.machine in
    let count : b.driver.count ≡ state.driver.count = ap (λ (k : Machine). k.driver.count) at.machine in
    let limit = items_limit job state state.driver.todo (sym (now job b at) ∙ is) in
    let within = at.within.counted in
    let last : job.steps ≡ b.driver.count = omega (arith, within, steps, count, limit.1) in
    limit_ends job state (ap (driver_at job) last)
    (or_left (not (is_nil state.driver.todo)) (nat_lt output_limit (length state.driver.output)) (ap not limit.0))

pub follows : (job : Job) → is_whole job ≡ true → (m : Machine) → StandsAt job m → Follows job m
follows job whole m at =
    let b = before_ask m in
    let from = before job m at in
    let here = from.goes.stands in
    let state = state_at job b in
    let told = asks_now job b whole here in
    let same_values = from.goes.values in
    let count : b.driver.count ≡ state.driver.count = ap (λ (k : Machine). k.driver.count) here.machine in
    let told_by = λ (ask : Ask) (is : ask_of m ≡ ask). subst (Told job state (asked_now b) (step job state) (tasks_next job state)) is told in
    record {
      asks = record {
        before = from.goes;
        printed = from.printed;
        there = subst (IsThere job) (sym (now job b here)) (items_there job state state.driver.todo whole (todo_sound job b.driver.count whole));
      };
      run = λ block args is.
          let found = told_by (Ask.Run block args) is in
          record {
            within = omega (arith, found.0, count);
            tasks = found.1;
            goes = λ cell. quietly job m b (answered (after_ask m) cell) (block_tasks_of job block args) here from found.0 found.1 (found.2 cell);
          };
      get = λ object row cell is.
          let found = told_by (Ask.Get object row cell) is in
          subst (λ grids. GoesFurther job m (answered (after_ask m) (cell_of (value_at grids object) row cell)) []) same_values
          (quietly job m b (answered (after_ask m) (cell_of (value_at state.values object) row cell)) [] here from found.0 found.1 found.2);
      checkpoint = λ cell is.
          let found = told_by Ask.Checkpoint is in
          quietly job m b (answered (after_ask m) cell) [] here from found.0 found.1 (found.2 cell);
      output = λ var is.
          let text = output_of job.vars (state_at job m).values var in
          let found = prints_at job m b var text here from (ap (λ grids. output_of job.vars grids var) (sym same_values)) (told_by (Ask.Output var) is) in
          record { goes = found.0; full = found.1 };
      finished = λ is. finishes job m b here from is;
      limit = λ is. stops job b here is;
    }
