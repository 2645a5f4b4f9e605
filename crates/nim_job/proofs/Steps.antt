-- What the steps of a driver keep: counts, outputs, ends, and statements that name what is there.
use Rattle.std.proofs.Common.{◌≡◌, ℕ, ◌+◌, ◌-◌, ◌<◌, ◌≤◌, zero, suc, Bool, true, false, ℤ, List, [], ◌∷◌, ◌++◌, length, map, refl, ap, sym, subst, ◌∙◌, arith}
use Rattle.std.specs.List.{list_all}
use Rattle.std.proofs.lemmas.Bool.{and_from, and_parts, both_ways, cond-false, cond-true, cond_both, le-ltb, lt-ltb}
use Rattle.std.proofs.lemmas.List.Folds.{list_all-append, list_all-map}
use Rattle.nim_job.specs.declared.item.Item.{Item}
use Rattle.nim_job.specs.declared.item.Item.TheVariants.{Run, Again}
use Rattle.nim_job.specs.declared.job.Job.{Job}
use Rattle.nim_job.specs.declared.stmt.Stmt.{Stmt, fold_out-Stmt, map-Stmt, out-Stmt}
use Rattle.nim_job.specs.declared.stmt.Stmt.TheOpen.{Stmt-F}
use Rattle.nim_job.specs.Driver.{Driver, atom_value, is_met, output_limit}
use Rattle.nim_job.specs.Machine.{quiet_steps}
use Rattle.nim_job.specs.Objects.{shapes_of}
use Rattle.nim_job.specs.Quiet.{again, is_quiet, is_quiet_stmt, items_left, quiet_step, stmt_left, turns_in}
use Rattle.nim_job.specs.Serial.{driver_at, is_nil}
use Rattle.nim_job.specs.Step.{State, after_tasks, is_over, items_step, items_tasks, items_told, step, stmt_tasks, stmt_told, tasks_next}
use Rattle.nim_job.specs.Whole.{is_whole}
use Rattle.nim_job.proofs.Sound.{body_sound, is_sound, sound_stmt}
use Rattle.nim_job.proofs.Versions.{step_moves}

-- ---- one step

-- a state whose output is within the limit takes a step
pub step_open : (job : Job) (state : State) → length state.driver.output ≤ output_limit → step job state ≡ items_step job state state.driver.todo
step_open job state within = cond-false (is_over state) state (items_step job state state.driver.todo) (le-ltb output_limit (length state.driver.output) within)

-- and its tasks are those of its first item
pub tasks_open : (job : Job) (state : State) → length state.driver.output ≤ output_limit → tasks_next job state ≡ items_tasks job state state.driver.todo
tasks_open job state within = cond-false (is_over state) [] (items_tasks job state state.driver.todo) (le-ltb output_limit (length state.driver.output) within)

quiet_told : (job : Job) (state : State) (stmt : Stmt-F Stmt) (driver : Driver) → is_quiet_stmt stmt ≡ true
    → (stmt_told job state stmt driver ≡ driver) × (stmt_tasks job state stmt ≡ [])
quiet_told job state (Stmt-F.Do block args) driver is = absurd (both_ways false refl is)
quiet_told job state (Stmt-F.Get s var part row cell) driver is = absurd (both_ways false refl is)
quiet_told job state (Stmt-F.Output var) driver is = absurd (both_ways false refl is)
quiet_told job state stmt driver is = (refl, refl)

-- a step of an item that asks nothing is one of the driver alone
quiet_items : (job : Job) (state : State) (items : List Item) → is_quiet items ≡ true
    → ((items_step job state items).driver ≡ quiet_step state.driver) × (items_tasks job state items ≡ [])
quiet_items job state [] is = absurd (both_ways false refl is)
quiet_items job state (Run stmt ∷ rest) is = quiet_told job state (out-Stmt stmt) (quiet_step state.driver) is
quiet_items job state (Again turns body ∷ rest) is = (refl, refl)

-- ---- steps that ask nothing

-- From the state after n steps the driver takes steps that ask nothing: it stands at a later state, and no task was run.
pub record Later (job : Job) (n k : ℕ) (driver : Driver) : Type 0 where
  pub stands : (driver_at job driver.count).driver ≡ driver
  pub values : (driver_at job driver.count).values ≡ (driver_at job n).values
  pub position : (driver_at job driver.count).position ≡ (driver_at job n).position
  pub printed : driver.output ≡ (driver_at job n).driver.output
  pub after : n ≤ driver.count
  pub before : driver.count ≤ n + k

at_once : (job : Job) (n k : ℕ) → (driver_at job n).driver.count ≡ n → Later job n k (driver_at job n).driver
at_once job n k counted = record {
  stands = ap (λ (i : ℕ). (driver_at job i).driver) counted;
  values = ap (λ (i : ℕ). (driver_at job i).values) counted;
  position = ap (λ (i : ℕ). (driver_at job i).position) counted;
  printed = refl;
  after = omega (arith, counted);
  before = omega (arith, counted);
}

-- one such step
pub record Passes (job : Job) (n : ℕ) : Type 0 where
  pub driver : (driver_at job (suc n)).driver ≡ quiet_step (driver_at job n).driver
  pub values : (driver_at job (suc n)).values ≡ (driver_at job n).values
  pub position : (driver_at job (suc n)).position ≡ (driver_at job n).position

passes : (job : Job) (n : ℕ) → length (driver_at job n).driver.output ≤ output_limit → is_quiet (driver_at job n).driver.todo ≡ true → Passes job n
unfolding driver_at
passes job n within quiet =
    let state = driver_at job n in
    let alone = quiet_items job state state.driver.todo quiet in
    let none = tasks_open job state within ∙ alone.1 in
    let moves = step_moves job state in
    record {
      driver = ap (λ (s : State). s.driver) (step_open job state within) ∙ alone.0;
      values = moves.0 ∙ ap (after_tasks (shapes_of job.vars) state.values) none;
      position = omega (arith, moves.1, ap length none);
    }

pub passes_all : (job : Job) (k n : ℕ) → (driver_at job n).driver.count ≡ n → length (driver_at job n).driver.output ≤ output_limit
    → Later job n k (quiet_steps k (driver_at job n).driver)
passes_all job zero n counted within = at_once job n 0 counted
passes_all job (suc k) n counted within =
    let driver = (driver_at job n).driver in
    cond_both (is_quiet driver.todo) (quiet_steps k (quiet_step driver)) driver (Later job n (suc k))
    (λ quiet. let one = passes job n within quiet in
    let count : (driver_at job (suc n)).driver.count ≡ suc n = omega (arith, ap (λ (d : Driver). d.count) one.driver, counted) in
    let output : length (driver_at job (suc n)).driver.output ≤ output_limit = omega (arith, ap (λ (d : Driver). length d.output) one.driver, within) in
    let rest = passes_all job k (suc n) count output in
    subst (λ (d : Driver). Later job n (suc k) (quiet_steps k d)) one.driver (record {
      stands = rest.stands;
      values = rest.values ∙ one.values;
      position = rest.position ∙ one.position;
      printed = rest.printed ∙ ap (λ (d : Driver). d.output) one.driver;
      after = omega (arith, rest.after);
      before = omega (arith, rest.before);
    }))
    (λ asks. at_once job n (suc k) counted)

-- where an item that asks nothing is left, as many steps were taken as might be
pub quiet_end : (k : ℕ) (driver : Driver) → is_quiet (quiet_steps k driver).todo ≡ true → (quiet_steps k driver).count ≡ driver.count + k
quiet_end zero driver = λ quiet. omega arith
quiet_end (suc k) driver =
    cond_both (is_quiet driver.todo) (quiet_steps k (quiet_step driver)) driver (λ (d : Driver). is_quiet d.todo ≡ true → d.count ≡ driver.count + suc k)
    (λ is quiet. let more = quiet_end k (quiet_step driver) quiet in omega (arith, more))
    (λ asks quiet. absurd (both_ways (is_quiet driver.todo) asks quiet))

-- ---- ends

nil_from : (items : List Item) → is_nil items ≡ true → items ≡ []
nil_from [] nil = refl
nil_from (item ∷ items) nil = absurd (both_ways false refl nil)

step_nil : (job : Job) (state : State) → is_nil state.driver.todo ≡ true → step job state ≡ state
step_nil job state nil =
    cond_both (is_over state) state (items_step job state state.driver.todo) (λ (next : State). next ≡ state) (λ over. refl)
    (λ still. ap (items_step job state) (nil_from state.driver.todo nil))

step_over : (job : Job) (state : State) → output_limit < length state.driver.output → step job state ≡ state
step_over job state over = cond-true (is_over state) state (items_step job state state.driver.todo) (lt-ltb output_limit (length state.driver.output) over)

stays : (job : Job) (n d : ℕ) → step job (driver_at job n) ≡ driver_at job n → driver_at job (d + n) ≡ driver_at job n
unfolding driver_at
stays job n zero still = let same : 0 + n ≡ n = omega arith in ap (driver_at job) same
stays job n (suc d) still =
    let later : suc d + n ≡ suc (d + n) = omega arith in
    ap (driver_at job) later ∙ ap (step job) (stays job n d still) ∙ still

-- a state that stands still is the one at the end
stays_last : (job : Job) (n : ℕ) → n ≤ job.steps → step job (driver_at job n) ≡ driver_at job n → driver_at job job.steps ≡ driver_at job n
stays_last job n within still =
    let last : job.steps ≡ job.steps - n + n = omega arith in
    ap (driver_at job) last ∙ stays job n (job.steps - n) still

pub nil_last : (job : Job) (n : ℕ) → n ≤ job.steps → is_nil (driver_at job n).driver.todo ≡ true → driver_at job job.steps ≡ driver_at job n
nil_last job n within nil = stays_last job n within (step_nil job (driver_at job n) nil)

pub over_last : (job : Job) (n : ℕ) → n ≤ job.steps → output_limit < length (driver_at job n).driver.output → driver_at job job.steps ≡ driver_at job n
over_last job n within over = stays_last job n within (step_over job (driver_at job n) over)

-- ---- what is left to do names what is there

abbrev pub is_item : Job → Item → Bool
is_item job (Run stmt) = is_sound job stmt
is_item job (Again turns body) = list_all (is_sound job) body

runs_sound : (job : Job) (body : List Stmt) (rest : List Item) → list_all (is_sound job) body ≡ true → list_all (is_item job) rest ≡ true
    → list_all (is_item job) (map Run body ++ rest) ≡ true
runs_sound job body rest sound others =
    list_all-append (is_item job) (map Run body) rest
    ∙ and_from (list_all (is_item job) (map Run body)) (list_all (is_item job) rest) (list_all-map (is_item job) (λ stmt. Run stmt) body ∙ sound) others

again_sound : (job : Job) (turns : ℕ) (body : List Stmt) (rest : List Item) → list_all (is_sound job) body ≡ true → list_all (is_item job) rest ≡ true
    → list_all (is_item job) (again turns body rest) ≡ true
again_sound job zero body rest sound others = others
again_sound job (suc turns) body rest sound others =
    runs_sound job body (Again turns body ∷ rest) sound (and_from (list_all (is_sound job) body) (list_all (is_item job) rest) sound others)

parts_sound : (job : Job) (body : List Stmt) → list_all (λ is. is) (map (is_sound job) body) ≡ true → list_all (is_sound job) body ≡ true
parts_sound job body sound = sym (list_all-map (λ is. is) (is_sound job) body) ∙ sound

stmt_sound : (job : Job) (scalars : List ℤ) (stmt : Stmt) (x : Stmt-F Stmt) (rest : List Item) → is_sound job stmt ≡ true
    → sound_stmt job (map-Stmt Stmt Bool (is_sound job) x) ≡ true
    → list_all (is_item job) rest ≡ true → list_all (is_item job) (stmt_left scalars stmt x rest) ≡ true
stmt_sound job scalars stmt (Stmt-F.Loop turns body) rest whole sound others =
    again_sound job (turns_in (atom_value scalars turns)) body rest (parts_sound job body sound) others
stmt_sound job scalars stmt (Stmt-F.While cond body) rest whole sound others =
    cond_both (is_met scalars cond) (map Run body ++ Run stmt ∷ rest) rest (λ (items : List Item). list_all (is_item job) items ≡ true)
    (λ met. runs_sound job body (Run stmt ∷ rest) (parts_sound job body sound) (and_from (is_sound job stmt) (list_all (is_item job) rest) whole others))
    (λ unmet. others)
stmt_sound job scalars stmt (Stmt-F.If cond first second) rest whole sound others =
    let parts = and_parts (list_all (λ is. is) (map (is_sound job) first)) (list_all (λ is. is) (map (is_sound job) second)) sound in
    cond_both (is_met scalars cond) (map Run first) (map Run second) (λ (items : List Item). list_all (is_item job) (items ++ rest) ≡ true)
    (λ met. runs_sound job first rest (parts_sound job first parts.0) others)
    (λ unmet. runs_sound job second rest (parts_sound job second parts.1) others)
stmt_sound job scalars stmt x rest whole sound others = others

items_sound : (job : Job) (scalars : List ℤ) (items : List Item) → list_all (is_item job) items ≡ true
    → list_all (is_item job) (items_left scalars items) ≡ true
items_sound job scalars [] sound = refl
items_sound job scalars (Run stmt ∷ rest) sound =
    let parts = and_parts (is_sound job stmt) (list_all (is_item job) rest) sound in
    stmt_sound job scalars stmt (out-Stmt stmt) rest parts.0 (sym (fold_out-Stmt Bool (sound_stmt job) stmt) ∙ parts.0) parts.1
items_sound job scalars (Again turns body ∷ rest) sound =
    let parts = and_parts (list_all (is_sound job) body) (list_all (is_item job) rest) sound in again_sound job turns body rest parts.0 parts.1

told_todo : (job : Job) (state : State) (x : Stmt-F Stmt) (driver : Driver) → (stmt_told job state x driver).todo ≡ driver.todo
told_todo job state (Stmt-F.Get s var part row cell) driver = refl
told_todo job state (Stmt-F.Output var) driver = refl
told_todo job state x driver = refl

items_todo : (job : Job) (state : State) (items : List Item) (driver : Driver) → (items_told job state items driver).todo ≡ driver.todo
items_todo job state [] driver = refl
items_todo job state (Run stmt ∷ rest) driver = told_todo job state (out-Stmt stmt) driver
items_todo job state (Again turns body ∷ rest) driver = refl

step_todo : (job : Job) (state : State) (items : List Item) → list_all (is_item job) state.driver.todo ≡ true
    → list_all (is_item job) (items_step job state items).driver.todo ≡ true
step_todo job state [] sound = sound
step_todo job state (item ∷ rest) sound =
    ap (list_all (is_item job)) (items_todo job state (item ∷ rest) (quiet_step state.driver)) ∙ items_sound job state.driver.scalars state.driver.todo sound

pub todo_sound : (job : Job) (n : ℕ) → is_whole job ≡ true → list_all (is_item job) (driver_at job n).driver.todo ≡ true
unfolding driver_at
todo_sound job zero whole = list_all-map (is_item job) (λ stmt. Run stmt) job.body ∙ body_sound job whole
todo_sound job (suc n) whole =
    let state = driver_at job n in
    let before = todo_sound job n whole in
    cond_both (is_over state) state (items_step job state state.driver.todo) (λ (next : State). list_all (is_item job) next.driver.todo ≡ true)
    (λ over. before) (λ still. step_todo job state state.driver.todo before)
