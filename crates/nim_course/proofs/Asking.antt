-- What the machine asks where nothing is unanswered, and where it stands once it is answered.
use Rattle.std.proofs.Common.{◌≡◌, ℕ, ◌+◌, ◌-◌, ◌<◌, ◌≤◌, zero, suc, Bool, true, false, ℤ, None, Some, List, [], ◌∷◌, ◌++◌, length, take, refl, sym, ap, subst, ◌∙◌, inl, inr, arith}
use Rattle.std.specs.Prelude.{nat_le, slice_get, if◌then◌else◌}
use Rattle.std.proofs.lemmas.Bool.{both_ways, cond-true, cond-false, leb-false}
use Rattle.std.proofs.lemmas.Bool.Decides.{leb_tells}
use Rattle.std.proofs.lemmas.List.{length-take}
use Rattle.nim_base.specs.declared.number.Object.{Object}
use Rattle.nim_base.specs.declared.task.Task.{Task}
use Rattle.nim_base.specs.Value.{Grid, cell_of}
use Rattle.nim_job.specs.declared.ask.Ask.{Ask}
use Rattle.nim_job.specs.declared.item.Item.{Item}
use Rattle.nim_job.specs.declared.item.Item.TheVariants.{Run, Again}
use Rattle.nim_job.specs.declared.span.Span.{Span}
use Rattle.nim_job.specs.declared.stmt.Stmt.{Stmt, out-Stmt}
use Rattle.nim_job.specs.declared.stmt.Stmt.TheOpen.{Stmt-F}
use Rattle.nim_job.specs.declared.job.Job.{Job}
use Rattle.nim_job.specs.Driver.{Driver, output_limit}
use Rattle.nim_job.specs.Follows.{Follows, IsOf, GoesFurther, IsThere, StandsAt, state_at}
use Rattle.nim_job.specs.Machine.{Machine, after_ask, answered, appended, ask_now, ask_of, asked_now, before_ask, item_ask, items_ask, items_asked, item_asked, quiet_steps, start_machine, stmt_ask}
use Rattle.nim_job.specs.Quiet.{is_quiet, is_quiet_stmt, quiet_step}
use Rattle.nim_job.specs.Serial.{driver_at, is_nil, serial_of, tasks_before, tasks_of}
use Rattle.nim_job.specs.Step.{State, output_of, tasks_next}
use Rattle.nim_job.specs.Objects.{objects_of, value_at}
use Rattle.nim_job.specs.Tasks.{block_tasks_of, takes_of}
use Rattle.nim_job.specs.Versions.{values_after}
use Rattle.nim_job.specs.Whole.{is_whole}
use Rattle.nim_job.proofs.Follows.{follows, starts}
use Rattle.nim_job.proofs.Returns.{stays}
use Rattle.nim_job.proofs.Settles.{settle_asks}
use Rattle.nim_job.proofs.Steps.{nil_last}
use Rattle.nim_job.proofs.Versions.{keeps_versions, moved, tasks_first}
use Rattle.nim_course.specs.Leads.{IsOpenAt}

-- ---- asking

-- whether something is asked for
abbrev pub goes_on : Ask → Bool
goes_on Ask.Finished = false
goes_on Ask.Limit = false
goes_on _ = true

-- a machine that printed too much says so
full_asks : (m : Machine) → m.full ≡ true → ask_of m ≡ Ask.Limit
full_asks m full =
    let same : before_ask m ≡ m = cond-true m.full m (record m { driver = quiet_steps (m.steps - m.driver.count) m.driver }) full in
    ap ask_now same ∙ cond-true m.full Ask.Limit (items_ask m m.driver.todo) full

-- where something else is said it printed no more than it may
pub asks_open : (m : Machine) (ask : Ask) → ask_of m ≡ ask → (ask ≡ Ask.Limit → ⊥) → m.full ≡ false
asks_open m ask is other = either m.full refl where
  either : (b : Bool) → m.full ≡ b → b ≡ false
  either false full = refl
  either true full = absurd (other (sym is ∙ full_asks m full))

-- quiet steps print nothing, and count on
pub record IsQuiet (old new : Driver) : Type 0 where
  pub output : new.output ≡ old.output
  pub count : old.count ≤ new.count

quiet_kept : (n : ℕ) (driver : Driver) → IsQuiet driver (quiet_steps n driver)
quiet_kept zero driver = record { output = refl; count = omega arith }
quiet_kept (suc n) driver = either (quiet_kept n (quiet_step driver)) (is_quiet driver.todo) where
  either : IsQuiet (quiet_step driver) (quiet_steps n (quiet_step driver)) → (b : Bool)
      → IsQuiet driver (if b then quiet_steps n (quiet_step driver) else driver)
  either rest false = record { output = refl; count = omega arith }
  either rest true = record { output = rest.output; count = omega (arith, rest.count) }

-- before it asks a machine is kept but for its driver
pub record IsBefore (old new : Machine) : Type 0 where
  pub steps : new.steps ≡ old.steps
  pub full : new.full ≡ old.full
  pub driver : IsQuiet old.driver new.driver

pub before_kept : (m : Machine) → IsBefore m (before_ask m)
before_kept m = either m.full refl where
  either : (b : Bool) → m.full ≡ b → IsBefore m (if b then m else record m { driver = quiet_steps (m.steps - m.driver.count) m.driver })
  either true is = record { steps = refl; full = refl; driver = record { output = refl; count = omega arith } }
  either false is = record { steps = refl; full = refl; driver = quiet_kept (m.steps - m.driver.count) m.driver }

-- what is kept by asking; where something is asked for one more statement is counted
pub record IsAfter (ask : Ask) (old new : Machine) : Type 0 where
  pub output : new.driver.output ≡ old.driver.output
  pub fewer : old.driver.count ≤ new.driver.count
  pub counted : goes_on ask ≡ true → (new.driver.count ≡ old.driver.count + 1) × (old.driver.count < old.steps)

items_after : (m : Machine) (items : List Item) → IsAfter (items_ask m items) m (items_asked m items)
items_after m [] = record { output = refl; fewer = omega arith; counted = λ goes. absurd (both_ways false refl goes) }
items_after m (item ∷ rest) = either (nat_le m.steps m.driver.count) refl where
  either : (b : Bool) → nat_le m.steps m.driver.count ≡ b
      → IsAfter (if b then Ask.Limit else item_ask m item) m (if b then m else record m { driver = quiet_step m.driver; asked = item_asked item })
  either true past = record { output = refl; fewer = omega arith; counted = λ goes. absurd (both_ways false refl goes) }
  either false past = record { output = refl; fewer = omega arith; counted = λ goes. (refl, leb-false m.steps m.driver.count past) }

pub now_after : (m : Machine) → IsAfter (ask_now m) m (asked_now m)
now_after m = either m.full where
  either : (b : Bool) → IsAfter (if b then Ask.Limit else items_ask m m.driver.todo) m (if b then m else items_asked m m.driver.todo)
  either true = record { output = refl; fewer = omega arith; counted = λ goes. absurd (both_ways false refl goes) }
  either false = items_after m m.driver.todo

-- asking never counts back
pub asking_counts : (m : Machine) → m.driver.count ≤ (after_ask m).driver.count
asking_counts m = omega (arith, (before_kept m).driver.count, (now_after (before_ask m)).fewer)

-- asking prints nothing
pub asking_prints_nothing : (m : Machine) → (after_ask m).driver.output ≡ m.driver.output
asking_prints_nothing m = (now_after (before_ask m)).output ∙ (before_kept m).driver.output

-- as many steps as the job has, and one more statement is counted
pub record IsCounted (job : Job) (m : Machine) : Type 0 where
  pub more : m.driver.count < (after_ask m).driver.count
  pub within : (after_ask m).driver.count ≤ job.steps

pub asks_count : (job : Job) (m : Machine) (p : ℕ) → IsOpenAt job m p → goes_on (ask_of m) ≡ true → IsCounted job m
asks_count job m p open_at goes =
    let before = before_kept m in
    let counted = (now_after (before_ask m)).counted goes in
    record {
      more = omega (arith, counted.0, before.driver.count);
      within = omega (arith, counted.0, counted.1, before.steps, open_at.is_of.steps);
    }

-- ---- what follows

-- what follows an ask but the limit
followed : (job : Job) (m : Machine) (p : ℕ) (ask : Ask) → is_whole job ≡ true → IsOpenAt job m p → ask_of m ≡ ask → (ask ≡ Ask.Limit → ⊥) → Follows job m
followed job m p ask whole open_at is other = follows job whole m (open_at.at (asks_open m ask is other)).0

-- a machine that goes on stands at a state of the job again
goes_open : (job : Job) (m next : Machine) (p : ℕ) (tasks : List Task) → (StandsAt job m × (p ≡ (state_at job m).position)) → GoesFurther job m next tasks
    → IsOpenAt job next (p + length tasks)
goes_open job m next p tasks at further = record {
  answered = ap (λ (k : Machine). k.asked) further.goes.stands.machine;
  is_of = (stays job).stands next further.goes.stands;
  at = λ _. (further.goes.stands, ap (λ (q : ℕ). q + length tasks) at.1 ∙ sym further.goes.position);
  full = λ full. absurd (both_ways next.full (ap (λ (k : Machine). k.full) further.goes.stands.machine) full);
}

goes_open_quiet : (job : Job) (m next : Machine) (p : ℕ) → (StandsAt job m × (p ≡ (state_at job m).position)) → GoesFurther job m next [] → IsOpenAt job next p
goes_open_quiet job m next p at further =
    let same : p + 0 ≡ p = omega arith in
    subst (IsOpenAt job next) same (goes_open job m next p [] at further)

-- what the objects hold where the machine stands is what the tasks so far leave
values_there : (job : Job) (m : Machine) (p : ℕ) → IsOpenAt job m p → (StandsAt job m × (p ≡ (state_at job m).position))
    → (state_at job m).values ≡ values_after job p
values_there job m p open_at at =
    keeps_versions job m.driver.count (omega (arith, at.0.within.counted, open_at.is_of.steps)) ∙ ap (values_after job) (sym at.1)

-- ---- blocks

-- the tasks from a position on
abbrev pub AreNext : Job → ℕ → List Task → Type 0
AreNext job position tasks = (k : ℕ) → k < length tasks → slice_get (tasks_of job) (position + k) ≡ slice_get tasks k

-- the items behind others
behind : {X : Type 0} (xs next : List X) (k : ℕ) → take (length next) xs ≡ next → k < length next → slice_get xs k ≡ slice_get next k
behind xs [] k is below = absurd (omega (arith, below))
behind [] (y ∷ next) k is below = absurd cc
behind (x ∷ xs) (y ∷ next) zero is below = let same : x ≡ y = cc in ap Some same
behind (x ∷ xs) (y ∷ next) (suc k) is below = let rest : take (length next) xs ≡ next = cc in behind xs next k rest (omega (arith, below))

behind_more : {X : Type 0} (xs before next : List X) (k : ℕ) → take (length (before ++ next)) xs ≡ before ++ next → k < length next
    → slice_get xs (length before + k) ≡ slice_get next k
behind_more xs [] next k is below = let same : 0 + k ≡ k = omega arith in ap (slice_get xs) same ∙ behind xs next k is below
behind_more [] (y ∷ before) next k is below = absurd cc
behind_more (x ∷ xs) (y ∷ before) next k is below =
    let rest : take (length (before ++ next)) xs ≡ before ++ next = cc in
    let later : length (y ∷ before) + k ≡ suc (length before + k) = omega arith in
    ap (slice_get (x ∷ xs)) later ∙ behind_more xs before next k rest below

-- the tasks of the next step are the next ones of the job
next_there : (job : Job) (n : ℕ) → n < job.steps → AreNext job (driver_at job n).position (tasks_next job (driver_at job n))
unfolding tasks_before
next_there job n within = λ k below.
    ap (λ (q : ℕ). slice_get (tasks_of job) (q + k)) (moved job n).1
    ∙ behind_more (tasks_of job) (tasks_before job n) (tasks_next job (driver_at job n)) k (tasks_first job (suc n) (omega (arith, within))) below

run_apart : (block : ℕ) (args : List ℤ) → Ask.Run block args ≡ Ask.Limit → ⊥
run_apart block args is = cc

-- the block that is asked for is there, and is given as many arguments as it takes
pub run_allowed : (job : Job) (m : Machine) (p : ℕ) (block : ℕ) (args : List ℤ) → is_whole job ≡ true → IsOpenAt job m p → ask_of m ≡ Ask.Run block args
    → (block < length job.blocks) × (length args ≡ takes_of job block)
run_allowed job m p block args whole open_at is =
    subst (IsThere job) is (followed job m p (Ask.Run block args) whole open_at is (run_apart block args)).asks.there

-- its tasks are the next ones
pub run_next : (job : Job) (m : Machine) (p : ℕ) (block : ℕ) (args : List ℤ) → is_whole job ≡ true → IsOpenAt job m p → ask_of m ≡ Ask.Run block args
    → AreNext job p (block_tasks_of job block args)
run_next job m p block args whole open_at is =
    let all = followed job m p (Ask.Run block args) whole open_at is (run_apart block args) in
    let runs = all.run block args is in
    let at = open_at.at (asks_open m (Ask.Run block args) is (run_apart block args)) in
    let here : (state_at job (before_ask m)).position ≡ p = omega (arith, all.asks.before.position, at.1) in
    subst (λ (ts : List Task). AreNext job p ts) runs.tasks
    (subst (λ (q : ℕ). AreNext job q (tasks_next job (state_at job (before_ask m)))) here (next_there job (before_ask m).driver.count runs.within))

-- as many tasks ran before as there are at most
pub position_there : (job : Job) (m : Machine) (p : ℕ) (block : ℕ) (args : List ℤ) → is_whole job ≡ true → IsOpenAt job m p → ask_of m ≡ Ask.Run block args
    → p ≤ length (tasks_of job)
position_there job m p block args whole open_at is =
    let at = open_at.at (asks_open m (Ask.Run block args) is (run_apart block args)) in
    let n = m.driver.count in
    omega (
      arith,
      at.1,
      (moved job n).1,
      length-take (length (tasks_before job n)) (tasks_of job),
      ap length (tasks_first job n (omega (arith, at.0.within.counted, open_at.is_of.steps))),
    )

-- its ask is answered, and its tasks were given
pub run_goes : (job : Job) (m next : Machine) (p : ℕ) (block : ℕ) (args : List ℤ) (cell : ℤ) → is_whole job ≡ true → IsOpenAt job m p
    → ask_of m ≡ Ask.Run block args
    → next ≡ answered (after_ask m) cell → IsOpenAt job next (p + length (block_tasks_of job block args))
run_goes job m next p block args cell whole open_at is same =
    let all = followed job m p (Ask.Run block args) whole open_at is (run_apart block args) in
    let at = open_at.at (asks_open m (Ask.Run block args) is (run_apart block args)) in
    subst (λ (k : Machine). IsOpenAt job k (p + length (block_tasks_of job block args))) (sym same)
    (goes_open job m (answered (after_ask m) cell) p (block_tasks_of job block args) at ((all.run block args is).goes cell))

-- ---- cells

checkpoint_apart : Ask.Checkpoint ≡ Ask.Limit → ⊥
checkpoint_apart is = cc

-- a checkpoint is answered at once
pub checkpoint_goes : (job : Job) (m next : Machine) (p : ℕ) (cell : ℤ) → is_whole job ≡ true → IsOpenAt job m p → ask_of m ≡ Ask.Checkpoint
    → next ≡ answered (after_ask m) cell → IsOpenAt job next p
checkpoint_goes job m next p cell whole open_at is same =
    let all = followed job m p Ask.Checkpoint whole open_at is checkpoint_apart in
    subst (λ (k : Machine). IsOpenAt job k p) (sym same)
    (goes_open_quiet job m (answered (after_ask m) cell) p (open_at.at (asks_open m Ask.Checkpoint is checkpoint_apart)) (all.checkpoint cell is))

get_apart : (object : Object) (row cell : ℕ) → Ask.Get object row cell ≡ Ask.Limit → ⊥
get_apart object row cell is = cc

-- the object whose cell is asked for is there
pub get_allowed : (job : Job) (m : Machine) (p : ℕ) (object : Object) (row cell : ℕ) → is_whole job ≡ true → IsOpenAt job m p
    → ask_of m ≡ Ask.Get object row cell
    → object.0 < objects_of job.vars
get_allowed job m p object row cell whole open_at is =
    subst (IsThere job) is (followed job m p (Ask.Get object row cell) whole open_at is (get_apart object row cell)).asks.there

-- the cell of what the object holds was told
pub get_goes : (job : Job) (m next : Machine) (p : ℕ) (object : Object) (row cell : ℕ) (told : ℤ) → is_whole job ≡ true → IsOpenAt job m p
    → ask_of m ≡ Ask.Get object row cell
    → told ≡ cell_of (value_at (values_after job p) object) row cell → next ≡ answered (after_ask m) told → IsOpenAt job next p
get_goes job m next p object row cell told whole open_at is telling same =
    let all = followed job m p (Ask.Get object row cell) whole open_at is (get_apart object row cell) in
    let at = open_at.at (asks_open m (Ask.Get object row cell) is (get_apart object row cell)) in
    let right : told ≡ cell_of (value_at (state_at job m).values object) row cell =
    telling ∙ ap (λ (gs : List Grid). cell_of (value_at gs object) row cell) (sym (values_there job m p open_at at)) in
    subst (λ (k : Machine). IsOpenAt job k p) (sym (same ∙ ap (answered (after_ask m)) right))
    (goes_open_quiet job m (answered (after_ask m) (cell_of (value_at (state_at job m).values object) row cell)) p at (all.get object row cell is))

-- ---- outputs

output_apart : (var : ℕ) → Ask.Output var ≡ Ask.Limit → ⊥
output_apart var is = cc

-- the texts of a variable were appended
pub output_goes : (job : Job) (m next : Machine) (p : ℕ) (var : ℕ) (text : List ℕ) → is_whole job ≡ true → IsOpenAt job m p → ask_of m ≡ Ask.Output var
    → text ≡ output_of job.vars (values_after job p) var → next ≡ appended (after_ask m) text → IsOpenAt job next p
output_goes job m next p var text whole open_at is printed same =
    let all = followed job m p (Ask.Output var) whole open_at is (output_apart var) in
    let at = open_at.at (asks_open m (Ask.Output var) is (output_apart var)) in
    let right : text ≡ output_of job.vars (state_at job m).values var =
    printed ∙ ap (λ (gs : List Grid). output_of job.vars gs var) (sym (values_there job m p open_at at)) in
    let prints = all.output var is in
    let long : length text ≡ length (output_of job.vars (state_at job m).values var) = ap length right in
    let before : length (after_ask m).driver.output ≡ length m.driver.output = ap length (asking_prints_nothing m) in
    let sum = length (after_ask m).driver.output + length text in
    elim (leb_tells sum output_limit) [
      | inl fits ↦
          subst (λ (k : Machine). IsOpenAt job k p) (sym (same ∙ ap (appended (after_ask m)) right))
          (goes_open_quiet job m (appended (after_ask m) (output_of job.vars (state_at job m).values var)) p at
          (prints.goes (omega (arith, fits.1, long, before))))
      | inr past ↦
          let shut : next ≡ record (after_ask m) { asked = None; full = true } = same ∙ cond-false (nat_le sum output_limit) _ _ past.0 in
          record {
            answered = ap (λ (k : Machine). k.asked) shut;
            is_of = subst (IsOf job) (sym same) ((stays job).appended (after_ask m) text ((stays job).asked m open_at.is_of));
            at = λ open_end. absurd (both_ways next.full open_end (ap (λ (k : Machine). k.full) shut));
            full = λ _. prints.full (omega (arith, past.1, long, before));
          }
    ]

-- ---- ends

finished_apart : Ask.Finished ≡ Ask.Limit → ⊥
finished_apart is = cc

-- nothing is left to do: the job is done, with what is printed
pub ends_finished : (job : Job) (m : Machine) (p : ℕ) → is_whole job ≡ true → IsOpenAt job m p → ask_of m ≡ Ask.Finished
    → serial_of job ≡ record { status = 0; bytes = (after_ask m).driver.output }
ends_finished job m p whole open_at is =
    (followed job m p Ask.Finished whole open_at is finished_apart).finished is
    ∙ ap (λ (bytes : List ℕ). record { status = 0; bytes = bytes }) (sym (asking_prints_nothing m))

-- what asks nothing comes first nowhere before the limit, so nothing is left
stmt_asks : (scalars : List ℤ) (spans : List Span) (stmt : Stmt-F Stmt) → is_quiet_stmt stmt ≡ false → stmt_ask scalars spans stmt ≡ Ask.Finished → ⊥
stmt_asks scalars spans (Stmt-F.Do block args) loud is = cc
stmt_asks scalars spans (Stmt-F.Get s var part row cell) loud is = cc
stmt_asks scalars spans Stmt-F.Checkpoint loud is = cc
stmt_asks scalars spans (Stmt-F.Output var) loud is = cc
stmt_asks scalars spans (Stmt-F.Let s first rest) loud is = absurd cc
stmt_asks scalars spans (Stmt-F.Loop turns body) loud is = absurd cc
stmt_asks scalars spans (Stmt-F.While cond body) loud is = absurd cc
stmt_asks scalars spans (Stmt-F.If cond first second) loud is = absurd cc

item_asks : (m : Machine) (item : Item) (rest : List Item) → is_quiet (item ∷ rest) ≡ false → item_ask m item ≡ Ask.Finished → ⊥
item_asks m (Run stmt) rest loud is = stmt_asks m.driver.scalars m.spans (out-Stmt stmt) loud is
item_asks m (Again turns body) rest loud is = absurd cc

items_nil : (m : Machine) (items : List Item) → (m.driver.count < m.steps → is_quiet items ≡ false) → items_ask m items ≡ Ask.Finished
    → is_nil items ≡ true
items_nil m [] loud is = refl
items_nil m (item ∷ rest) loud is = either (nat_le m.steps m.driver.count) refl is where
  either : (b : Bool) → nat_le m.steps m.driver.count ≡ b → (if b then Ask.Limit else item_ask m item) ≡ Ask.Finished → is_nil (item ∷ rest) ≡ true
  either true past asks = absurd cc
  either false room asks = absurd (item_asks m item rest (loud (leb-false m.steps m.driver.count room)) asks)

-- then all tasks were run
pub ends_all : (job : Job) (m : Machine) (p : ℕ) → is_whole job ≡ true → IsOpenAt job m p → ask_of m ≡ Ask.Finished → p ≡ length (tasks_of job)
ends_all job m p whole open_at is =
    let b : Machine = before_ask m in
    let still : m.full ≡ false = asks_open m Ask.Finished is finished_apart in
    let at = open_at.at still in
    let before = (followed job m p Ask.Finished whole open_at is finished_apart).asks.before in
    let open_still : b.full ≡ false = ap (λ (k : Machine). k.full) before.stands.machine in
    let asks : items_ask b b.driver.todo ≡ Ask.Finished = sym (cond-false b.full Ask.Limit (items_ask b b.driver.todo) open_still) ∙ is in
    let nil : is_nil b.driver.todo ≡ true = items_nil b b.driver.todo (λ room. settle_asks m b still refl room) asks in
    let steps : b.steps ≡ job.steps = ap (λ (k : Machine). k.steps) before.stands.machine in
    let there : is_nil (state_at job b).driver.todo ≡ true = sym (ap (λ (k : Machine). is_nil k.driver.todo) before.stands.machine) ∙ nil in
    let last : driver_at job job.steps ≡ state_at job b =
    nil_last job b.driver.count (omega (arith, before.stands.within.counted, steps)) there in
    omega (arith, at.1, before.position, ap (λ (s : State). s.position) last, (moved job job.steps).1)

-- the limit is reached
pub ends_limit : (job : Job) (m : Machine) (p : ℕ) → is_whole job ≡ true → IsOpenAt job m p → ask_of m ≡ Ask.Limit
    → serial_of job ≡ record { status = 4; bytes = [] }
ends_limit job m p whole open_at is = either m.full refl where
  either : (b : Bool) → m.full ≡ b → serial_of job ≡ record { status = 4; bytes = [] }
  either true full = open_at.full full
  either false open_end = (follows job whole m (open_at.at open_end).0).limit is

first_position : (job : Job) → (driver_at job 0).position ≡ 0
unfolding driver_at
first_position job = refl

-- a run begins at the state before any step
pub begins_open : (job : Job) (m : Machine) (p : ℕ) → m ≡ start_machine job → p ≡ 0 → IsOpenAt job m p
begins_open job m p new none_yet =
    let none : m.driver.count ≡ 0 = ap (λ (k : Machine). k.driver.count) new in
    record {
      answered = ap (λ (k : Machine). k.asked) new;
      is_of = (stays job).stands m (subst (StandsAt job) (sym new) (starts job));
      at = λ _. (
        subst (StandsAt job) (sym new) (starts job),
        none_yet ∙ sym (first_position job) ∙ ap (λ (n : ℕ). (driver_at job n).position) (sym none),
      );
      full = λ full. absurd (both_ways m.full (ap (λ (k : Machine). k.full) new) full);
    }
