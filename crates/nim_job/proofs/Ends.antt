-- What is known where a machine asks that it is done, or at its limit.
use Rattle.std.proofs.Common.{◌≡◌, ℕ, ◌-◌, ◌<◌, ◌≤◌, Bool, true, false, not, ℤ, List, [], ◌∷◌, length, refl, ap, ◌∙◌, arith}
use Rattle.std.specs.Prelude.{if◌then◌else◌, nat_le, nat_lt}
use Rattle.std.proofs.lemmas.Bool.{cond-false, cond-true, le-ltb, leb-false, leb-true, lt-ltb, or_from, or_right}
use Rattle.nim_job.specs.declared.ask.Ask.{Ask}
use Rattle.nim_job.specs.declared.item.Item.{Item}
use Rattle.nim_job.specs.declared.item.Item.TheVariants.{Run, Again}
use Rattle.nim_job.specs.declared.job.Job.{Job}
use Rattle.nim_job.specs.declared.stmt.Stmt.{Stmt, out-Stmt}
use Rattle.nim_job.specs.declared.stmt.Stmt.TheOpen.{Stmt-F}
use Rattle.nim_job.specs.Driver.{output_limit}
use Rattle.nim_job.specs.Machine.{items_ask, machine_at, spans_of, stmt_ask}
use Rattle.nim_job.specs.Quiet.{is_quiet, is_quiet_stmt}
use Rattle.nim_job.specs.Serial.{driver_at, ending_of, is_limit, is_nil, serial_of}
use Rattle.nim_job.specs.Step.{State}
use Rattle.nim_job.proofs.Steps.{nil_last, over_last}

-- where nothing is asked nothing is left to do, but statements that ask nothing
stmt_finished : (scalars : List ℤ) (stmt : Stmt-F Stmt) (job : Job) (b : Bool)
    → (if b then Ask.Limit else stmt_ask scalars (spans_of job.vars) stmt) ≡ Ask.Finished → (b ≡ false) × (is_quiet_stmt stmt ≡ true)
stmt_finished scalars stmt job true is = absurd cc
stmt_finished scalars (Stmt-F.Do block args) job false is = absurd cc
stmt_finished scalars (Stmt-F.Get s var part row cell) job false is = absurd cc
stmt_finished scalars Stmt-F.Checkpoint job false is = absurd cc
stmt_finished scalars (Stmt-F.Output var) job false is = absurd cc
stmt_finished scalars stmt job false is = (refl, refl)

again_finished : (b : Bool) → (if b then Ask.Limit else Ask.Finished) ≡ Ask.Finished → b ≡ false
again_finished true is = absurd cc
again_finished false is = refl

pub items_finished : (job : Job) (state : State) (items : List Item) → (is_quiet items ≡ true → job.steps ≤ state.driver.count)
    → items_ask (machine_at job state) items ≡ Ask.Finished → is_nil items ≡ true
items_finished job state [] quiet is = refl
items_finished job state (Run stmt ∷ rest) quiet is =
    let found = stmt_finished state.driver.scalars (out-Stmt stmt) job (nat_le job.steps state.driver.count) is in
    let room = leb-false job.steps state.driver.count found.0 in
    absurd (let past = quiet found.1 in omega (arith, room, past))
items_finished job state (Again turns body ∷ rest) quiet is =
    let room = leb-false job.steps state.driver.count (again_finished (nat_le job.steps state.driver.count) is) in
    absurd (let past = quiet refl in omega (arith, room, past))

-- the end of a job that is done
pub done_ends : (job : Job) (n : ℕ) → n ≤ job.steps → length (driver_at job n).driver.output ≤ output_limit → is_nil (driver_at job n).driver.todo ≡ true
    → serial_of job ≡ record { status = 0; bytes = (driver_at job n).driver.output }
done_ends job n within fits nil =
    let state = driver_at job n in
    let open_end : is_limit state ≡ false =
    or_from (not (is_nil state.driver.todo)) (nat_lt output_limit (length state.driver.output)) (ap not nil)
    (le-ltb output_limit (length state.driver.output) fits) in
    ap ending_of (nil_last job n within nil)
    ∙ cond-false (is_limit state) (record { status = 4; bytes = [] }) (record { status = 0; bytes = state.driver.output }) open_end

-- the end at a limit
pub limit_ends : (job : Job) (state : State) → driver_at job job.steps ≡ state → is_limit state ≡ true → serial_of job ≡ record { status = 4; bytes = [] }
limit_ends job state is limit =
    ap ending_of is ∙ cond-true (is_limit state) (record { status = 4; bytes = [] }) (record { status = 0; bytes = state.driver.output }) limit

pub full_ends : (job : Job) (n : ℕ) → n ≤ job.steps → output_limit < length (driver_at job n).driver.output → serial_of job ≡ record { status = 4; bytes = [] }
full_ends job n within over =
    let state = driver_at job n in
    limit_ends job state (over_last job n within over)
    (or_right (not (is_nil state.driver.todo)) (nat_lt output_limit (length state.driver.output)) (lt-ltb output_limit (length state.driver.output) over))

stmt_limit : (scalars : List ℤ) (stmt : Stmt-F Stmt) (job : Job) (b : Bool) → (if b then Ask.Limit else stmt_ask scalars (spans_of job.vars) stmt) ≡ Ask.Limit
    → b ≡ true
stmt_limit scalars stmt job true is = refl
stmt_limit scalars (Stmt-F.Do block args) job false is = absurd cc
stmt_limit scalars (Stmt-F.Get s var part row cell) job false is = absurd cc
stmt_limit scalars Stmt-F.Checkpoint job false is = absurd cc
stmt_limit scalars (Stmt-F.Output var) job false is = absurd cc
stmt_limit scalars stmt job false is = absurd cc

again_limit : (b : Bool) → (if b then Ask.Limit else Ask.Finished) ≡ Ask.Limit → b ≡ true
again_limit true is = refl
again_limit false is = absurd cc

pub items_limit : (job : Job) (state : State) (items : List Item) → items_ask (machine_at job state) items ≡ Ask.Limit
    → (is_nil items ≡ false) × (job.steps ≤ state.driver.count)
items_limit job state [] is = absurd cc
items_limit job state (Run stmt ∷ rest) is =
    (refl, leb-true job.steps state.driver.count (stmt_limit state.driver.scalars (out-Stmt stmt) job (nat_le job.steps state.driver.count) is))
items_limit job state (Again turns body ∷ rest) is = (refl, leb-true job.steps state.driver.count (again_limit (nat_le job.steps state.driver.count) is))
