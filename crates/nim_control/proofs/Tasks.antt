-- The tasks of a block with the arguments put in, one after another.
use Rattle.std.proofs.Common.{◌≡◌, ℕ, ◌+◌, ◌<◌, ◌≤◌, zero, suc, true, ℤ, List, [], ◌∷◌, ◌++◌, length, get_or, map, take, drop, ap, ap₂, sym, ◌∙◌, arith, Option, Some}
use Rattle.std.specs.List.{list_all}
use Rattle.std.proofs.lemmas.Bool.{and_parts}
use Rattle.std.proofs.lemmas.List.{drop_all, drop_more, get_or-map, length-map, take_all}
use Rattle.nim_base.specs.declared.number.Worker.{Worker}
use Rattle.nim_base.specs.declared.task.Task.{Task}
use Rattle.nim_base.specs.declared.task.TaskForm.{TaskForm}
use Rattle.nim_job.specs.Tasks.{task_with_args}
use Rattle.nim_job.specs.Whole.{is_whole_task}
use Rattle.nim_place.specs.Schedule.{owner_of}
use Rattle.nim_course.specs.Controller.{Controller, Flight}
use Rattle.nim_reuse.specs.declared.instance.InstanceAt.{InstanceAt}
use Rattle.nim_control.specs.Given.{IsToRun, awaiting}
use Rattle.nim_control.specs.Sites.{Sites, SitesStay}
use Rattle.nim_control.proofs.Instances.{owner_still, runs_are, runs_at, runs_more}

-- each of them fits
pub task_fits : (objects : ℕ) (args : List ℤ) (forms : List TaskForm) (at : ℕ) (form : TaskForm)
    → list_all (is_whole_task objects) (map (task_with_args args) forms) ≡ true → at < length forms → form ≡ get_or forms at form
    → is_whole_task objects (task_with_args args form) ≡ true
task_fits objects args [] at form all below is = absurd (omega (arith, below))
task_fits objects args (f ∷ forms) zero form all below is =
    ap (λ (x : TaskForm). is_whole_task objects (task_with_args args x)) is
    ∙ (and_parts (is_whole_task objects (task_with_args args f)) (list_all (is_whole_task objects) (map (task_with_args args) forms)) all).0
task_fits objects args (f ∷ forms) (suc at) form all below is =
    task_fits objects args forms at form
    (and_parts (is_whole_task objects (task_with_args args f)) (list_all (is_whole_task objects) (map (task_with_args args) forms)) all).1
    (omega (arith, below)) is

-- this one is there
pub task_is : (args : List ℤ) (forms : List TaskForm) (at : ℕ) (form : TaskForm) (task : Task) → at < length forms → form ≡ get_or forms at form
    → task ≡ task_with_args args form → task ≡ get_or (map (task_with_args args) forms) at task
task_is args forms at form task below is made =
    made ∙ ap (task_with_args args) is ∙ sym (get_or-map (task_with_args args) forms at form task below)

-- and it is the next one
pub task_next : (args : List ℤ) (forms : List TaskForm) (at : ℕ) (form : TaskForm) (task : Task) → at < length forms → form ≡ get_or forms at form
    → task ≡ task_with_args args form → drop at (map (task_with_args args) forms) ≡ task ∷ drop (at + 1) (map (task_with_args args) forms)
task_next args forms at form task below is made =
    drop_more (map (task_with_args args) forms) at task (omega (arith, below, length-map forms (task_with_args args)))
    ∙ ap (λ (t : Task). t ∷ drop (at + 1) (map (task_with_args args) forms)) (sym (task_is args forms at form task below is made))

-- at the end none is left
pub tasks_past : (args : List ℤ) (forms : List TaskForm) (at : ℕ) → length forms ≤ at → drop at (map (task_with_args args) forms) ≡ []
tasks_past args forms at past = drop_all at (map (task_with_args args) forms) (omega (arith, past, length-map forms (task_with_args args)))

-- ---- who is to report them

abbrev pub flight_so_far : InstanceAt → Sites → List Task → ℕ → Flight
flight_so_far at sites tasks number = record { instance = at.instance; base = at.base; runs = runs_at sites (take number tasks); through = [] }

-- one run more is awaited
pub run_awaited : (at : InstanceAt) (old mid : Sites) (args : List ℤ) (forms : List TaskForm) (number : ℕ) (form : TaskForm) (task : Task)
    (owner : Worker) (now next : Flight)
    → number < length forms → form ≡ get_or forms number form → task ≡ task_with_args args form
    → owner ≡ owner_of mid.place task mid.versions.objects mid.live → SitesStay old mid
    → next ≡ record now { runs = now.runs ++ Some owner ∷ [] } → now ≡ flight_so_far at old (map (task_with_args args) forms) number
    → next ≡ flight_so_far at old (map (task_with_args args) forms) (number + 1)
run_awaited at old mid args forms number form task owner now next below is made owns stay pushed so_far =
    let tasks : List Task = map (task_with_args args) forms in
    let with_runs : List (Option Worker) → Flight =
    λ (runs : List (Option Worker)). record { instance = at.instance; base = at.base; runs = runs; through = [] } in
    let more : runs_at old (take (number + 1) tasks)
    ≡ runs_at old (take number tasks) ++ Some (owner_of old.place task old.versions.objects old.live) ∷ [] =
    runs_more old tasks number task (omega (arith, below, length-map forms (task_with_args args))) (task_is args forms number form task below is made) in
    pushed ∙ ap₂ (λ (f : Flight) (w : Worker). record f { runs = f.runs ++ Some w ∷ [] }) so_far (owns ∙ owner_still old mid task stay)
    ∙ ap with_runs (sym more)

-- at the end those of all tasks are
pub all_awaited : (c : Controller) (at : InstanceAt) (sites : Sites) (args : List ℤ) (forms : List TaskForm) (number : ℕ) (flight : Flight)
    → length forms ≤ number → IsToRun c at sites → flight ≡ flight_so_far at sites (map (task_with_args args) forms) number
    → flight ≡ awaiting c (map (task_with_args args) forms)
all_awaited c at sites args forms number flight past is so_far =
    let tasks : List Task = map (task_with_args args) forms in
    let with_runs : List Task → Flight = λ (ts : List Task). record { instance = at.instance; base = at.base; runs = runs_at sites ts; through = [] } in
    so_far ∙ ap with_runs (take_all number tasks (omega (arith, past, length-map forms (task_with_args args)))) ∙ runs_are c at sites tasks is
