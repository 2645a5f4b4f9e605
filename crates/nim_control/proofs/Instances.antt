-- The tasks of an instance, given one after another.
use Rattle.std.proofs.Common.{◌≡◌, ℕ, ◌+◌, ◌<◌, ◌≤◌, Bool, true, List, [], ◌∷◌, ◌++◌, length, get_or, map, take, ap, ap₂, sym, ◌∙◌, arith, Option, Some}
use Rattle.std.specs.Prelude.{slice_get, IsSomeAnd}
use Rattle.std.specs.List.{list_all}
use Rattle.std.proofs.lemmas.Bool.{and_parts}
use Rattle.std.proofs.lemmas.Bool.Decides.{nat_tests}
use Rattle.std.proofs.lemmas.List.{append-nil, append_assoc, map_more}
use Rattle.nim_base.specs.declared.number.Object.{Object}
use Rattle.nim_base.specs.declared.number.Worker.{Worker}
use Rattle.nim_base.specs.declared.task.Func.{Func}
use Rattle.nim_base.specs.declared.task.Func.TheVariants.{Split}
use Rattle.nim_base.specs.declared.task.Task.{Task}
use Rattle.nim_base.specs.Apply.{has_counts, result_count}
use Rattle.nim_command.specs.declared.command.Command.{Command}
use Rattle.nim_command.specs.Numbers.{counted_from}
use Rattle.nim_job.specs.Whole.{is_object_within, is_whole_task}
use Rattle.nim_place.specs.declared.placement.Placement.{Placement}
use Rattle.nim_place.specs.Extends.{singles_of}
use Rattle.nim_place.specs.Schedule.{owner_of, scheduled}
use Rattle.nim_place.specs.Versions.{after_commands}
use Rattle.nim_course.specs.Controller.{Controller, Flight}
use Rattle.nim_place.specs.Directed.{Directed, directed}
use Rattle.nim_course.specs.OrdersGiven.{after_instance, instance_orders, task_commands}
use Rattle.nim_reuse.specs.declared.instance.InstanceAt.{InstanceAt}
use Rattle.nim_control.specs.Given.{AreTasks, IsToRun, awaiting}
use Rattle.nim_control.specs.Sites.{Sites, SitesStay}
use Rattle.nim_control.proofs.Alone.{has_still}

-- ---- a task writes

pub writes_some : (func : Func) → 1 ≤ result_count func
writes_some Split = omega arith
writes_some func = omega arith

pub counts_writes : (func : Func) (params reads writes : ℕ) → has_counts func params reads writes ≡ true → writes ≡ result_count func
counts_writes func params reads writes is = grind (arith, nat_tests)

first_there : (objects : ℕ) (writes : List Object) → 1 ≤ length writes → list_all (is_object_within objects) writes ≡ true
    → IsSomeAnd (slice_get writes 0) (λ (object : Object). object.0 < objects)
first_there objects [] some all = absurd (omega (arith, some))
first_there objects (object ∷ writes) some all =
    let here : is_object_within objects object ≡ true = (and_parts (is_object_within objects object) (list_all (is_object_within objects) writes) all).0 in
    grind (arith, nat_tests)

-- what a task that fits writes first is there
pub writes_first : (objects : ℕ) (task : Task) → is_whole_task objects task ≡ true
    → IsSomeAnd (slice_get task.writes 0) (λ (object : Object). object.0 < objects)
writes_first objects task is =
    let counts : has_counts task.func (length task.params) (length task.reads) (length task.writes) ≡ true = grind (arith, nat_tests) in
    let all : list_all (is_object_within objects) task.writes ≡ true = grind (arith, nat_tests) in
    first_there objects task.writes
    (omega (arith, counts_writes task.func (length task.params) (length task.reads) (length task.writes) counts, writes_some task.func)) all

-- ---- the orders

-- a controller that is to give an instance is so where only what lies where has changed
pub to_run_still : (c : Controller) (at : InstanceAt) (old new : Sites) → IsToRun c at old → SitesStay old new → IsToRun c at new
to_run_still c at old new is stay = record {
  has = has_still c old new is.has stay;
  epoch = is.epoch;
  instance = is.instance;
  position = is.position;
}

-- the commands of a task are the controller's
commands_same : (c : Controller) (at : InstanceAt) (number : ℕ) (sites : Sites) (task : Task) → IsToRun c at sites
    → task_commands c number sites.versions task ≡ scheduled sites.versions task number (counted_from at.base number) sites.place sites.live
commands_same c at number sites task is =
    ap (λ (base : ℕ). scheduled sites.versions task number (counted_from base number) c.place c.live) is.position
    ∙ ap₂ (λ (p : Placement) (flags : List Bool). scheduled sites.versions task number (counted_from at.base number) p flags) is.has.place
    is.has.live

orders_same : (c : Controller) (at : InstanceAt) (number : ℕ) (sites : Sites) (task : Task) → IsToRun c at sites
    → directed (length c.live) (singles_of c.epoch c.instance (task_commands c number sites.versions task))
    ≡ directed (length sites.live) (singles_of at.epoch at.instance
    (scheduled sites.versions task number (counted_from at.base number) sites.place sites.live))
orders_same c at number sites task is =
    ap (λ (cs : List (Worker × Command)). directed (length c.live) (singles_of c.epoch c.instance cs)) (commands_same c at number sites task is)
    ∙ ap (λ (flags : List Bool). directed (length flags) (singles_of c.epoch c.instance
    (scheduled sites.versions task number (counted_from at.base number) sites.place sites.live))) is.has.live
    ∙ ap₂ (λ (e i : ℕ). directed (length sites.live) (singles_of e i
    (scheduled sites.versions task number (counted_from at.base number) sites.place sites.live))) is.epoch is.instance

-- What was given so far, and what the tasks from one on come to, is what all of them come to.
pub record AreOnTheWay (c : Controller) (tasks : List Task) (before : List Directed) (old : Sites) (number : ℕ) (rest : List Task)
    (now : List Directed) (mid : Sites) : Type 0 where
  pub orders : now ++ instance_orders c number mid.versions rest ≡ before ++ instance_orders c 0 old.versions tasks
  pub sites : record mid { versions = after_instance c number mid.versions rest } ≡ record old { versions = after_instance c 0 old.versions tasks }

-- one task more
pub way_goes : (c : Controller) (at : InstanceAt) (tasks : List Task) (before now next : List Directed) (old mid new : Sites) (number : ℕ)
    (task : Task) (rest : List Task)
    → IsToRun c at mid
    → next ≡ now ++ directed (length mid.live) (singles_of at.epoch at.instance
    (scheduled mid.versions task number (counted_from at.base number) mid.place mid.live))
    → new ≡ record mid { versions = after_commands mid.versions (scheduled mid.versions task number (counted_from at.base number) mid.place mid.live) }
    → AreOnTheWay c tasks before old number (task ∷ rest) now mid → AreOnTheWay c tasks before old (number + 1) rest next new
way_goes c at tasks before now next old mid new number task rest is gave took way =
    let mine : List (Worker × Command) = task_commands c number mid.versions task in
    let same = commands_same c at number mid task is in
    let taken : new ≡ record mid { versions = after_commands mid.versions mine } =
    took ∙ ap (λ (cs : List (Worker × Command)). record mid { versions = after_commands mid.versions cs }) (sym same) in
    let given : next ≡ now ++ directed (length c.live) (singles_of c.epoch c.instance mine) =
    gave ∙ ap (λ (ds : List Directed). now ++ ds) (sym (orders_same c at number mid task is)) in
    record {
      orders =
          ap₂ (λ (ds : List Directed) (s : Sites). ds ++ instance_orders c (number + 1) s.versions rest) given taken
          ∙ append_assoc now (directed (length c.live) (singles_of c.epoch c.instance mine))
          (instance_orders c (number + 1) (after_commands mid.versions mine) rest)
          ∙ way.orders;
      sites = ap (λ (s : Sites). record s { versions = after_instance c (number + 1) s.versions rest }) taken ∙ way.sites;
    }

-- at the end all are given
pub way_ends : (c : Controller) (tasks : List Task) (before now : List Directed) (old mid : Sites) (number : ℕ) (rest : List Task) → rest ≡ []
    → AreOnTheWay c tasks before old number rest now mid → AreTasks c 0 tasks before old now mid
way_ends c tasks before now old mid number rest none way = record {
  orders =
      sym (append-nil now) ∙ ap (λ (ts : List Task). now ++ instance_orders c number mid.versions ts) (sym none) ∙ way.orders;
  sites = ap (λ (ts : List Task). record mid { versions = after_instance c number mid.versions ts }) (sym none) ∙ way.sites;
}

-- ---- who is to report them

-- who runs tasks at these sites
abbrev pub runs_at : Sites → List Task → List (Option Worker)
runs_at sites tasks = map (λ (task : Task). Some (owner_of sites.place task sites.versions.objects sites.live)) tasks

-- the owner of a task where only what lies where has changed
pub owner_still : (old new : Sites) (task : Task) → SitesStay old new
    → owner_of new.place task new.versions.objects new.live ≡ owner_of old.place task old.versions.objects old.live
owner_still old new task stay =
    ap (λ (p : Placement). owner_of p task new.versions.objects new.live) stay.place
    ∙ ap₂ (λ (n : ℕ) (flags : List Bool). owner_of old.place task n flags) stay.objects stay.live

-- one task more
pub runs_more : (sites : Sites) (tasks : List Task) (number : ℕ) (task : Task) → number < length tasks → task ≡ get_or tasks number task
    → runs_at sites (take (number + 1) tasks)
    ≡ runs_at sites (take number tasks) ++ Some (owner_of sites.place task sites.versions.objects sites.live) ∷ []
runs_more sites tasks number task below is =
    let run : Task → Option Worker = λ (t : Task). Some (owner_of sites.place t sites.versions.objects sites.live) in
    map_more run tasks number task below ∙ ap (λ (t : Task). map run (take number tasks) ++ run t ∷ []) (sym is)

-- they are the controller's
pub runs_are : (c : Controller) (at : InstanceAt) (sites : Sites) (tasks : List Task) → IsToRun c at sites
    → record { instance = at.instance; base = at.base; runs = runs_at sites tasks; through = [] } ≡ awaiting c tasks
runs_are c at sites tasks is =
    let runs : runs_at sites tasks ≡ (awaiting c tasks).runs =
    ap (λ (p : Placement). map (λ (t : Task). Some (owner_of p t sites.versions.objects sites.live)) tasks) (sym is.has.place)
    ∙ ap₂ (λ (n : ℕ) (flags : List Bool). map (λ (t : Task). Some (owner_of c.place t n flags)) tasks) (sym is.has.objects) (sym is.has.live) in
    let flight : ℕ → ℕ → List (Option Worker) → Flight = λ (i b : ℕ) (rs : List (Option Worker)). record { instance = i; base = b; runs = rs; through = [] } in
    ap₂ (λ (i b : ℕ). flight i b (runs_at sites tasks)) (sym is.instance) (sym is.position) ∙ ap (flight c.instance c.position) runs
