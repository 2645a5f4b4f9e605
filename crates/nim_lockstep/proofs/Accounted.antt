-- Each run that workers are asked for is awaited or was performed, behind each move.
use Rattle.std.proofs.Common.{◌≡◌, ℕ, zero, suc, ◌<◌, Bool, true, false, ℤ, List, [], ◌∷◌, ◌++◌, length, map, refl, ap, sym, subst, ◌∙◌, inl, inr, Option, Some, arith}
use Rattle.std.specs.Prelude.{◌||◌, ◌&&◌, ◌==◌, nat_lt, slice_get}
use Rattle.std.specs.List.{list_any, range_with_len}
use Rattle.std.specs.Option.{option_map_or}
use Rattle.std.proofs.lemmas.Bool.{and_from, cases_lt, eq-eqb, or_cases, or_left, or_right}
use Rattle.std.proofs.lemmas.List.{length-replicate}
use Rattle.std.proofs.lemmas.Option.{none-some, same_Some}
use Rattle.nim_base.specs.declared.number.Worker.{Worker}
use Rattle.nim_base.specs.declared.task.Task.{Task}
use Rattle.nim_command.specs.declared.template.WorkerTemplate.{WorkerTemplate}
use Rattle.nim_command.specs.Waits.{Group}
use Rattle.nim_message.specs.Orders.{session_of}
use Rattle.nim_order.proofs.Items.{any_of_filter}
use Rattle.nim_job.specs.declared.job.Job.{Job}
use Rattle.nim_place.specs.Directed.{Directed, orders_to}
use Rattle.nim_place.specs.Extends.{worker_of}
use Rattle.nim_place.specs.TaskRuns.{position_run}
use Rattle.nim_template.specs.Instance.{half_of}
use Rattle.nim_reuse.specs.Reuse.{awaited_of, has_entries}
use Rattle.nim_course.specs.declared.setup.Setup.{Setup}
use Rattle.nim_course.specs.Controller.{Controller, Flight}
use Rattle.nim_course.specs.Leads.{Leads}
use Rattle.nim_course.specs.Moves.{with_instance, with_reused}
use Rattle.nim_course.specs.OrdersGiven.{flight_of, instance_orders, reused_flight, reused_orders}
use Rattle.nim_course.specs.PutLists.{is_begin}
use Rattle.nim_history.specs.History.{Asked, asked_at}
use Rattle.nim_history.proofs.InTurn.{asked_still}
use Rattle.nim_lockstep.specs.declared.ran.Ran.{Ran}
use Rattle.nim_lockstep.specs.InStep.{was_run}
use Rattle.nim_base.proofs.Lists.{any_of_range}
use Rattle.nim_lockstep.proofs.Apart.{all_live, apart_for}
use Rattle.nim_lockstep.proofs.Course.{KeepsTo}
use Rattle.nim_lockstep.proofs.Flights.{more_awaited, reused_awaited, single_awaited}
use Rattle.nim_lockstep.proofs.Gives.{IsLast, IsQuiet, RunsNone, reused_grow, singles_grow}
use Rattle.nim_lockstep.proofs.Groups.{Gives, IsNew, each_at, old_or_new}
use Rattle.nim_lockstep.proofs.Places.{given_to, leading_on, none_given, within_given}
use Rattle.nim_lockstep.proofs.Reused.{template_for}
use Rattle.nim_lockstep.proofs.Separate.{IsOther}
use Rattle.nim_lockstep.proofs.Singles.{Each, instance_each}
use Rattle.nim_lockstep.proofs.UnderWay.{AreAccounted, is_awaited_by, run_placed}

-- ---- what a controller and its orders keep to

-- a controller leads by these orders, and keeps to its course
pub record LeadsOnCourse (job : Job) (setup : Setup) (c : Controller) (given : List Directed) : Type 0 where
  pub leads : Leads job c given
  pub keeps : KeepsTo setup c given

-- the run at a place
placed_run : (given : List Directed) (number place p : ℕ) (asked : Asked)
    → asked_at (session_of (orders_to number given)).groups place ≡ Some asked → position_run asked.command.kind ≡ p ∷ []
    → run_placed (orders_to number given) place ≡ p ∷ []
placed_run given number place p asked there runs =
    ap (λ (o : Option Asked). option_map_or (λ (a : Asked). position_run a.command.kind) o []) there ∙ runs

-- groups that are longer at each worker
abbrev AllGrow : ℕ → List Directed → List Directed → Type 0
AllGrow workers given all =
    (number : ℕ) → number < workers
    → (news : List Group) × ((session_of (orders_to number all)).groups ≡ (session_of (orders_to number given)).groups ++ news)

-- a task that was given before stands where it stood
was_there : (job : Job) (setup : Setup) (c next : Controller) (given all : List Directed) → LeadsOnCourse job setup c given
    → LeadsOnCourse job setup next all → is_begin c.pending ≡ false → AllGrow setup.workers given all
    → (number : ℕ) → number < setup.workers → (place p : ℕ) (asked : Asked)
    → asked_at (session_of (orders_to number all)).groups place ≡ Some asked → position_run asked.command.kind ≡ p ∷ [] → p < c.position
    → asked_at (session_of (orders_to number given)).groups place ≡ Some asked
was_there job setup c next given all on later begun grow number below place p asked there runs early =
    let to = given_to job c given setup.workers p on.keeps.live on.keeps.epoch (leading_on job c given c.pending begun on.leads.leading) early in
    let first : Asked = to.runs.asked in
    let grown = grow to.number to.below in
    let still : asked_at (session_of (orders_to to.number all)).groups to.place ≡ Some first =
    ap (λ (groups : List Group). asked_at groups to.place) grown.1
    ∙ asked_still (session_of (orders_to to.number given)).groups grown.0 to.place first to.runs.there in
    let same : (to.number ≡ number) × (to.place ≡ place) =
    apart_for job next all setup.workers next.pending later.keeps.live later.leads.leading later.keeps.once to.number number to.below below to.place place p
    (placed_run all to.number to.place p first still to.runs.runs) (placed_run all number place p asked there runs) in
    let at : (numbers : List Directed) → asked_at (session_of (orders_to to.number numbers)).groups to.place ≡ Some first
    → asked_at (session_of (orders_to number numbers)).groups place ≡ Some first =
    λ numbers is.
    subst (λ (n : ℕ). asked_at (session_of (orders_to n numbers)).groups place ≡ Some first) same.0
    (subst (λ (k : ℕ). asked_at (session_of (orders_to to.number numbers)).groups k ≡ Some first) same.1 is) in
    at given to.runs.there ∙ ap (λ (a : Asked). Some a) (same_Some first asked (sym (at all still) ∙ there))

-- it was given by now
given_now : (job : Job) (setup : Setup) (c : Controller) (given : List Directed) → LeadsOnCourse job setup c given → is_begin c.pending ≡ false
    → (number : ℕ) → number < setup.workers → (place p : ℕ) (asked : Asked)
    → asked_at (session_of (orders_to number given)).groups place ≡ Some asked → position_run asked.command.kind ≡ p ∷ [] → p < c.position
given_now job setup c given on begun number below place p asked there runs =
    within_given job c given number place p (leading_on job c given c.pending begun on.leads.leading)
    (all_live setup.workers number c.live on.keeps.live below)
    (placed_run given number place p asked there runs)

-- ---- a move that gives no instance

pub still_accounted : (job : Job) (setup : Setup) (c next : Controller) (given more : List Directed) (trace : List Ran) → LeadsOnCourse job setup c given
    → LeadsOnCourse job setup next (given ++ more) → is_begin next.pending ≡ false → next.position ≡ c.position
    → (is_begin c.pending ≡ false → Each (Gives IsOther) more)
    → AreAccounted c.flight setup.workers given trace → AreAccounted c.flight setup.workers (given ++ more) trace
still_accounted job setup c next given more trace on later begun same gives accounted = λ number below place asked there position runs.
    let early : position < c.position =
    omega (arith, given_now job setup next (given ++ more) later begun number below place position asked there runs, same) in
    either number below place asked there position runs early (is_begin c.pending) refl where
      either : (number : ℕ) → number < setup.workers → (place : ℕ) (asked : Asked)
          → asked_at (session_of (orders_to number (given ++ more))).groups place ≡ Some asked
          → (position : ℕ) → position_run asked.command.kind ≡ position ∷ [] → position < c.position
          → (b : Bool) → is_begin c.pending ≡ b → (is_awaited_by c.flight number asked.group position || was_run trace position) ≡ true
      either number below place asked there position runs early true begin =
          let none = none_given job c given c.pending begin on.leads.leading in absurd (omega (arith, early, none))
      either number below place asked there position runs early false open_now =
          let grow : AllGrow setup.workers given (given ++ more) =
          λ n under. let grows = singles_grow given more n (gives open_now) in (grows.news, grows.are) in
          accounted number below place asked
          (was_there job setup c next given (given ++ more) on later open_now grow number below place position asked there runs early) position runs

-- ---- an instance task by task

wider_accounted : (flights more : List Flight) (trace : List Ran) (number : ℕ) (group : Group) (position : ℕ)
    → (is_awaited_by flights number group position || was_run trace position) ≡ true
    → (is_awaited_by (flights ++ more) number group position || was_run trace position) ≡ true
wider_accounted flights more trace number group position is =
    let now : Bool = is_awaited_by (flights ++ more) number group position in
    elim (or_cases (is_awaited_by flights number group position) (was_run trace position) is) [
      | inl awaited ↦ or_left now (was_run trace position) (more_awaited flights more number group position awaited)
      | inr done ↦ or_right now (was_run trace position) done
    ]

pub instance_accounted : (job : Job) (setup : Setup) (c : Controller) (given : List Directed) (block : ℕ) (tasks : List Task) (trace : List Ran)
    → LeadsOnCourse job setup c given → LeadsOnCourse job setup (with_instance c block tasks) (given ++ instance_orders c 0 c.versions tasks)
    → is_begin c.pending ≡ false → AreAccounted c.flight setup.workers given trace
    → AreAccounted (with_instance c block tasks).flight setup.workers (given ++ instance_orders c 0 c.versions tasks) trace
instance_accounted job setup c given block tasks trace on later begun accounted = λ number below place asked there position runs.
    let more : List Directed = instance_orders c 0 c.versions tasks in
    let next : Controller = with_instance c block tasks in
    let gives : Each (Gives IsOther) more = instance_each (Gives IsOther) (λ epoch instance commands. refl) c 0 c.versions tasks in
    let grows = singles_grow given more number gives in
    let old : asked_at (session_of (orders_to number given)).groups place ≡ Some asked
    → (is_awaited_by next.flight number asked.group position || was_run trace position) ≡ true =
    λ at. wider_accounted c.flight (flight_of c tasks) trace number asked.group position (accounted number below place asked at position runs) in
    elim
    (old_or_new (session_of (orders_to number given)).groups grows.news place asked
    (sym (ap (λ (groups : List Group). asked_at groups place) grows.are) ∙ there)) [
      | inl at ↦ old at
      | inr new ↦
          elim (cases_lt position c.position) [
            | inl early ↦
                old (was_there job setup c next given (given ++ more) on later begun
                (λ n under. let other = singles_grow given more n gives in (other.news, other.are)) number below place position asked there runs early)
            | inr late ↦
                or_left (is_awaited_by next.flight number asked.group position) (was_run trace position)
                (single_awaited c c.flight tasks number asked.group position (each_at IsOther grows.news new.behind asked.group grows.all new.there) late
                (omega (arith, given_now job setup next (given ++ more) later refl number below place position asked there runs)))
          ]
    ]

-- ---- an instance as a whole

-- the group of a worker's part
last_is : (entries : Bool) (instance : ℕ) (groups : List Group) (k : ℕ) (group : Group) → IsLast entries instance groups
    → slice_get groups k ≡ Some group → IsLast entries instance (group ∷ [])
last_is entries instance [] k group is there = absurd (none-some group there)
last_is entries instance (g ∷ []) zero group is there = subst (λ (h : Group). IsLast entries instance (h ∷ [])) (same_Some g group there) is
last_is entries instance (g ∷ []) (suc k) group is there = absurd (none-some group there)
last_is entries instance (g ∷ h ∷ groups) k group is there = absurd is

any_of_map : {X Y : Type 0} (p : Y → Bool) (f : X → Y) (xs : List X) → list_any (λ (x : X). p (f x)) xs ≡ true → list_any p (map f xs) ≡ true
any_of_map p f [] is = is
any_of_map {X} p f (x ∷ xs) is =
    elim (or_cases (p (f x)) (list_any (λ (y : X). p (f y)) xs) is) [
      | inl here ↦ or_left (p (f x)) (list_any p (map f xs)) here
      | inr there ↦ or_right (p (f x)) (list_any p (map f xs)) (any_of_map p f xs there)
    ]

-- a worker whose half has entries is awaited
entries_awaited : (workers : ℕ) (template : WorkerTemplate) (number : ℕ) → number < workers → nat_lt 0 (length (half_of template number)) ≡ true
    → list_any (λ (worker : Worker). worker.0 == number) (awaited_of workers template) ≡ true
entries_awaited workers template number below some =
    let Is : Worker → Bool = λ worker. worker.0 == number in
    any_of_filter Is (has_entries template) (map worker_of (range_with_len 0 workers))
    (any_of_map (λ (worker : Worker). has_entries template worker && Is worker) worker_of (range_with_len 0 workers)
    (any_of_range (λ (n : ℕ). has_entries template (worker_of n) && Is (worker_of n)) 0 workers number (omega arith) (omega (arith, below))
    (and_from (has_entries template (worker_of number)) (number == number) some (eq-eqb number number refl))))

pub reused_accounted : (setup : Setup) (c : Controller) (given : List Directed) (block : ℕ) (args : List ℤ) (trace : List Ran) → KeepsTo setup c given
    → AreAccounted c.flight setup.workers given trace
    → AreAccounted (with_reused c block).flight setup.workers (given ++ reused_orders c block args) trace
reused_accounted setup c given block args trace keeps accounted = λ number below place asked there position runs.
    let template : WorkerTemplate = template_for c block in
    let awaited : List Worker = awaited_of (length c.live) template in
    let own : List Group = (session_of (orders_to number given)).groups in
    let few : number < length c.live =
    omega (arith, below, ap (λ (flags : List Bool). length flags) keeps.live, length-replicate setup.workers true) in
    let grows = reused_grow c given block args number few in
    let quiet : IsNew grows.quiet asked → ⊥ = λ new.
    let none : position_run asked.command.kind ≡ [] =
    each_at RunsNone asked.group.commands new.at asked.command (each_at IsQuiet grows.quiet new.behind asked.group grows.all new.there).1 new.command in
    let nothing : [] ≡ position ∷ [] = sym none ∙ runs in cc in
    let last : IsNew grows.last asked → (is_awaited_by (with_reused c block).flight number asked.group position || was_run trace position) ≡ true = λ new.
    let is = last_is (nat_lt 0 (length (half_of template number))) c.instance grows.last new.behind asked.group grows.is new.there in
    or_left (is_awaited_by (with_reused c block).flight number asked.group position) (was_run trace position)
    (reused_awaited c c.flight awaited number asked.group position is.0 is.1.0 (entries_awaited (length c.live) template number few is.1.1)) in
    elim (old_or_new (own ++ grows.quiet) grows.last place asked (sym (ap (λ (groups : List Group). asked_at groups place) grows.are) ∙ there)) [
      | inl before ↦
          elim (old_or_new own grows.quiet place asked before) [
            | inl at ↦
                wider_accounted c.flight (reused_flight c awaited) trace number asked.group position (accounted number below place asked at position runs)
            | inr new ↦ absurd (quiet new)
          ]
      | inr new ↦ last new
    ]
