-- An instance of a block is given: as a whole, or task by task and then recorded.
use Rattle.std.proofs.Common.{◌≡◌, ℕ, ◌≤◌, zero, suc, Bool, true, false, ℤ, List, [], ◌∷◌, ◌++◌, length, map, refl, ap, ap₂, sym, subst, ◌∙◌, arith}
use Rattle.std.specs.Prelude.{if◌then◌else◌, slice_index_or, slice_set, replicate, Result, Ok, Err, IfOk, OnOk}
use Rattle.std.specs.List.{list_all, list_any}
use Rattle.std.proofs.lemmas.Bool.{both_ways, lt-ltb}
use Rattle.std.proofs.lemmas.Bool.Decides.{nat_tests}
use Rattle.nim_base.specs.declared.number.Worker.{Worker}
use Rattle.nim_base.specs.declared.task.Func.{Func}
use Rattle.nim_base.specs.declared.task.Func.TheVariants.{Set as Sets, Add, Sub, Max, Sum, Total, Count, Stencil, Merge, Split}
use Rattle.nim_base.specs.declared.task.TaskForm.{TaskForm}
use Rattle.nim_base.specs.Apply.{has_counts, most_reads, result_count}
use Rattle.nim_job.specs.Tasks.{task_with_args}
use Rattle.nim_job.specs.Whole.{is_whole_task}
use Rattle.nim_place.specs.declared.placement.Placement.{Placement}
use Rattle.nim_place.specs.Directed.{Directed}
use Rattle.nim_place.specs.Versions.{Versions}
use Rattle.nim_template.specs.declared.template.ControllerTemplate.{ControllerTemplate}
use Rattle.nim_template.specs.Fits.{is_fit}
use Rattle.nim_reuse.specs.declared.decided.Decided.{Decided}
use Rattle.nim_reuse.specs.declared.decided.Decided.TheVariants.{Open, Recorded, Installed}
use Rattle.nim_reuse.specs.declared.instance.InstanceAt.{InstanceAt}
use Rattle.nim_reuse.specs.declared.reused.Reused.{Reused}
use Rattle.nim_reuse.specs.Decisions.{Decisions, after_recording, decided_of, is_recorded, no_decisions}
use Rattle.nim_reuse.specs.Reuse.{CanReuse, decisions_at, orders_at, record_of, reused_at, template_at, versions_at}
use Rattle.nim_course.specs.declared.summary.Summary.{Summary}
use Rattle.nim_course.specs.Controller.{Controller, Flight, is_in_flight}
use Rattle.nim_course.specs.OrdersGiven.{after_instance, flight_of, instance_at, instance_orders, reused_flight}
use Rattle.nim_course.specs.Summaries.{reused_counted, single_counted}
use Rattle.nim_control.specs.Form.{AreUsable}
use Rattle.nim_control.specs.Given.{AreTasks, IsGiven, IsToGive, IsToRun, awaiting}
use Rattle.nim_control.specs.Sites.{Sites, SitesStay, controller_sites}
use Rattle.nim_course.proofs.Blocks.{all_fit}
use Rattle.nim_control.proofs.Given.{flights_are}

-- ---- what may be used

-- a block that was recorded is there
recorded_in : (blocks : List Decided) (block : ℕ) → is_recorded (record { blocks = blocks; previous = 0; patches = [] }) block ≡ true
    → suc block ≤ length blocks
recorded_in [] block is = absurd (both_ways false refl is)
recorded_in (decided ∷ blocks) zero is = omega arith
recorded_in (decided ∷ blocks) (suc block) is = omega (arith, recorded_in blocks block is)

pub recorded_there : (decisions : Decisions) (block : ℕ) → is_recorded decisions block ≡ true → suc block ≤ length decisions.blocks
recorded_there decisions block is = recorded_in decisions.blocks block is

-- what was decided of blocks once it was decided of one
decided_set : (P : ℕ → Decided → Type 0) (blocks : List Decided) (at : ℕ) (decided : Decided) → P at decided
    → ((block : ℕ) → P block (slice_index_or blocks block Open)) → (block : ℕ) → P block (slice_index_or (slice_set blocks at decided) block Open)
decided_set P [] at decided here all block = all block
decided_set P (d ∷ blocks) zero decided here all zero = here
decided_set P (d ∷ blocks) zero decided here all (suc block) = all (suc block)
decided_set P (d ∷ blocks) (suc at) decided here all zero = all zero
decided_set P (d ∷ blocks) (suc at) decided here all (suc block) =
    decided_set (λ (b : ℕ) (x : Decided). P (suc b) x) blocks at decided here (λ b. all (suc b)) block

-- they may be used as before, where this one may
pub set_usable : (objects : ℕ) (live : List Bool) (before after : Decisions) (at : ℕ) (decided : Decided)
    → after.blocks ≡ slice_set before.blocks at decided → CanReuse objects live at decided → AreUsable objects live before → AreUsable objects live after
set_usable objects live before after at decided is here all = λ block.
    subst (λ (blocks : List Decided). CanReuse objects live block (slice_index_or blocks block Open)) (sym is)
    (decided_set (CanReuse objects live) before.blocks at decided here all block)

-- where nothing is recorded, the forms are none
pub none_usable : (objects : ℕ) (live : List Bool) (at : ℕ) (before decided : Decided) → CanReuse objects live at before → (record_of at decided).forms ≡ []
    → CanReuse objects live at decided
none_usable objects live at before decided may none = record {
  few_objects = may.few_objects;
  few_workers = may.few_workers;
  some_live = may.some_live;
  few_forms = omega (arith, ap (λ (forms : List TaskForm). length forms) none);
  all_fit = ap (list_all (is_fit objects)) none;
}

-- a record of few forms that fit
pub record_usable : (objects : ℕ) (live : List Bool) (at : ℕ) (before : Decided) (recorded : ControllerTemplate) → CanReuse objects live at before
    → length recorded.forms ≤ 1024 → list_all (is_fit objects) recorded.forms ≡ true → CanReuse objects live at (Recorded recorded)
record_usable objects live at before recorded may few fit = record {
  few_objects = may.few_objects;
  few_workers = may.few_workers;
  some_live = may.some_live;
  few_forms = few;
  all_fit = fit;
}

-- with other sites that only differ in what lies where
pub usable_still : (old new : Sites) (decisions : Decisions) → SitesStay old new → AreUsable old.versions.objects old.live decisions
    → AreUsable new.versions.objects new.live decisions
usable_still old new decisions stay all =
    subst (λ (n : ℕ). AreUsable n new.live decisions) (sym stay.objects)
    (subst (λ (live : List Bool). AreUsable old.versions.objects live decisions) (sym stay.live) all)

-- nothing is decided of new blocks
pub new_usable : (objects : ℕ) (live : List Bool) (blocks : ℕ) (decisions : Decisions) → decisions ≡ no_decisions blocks → objects ≤ 512
    → length live ≤ 16 → list_any (λ (flag : Bool). flag) live ≡ true → AreUsable objects live decisions
new_usable objects live blocks decisions is few_objects few some = λ block.
    subst (λ (d : Decisions). CanReuse objects live block (decided_of d block)) (sym is)
    (open_at (CanReuse objects live) blocks block (λ b. record {
      few_objects = few_objects;
      few_workers = few;
      some_live = some;
      few_forms = omega arith;
      all_fit = refl;
    })) where
      open_at : (P : ℕ → Decided → Type 0) (blocks block : ℕ) → ((b : ℕ) → P b Open) → P block (slice_index_or (replicate blocks Open) block Open)
      open_at P zero block here = here block
      open_at P (suc blocks) zero here = here zero
      open_at P (suc blocks) (suc block) here = open_at (λ (b : ℕ) (x : Decided). P (suc b) x) blocks block (λ b. here (suc b))

-- ---- forms that fit

few_writes : (func : Func) → result_count func ≤ 2
few_writes Split = omega arith
few_writes func = omega arith

-- a function reads at most eight values
few_reads : (func : Func) → most_reads func ≤ 8
few_reads Sets = omega arith
few_reads Add = omega arith
few_reads Sub = omega arith
few_reads Max = omega arith
few_reads Sum = omega arith
few_reads Total = omega arith
few_reads Count = omega arith
few_reads Stencil = omega arith
few_reads Merge = omega arith
few_reads func = omega arith

counts_reads : (func : Func) (params reads writes : ℕ) → has_counts func params reads writes ≡ true → reads ≤ most_reads func
counts_reads func params reads writes is = grind (arith, nat_tests)

-- ---- results

-- what a borrowed map, place and flags of sites give is what the sites give
pub orders_seen : {X E : Type 0} (result : Result X E) (place : Placement) (live flags : List Bool) (versions : Versions) (now : Sites) (at : InstanceAt)
    (args : List ℤ) (decisions : Decisions) (before after : List Directed) → flags ≡ live → record { place = place; live = live; versions = versions } ≡ now
    → OnOk result (after ≡ before ++ orders_at place flags at args versions decisions)
    → OnOk result (after ≡ before ++ orders_at now.place now.live at args now.versions decisions)
orders_seen (Err e) place live flags versions now at args decisions before after same is gave = tt
orders_seen (Ok x) place live flags versions now at args decisions before after same is gave =
    gave ∙ ap (λ (fs : List Bool). before ++ orders_at place fs at args versions decisions) same
    ∙ ap (λ (s : Sites). before ++ orders_at s.place s.live at args s.versions decisions) is

pub reused_seen : {E : Type 0} (result : Result Reused E) (place : Placement) (live flags : List Bool) (versions : Versions) (now : Sites) (at : InstanceAt)
    (decisions : Decisions) → flags ≡ live → record { place = place; live = live; versions = versions } ≡ now
    → IfOk result (λ (reused : Reused). reused ≡ reused_at place flags at versions decisions)
    → IfOk result (λ (reused : Reused). reused ≡ reused_at now.place now.live at now.versions decisions)
reused_seen (Err e) place live flags versions now at decisions same is reused = tt
reused_seen (Ok x) place live flags versions now at decisions same is reused =
    reused ∙ ap (λ (fs : List Bool). reused_at place fs at versions decisions) same
    ∙ ap (λ (s : Sites). reused_at s.place s.live at s.versions decisions) is

pub decisions_seen : {X E : Type 0} (result : Result X E) (place : Placement) (live flags : List Bool) (versions : Versions) (now : Sites) (at : InstanceAt)
    (decisions next : Decisions) → flags ≡ live → record { place = place; live = live; versions = versions } ≡ now
    → OnOk result (next ≡ decisions_at place flags at versions decisions) → OnOk result (next ≡ decisions_at now.place now.live at now.versions decisions)
decisions_seen (Err e) place live flags versions now at decisions next same is knows = tt
decisions_seen (Ok x) place live flags versions now at decisions next same is knows =
    knows ∙ ap (λ (fs : List Bool). decisions_at place fs at versions decisions) same
    ∙ ap (λ (s : Sites). decisions_at s.place s.live at s.versions decisions) is

-- ---- an instance that is given

-- what is said of the instance, the sites and the decisions is said of the controller's
of_next : {X : Type 0} (f : InstanceAt → Sites → Decisions → X) (c : Controller) (at : InstanceAt) (forms : List TaskForm) (sites : Sites)
    (decisions : Decisions) (summary : Summary) → IsToGive c at forms sites decisions summary
    → f at sites decisions ≡ f (instance_at c at.block) (controller_sites c) c.decisions
of_next f c at forms sites decisions summary is =
    ap (λ (a : InstanceAt). f a sites decisions) is.is_next
    ∙ ap₂ (λ (s : Sites) (d : Decisions). f (instance_at c at.block) s d) is.has_sites is.has_decisions

-- a flight of an instance that these workers are to report
abbrev pub flight_by : InstanceAt → List Worker → Flight
flight_by at awaited = record { instance = at.instance; base = at.base; runs = []; through = awaited }

whole_flight : (c : Controller) (block : ℕ) (awaited : List Worker)
    → (if is_in_flight (flight_by (instance_at c block) awaited) then flight_by (instance_at c block) awaited ∷ [] else []) ≡ reused_flight c awaited
whole_flight c block [] = refl
whole_flight c block (worker ∷ workers) =
    let flight : Flight = flight_by (instance_at c block) (worker ∷ workers) in
    ap (λ (b : Bool). if b then flight ∷ [] else []) (lt-ltb 0 (length (worker ∷ workers)) (omega arith))

-- an instance that was asked for as a whole
pub again_given : (c : Controller) (at : InstanceAt) (forms : List TaskForm) (args : List ℤ) (before after : List Directed) (old new : Sites)
    (decided next : Decisions) (counts later : Summary) (reused : Reused) (flight : Flight)
    → after ≡ before ++ orders_at old.place old.live at args old.versions decided
    → new ≡ record old { versions = versions_at old.place old.live at old.versions decided }
    → next ≡ decisions_at old.place old.live at old.versions decided
    → reused ≡ reused_at old.place old.live at old.versions decided → later ≡ reused_counted reused.is_new reused.patched counts
    → flight ≡ flight_by at reused.awaited → IsToGive c at forms old decided counts → IsGiven true c at.block args before after new next later flight
again_given c at forms args before after old new decided next counts later reused flight gave left knows uses counted flies is =
    let used : reused ≡ reused_at c.place c.live (instance_at c at.block) c.versions c.decisions =
    uses
    ∙ of_next (λ (a : InstanceAt) (s : Sites) (d : Decisions). reused_at s.place s.live a s.versions d) c at forms old decided counts is in
    record {
      orders =
          gave
          ∙ of_next (λ (a : InstanceAt) (s : Sites) (d : Decisions). before ++ orders_at s.place s.live a args s.versions d) c at forms old decided counts
          is;
      has_sites =
          left
          ∙ of_next (λ (a : InstanceAt) (s : Sites) (d : Decisions). record s { versions = versions_at s.place s.live a s.versions d }) c at forms old decided
          counts is;
      has_decisions =
          knows ∙ of_next (λ (a : InstanceAt) (s : Sites) (d : Decisions). decisions_at s.place s.live a s.versions d) c at forms old decided counts is;
      has_counts = counted ∙ ap₂ (λ (r : Reused) (s : Summary). reused_counted r.is_new r.patched s) used is.has_counts;
      has_flight =
          ap (λ (f : Flight). c.flight ++ (if is_in_flight f then f ∷ [] else [])) (flies ∙ ap (λ (a : InstanceAt). flight_by a reused.awaited) is.is_next)
          ∙ ap (λ (fs : List Flight). c.flight ++ fs) (whole_flight c at.block reused.awaited)
          ∙ ap (λ (r : Reused). c.flight ++ reused_flight c r.awaited) used;
    }

-- a controller that is to give it is to run its tasks
pub to_run : (c : Controller) (at : InstanceAt) (forms : List TaskForm) (sites : Sites) (decisions : Decisions) (summary : Summary)
    → IsToGive c at forms sites decisions summary → IsToRun c at sites
to_run c at forms sites decisions summary is = record {
  has = record {
    place = ap (λ (s : Sites). s.place) (sym is.has_sites);
    live = ap (λ (s : Sites). s.live) (sym is.has_sites);
    objects = ap (λ (s : Sites). s.versions.objects) (sym is.has_sites);
  };
  epoch = ap (λ (a : InstanceAt). a.epoch) (sym is.is_next);
  instance = ap (λ (a : InstanceAt). a.instance) (sym is.is_next);
  position = ap (λ (a : InstanceAt). a.base) (sym is.is_next);
}

-- an instance that was given task by task, and its block recorded
pub first_given : (c : Controller) (at : InstanceAt) (forms copied : List TaskForm) (args : List ℤ) (before after : List Directed) (old new : Sites)
    (decided next : Decisions) (counts later : Summary) (flight : Flight)
    → AreTasks c 0 (map (task_with_args args) forms) before old after new → flight ≡ awaiting c (map (task_with_args args) forms) → copied ≡ forms
    → next ≡ after_recording (record { block = at.block; forms = copied }) decided → later ≡ single_counted counts
    → IsToGive c at forms old decided counts → IsGiven false c at.block args before after new next later flight
first_given c at forms copied args before after old new decided next counts later flight are flies same knows counted is = record {
  orders =
      are.orders
      ∙ ap₂ (λ (s : Sites) (fs : List TaskForm). before ++ instance_orders c 0 s.versions (map (task_with_args args) fs)) is.has_sites is.has_forms;
  has_sites =
      are.sites
      ∙ ap₂
      (λ (s : Sites) (fs : List TaskForm). record s { versions = after_instance c 0 s.versions (map (task_with_args args) fs) }) is.has_sites is.has_forms;
  has_decisions =
      knows
      ∙ ap₂ (λ (fs : List TaskForm) (d : Decisions). after_recording (record { block = at.block; forms = fs }) d) (same ∙ is.has_forms) is.has_decisions;
  has_counts = counted ∙ ap single_counted is.has_counts;
  has_flight =
      flights_are c (map (task_with_args args) forms) flight (c.flight ++ (if is_in_flight flight then flight ∷ [] else [])) refl flies
      ∙ ap (λ (fs : List TaskForm). c.flight ++ flight_of c (map (task_with_args args) fs)) is.has_forms;
}

-- what is decided then may be used
pub first_usable : (old new : Sites) (decided next : Decisions) (block : ℕ) (args : List ℤ) (forms copied : List TaskForm) → SitesStay old new
    → AreUsable old.versions.objects old.live decided → length forms ≤ 1024
    → list_all (is_whole_task old.versions.objects) (map (task_with_args args) forms) ≡ true → copied ≡ forms
    → next ≡ after_recording (record { block = block; forms = copied }) decided → AreUsable new.versions.objects new.live next
first_usable old new decided next block args forms copied stay all few fit same knows =
    let recorded : ControllerTemplate = record { block = block; forms = copied } in
    usable_still old new next stay
    (set_usable old.versions.objects old.live decided next block (Recorded recorded) (ap (λ (d : Decisions). d.blocks) knows)
    (record_usable old.versions.objects old.live block (decided_of decided block) recorded (all block)
    (omega (arith, few, ap (λ (fs : List TaskForm). length fs) same))
    (ap (list_all (is_fit old.versions.objects)) same ∙ all_fit old.versions.objects args forms fit)) all)

-- so it may behind an instance that was asked for as a whole
pub again_usable : (old new : Sites) (decided next : Decisions) (at : InstanceAt) → SitesStay old new → AreUsable old.versions.objects old.live decided
    → next ≡ decisions_at old.place old.live at old.versions decided → AreUsable new.versions.objects new.live next
again_usable old new decided next at stay all knows =
    let template = template_at old.place old.live at old.versions decided in
    usable_still old new next stay
    (set_usable old.versions.objects old.live decided next at.block (Installed template) (ap (λ (d : Decisions). d.blocks) knows)
    (none_usable old.versions.objects old.live at.block (decided_of decided at.block) (Installed template) (all at.block) refl) all)

-- and where memory was refused to it
pub refused_usable : (old new : Sites) (decided next : Decisions) (block : ℕ) → SitesStay old new → AreUsable old.versions.objects old.live decided
    → next.blocks ≡ slice_set decided.blocks block Open → AreUsable new.versions.objects new.live next
refused_usable old new decided next block stay all knows =
    usable_still old new next stay
    (set_usable old.versions.objects old.live decided next block Open knows
    (none_usable old.versions.objects old.live block (decided_of decided block) Open (all block) refl) all)

-- told by whether the block was recorded
pub given_by : {E : Type 0} (result : Result Flight E) (flag recorded : Bool) (at : InstanceAt) (forms : List TaskForm) (args : List ℤ)
    (before after : List Directed) (old new : Sites) (decided next : Decisions) (counts later : Summary) → flag ≡ recorded
    → IfOk result (λ (f : Flight). (c : Controller) (fs : List TaskForm) → IsToGive c at fs old decided counts
    → IsGiven flag c at.block args before after new next later f)
    → IfOk result (λ (f : Flight). (c : Controller) → IsToGive c at forms old decided counts
    → IsGiven recorded c at.block args before after new next later f)
given_by (Err e) flag recorded at forms args before after old new decided next counts later same given = tt
given_by (Ok f) flag recorded at forms args before after old new decided next counts later same given = λ c is.
    subst (λ (b : Bool). IsGiven b c at.block args before after new next later f) same (given c forms is)
