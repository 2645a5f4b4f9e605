-- The move that gives an instance of a block: task by task the first, as a whole each later one.
use Rattle.std.proofs.Common.{◌≡◌, ℕ, ◌+◌, ◌<◌, ◌≤◌, Bool, true, false, ℤ, List, [], ◌∷◌, ◌++◌, length, refl, ap, sym, subst, ◌∙◌, arith, inl, inr}
use Rattle.std.specs.Prelude.{◌==◌, All}
use Rattle.std.proofs.lemmas.Bool.{cond-false, cond-true}
use Rattle.nim_command.specs.declared.template.WorkerTemplate.{WorkerTemplate}
use Rattle.nim_base.specs.declared.task.Task.{Task}
use Rattle.nim_job.specs.Objects.{objects_of}
use Rattle.nim_job.specs.Tasks.{block_forms_of, block_tasks_of}
use Rattle.nim_place.specs.Directed.{Directed, orders_to}
use Rattle.nim_patch.specs.Patches.{failing_in}
use Rattle.nim_patch.specs.Uses.{Use, patch_key}
use Rattle.nim_reuse.specs.declared.decided.Decided.{Decided}
use Rattle.nim_reuse.specs.declared.decided.Decided.TheVariants.{Installed}
use Rattle.nim_reuse.specs.declared.reused.Patched.{Patched}
use Rattle.nim_reuse.specs.declared.reused.Patched.TheVariants.{Not, Repeated, Made}
use Rattle.nim_reuse.specs.Cost.{IsNotMade, IsShort}
use Rattle.nim_reuse.specs.Decisions.{Decisions, after_recording, decided_of, is_recorded}
use Rattle.nim_reuse.specs.Reuse.{decisions_at, is_new, orders_by, patched_by, template_by}
use Rattle.nim_course.specs.declared.pending.Pending.{Pending}
use Rattle.nim_course.specs.declared.pending.Pending.TheVariants.{Block}
use Rattle.nim_course.specs.declared.summary.Summary.{Summary}
use Rattle.nim_course.specs.Controller.{Controller}
use Rattle.nim_course.specs.Leads.{AreLeading, AreLeadingFor, Leads, is_key_from}
use Rattle.nim_course.specs.Moves.{orders_of, orders_of_block, orders_with, with_instance, with_reused}
use Rattle.nim_course.specs.OrdersGiven.{instance_at, instance_orders, recorded_of, reused_orders}
use Rattle.nim_course.specs.PutLists.{ArePut, HasNoFirst, IsByUses, IsDecidedBy, IsMove, copies_before, last_block, nth_given, nths_given, patched_in_move, template_in, times_given, use_in, use_with, uses_by}
use Rattle.nim_course.specs.Summaries.{reused_counted, single_counted}
use Rattle.nim_reuse.proofs.Short.{later_instances_are_short}
use Rattle.nim_course.proofs.PutAgain.{again_adds}
use Rattle.nim_course.proofs.PutDecisions.{RestOn, again_rests, first_rests, installed_twice, new_once, open_none, patch_by_uses, reusable_some}
use Rattle.nim_course.proofs.PutFirst.{ArePlainOf, again_none, instance_plain, plain_none}
use Rattle.nim_course.proofs.PutMoves.{IsStep, counts_put, rests_put, sessions_come, singles_tasks}
use Rattle.nim_course.proofs.PutTasks.{runs_of}
use Rattle.nim_course.proofs.PutInstances.{AreCountsOf, again_counted, first_counted, patch_counts}

-- what the orders so far come to
leading_there : (c : Controller) (given : List Directed) (block : ℕ) (args : List ℤ) → Leads c.job c given → c.pending ≡ Block block args
    → AreLeading c.job c.place c.live c.epoch c.position (is_key_from c.epoch c.instance) given c.versions c.decisions
leading_there c given block args leads is = subst (AreLeadingFor c.job c given) is leads.leading

-- ---- the first instance

-- the first instance is given task by task
pub first_step : (c : Controller) (given : List Directed) (put : ArePut c given) (block : ℕ) (args : List ℤ) → Leads c.job c given
    → c.pending ≡ Block block args → block < length c.job.blocks → is_recorded c.decisions block ≡ false
    → IsStep c (with_instance c block (block_tasks_of c.job block args)) given (instance_orders c 0 c.versions (block_tasks_of c.job block args)) put.moves
first_step c given put block args leads is below new =
    let tasks : List Task = block_tasks_of c.job block args in
    let orders : List Directed = instance_orders c 0 c.versions tasks in
    let plain : ArePlainOf c.epoch orders = instance_plain c 0 c.versions tasks in
    let rests = rests_put c given put in
    let times : times_given block put.moves ≡ 0 =
    open_none (times_given block put.moves) (decided_of c.decisions block) (rests.decided block below) new in
    let same : orders_of c ≡ orders = ap (orders_with c) is ∙ ap (λ (b : Bool). orders_of_block b c block args) new in
    let nth : nth_given c.pending put.moves ≡ 1 = ap (λ (p : Pending). nth_given p put.moves) is ∙ omega (arith, times) in
    let none : use_in c c.pending (last_block put.moves) ≡ [] =
    ap (λ (p : Pending). use_in c p (last_block put.moves)) is
    ∙ cond-false (is_recorded c.decisions block) (use_with (last_block put.moves) block (copies_before c block) (patched_in_move c block)) [] new in
    let nths : List ℕ = nths_given put.moves in
    let uses : List Use = uses_by put.moves in
    record {
      move = subst (IsMove put.moves c) (sym is) (
        inl (record { times = times; orders = same }),
        subst (All (λ (d : Directed). HasNoFirst d.1)) (sym same) (plain_none c.epoch orders plain),
      );
      live = refl;
      blocks = refl;
      begun = refl;
      rests = first_rests c put.moves (length c.job.blocks) block args is below new rests;
      counts =
          subst (λ (us : List Use). AreCountsOf (nths_given (c ∷ put.moves)) (us ++ uses) (single_counted c.summary)) (sym none)
          (subst (λ (t : ℕ). AreCountsOf (t ∷ nths) uses (single_counted c.summary)) (sym nth)
          (first_counted nths uses c.summary (counts_put c given put)));
      control = refl;
      workers = refl;
      tasks = singles_tasks c (after_recording (recorded_of c block) c.decisions) given orders c.epoch
          (sessions_come c given c.position c.decisions (leading_there c given block args leads is)) plain;
    }

-- ---- each later one

-- the bytes and orders so far aren't counted with it
kept_counts : (new : Bool) (patched : Patched) (s : Summary)
    → ((reused_counted new patched s).control ≡ s.control) × ((reused_counted new patched s).workers ≡ s.workers)
kept_counts true Not s = (refl, refl)
kept_counts true (Repeated number) s = (refl, refl)
kept_counts true (Made number) s = (refl, refl)
kept_counts false Not s = (refl, refl)
kept_counts false (Repeated number) s = (refl, refl)
kept_counts false (Made number) s = (refl, refl)

-- the patch before it is as the uses say
by_uses : (c : Controller) (moves : List Controller) (block : ℕ) → RestOn moves (length c.job.blocks) c.decisions
    → IsByUses (failing_in c.versions (template_in c block).preconditions) (uses_by moves) (last_block moves) block (copies_before c block)
    (patched_in_move c block)
by_uses c moves block rests =
    subst (λ (n : ℕ). IsByUses (failing_in c.versions (template_in c block).preconditions) (uses_by moves) (last_block moves) block (copies_before c block)
    (patched_by (patch_key n block) c.versions c.decisions.patches (template_in c block))) (sym rests.previous)
    (patch_by_uses (last_block moves) block c.versions (template_in c block) (uses_by moves) c.decisions.patches rests.uses)

-- from the third on it is short
is_short : (c : Controller) (times block : ℕ) (args : List ℤ) → IsDecidedBy times (decided_of c.decisions block) → 2 ≤ times
    → IsNotMade (patched_in_move c block) → (number : ℕ)
    → IsShort c.place c.live (instance_at c block) args c.versions c.decisions (template_in c block) number
is_short c times block args decided twice not_made number =
    let installed = installed_twice times (decided_of c.decisions block) decided twice in
    let same : template_in c block ≡ installed.0 = ap (template_by c.place c.versions.objects c.live block) installed.1 in
    later_instances_are_short c.place c.live (instance_at c block) args c.versions c.decisions (template_in c block) number
    (installed.1 ∙ ap Installed (sym same)) not_made

-- each later one is asked for as a whole
pub again_step : (c : Controller) (given : List Directed) (put : ArePut c given) (block : ℕ) (args : List ℤ) → Leads c.job c given
    → c.pending ≡ Block block args → block < length c.job.blocks → is_recorded c.decisions block ≡ true
    → IsStep c (with_reused c block) given (reused_orders c block args) put.moves
again_step c given put block args leads is below old =
    let orders : List Directed = reused_orders c block args in
    let decided : Decided = decided_of c.decisions block in
    let template : WorkerTemplate = template_in c block in
    let patched : Patched = patched_in_move c block in
    let rests = rests_put c given put in
    let times : ℕ = times_given block put.moves in
    let some : 1 ≤ times = reusable_some times decided (rests.decided block below) old in
    let once : is_new decided ≡ (times == 1) = new_once times decided (rests.decided block below) some in
    let same : orders_of c ≡ orders = ap (orders_with c) is ∙ ap (λ (b : Bool). orders_of_block b c block args) old in
    let nth : nth_given c.pending put.moves ≡ times + 1 = ap (λ (p : Pending). nth_given p put.moves) is in
    let latest : List Use = use_with (last_block put.moves) block (copies_before c block) patched in
    let one : use_in c c.pending (last_block put.moves) ≡ latest =
    ap (λ (p : Pending). use_in c p (last_block put.moves)) is ∙ cond-true (is_recorded c.decisions block) latest [] old in
    let nths : List ℕ = nths_given put.moves in
    let uses : List Use = uses_by put.moves in
    let failing : ℕ = failing_in c.versions template.preconditions in
    let by = by_uses c put.moves block rests in
    let kept = kept_counts (is_new decided) patched c.summary in
    let leading = leading_there c given block args leads is in
    let after : Decisions = decisions_at c.place c.live (instance_at c block) c.versions c.decisions in
    record {
      move = subst (IsMove put.moves c) (sym is) (
        inr (record {
          times = some;
          orders = same ∙ ap (λ (b : Bool). orders_by (length c.live) (instance_at c block) args b patched c.versions template) once;
          by_uses = by;
          short = is_short c times block args (rests.decided block below);
        }),
        subst (All (λ (d : Directed). HasNoFirst d.1)) (sym same)
            (again_none (length c.live) (instance_at c block) args (is_new decided) patched c.versions template),
      );
      live = refl;
      blocks = refl;
      begun = refl;
      rests = again_rests c put.moves (length c.job.blocks) block args is below old rests;
      counts =
          subst (λ (us : List Use). AreCountsOf (nths_given (c ∷ put.moves)) (us ++ uses) (reused_counted (is_new decided) patched c.summary)) (sym one)
          (subst (λ (t : ℕ). AreCountsOf (t ∷ nths) (latest ++ uses) (reused_counted (is_new decided) patched c.summary)) (sym nth)
          (subst (λ (b : Bool). AreCountsOf ((times + 1) ∷ nths) (latest ++ uses) (reused_counted b patched c.summary)) (sym once)
          (patch_counts failing (last_block put.moves) block (copies_before c block) patched (times == 1) ((times + 1) ∷ nths) uses c.summary by
          (again_counted times nths uses c.summary some (counts_put c given put)))));
      control = kept.0;
      workers = kept.1;
      tasks = λ worker there.
          (again_adds c.place c.live (objects_of c.job.vars) (block_forms_of c.job) (instance_at c block) args given c.versions c.decisions worker
          (runs_of (orders_to worker.0 given)) there (omega (arith, below, rests.many)) old leading.decided
          (sessions_come c given c.position c.decisions leading worker there)).runs;
    }
