-- The orders that begin an epoch lead to the position 0.
use Rattle.std.proofs.Common.{◌≡◌, ℕ, ◌+◌, ◌<◌, ◌≤◌, Bool, true, false, List, [], ◌∷◌, ◌++◌, length, map, replicate, refl, ap, sym, subst, ◌∙◌, arith, Option, None}
use Rattle.std.specs.Prelude.{◌*◌, if◌then◌else◌, slice_index_or}
use Rattle.std.specs.List.{AllByRecursion, list_any}
use Rattle.std.specs.Option.{option_map}
use Rattle.std.proofs.Math.ListN.{get_or-eq_default}
use Rattle.std.proofs.lemmas.Bool.{cond_both}
use Rattle.std.proofs.lemmas.List.{append-nil, append_assoc, length-replicate}
use Rattle.std.proofs.lemmas.List.Elements.{All-from_recursion}
use Rattle.nim_base.specs.declared.number.Worker.{Worker}
use Rattle.nim_command.specs.declared.command.Command.{Command}
use Rattle.nim_command.specs.Slots.{object_of}
use Rattle.nim_message.specs.declared.order.ToWorker.{ToWorker}
use Rattle.nim_message.specs.declared.order.ToWorker.TheVariants.{Reset}
use Rattle.nim_job.specs.declared.job.Job.{Job}
use Rattle.nim_job.specs.Objects.{objects_of, shapes_of}
use Rattle.nim_job.specs.Tasks.{block_forms_of}
use Rattle.nim_job.specs.Versions.{read_version}
use Rattle.nim_job.specs.Whole.{is_whole}
use Rattle.nim_plan.specs.Paired.{Key}
use Rattle.nim_place.specs.Extends.{AskFor, HaveNone, longer, worker_of}
use Rattle.nim_place.specs.Orders.{IsEpochBegun, resets_of}
use Rattle.nim_place.specs.Stands.{MapStands}
use Rattle.nim_place.specs.Starts.{PutEach}
use Rattle.nim_place.specs.Versions.{Versions, after_commands, after_kind, is_kept, no_versions, place_of, puts_of, version_of}
use Rattle.nim_place.proofs.Begins.{resets_begin}
use Rattle.nim_place.proofs.Puts.{put_all}
use Rattle.nim_place.proofs.Starts.{map_starts}
use Rattle.nim_template.proofs.StaysBefore.{maps_stay_before}
use Rattle.nim_reuse.specs.Decisions.{Decisions, no_decisions}
use Rattle.nim_course.specs.Controller.{Controller}
use Rattle.nim_place.specs.Directed.{Directed, by_number, directed}
use Rattle.nim_course.specs.Leads.{AreRight, IsToBegin}
use Rattle.nim_course.specs.OrdersGiven.{epoch_orders, first_commands, single_for}
use Rattle.nim_base.proofs.Lists.{replicate_or}
use Rattle.nim_course.proofs.Alone.{AreLed, ComeTo, alone_comes, right_more}
use Rattle.nim_reuse.proofs.Stands.{decisions_stand}
use Rattle.nim_course.proofs.Runs.{AreQuiet, quiet_homes, quiet_once}
use Rattle.nim_place.proofs.Directed.{more_directed}
use Rattle.nim_place.proofs.LiveOnce.{live_within}
use Rattle.nim_course.proofs.Firsts.{AreFirst, all_first, first_count}

-- ---- what they come to

first_quiet : (job : Job) (live : List Bool) (number : ℕ) (cs : List (Worker × Command)) → AreFirst job live number cs → AreQuiet cs
first_quiet job live number [] are = tt
first_quiet job live number (c ∷ cs) are = (are.0.plain.quiet, first_quiet job live (number + 1) cs are.1)

first_puts : (job : Job) (live : List Bool) (number : ℕ) (cs : List (Worker × Command)) → AreFirst job live number cs
    → PutEach (read_version job 0) (length live) number cs
first_puts job live number [] are = tt
first_puts job live number (c ∷ cs) are =
    (live_within live c.0 are.0.lives, are.0.plain.puts, are.0.plain.version, first_puts job live (number + 1) cs are.1)

-- each is of a worker, and puts no version past the first one
first_low : (job : Job) (live : List Bool) (number : ℕ) (cs : List (Worker × Command)) → AreFirst job live number cs
    → AllByRecursion (λ (c : Worker × Command). (c.0.0 < length live) × (version_of c.1.kind ≤ 0)) cs
first_low job live number [] are = tt
first_low job live number (c ∷ cs) are =
    ((live_within live c.0 are.0.lives, omega (arith, are.0.plain.version)), first_low job live (number + 1) cs are.1)

-- one after another, at so many workers
record CameTo (job : Job) (live : List Bool) (epoch : ℕ) (to_come : Key → Bool) (given : List Directed) (commands : List (Worker × Command))
    (versions : Versions) : Type 0 where
  come : ComeTo job live epoch to_come given commands versions
  workers : versions.workers ≡ length live

firsts_come : (job : Job) (live : List Bool) (epoch number : ℕ) (to_come : Key → Bool) (given : List Directed) (commands : List (Worker × Command))
    (versions : Versions) (cs : List (Worker × Command))
    → CameTo job live epoch to_come given commands versions → AreFirst job live number cs
    → CameTo job live epoch to_come (given ++ map (single_for epoch) cs) (commands ++ cs) (after_commands versions cs)
firsts_come job live epoch number to_come given commands versions [] came are =
    subst (λ (ds : List Directed). CameTo job live epoch to_come ds (commands ++ []) versions) (sym (append-nil given))
    (subst (λ (all : List (Worker × Command)). CameTo job live epoch to_come given all versions) (sym (append-nil commands)) came)
firsts_come job live epoch number to_come given commands versions (c ∷ cs) came are =
    let next : Versions = after_kind c.0 versions c.1.kind in
    let below : c.0.0 < versions.workers = omega (arith, came.workers, live_within live c.0 are.0.lives) in
    let stands = came.come.so_far.stands in
    let one : CameTo job live epoch to_come (given ++ single_for epoch c ∷ []) (commands ++ c ∷ []) next =
    record {
      come = alone_comes job live epoch to_come given commands versions c came.come (record {
        lives = are.0.lives;
        below = below;
        legal = are.0.legal _;
        before = are.0.before;
        keyless = are.0.plain.keyless;
        aside = are.0.plain.aside versions;
      });
      workers =
          (put_all versions c.0 (version_of c.1.kind) (puts_of c.1.kind) (record { slots = stands.slots; all = stands.all }) below).workers ∙ came.workers;
    } in
    subst (λ (ds : List Directed). CameTo job live epoch to_come ds (commands ++ c ∷ cs) (after_commands next cs))
    (append_assoc given (single_for epoch c ∷ []) (map (single_for epoch) cs))
    (subst (λ (all : List (Worker × Command)).
    CameTo job live epoch to_come ((given ++ single_for epoch c ∷ []) ++ map (single_for epoch) cs) all (after_commands next cs))
    (append_assoc commands (c ∷ []) cs)
    (firsts_come job live epoch (number + 1) to_come (given ++ single_for epoch c ∷ []) (commands ++ c ∷ []) next cs one are.1))

-- ---- the Resets

-- a new map stands for nothing
none_stand : (workers objects : ℕ) → MapStands [] (no_versions workers objects)
none_stand workers objects = record {
  slots = length-replicate (objects * workers) None;
  all = length-replicate objects 0;
  held = λ worker slot kept.
      sym (ap (option_map (λ (version : ℕ). (object_of slot, version)))
      (cond_both (is_kept (no_versions workers objects) worker slot)
      (slice_index_or (replicate (objects * workers) None) (place_of (no_versions workers objects) worker slot) None) None
      (λ (o : Option ℕ). o ≡ None) (λ is. replicate_or (objects * workers) (place_of (no_versions workers objects) worker slot) None) (λ is. refl)));
  latest = λ object there. replicate_or objects object.0 0;
}

resets_come : (job : Job) (live : List Bool) (epoch : ℕ) (to_come : Key → Bool) (given : List Directed) → AreRight job live given
    → CameTo job live epoch to_come (given ++ directed (length live) (resets_of live epoch (length live) (shapes_of job.vars))) []
    (no_versions (length live) (objects_of job.vars))
resets_come job live epoch to_come given right =
    let resets : ℕ → List ToWorker = resets_of live epoch (length live) (shapes_of job.vars) in
    let next : List Directed = given ++ directed (length live) resets in
    let is : IsEpochBegun live epoch (length live) (shapes_of job.vars) (by_number given) =
    resets_begin live epoch (length live) (shapes_of job.vars) (by_number given) in
    let same : by_number next ≡ longer (by_number given) resets =
    more_directed given (length live) resets
    (λ number past. ap (λ (b : Bool). if b then Reset epoch (worker_of number) (length live) (shapes_of job.vars) ∷ [] else [])
    (get_or-eq_default live false past)) in
    record {
      come = record {
        right = right_more job live given next resets right same (is.legal job refl) is.covered is.paired;
        so_far = record {
          stands = none_stand (length live) (objects_of job.vars);
          ask = subst (λ (lists : ℕ → List ToWorker). AskFor live epoch lists []) (sym same) is.asked;
        };
        fresh = subst (HaveNone to_come live) (sym same) (is.none to_come);
      };
      workers = refl;
    }

-- ---- the epoch

begins_new : (c : Controller) (given : List Directed) (to_come : Key → Bool) → list_any (λ (flag : Bool). flag) c.live ≡ true → is_whole c.job ≡ true
    → AreRight c.job c.live given
    → AreLed c.job c.place c.live c.epoch 0 to_come (given ++ epoch_orders c)
    (after_commands (no_versions (length c.live) (objects_of c.job.vars)) (first_commands c 0 c.job.vars))
    (no_decisions (length c.job.blocks))
begins_new c given to_come some whole right =
    let resets : List Directed = directed (length c.live) (resets_of c.live c.epoch (length c.live) (shapes_of c.job.vars)) in
    let commands : List (Worker × Command) = first_commands c 0 c.job.vars in
    let new : Versions = no_versions (length c.live) (objects_of c.job.vars) in
    let are = all_first c some whole in
    let quiet = first_quiet c.job c.live 0 commands are in
    let came : CameTo c.job c.live c.epoch to_come (given ++ epoch_orders c) commands (after_commands new commands) =
    subst (λ (ds : List Directed). CameTo c.job c.live c.epoch to_come ds commands (after_commands new commands))
    (append_assoc given resets (map (single_for c.epoch) commands))
    (firsts_come c.job c.live c.epoch 0 to_come (given ++ resets) [] new commands (resets_come c.job c.live c.epoch to_come given right) are) in
    record {
      right = came.come.right;
      leading = record {
        commands = commands;
        so_far = came.come.so_far;
        before =
            maps_stay_before.commands (length c.live) (objects_of c.job.vars) 0 0 new commands
            (maps_stay_before.new (length c.live) (objects_of c.job.vars) 0 (omega arith)) (omega arith) (omega arith)
            (All-from_recursion (λ (one : Worker × Command). (one.0.0 < length c.live) × (version_of one.1.kind ≤ 0)) commands
            (first_low c.job c.live 0 commands are));
        at = map_starts c.job 0 (length c.live) commands (first_count c 0 c.job.vars) (first_puts c.job c.live 0 commands are);
        decided = decisions_stand.new c.place c.live (objects_of c.job.vars) (length c.job.blocks) (block_forms_of c.job)
            (by_number (given ++ epoch_orders c));
        fresh = came.come.fresh;
        from = 0;
        first = λ epoch. refl;
        since = omega arith;
        runs = quiet_once 0 0 commands refl quiet;
        homes = quiet_homes c.job c.place c.live commands quiet;
      };
    }

pub begins_lead : (c : Controller) (given : List Directed) (to_come : Key → Bool) → list_any (λ (flag : Bool). flag) c.live ≡ true → is_whole c.job ≡ true
    → AreRight c.job c.live given → IsToBegin c.job c
    → AreLed c.job c.place c.live c.epoch c.position to_come (given ++ epoch_orders c) (after_commands c.versions (first_commands c 0 c.job.vars)) c.decisions
begins_lead c given to_come some whole right begin =
    let orders : List Directed = given ++ epoch_orders c in
    let commands : List (Worker × Command) = first_commands c 0 c.job.vars in
    let new : Versions = no_versions (length c.live) (objects_of c.job.vars) in
    subst (λ (v : Versions). AreLed c.job c.place c.live c.epoch c.position to_come orders (after_commands v commands) c.decisions) (sym begin.versions)
    (subst (λ (d : Decisions). AreLed c.job c.place c.live c.epoch c.position to_come orders (after_commands new commands) d) (sym begin.decisions)
    (subst (λ (p : ℕ). AreLed c.job c.place c.live c.epoch p to_come orders (after_commands new commands) (no_decisions (length c.job.blocks)))
    (sym begin.position) (begins_new c given to_come some whole right)))
