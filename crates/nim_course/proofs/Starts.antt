-- A controller that was just made leads its job.
use Rattle.std.proofs.Common.{◌≡◌, ℕ, ◌≤◌, Bool, true, List, [], ◌∷◌, map, replicate, refl, ap, sym, subst, arith}
use Rattle.std.specs.List.{flat_map}
use Rattle.std.proofs.lemmas.List.{length-replicate}
use Rattle.std.proofs.lemmas.List.Elements.{All-from_recursion, All-map, All-nil}
use Rattle.nim_base.specs.declared.number.Worker.{Worker}
use Rattle.nim_order.specs.Orders.{IsOrderByRule}
use Rattle.nim_job.specs.declared.job.Job.{Job}
use Rattle.nim_job.specs.Machine.{start_machine}
use Rattle.nim_job.specs.Objects.{objects_of}
use Rattle.nim_job.specs.Whole.{is_whole}
use Rattle.nim_plan.specs.Legal.{IsLegal}
use Rattle.nim_plan.specs.Paired.{ArePaired, EachOnce, Given, IsPairedAt, Key, keys_sent}
use Rattle.nim_place.specs.Extends.{live_lists, live_workers}
use Rattle.nim_place.specs.Versions.{no_versions}
use Rattle.nim_course.specs.declared.setup.Setup.{Setup}
use Rattle.nim_course.specs.Controller.{new_controller}
use Rattle.nim_course.specs.Leads.{AreRight, IsFetchedAt, Leads}
use Rattle.nim_base.proofs.Lists.{each_all, some_set}
use Rattle.nim_course.proofs.Asking.{begins_open}
use Rattle.nim_course.proofs.Standing.{goes_leads}

-- ---- no orders

nothing_legal : (job : Job) → IsLegal job []
unfolding IsLegal
nothing_legal job = tt

-- nobody sends anything
nothing_sent : (to : Worker) (workers : List Worker)
    → flat_map (λ (g : Given). keys_sent to g.orders) (map (λ (worker : Worker). record { worker = worker; orders = [] }) workers) ≡ []
nothing_sent to [] = refl
nothing_sent to (worker ∷ workers) = nothing_sent to workers

nothing_paired : (live : List Bool) → ArePaired (live_lists live (λ (number : ℕ). []))
nothing_paired live =
    let none : Worker → Given = λ worker. record { worker = worker; orders = [] } in
    let all : List Given = live_lists live (λ (number : ℕ). []) in
    All-map (IsPairedAt all) none (live_workers live)
    (All-from_recursion (λ (worker : Worker). IsPairedAt all (none worker)) (live_workers live)
    (each_all (λ (worker : Worker). IsPairedAt all (none worker)) (λ worker. record {
      sent = subst (λ (keys : List Key). EachOnce keys []) (sym (nothing_sent worker (live_workers live))) (All-nil _);
      received = All-nil _;
    }) (live_workers live)))

nothing_right : (job : Job) (live : List Bool) → AreRight job live []
nothing_right job live = record {
  legal = λ worker there. nothing_legal job;
  rule = λ worker there. All-nil IsOrderByRule;
  covered = λ worker there. refl;
  paired = nothing_paired live;
}

-- ---- the start

new_leads : (job : Job) (setup : Setup) → is_whole job ≡ true → 1 ≤ setup.workers → setup.workers ≤ 16
    → Leads job (new_controller job setup) []
new_leads job setup whole least most =
    goes_leads (new_controller job setup) [] refl (record {
      whole = whole;
      driver = begins_open job (start_machine job) 0 refl refl;
      fetched = All-nil (IsFetchedAt job 0);
      unfetched = λ fetches. refl;
      some = some_set setup.workers least;
      few = omega (arith, most, length-replicate setup.workers true);
      right = nothing_right job (replicate setup.workers true);
      leading = record {
        versions = ap (λ (n : ℕ). no_versions n (objects_of job.vars)) (sym (length-replicate setup.workers true));
        position = refl;
        decisions = refl;
      };
      instances = omega arith;
      all_run = λ ended. absurd cc;
    })

pub start_leads : (job : Job) (setup : Setup) → is_whole job ≡ true → 1 ≤ setup.workers → setup.workers ≤ 16 → Leads job (new_controller job setup) []
start_leads job setup whole least most = new_leads job setup whole least most
