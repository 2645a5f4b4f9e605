-- Lists of orders that send and receive the same: where one is paired the other is too.
use Rattle.std.proofs.Common.{◌≡◌, ℕ, Bool, true, false, List, subst}
use Rattle.std.specs.Prelude.{All}
use Rattle.std.proofs.lemmas.List.Elements.{All-from_recursion, recursion_from_All}
use Rattle.nim_base.specs.declared.number.Worker.{Worker}
use Rattle.nim_message.specs.declared.order.ToWorker.{ToWorker}
use Rattle.nim_plan.specs.Paired.{ArePaired, IsPairedAt, Key, keys_received, keys_sent}
use Rattle.nim_place.specs.Extends.{HaveNone, is_live, live_lists, live_workers}
use Rattle.nim_base.proofs.Lists.{each_two}
use Rattle.nim_place.proofs.Pairs.{IsPairedBy, Once, all_live, all_sent, by_paired, each_map, each_of_map, each_weaker, flat_agree}
use Rattle.nim_place.proofs.Pairs.{given_of, paired_by}

-- two lists of orders for each worker that send and receive the same
pub record SendSame (live : List Bool) (first second : ℕ → List ToWorker) : Type 0 where
  pub sent : (worker to : Worker) → is_live live worker ≡ true → keys_sent to (first worker.0) ≡ keys_sent to (second worker.0)
  pub received : (worker : Worker) → is_live live worker ≡ true → keys_received (first worker.0) ≡ keys_received (second worker.0)

same_by : (live : List Bool) (first second : ℕ → List ToWorker) (to : Worker) → SendSame live first second → is_live live to ≡ true
    → IsPairedBy live first to → IsPairedBy live second to
same_by live first second to same there pair =
    let all : all_sent live first to ≡ all_sent live second to =
    flat_agree (λ (worker : Worker). keys_sent to (first worker.0)) (λ (worker : Worker). keys_sent to (second worker.0)) (live_workers live)
    (each_weaker (λ (worker : Worker). is_live live worker ≡ true) (λ (worker : Worker). keys_sent to (first worker.0) ≡ keys_sent to (second worker.0))
    (λ worker lives. same.sent worker to lives) (live_workers live) (all_live live)) in
    record {
      sent = subst (λ (keys : List Key). Once keys (keys_received (second to.0))) all (subst (Once (all_sent live first to))
          (same.received to there) pair.sent);
      received =
          subst (Once (keys_received (second to.0))) all
          (subst (λ (keys : List Key). Once keys (all_sent live first to)) (same.received to there) pair.received);
    }

pub same_paired : (live : List Bool) (first second : ℕ → List ToWorker) → SendSame live first second → ArePaired (live_lists live first)
    → ArePaired (live_lists live second)
same_paired live first second same pairs =
    All-from_recursion (IsPairedAt (live_lists live second)) (live_lists live second)
    (each_map (IsPairedAt (live_lists live second)) (given_of second) (live_workers live)
    (each_two (λ (to : Worker). is_live live to ≡ true) (λ (to : Worker). IsPairedAt (live_lists live first) (given_of first to))
    (λ (to : Worker). IsPairedAt (live_lists live second) (given_of second to))
    (λ to there pair. by_paired live second to (same_by live first second to same there (paired_by live first to pair)))
    (live_workers live) (all_live live)
    (each_of_map (IsPairedAt (live_lists live first)) (given_of first) (live_workers live)
    (recursion_from_All (IsPairedAt (live_lists live first)) (live_lists live first) pairs))))

pub same_none : (live : List Bool) (first second : ℕ → List ToWorker) (test : Key → Bool) → SendSame live first second → HaveNone test live first
    → HaveNone test live second
same_none live first second test same none = record {
  sent = λ worker to there. subst (All (λ (key : Key). test key ≡ false)) (same.sent worker to there) (none.sent worker to there);
  received = λ worker there. subst (All (λ (key : Key). test key ≡ false)) (same.received worker there) (none.received worker there);
}
