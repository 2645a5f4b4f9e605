-- Resets begin an epoch, and Singles extend lists of orders.
use Rattle.std.proofs.Common.{◌≡◌, ℕ, Bool, true, false, List, [], ◌∷◌, ◌++◌, length, map, refl, ap, sym, subst, ◌∙◌}
use Rattle.std.specs.Prelude.{◌==◌, if◌then◌else◌, All}
use Rattle.std.specs.List.{AllByRecursion, filter, flat_map}
use Rattle.std.proofs.lemmas.Bool.{false≢true}
use Rattle.std.proofs.lemmas.List.{append-nil}
use Rattle.std.proofs.lemmas.List.Elements.{All-from_recursion, All-nil, All-push, recursion_from_All}
use Rattle.std.proofs.lemmas.List.Sums.{fold_push}
use Rattle.nim_base.specs.declared.number.Shape.{Shape}
use Rattle.nim_base.specs.declared.number.Slot.{Slot}
use Rattle.nim_base.specs.declared.number.Worker.{Worker}
use Rattle.nim_command.specs.declared.command.Command.{Command}
use Rattle.nim_command.specs.declared.command.Kind.{Kind}
use Rattle.nim_command.specs.declared.command.Kind.TheVariants.{Create, Load, Send, Receive, Copy, Run, Fetch}
use Rattle.nim_command.specs.Holds.{Content, holds}
use Rattle.nim_command.specs.Waits.{Group, commands_of, single_group}
use Rattle.nim_message.specs.declared.order.ToWorker.{ToWorker}
use Rattle.nim_message.specs.declared.order.ToWorker.TheVariants.{Reset}
use Rattle.nim_message.specs.Orders.{Session, after_order, new_session, no_session, session_of}
use Rattle.nim_order.specs.Orders.{IsOrderByRule}
use Rattle.nim_order.proofs.Sessions.{orders_cover}
use Rattle.nim_plan.specs.Legal.{AreLegal, IsLegal}
use Rattle.nim_plan.specs.Paired.{IsPairedAt, Key, keys_received, keys_sent, received, sent}
use Rattle.nim_plan.proofs.Steps.{by_steps}
use Rattle.nim_place.specs.Extends.{is_live, live_lists, live_workers, longer, singles_of}
use Rattle.nim_place.specs.Orders.{ResetsBegin, SinglesExtend, has_no_key, resets_of}
use Rattle.nim_place.specs.Stands.{commands_for}
use Rattle.nim_place.proofs.Keys.{keys_received_more, keys_sent_more, new_received, new_sent, received_in, sent_in}
use Rattle.nim_place.proofs.Pairs.{Once, all_live, all_sent, by_paired, each_map, each_weaker, given_of, longer_paired}
use Rattle.nim_place.proofs.Singles.{single_legal, singles_ask, singles_covered}

-- ---- Resets

-- behind a Reset the session is new
reset_session : (live : List Bool) (epoch workers : ℕ) (shapes : List Shape) (orders : List ToWorker) (worker : Worker) → is_live live worker ≡ true
    → session_of (orders ++ resets_of live epoch workers shapes worker.0) ≡ new_session epoch shapes
reset_session live epoch workers shapes orders worker there =
    ap (λ (b : Bool). session_of (orders ++ (if b then Reset epoch worker workers shapes ∷ [] else []))) there
    ∙ fold_push after_order no_session orders (Reset epoch worker workers shapes)

reset_ruled : (orders : List ToWorker) (epoch workers : ℕ) (shapes : List Shape) (worker : Worker) (b : Bool) → All IsOrderByRule orders
    → All IsOrderByRule (orders ++ (if b then Reset epoch worker workers shapes ∷ [] else []))
reset_ruled orders epoch workers shapes worker true rule = All-push IsOrderByRule orders (Reset epoch worker workers shapes) rule tt
reset_ruled orders epoch workers shapes worker false rule = subst (All IsOrderByRule) (sym (append-nil orders)) rule

none_flat : {X Y : Type 0} (f : Y → List X) (ys : List Y) → AllByRecursion (λ (y : Y). f y ≡ []) ys → flat_map f ys ≡ []
none_flat f [] none = refl
none_flat {X} {Y} f (y ∷ ys) none = ap (λ (xs : List X). xs ++ flat_map f ys) none.0 ∙ none_flat f ys none.1

pub resets_begin : ResetsBegin
resets_begin live epoch workers shapes lists = record {
  asked = record {
    begun = λ worker there. ap (λ (s : Session). s.begun) (fresh worker there);
    epoch = λ worker there. ap (λ (s : Session). s.epoch) (fresh worker there);
    asked = λ worker there. ap (λ (s : Session). commands_of s.groups) (fresh worker there);
    none = λ worker dead. refl;
  };
  legal = λ job same worker there before.
      subst (λ (b : Bool). IsLegal job (lists worker.0 ++ (if b then Reset epoch worker workers shapes ∷ [] else []))) (sym there)
      (by_steps.longer job (lists worker.0) (Reset epoch worker workers shapes) before same);
  covered = λ worker rule.
      let all = reset_ruled (lists worker.0) epoch workers shapes worker (is_live live worker) rule in
      record { by_rule = all; covered = orders_cover (all_orders worker.0) all };
  none = λ test. record {
    sent = λ worker to there. subst (All (λ (key : Key). test key ≡ false)) (sym (none_sent to worker there)) (All-nil (λ (key : Key). test key ≡ false));
    received = λ worker there. subst (All (λ (key : Key). test key ≡ false)) (sym (none_received worker there)) (All-nil (λ (key : Key). test key ≡ false));
  };
  paired =
      All-from_recursion (IsPairedAt (live_lists live all_orders)) (live_lists live all_orders)
      (each_map (IsPairedAt (live_lists live all_orders)) (given_of all_orders) (live_workers live)
      (each_weaker (λ (to : Worker). is_live live to ≡ true) (λ (to : Worker). IsPairedAt (live_lists live all_orders) (given_of all_orders to))
      (λ to there. by_paired live all_orders to (record {
        sent = subst (λ (keys : List Key). Once keys (keys_received (all_orders to.0))) (sym (none_sent_to to)) tt;
        received = subst (λ (keys : List Key). Once keys (all_sent live all_orders to)) (sym (none_received to there)) tt;
      })) (live_workers live) (all_live live)));
} where
  all_orders : ℕ → List ToWorker
  all_orders = longer lists (resets_of live epoch workers shapes)

  fresh : (worker : Worker) → is_live live worker ≡ true → session_of (longer lists (resets_of live epoch workers shapes) worker.0) ≡ new_session epoch shapes
  fresh worker there = reset_session live epoch workers shapes (lists worker.0) worker there

  none_sent : (to worker : Worker) → is_live live worker ≡ true → keys_sent to (longer lists (resets_of live epoch workers shapes) worker.0) ≡ []
  none_sent to worker there = ap (λ (s : Session). sent_in to s.groups) (fresh worker there)

  none_received : (worker : Worker) → is_live live worker ≡ true → keys_received (longer lists (resets_of live epoch workers shapes) worker.0) ≡ []
  none_received worker there = ap (λ (s : Session). received_in s.groups) (fresh worker there)

  none_sent_to : (to : Worker) → all_sent live (longer lists (resets_of live epoch workers shapes)) to ≡ []
  none_sent_to to =
      none_flat (λ (worker : Worker). keys_sent to (longer lists (resets_of live epoch workers shapes) worker.0)) (live_workers live)
      (each_weaker (λ (worker : Worker). is_live live worker ≡ true)
      (λ (worker : Worker). keys_sent to (longer lists (resets_of live epoch workers shapes) worker.0) ≡ [])
      (λ worker there. none_sent to worker there) (live_workers live) (all_live live))

-- ---- Singles

no_sent : (to : Worker) (group : Group) (before : Slot → Content) (kind : Kind) → has_no_key kind ≡ true → sent to group before kind ≡ []
no_sent to group before (Send slot peer entry) none = absurd (false≢true none)
no_sent to group before (Create slot iota number) none = refl
no_sent to group before (Load slot version value) none = refl
no_sent to group before (Receive slot version) none = refl
no_sent to group before (Copy from to_slot) none = refl
no_sent to group before (Run position func params reads writes) none = refl
no_sent to group before (Fetch slot ticket) none = refl

no_received : (group : Group) (number : ℕ) (kind : Kind) → has_no_key kind ≡ true → received group number kind ≡ []
no_received group number (Receive slot version) none = absurd (false≢true none)
no_received group number (Create slot iota first) none = refl
no_received group number (Load slot version value) none = refl
no_received group number (Send slot peer entry) none = refl
no_received group number (Copy from to_slot) none = refl
no_received group number (Run position func params reads writes) none = refl
no_received group number (Fetch slot ticket) none = refl

none_new_sent : (to : Worker) (group : Group) (past cs : List Command) → AllByRecursion (λ (c : Command). has_no_key c.kind ≡ true) cs
    → new_sent to group past cs ≡ []
none_new_sent to group past [] none = refl
none_new_sent to group past (c ∷ cs) none =
    ap (λ (keys : List Key). keys ++ new_sent to group (past ++ c ∷ []) cs) (no_sent to group (holds past (length past)) c.kind none.0)
    ∙ none_new_sent to group (past ++ c ∷ []) cs none.1

none_new_received : (group : Group) (cs : List Command) → AllByRecursion (λ (c : Command). has_no_key c.kind ≡ true) cs → new_received group cs ≡ []
none_new_received group [] none = refl
none_new_received group (c ∷ cs) none =
    ap (λ (keys : List Key). keys ++ new_received group cs) (no_received group c.id c.kind none.0) ∙ none_new_received group cs none.1

none_for : (worker : Worker) (commands : List (Worker × Command)) → AllByRecursion (λ (c : Worker × Command). has_no_key c.1.kind ≡ true) commands
    → AllByRecursion (λ (c : Command). has_no_key c.kind ≡ true) (commands_for worker commands)
none_for worker [] none = tt
none_for worker (c ∷ cs) none = either (none_for worker cs none.1) (c.0.0 == worker.0) where
  others : List (Worker × Command)
  others = filter (λ (d : Worker × Command). d.0.0 == worker.0) cs

  either : AllByRecursion (λ (d : Command). has_no_key d.kind ≡ true) (commands_for worker cs) → (b : Bool)
      → AllByRecursion (λ (d : Command). has_no_key d.kind ≡ true) (map (λ (d : Worker × Command). d.1) (if b then c ∷ others else others))
  either rest true = (none.0, rest)
  either rest false = rest

abbrev nobody_sends : (worker to : Worker) → List Key
nobody_sends worker to = []

nothing_sent : (to : Worker) (workers : List Worker) → Once (flat_map (λ (worker : Worker). nobody_sends worker to) workers) []
nothing_sent to [] = tt
nothing_sent to (worker ∷ workers) = nothing_sent to workers

pub singles_extend : SinglesExtend
singles_extend live epoch instance lists given commands ask all = record {
  asked = singles_ask live epoch instance lists given commands ask (recursion_from_All (λ (c : Worker × Command). is_live live c.0 ≡ true) commands all);
  legal = λ job legal worker there before.
      single_legal job epoch instance (lists worker.0) (commands_for worker commands) (ask.begun worker there) (ask.epoch worker there)
      (subst (λ (past : List Command). AreLegal job past (commands_for worker commands)) (sym (ask.asked worker there)) (legal worker there))
      before;
  covered = λ ruled. singles_covered commands ruled epoch instance lists;
  paired = λ none.
      let local : (worker : Worker) → AllByRecursion (λ (c : Command). has_no_key c.kind ≡ true) (commands_for worker commands) =
      λ worker. none_for worker commands (recursion_from_All (λ (c : Worker × Command). has_no_key c.1.kind ≡ true) commands none) in
      longer_paired (λ (key : Key). false) live lists (singles_of epoch instance commands) nobody_sends (λ (worker : Worker). []) (record {
        sent = λ worker to there.
            keys_sent_more to epoch instance (lists worker.0) (commands_for worker commands) (ask.begun worker there) (ask.epoch worker there)
            ∙ ap (λ (rest : List Key). keys_sent to (lists worker.0) ++ rest)
            (none_new_sent to (single_group epoch instance (commands_for worker commands)) (commands_of (session_of (lists worker.0)).groups)
            (commands_for worker commands) (local worker));
        received = λ worker there.
            keys_received_more epoch instance (lists worker.0) (commands_for worker commands) (ask.begun worker there) (ask.epoch worker there)
            ∙ ap (λ (rest : List Key). keys_received (lists worker.0) ++ rest)
            (none_new_received (single_group epoch instance (commands_for worker commands)) (commands_for worker commands) (local worker));
        sent_new = λ worker to. tt;
        received_new = λ worker. tt;
        sent_once = λ to there. nothing_sent to (live_workers live);
        received_once = λ to there. tt;
      });
}
