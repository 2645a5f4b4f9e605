-- Keys that come in pairs: those that were there, and new ones that a test tells from them.
use Rattle.std.proofs.Common.{◌≡◌, ℕ, ◌+◌, Bool, true, false, List, [], ◌∷◌, ◌++◌, length, map, refl, ap, ap₂, sym, subst, ◌∙◌, arith}
use Rattle.std.specs.Prelude.{cond, All, count_by}
use Rattle.std.specs.List.{AllByRecursion, flat_map, range_with_len}
use Rattle.std.proofs.lemmas.Bool.{false_from_ne_true, false≢true, true≢false}
use Rattle.std.proofs.lemmas.Bool.Decides.{nat_tests}
use Rattle.std.proofs.lemmas.List.Elements.{All-append, All-from_recursion, filter_passes, recursion_from_All}
use Rattle.std.proofs.lemmas.List.Sums.{sum_by-append, sum_by-cons}
use Rattle.nim_base.specs.declared.number.Worker.{Worker}
use Rattle.nim_message.specs.declared.order.ToWorker.{ToWorker}
use Rattle.nim_plan.specs.Paired.{EachOnce, Given, IsPairedAt, Key, is_key, keys_received, keys_sent}
use Rattle.nim_place.specs.Extends.{HaveNone, LongerIsPaired, is_live, live_lists, live_workers, longer, worker_of}
use Rattle.nim_base.proofs.Lists.{each_append, each_two}

-- ---- all of a list

each_front : {X : Type 0} (P : X → Type 0) (xs ys : List X) → AllByRecursion P (xs ++ ys) → AllByRecursion P xs
each_front P [] ys all = tt
each_front P (x ∷ xs) ys all = (all.0, each_front P xs ys all.1)

each_behind : {X : Type 0} (P : X → Type 0) (xs ys : List X) → AllByRecursion P (xs ++ ys) → AllByRecursion P ys
each_behind P [] ys all = all
each_behind P (x ∷ xs) ys all = each_behind P xs ys all.1

pub each_weaker : {X : Type 0} (P Q : X → Type 0) → ((x : X) → P x → Q x) → (xs : List X) → AllByRecursion P xs → AllByRecursion Q xs
each_weaker P Q f [] all = tt
each_weaker P Q f (x ∷ xs) all = (f x all.0, each_weaker P Q f xs all.1)

pub each_map : {X Y : Type 0} (P : X → Type 0) (f : Y → X) (ys : List Y) → AllByRecursion (λ (y : Y). P (f y)) ys → AllByRecursion P (map f ys)
each_map P f [] all = tt
each_map P f (y ∷ ys) all = (all.0, each_map P f ys all.1)

pub each_of_map : {X Y : Type 0} (P : X → Type 0) (f : Y → X) (ys : List Y) → AllByRecursion P (map f ys) → AllByRecursion (λ (y : Y). P (f y)) ys
each_of_map P f [] all = tt
each_of_map P f (y ∷ ys) all = (all.0, each_of_map P f ys all.1)

pub each_flat : {X Y : Type 0} (P : X → Type 0) (f : Y → List X) (ys : List Y) → AllByRecursion (λ (y : Y). AllByRecursion P (f y)) ys
    → AllByRecursion P (flat_map f ys)
each_flat P f [] all = tt
each_flat P f (y ∷ ys) all = each_append P (f y) (flat_map f ys) all.0 (each_flat P f ys all.1)

each_both : {X Y : Type 0} (P : X → Type 0) (f g : Y → List X) (ys : List Y) → AllByRecursion P (flat_map f ys) → AllByRecursion P (flat_map g ys)
    → AllByRecursion P (flat_map (λ (y : Y). f y ++ g y) ys)
each_both {X} {Y} P f g [] first second = tt
each_both {X} {Y} P f g (y ∷ ys) first second =
    each_append P (f y ++ g y) (flat_map (λ (z : Y). f z ++ g z) ys)
    (each_append P (f y) (g y) (each_front P (f y) (flat_map f ys) first) (each_front P (g y) (flat_map g ys) second))
    (each_both P f g ys (each_behind P (f y) (flat_map f ys) first) (each_behind P (g y) (flat_map g ys) second))

flat_of_map : {X Y Z : Type 0} (f : Y → List Z) (h : X → Y) (xs : List X) → flat_map f (map h xs) ≡ flat_map (λ (x : X). f (h x)) xs
flat_of_map f h [] = refl
flat_of_map {X} {Y} {Z} f h (x ∷ xs) = ap (λ (rest : List Z). f (h x) ++ rest) (flat_of_map f h xs)

pub flat_agree : {X Z : Type 0} (f g : X → List Z) (xs : List X) → AllByRecursion (λ (x : X). f x ≡ g x) xs → flat_map f xs ≡ flat_map g xs
flat_agree f g [] same = refl
flat_agree {X} {Z} f g (x ∷ xs) same = ap₂ (λ (first rest : List Z). first ++ rest) same.0 (flat_agree f g xs same.1)

-- ---- counts

pub count_append : {X : Type 0} (p : X → Bool) (xs ys : List X) → count_by p (xs ++ ys) ≡ count_by p xs + count_by p ys
count_append {X} p xs ys = sum_by-append (λ (x : X). cond (p x) 1 0) xs ys

pub count_first : {X : Type 0} (p : X → Bool) (x : X) (xs : List X) (b : Bool) → p x ≡ b → count_by p (x ∷ xs) ≡ cond b 1 0 + count_by p xs
count_first {X} p x xs b is = sum_by-cons (λ (y : X). cond (p y) 1 0) x xs ∙ ap (λ (c : Bool). cond c 1 0 + count_by p xs) is

count_both : {X Y : Type 0} (p : X → Bool) (f g : Y → List X) (ys : List Y)
    → count_by p (flat_map (λ (y : Y). f y ++ g y) ys) ≡ count_by p (flat_map f ys) + count_by p (flat_map g ys)
count_both {X} {Y} p f g [] = refl
count_both {X} {Y} p f g (y ∷ ys) =
    omega (
      arith,
      count_append p (f y ++ g y) (flat_map (λ (z : Y). f z ++ g z) ys),
      count_append p (f y) (g y),
      count_append p (f y) (flat_map f ys),
      count_append p (g y) (flat_map g ys),
      count_both p f g ys,
    )

-- ---- keys

-- two keys that are found by one another are one
pub same_keys : (first second : Key) → is_key first second ≡ true → first ≡ second
same_keys first second is =
    let epoch : first.epoch ≡ second.epoch = grind (arith, nat_tests) in
    let instance : first.instance ≡ second.instance = grind (arith, nat_tests) in
    let entry : first.entry ≡ second.entry = grind (arith, nat_tests) in
    let object : first.object.0 ≡ second.object.0 = grind (arith, nat_tests) in
    let version : first.version ≡ second.version = grind (arith, nat_tests) in
    let key : ℕ → ℕ → ℕ → ℕ → ℕ → Key = λ e i n o v. record { epoch = e; instance = i; entry = n; object = record { 0 = o }; version = v } in
    ap (λ (n : ℕ). key n first.instance first.entry first.object.0 first.version) epoch
    ∙ ap (λ (n : ℕ). key second.epoch n first.entry first.object.0 first.version) instance
    ∙ ap (λ (n : ℕ). key second.epoch second.instance n first.object.0 first.version) entry
    ∙ ap (λ (n : ℕ). key second.epoch second.instance second.entry n first.version) object
    ∙ ap (λ (n : ℕ). key second.epoch second.instance second.entry second.object.0 n) version

-- keys of which a test says this
abbrev pub AllSay : (Key → Bool) → Bool → List Key → Type 0
AllSay test b keys = AllByRecursion (λ (key : Key). test key ≡ b) keys

-- each of these keys is among those once
abbrev pub Once : List Key → List Key → Type 0
Once keys those = AllByRecursion (λ (key : Key). count_by (is_key key) those ≡ 1) keys

-- a key isn't among those of which a test says the other
none_counted : (test : Key → Bool) (b c : Bool) (k : Key) (keys : List Key) → (b ≡ c → ⊥) → test k ≡ b → AllSay test c keys → count_by (is_key k) keys ≡ 0
none_counted test b c k [] apart says all = refl
none_counted test b c k (x ∷ keys) apart says all =
    let other : is_key k x ≡ false =
    false_from_ne_true (is_key k x) (λ is. apart (sym says ∙ ap test (same_keys k x is) ∙ all.0)) in
    let first = count_first (is_key k) x keys false other in
    let rest = none_counted test b c k keys apart says all.1 in
    omega (arith, first, rest)

-- keys stay among those once where these get more of which a test says the other
once_longer : (test : Key → Bool) (b c : Bool) (keys those more all : List Key) → (b ≡ c → ⊥)
    → ((p : Key → Bool) → count_by p all ≡ count_by p those + count_by p more)
    → AllSay test b keys → AllSay test c more → Once keys those → Once keys all
once_longer test b c [] those more all apart sums says others once = tt
once_longer test b c (k ∷ keys) those more all apart sums says others once =
    let total = sums (is_key k) in
    let none = none_counted test b c k more apart says.0 others in
    let one = once.0 in
    (omega (arith, total, none, one), once_longer test b c keys those more all apart sums says.1 others once.1)

-- ---- longer lists

-- What is new to lists of orders, by who sends it to whom and who receives it: each key passes the test, and what is
-- sent to a live worker it receives once, and what it receives is sent once.
pub record AreNew (test : Key → Bool) (live : List Bool) (lists more : ℕ → List ToWorker) (sends : Worker → Worker → List Key)
    (receives : Worker → List Key) : Type 0 where
  pub sent : (worker to : Worker) → is_live live worker ≡ true → keys_sent to (longer lists more worker.0) ≡ keys_sent to (lists worker.0) ++ sends worker to
  pub received : (worker : Worker) → is_live live worker ≡ true → keys_received (longer lists more worker.0) ≡ keys_received (lists worker.0) ++ receives worker
  pub sent_new : (worker to : Worker) → AllSay test true (sends worker to)
  pub received_new : (worker : Worker) → AllSay test true (receives worker)
  pub sent_once : (to : Worker) → is_live live to ≡ true → Once (flat_map (λ (worker : Worker). sends worker to) (live_workers live)) (receives to)
  pub received_once : (to : Worker) → is_live live to ≡ true → Once (receives to) (flat_map (λ (worker : Worker). sends worker to) (live_workers live))

-- a live worker with its list
abbrev pub given_of : (ℕ → List ToWorker) → Worker → Given
given_of lists worker = record { worker = worker; orders = lists worker.0 }

pub all_live : (live : List Bool) → AllByRecursion (λ (worker : Worker). is_live live worker ≡ true) (live_workers live)
all_live live = recursion_from_All (λ (worker : Worker). is_live live worker ≡ true) (live_workers live)
    (filter_passes (is_live live) (map worker_of (range_with_len 0 (length live))))

-- what is sent to a worker
abbrev pub all_sent : List Bool → (ℕ → List ToWorker) → Worker → List Key
all_sent live lists to = flat_map (λ (worker : Worker). keys_sent to (lists worker.0)) (live_workers live)

-- the pairs of one worker
pub record IsPairedBy (live : List Bool) (lists : ℕ → List ToWorker) (to : Worker) : Type 0 where
  pub sent : Once (all_sent live lists to) (keys_received (lists to.0))
  pub received : Once (keys_received (lists to.0)) (all_sent live lists to)

to_once : (keys those : List Key) → EachOnce keys those → Once keys those
to_once keys those each = recursion_from_All (λ (key : Key). count_by (is_key key) those ≡ 1) keys each

from_once : (keys those : List Key) → Once keys those → EachOnce keys those
from_once keys those once = All-from_recursion (λ (key : Key). count_by (is_key key) those ≡ 1) keys once

pub paired_by : (live : List Bool) (lists : ℕ → List ToWorker) (to : Worker) → IsPairedAt (live_lists live lists) (given_of lists to) → IsPairedBy live lists to
paired_by live lists to is =
    let sent : List Key = flat_map (λ (g : Given). keys_sent to g.orders) (live_lists live lists) in
    let all = flat_of_map (λ (g : Given). keys_sent to g.orders) (given_of lists) (live_workers live) in
    record {
      sent = subst (λ (keys : List Key). Once keys (keys_received (lists to.0))) all (to_once sent (keys_received (lists to.0)) is.sent);
      received = subst (Once (keys_received (lists to.0))) all (to_once (keys_received (lists to.0)) sent is.received);
    }

pub by_paired : (live : List Bool) (lists : ℕ → List ToWorker) (to : Worker) → IsPairedBy live lists to → IsPairedAt (live_lists live lists) (given_of lists to)
by_paired live lists to is =
    let sent : List Key = flat_map (λ (g : Given). keys_sent to g.orders) (live_lists live lists) in
    let all = sym (flat_of_map (λ (g : Given). keys_sent to g.orders) (given_of lists) (live_workers live)) in
    record {
      sent = from_once sent (keys_received (lists to.0)) (subst (λ (keys : List Key). Once keys (keys_received (lists to.0))) all is.sent);
      received = from_once (keys_received (lists to.0)) sent (subst (Once (keys_received (lists to.0))) all is.received);
    }

-- one worker's pairs in longer lists
one_longer : (test : Key → Bool) (live : List Bool) (lists more : ℕ → List ToWorker) (sends : Worker → Worker → List Key) (receives : Worker → List Key)
    → AreNew test live lists more sends receives
    → HaveNone test live lists → (to : Worker) → is_live live to ≡ true → IsPairedBy live lists to → IsPairedBy live (longer lists more) to
one_longer test live lists more sends receives new none to there pair =
    let workers : List Worker = live_workers live in
    let news : List Key = flat_map (λ (worker : Worker). sends worker to) workers in
    let olds : List Key = all_sent live lists to in
    let both : List Key = flat_map (λ (worker : Worker). keys_sent to (lists worker.0) ++ sends worker to) workers in
    let had : List Key = keys_received (lists to.0) in
    let all_are : all_sent live (longer lists more) to ≡ both =
    flat_agree (λ (worker : Worker). keys_sent to (longer lists more worker.0)) (λ (worker : Worker). keys_sent to (lists worker.0) ++ sends worker to) workers
    (each_weaker (λ (worker : Worker). is_live live worker ≡ true)
    (λ (worker : Worker). keys_sent to (longer lists more worker.0) ≡ keys_sent to (lists worker.0) ++ sends worker to)
    (λ worker lives. new.sent worker to lives) workers (all_live live)) in
    let sums : (p : Key → Bool) → count_by p both ≡ count_by p olds + count_by p news =
    λ p. count_both p (λ (worker : Worker). keys_sent to (lists worker.0)) (λ (worker : Worker). sends worker to) workers in
    let turned : (p : Key → Bool) → count_by p both ≡ count_by p news + count_by p olds = λ p. let s = sums p in omega (arith, s) in
    let taken : (p : Key → Bool) → count_by p (had ++ receives to) ≡ count_by p had + count_by p (receives to) = λ p. count_append p had (receives to) in
    let taken_turned : (p : Key → Bool) → count_by p (had ++ receives to) ≡ count_by p (receives to) + count_by p had = λ p. let s = taken p in omega
    (arith, s) in
    let olds_say : AllSay test false olds =
    each_flat (λ (key : Key). test key ≡ false) (λ (worker : Worker). keys_sent to (lists worker.0)) workers
    (each_weaker (λ (worker : Worker). is_live live worker ≡ true) (λ (worker : Worker). AllSay test false (keys_sent to (lists worker.0)))
    (λ worker lives. recursion_from_All (λ (key : Key). test key ≡ false) (keys_sent to (lists worker.0)) (none.sent worker to lives)) workers
    (all_live live)) in
    let news_say : AllSay test true news =
    each_flat (λ (key : Key). test key ≡ true) (λ (worker : Worker). sends worker to) workers
    (each_weaker (λ (worker : Worker). is_live live worker ≡ true) (λ (worker : Worker). AllSay test true (sends worker to))
    (λ worker lives. new.sent_new worker to) workers (all_live live)) in
    let had_say : AllSay test false had = recursion_from_All (λ (key : Key). test key ≡ false) had (none.received to there) in
    let gets_say : AllSay test true (receives to) = new.received_new to in
    record {
      sent =
          subst (λ (keys : List Key). Once keys (keys_received (longer lists more to.0))) (sym all_are)
          (subst (Once both) (sym (new.received to there))
          (each_both (λ (key : Key). count_by (is_key key) (had ++ receives to) ≡ 1) (λ (worker : Worker). keys_sent to (lists worker.0))
          (λ (worker : Worker). sends worker to) workers
          (once_longer test false true olds had (receives to) (had ++ receives to) false≢true taken olds_say gets_say pair.sent)
          (once_longer test true false news (receives to) had (had ++ receives to) true≢false taken_turned news_say had_say (new.sent_once to there))));
      received =
          subst (Once (keys_received (longer lists more to.0))) (sym all_are)
          (subst (λ (keys : List Key). Once keys both) (sym (new.received to there))
          (each_append (λ (key : Key). count_by (is_key key) both ≡ 1) had (receives to)
          (once_longer test false true had olds news both false≢true sums had_say news_say pair.received)
          (once_longer test true false (receives to) news olds both true≢false turned gets_say olds_say (new.received_once to there))));
    }

-- lists that are longer by new keys
pub longer_paired : (test : Key → Bool) (live : List Bool) (lists more : ℕ → List ToWorker) (sends : Worker → Worker → List Key) (receives : Worker → List Key)
    → AreNew test live lists more sends receives
    → LongerIsPaired test live lists more
longer_paired test live lists more sends receives new = record {
  paired = λ pairs none.
      All-from_recursion (IsPairedAt (live_lists live (longer lists more))) (live_lists live (longer lists more))
      (each_map (IsPairedAt (live_lists live (longer lists more))) (given_of (longer lists more)) (live_workers live)
      (each_two (λ (to : Worker). is_live live to ≡ true) (λ (to : Worker). IsPairedAt (live_lists live lists) (given_of lists to))
      (λ (to : Worker). IsPairedAt (live_lists live (longer lists more)) (given_of (longer lists more) to))
      (λ to there pair. by_paired live (longer lists more) to (one_longer test live lists more sends receives new none to there (paired_by live lists to pair)))
      (live_workers live) (all_live live)
      (each_of_map (IsPairedAt (live_lists live lists)) (given_of lists) (live_workers live)
      (recursion_from_All (IsPairedAt (live_lists live lists)) (live_lists live lists) pairs))));
  others = λ other apart none. record {
    sent = λ worker to there.
        subst (All (λ (key : Key). other key ≡ false)) (sym (new.sent worker to there))
        (All-append (λ (key : Key). other key ≡ false) (keys_sent to (lists worker.0)) (sends worker to) (none.sent worker to there)
        (All-from_recursion (λ (key : Key). other key ≡ false) (sends worker to)
        (each_weaker (λ (key : Key). test key ≡ true) (λ (key : Key). other key ≡ false) apart (sends worker to) (new.sent_new worker to))));
    received = λ worker there.
        subst (All (λ (key : Key). other key ≡ false)) (sym (new.received worker there))
        (All-append (λ (key : Key). other key ≡ false) (keys_received (lists worker.0)) (receives worker) (none.received worker there)
        (All-from_recursion (λ (key : Key). other key ≡ false) (receives worker)
        (each_weaker (λ (key : Key). test key ≡ true) (λ (key : Key). other key ≡ false) apart (receives worker) (new.received_new worker))));
  };
}
