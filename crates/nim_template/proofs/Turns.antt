-- Commands that are given one step after another, each step as Singles: what all orders so far come to.
use Rattle.std.proofs.Common.{◌≡◌, ℕ, ◌<◌, ◌≤◌, Bool, true, false, List, [], ◌++◌, refl, ap, ap₂, sym, subst, ◌∙◌, arith}
use Rattle.std.specs.Prelude.{◌&&◌, ◌==◌, nat_le, nat_lt}
use Rattle.std.proofs.lemmas.Bool.{false≢true, le-leb, leb-true, lt-ltb, ltb-true}
use Rattle.std.proofs.lemmas.List.{append_assoc, append-nil}
use Rattle.std.proofs.lemmas.List.Elements.{All-weaker}
use Rattle.nim_base.specs.declared.number.Worker.{Worker}
use Rattle.nim_command.specs.declared.command.Command.{Command}
use Rattle.nim_command.specs.Waits.{Group, commands_of, single_group}
use Rattle.nim_message.specs.declared.order.ToWorker.{ToWorker}
use Rattle.nim_message.specs.Orders.{session_of}
use Rattle.nim_plan.specs.Paired.{ArePaired, Key, keys_received, keys_sent}
use Rattle.nim_place.specs.Extends.{HaveNone, LongerIsPaired, is_live, live_lists, longer, singles_of}
use Rattle.nim_place.specs.Stands.{commands_for}
use Rattle.nim_place.specs.TaskOrders.{AreSoFar}
use Rattle.nim_place.specs.Versions.{Versions}
use Rattle.nim_place.proofs.Held.{for_append}
use Rattle.nim_place.proofs.Keys.{keys_received_more, keys_sent_more, new_received, new_sent}
use Rattle.nim_place.proofs.Places.{both_true}
use Rattle.nim_template.proofs.Bare.{group_of, new_received_append, new_received_by, new_sent_append, new_sent_by}

-- ---- keys from a number on

-- whether a key is of an instance, or of the patch before it
abbrev pub is_key_by : ℕ → ℕ → Key → Bool
is_key_by epoch instance key = (key.epoch == epoch) && (key.instance == instance)

-- whether a key is of an instance, of an entry from one number on and below another one
abbrev pub is_key_between : ℕ → ℕ → ℕ → ℕ → Key → Bool
is_key_between epoch instance low high key = is_key_by epoch instance key && nat_le low key.entry && nat_lt key.entry high

-- by its parts
pub between_is : (epoch instance low high : ℕ) (key : Key) → is_key_by epoch instance key ≡ true → low ≤ key.entry → key.entry < high
    → is_key_between epoch instance low high key ≡ true
between_is epoch instance low high key of least most =
    ap₂ (λ (a b : Bool). a && b) (ap₂ (λ (a b : Bool). a && b) of (le-leb low key.entry least)) (lt-ltb key.entry high most)

-- what such a key is
pub record IsBetween (epoch instance low high : ℕ) (key : Key) : Type 0 where
  pub of : is_key_by epoch instance key ≡ true
  pub least : low ≤ key.entry
  pub most : key.entry < high

-- its parts
pub between_parts : (epoch instance low high : ℕ) (key : Key) → is_key_between epoch instance low high key ≡ true → IsBetween epoch instance low high key
between_parts epoch instance low high key is =
    let both = both_true (is_key_by epoch instance key && nat_le low key.entry) (nat_lt key.entry high) is in
    let first = both_true (is_key_by epoch instance key) (nat_le low key.entry) both.0 in
    record { of = first.0; least = leb-true low key.entry first.1; most = ltb-true key.entry high both.1 }

-- a key between two numbers is between numbers that are further apart
pub between_wider : (epoch instance low high lower higher : ℕ) (key : Key) → lower ≤ low → high ≤ higher
    → is_key_between epoch instance low high key ≡ true → is_key_between epoch instance lower higher key ≡ true
between_wider epoch instance low high lower higher key under over is =
    let parts = between_parts epoch instance low high key is in
    let least = parts.least in
    let most = parts.most in
    between_is epoch instance lower higher key parts.of (omega (arith, under, least)) (omega (arith, over, most))

-- what isn't true is false
not_true : (b : Bool) → (b ≡ true → ⊥) → b ≡ false
not_true true not = absurd (not refl)
not_true false not = refl

-- and not between numbers behind them
between_apart : (epoch instance low high next end : ℕ) (key : Key) → high ≤ next → is_key_between epoch instance low high key ≡ true
    → is_key_between epoch instance next end key ≡ false
between_apart epoch instance low high next end key behind is =
    not_true (is_key_between epoch instance next end key)
    (λ also. (let most = (between_parts epoch instance low high key is).most in
    let least = (between_parts epoch instance next end key also).least in omega (arith, behind, most, least)))

-- fewer keys pass a stronger test
pub have_fewer : (test other : Key → Bool) (live : List Bool) (lists : ℕ → List ToWorker) → ((key : Key) → other key ≡ true → test key ≡ true)
    → HaveNone test live lists → HaveNone other live lists
have_fewer test other live lists stronger none =
    let weaker : (key : Key) → test key ≡ false → other key ≡ false =
    λ key fails. not_true (other key) (λ passes. false≢true (sym fails ∙ stronger key passes)) in
    record {
      sent = λ worker to there.
          All-weaker (λ (key : Key). test key ≡ false) (λ (key : Key). other key ≡ false) weaker (keys_sent to (lists worker.0)) (none.sent worker to there);
      received = λ worker there.
          All-weaker (λ (key : Key). test key ≡ false) (λ (key : Key). other key ≡ false) weaker (keys_received (lists worker.0))
          (none.received worker there);
    }

-- ---- orders that give commands

-- Orders behind others ask for these commands too. Which orders they are is left open; their new keys are of entries from
-- one number to another.
pub record AreGiven (live : List Bool) (epoch instance low high : ℕ) (lists : ℕ → List ToWorker) (given : List (Worker × Command))
    (commands : List (Worker × Command)) (after : Versions) : Type 0 where
  pub next : ℕ → List ToWorker
  pub so_far : AreSoFar live epoch next (given ++ commands) after
  pub sent : (worker to : Worker) → is_live live worker ≡ true
      → keys_sent to (next worker.0)
      ≡ keys_sent to (lists worker.0) ++ new_sent to (group_of epoch instance) (commands_for worker given) (commands_for worker commands)
  pub received : (worker : Worker) → is_live live worker ≡ true
      → keys_received (next worker.0) ≡ keys_received (lists worker.0) ++ new_received (group_of epoch instance) (commands_for worker commands)
  pub paired : ArePaired (live_lists live lists) → HaveNone (is_key_between epoch instance low high) live lists → ArePaired (live_lists live next)
  pub others : (other : Key → Bool) → ((key : Key) → is_key_between epoch instance low high key ≡ true → other key ≡ false) → HaveNone other live lists
      → HaveNone other live next

-- no commands
pub nothing_given : (live : List Bool) (epoch instance low : ℕ) (lists : ℕ → List ToWorker) (given : List (Worker × Command)) (versions : Versions)
    → AreSoFar live epoch lists given versions → AreGiven live epoch instance low low lists given [] versions
nothing_given live epoch instance low lists given versions so_far = record {
  next = lists;
  so_far = subst (λ (all : List (Worker × Command)). AreSoFar live epoch lists all versions) (sym (append-nil given)) so_far;
  sent = λ worker to there. sym (append-nil (keys_sent to (lists worker.0)));
  received = λ worker there. sym (append-nil (keys_received (lists worker.0)));
  paired = λ pairs none. pairs;
  others = λ other apart none. none;
}

-- one step, given by Singles
pub step_given : (live : List Bool) (epoch instance low high : ℕ) (lists : ℕ → List ToWorker) (given commands : List (Worker × Command))
    (versions after : Versions) (test : Key → Bool) → AreSoFar live epoch lists given versions
    → ((key : Key) → test key ≡ true → is_key_between epoch instance low high key ≡ true)
    → AreSoFar live epoch (longer lists (singles_of epoch instance commands)) (given ++ commands) after
    → LongerIsPaired test live lists (singles_of epoch instance commands) → AreGiven live epoch instance low high lists given commands after
step_given live epoch instance low high lists given commands versions after test so_far between on pairs = record {
  next = longer lists (singles_of epoch instance commands);
  so_far = on;
  sent = λ worker to there.
      keys_sent_more to epoch instance (lists worker.0) (commands_for worker commands) (so_far.ask.begun worker there) (so_far.ask.epoch worker there)
      ∙ ap (λ (keys : List Key). keys_sent to (lists worker.0) ++ keys)
      (new_sent_by to (single_group epoch instance (commands_for worker commands)) (commands_of (session_of (lists worker.0)).groups)
      (commands_for worker commands)
      ∙ ap (λ (past : List Command). new_sent to (group_of epoch instance) past (commands_for worker commands)) (so_far.ask.asked worker there));
  received = λ worker there.
      keys_received_more epoch instance (lists worker.0) (commands_for worker commands) (so_far.ask.begun worker there) (so_far.ask.epoch worker there)
      ∙ ap (λ (keys : List Key). keys_received (lists worker.0) ++ keys)
      (new_received_by (single_group epoch instance (commands_for worker commands)) (commands_for worker commands));
  paired = λ all none. pairs.paired all (have_fewer (is_key_between epoch instance low high) test live lists between none);
  others = λ other apart none. pairs.others other (λ key passes. apart key (between key passes)) none;
}

-- one after the other
pub given_then : (live : List Bool) (epoch instance low mid past high : ℕ) (lists : ℕ → List ToWorker) (given first second : List (Worker × Command))
    (between after : Versions) → low ≤ past → mid ≤ past → past ≤ high → (one : AreGiven live epoch instance low mid lists given first between)
    → AreGiven live epoch instance past high one.next (given ++ first) second after → AreGiven live epoch instance low high lists given (first ++ second) after
given_then live epoch instance low mid past high lists given first second between after lower within upper one two = record {
  next = two.next;
  so_far = subst (λ (all : List (Worker × Command)). AreSoFar live epoch two.next all after) (append_assoc given first second) two.so_far;
  sent = λ worker to there.
      let group : Group = group_of epoch instance in
      let olds : List Key = keys_sent to (lists worker.0) in
      let before : List Command = commands_for worker given in
      let xs : List Command = commands_for worker first in
      let ys : List Command = commands_for worker second in
      two.sent worker to there
      ∙ ap₂ (λ (keys : List Key) (all : List Command). keys ++ new_sent to group all ys) (one.sent worker to there) (for_append worker given first)
      ∙ append_assoc olds (new_sent to group before xs) (new_sent to group (before ++ xs) ys)
      ∙ ap (λ (keys : List Key). olds ++ keys)
      (sym (new_sent_append to group before xs ys) ∙ ap (new_sent to group before) (sym (for_append worker first second)));
  received = λ worker there.
      let group : Group = group_of epoch instance in
      let olds : List Key = keys_received (lists worker.0) in
      let xs : List Command = commands_for worker first in
      let ys : List Command = commands_for worker second in
      two.received worker there
      ∙ ap (λ (keys : List Key). keys ++ new_received group ys) (one.received worker there)
      ∙ append_assoc olds (new_received group xs) (new_received group ys)
      ∙ ap (λ (keys : List Key). olds ++ keys) (sym (new_received_append group xs ys) ∙ ap (new_received group) (sym (for_append worker first second)));
  paired = λ all none.
      two.paired
      (one.paired all
      (have_fewer (is_key_between epoch instance low high) (is_key_between epoch instance low mid) live lists
      (λ key is. between_wider epoch instance low mid low high key (omega arith) (omega (arith, within, upper)) is) none))
      (one.others (is_key_between epoch instance past high) (λ key is. between_apart epoch instance low mid past high key within is)
      (have_fewer (is_key_between epoch instance low high) (is_key_between epoch instance past high) live lists
      (λ key is. between_wider epoch instance past high low high key lower (omega arith) is) none));
  others = λ other apart none.
      two.others other (λ key is. apart key (between_wider epoch instance past high low high key lower (omega arith) is))
      (one.others other (λ key is. apart key (between_wider epoch instance low mid low high key (omega arith) (omega (arith, within, upper)) is)) none);
}
