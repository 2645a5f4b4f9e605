-- Lists of orders that get longer by Singles.
use Rattle.std.proofs.Common.{◌≡◌, ℕ, Bool, true, false, List, [], ◌∷◌, ◌++◌, map, refl, ap, ap₂, sym, subst, ◌∙◌}
use Rattle.std.specs.Prelude.{◌==◌, if◌then◌else◌, All}
use Rattle.std.specs.List.{AllByRecursion, filter}
use Rattle.std.proofs.lemmas.Bool.{and_from, eq-eqb, eqb-true, false≢true}
use Rattle.std.proofs.lemmas.List.{append-nil}
use Rattle.std.proofs.lemmas.List.Concat.{flat_map-append}
use Rattle.std.proofs.lemmas.List.Elements.{All-push}
use Rattle.std.proofs.lemmas.List.Sums.{fold_push}
use Rattle.nim_base.specs.declared.number.Object.{Object}
use Rattle.nim_base.specs.declared.number.Worker.{Worker}
use Rattle.nim_base.specs.declared.task.Task.{Task}
use Rattle.nim_command.specs.declared.command.Command.{Command}
use Rattle.nim_command.specs.Before.{IsByRule}
use Rattle.nim_command.specs.Waits.{Group, commands_of, single_group}
use Rattle.nim_message.specs.declared.order.ToWorker.{ToWorker}
use Rattle.nim_message.specs.declared.order.ToWorker.TheVariants.{Single}
use Rattle.nim_message.specs.Orders.{Session, after_order, no_session, session_of, with_group}
use Rattle.nim_order.specs.Orders.{IsOrderByRule}
use Rattle.nim_order.proofs.Sessions.{orders_cover}
use Rattle.nim_job.specs.declared.job.Job.{Job}
use Rattle.nim_plan.specs.Legal.{AreLegal, IsLegal}
use Rattle.nim_plan.proofs.Listed.{order_counts}
use Rattle.nim_plan.proofs.Steps.{by_steps}
use Rattle.nim_place.specs.declared.schedule.Moved.{Moved}
use Rattle.nim_place.specs.Extends.{AskFor, is_live, longer, single_with, singles_of}
use Rattle.nim_place.specs.Schedule.{copies_of, moves, run_of}
use Rattle.nim_place.specs.Stands.{AreByRule, commands_for}
use Rattle.nim_place.specs.TaskOrders.{AsksForMore, StaysCovered}
use Rattle.nim_place.specs.Versions.{Versions, is_current}
use Rattle.nim_base.proofs.Lists.{each_append}
use Rattle.nim_place.proofs.Held.{AreHeld, for_append, holder_lives, moves_held}

-- behind a Single of the session's epoch there is one more group
pub single_counts : (epoch instance : ℕ) (orders : List ToWorker) (commands : List Command) → (session_of orders).begun ≡ true
    → (session_of orders).epoch ≡ epoch
    → session_of (orders ++ Single epoch instance commands ∷ []) ≡ with_group (session_of orders) (single_group epoch instance commands)
single_counts epoch instance orders commands begun same =
    fold_push after_order no_session orders (Single epoch instance commands)
    ∙ order_counts (session_of orders) (Single epoch instance commands)
    (and_from (session_of orders).begun (epoch == (session_of orders).epoch) begun (eq-eqb epoch (session_of orders).epoch (sym same)))

-- a session goes on, and asks for these commands too
record IsOn (orders : List ToWorker) (current : ℕ) (commands : List Command) : Type 0 where
  begun : (session_of orders).begun ≡ true
  epoch : (session_of orders).epoch ≡ current
  asked : commands_of (session_of orders).groups ≡ commands

single_on : (epoch instance : ℕ) (orders : List ToWorker) (commands : List Command) → (session_of orders).begun ≡ true → (session_of orders).epoch ≡ epoch
    → IsOn (orders ++ single_with epoch instance commands) epoch (commands_of (session_of orders).groups ++ commands)
single_on epoch instance orders [] begun same =
    subst (λ (all : List ToWorker). IsOn all epoch (commands_of (session_of orders).groups ++ [])) (sym (append-nil orders))
    (record { begun = begun; epoch = same; asked = sym (append-nil (commands_of (session_of orders).groups)) })
single_on epoch instance orders (c ∷ cs) begun same =
    let groups : List Group = (session_of orders).groups in
    let group : Group = single_group epoch instance (c ∷ cs) in
    let is = single_counts epoch instance orders (c ∷ cs) begun same in
    record {
      begun = ap (λ (s : Session). s.begun) is ∙ begun;
      epoch = ap (λ (s : Session). s.epoch) is ∙ same;
      asked =
          ap (λ (s : Session). commands_of s.groups) is ∙ flat_map-append (λ (g : Group). g.commands) groups (group ∷ [])
          ∙ ap (λ (rest : List Command). commands_of groups ++ rest) (append-nil (c ∷ cs));
    }

-- ---- who has commands

-- a worker that isn't live has none of the commands of live ones
dead_has_none : (live : List Bool) (worker : Worker) (commands : List (Worker × Command))
    → AllByRecursion (λ (c : Worker × Command). is_live live c.0 ≡ true) commands → is_live live worker ≡ false → commands_for worker commands ≡ []
dead_has_none live worker [] all dead = refl
dead_has_none live worker (c ∷ cs) all dead =
    let others : List (Worker × Command) = filter (λ (d : Worker × Command). d.0.0 == worker.0) cs in
    ap (λ (b : Bool). map (λ (d : Worker × Command). d.1) (if b then c ∷ others else others)) (apart (c.0.0 == worker.0) refl)
    ∙ dead_has_none live worker cs all.1 dead where
      apart : (b : Bool) → (c.0.0 == worker.0) ≡ b → b ≡ false
      apart true same =
          absurd (false≢true (sym dead ∙ ap (λ (n : ℕ). is_live live (record { 0 = n })) (sym (eqb-true c.0.0 worker.0 same)) ∙ all.0))
      apart false other = refl

-- a task's commands are of live workers
copies_live : (versions : Versions) (live : List Bool) (number : ℕ) (owner : Worker) (ms : List Moved) → is_live live owner ≡ true
    → ((object : Object) (from : Worker) → is_current versions object from ≡ true → is_live live from ≡ true) → AreHeld versions ms
    → AllByRecursion (λ (c : Worker × Command). is_live live c.0 ≡ true) (copies_of versions number owner ms)
copies_live versions live number owner [] owns lives are = tt
copies_live versions live number owner (m ∷ ms) owns lives are =
    (lives m.object m.from are.0, (owns, copies_live versions live number owner ms owns lives are.1))

-- ---- longer lists

-- they ask for the commands too
pub singles_ask : (live : List Bool) (epoch instance : ℕ) (lists : ℕ → List ToWorker) (given commands : List (Worker × Command)) → AskFor live epoch lists given
    → AllByRecursion (λ (c : Worker × Command). is_live live c.0 ≡ true) commands
    → AskFor live epoch (longer lists (singles_of epoch instance commands)) (given ++ commands)
singles_ask live epoch instance lists given commands ask all = record {
  begun = λ worker there. (on worker there).begun;
  epoch = λ worker there. (on worker there).epoch;
  asked = λ worker there.
      (on worker there).asked ∙ ap (λ (past : List Command). past ++ commands_for worker commands) (ask.asked worker there)
      ∙ sym (for_append worker given commands);
  none = λ worker dead.
      for_append worker given commands
      ∙ ap₂ (λ (xs ys : List Command). xs ++ ys) (ask.none worker dead) (dead_has_none live worker commands all dead);
} where
  on : (worker : Worker) → is_live live worker ≡ true
      → IsOn (lists worker.0 ++ single_with epoch instance (commands_for worker commands)) epoch
      (commands_of (session_of (lists worker.0)).groups ++ commands_for worker commands)
  on worker there = single_on epoch instance (lists worker.0) (commands_for worker commands) (ask.begun worker there) (ask.epoch worker there)

pub schedule_asks : (versions : Versions) (live : List Bool) (owner : Worker) (task : Task) (number position : ℕ) (commands : List (Worker × Command))
    → is_live live owner ≡ true
    → commands ≡ copies_of versions number owner (moves versions owner [] task.reads) ++
    (owner, run_of task number position (moves versions owner [] task.reads)) ∷ []
    → AsksForMore versions live commands
schedule_asks versions live owner task number position commands owns is epoch instance lists given so_far =
    let moved : List Moved = moves versions owner [] task.reads in
    let run : List (Worker × Command) = (owner, run_of task number position moved) ∷ [] in
    singles_ask live epoch instance lists given commands so_far.ask
    (subst (AllByRecursion (λ (c : Worker × Command). is_live live c.0 ≡ true)) (sym is)
    (each_append (λ (c : Worker × Command). is_live live c.0 ≡ true) (copies_of versions number owner moved) run
    (copies_live versions live number owner moved owns
    (λ object from current. holder_lives versions live epoch lists given object from so_far.stands so_far.ask current) (moves_held versions owner task.reads))
    (owns, tt)))

-- they have the before sets of the rule
single_ruled : (epoch instance : ℕ) (orders : List ToWorker) (commands : List Command) → All IsOrderByRule orders → IsByRule commands
    → All IsOrderByRule (orders ++ single_with epoch instance commands)
single_ruled epoch instance orders [] rule ruled = subst (All IsOrderByRule) (sym (append-nil orders)) rule
single_ruled epoch instance orders (c ∷ cs) rule ruled = All-push IsOrderByRule orders (Single epoch instance (c ∷ cs)) rule ruled

pub singles_covered : (commands : List (Worker × Command)) → AreByRule commands → StaysCovered commands
singles_covered commands ruled epoch instance lists worker rule =
    let all = single_ruled epoch instance (lists worker.0) (commands_for worker commands) rule (ruled worker) in
    record { by_rule = all; covered = orders_cover (longer lists (singles_of epoch instance commands) worker.0) all }

-- they are legal where the commands are
pub single_legal : (job : Job) (epoch instance : ℕ) (orders : List ToWorker) (commands : List Command) → (session_of orders).begun ≡ true
    → (session_of orders).epoch ≡ epoch
    → AreLegal job (commands_of (session_of orders).groups) commands → IsLegal job orders → IsLegal job (orders ++ single_with epoch instance commands)
single_legal job epoch instance orders [] begun same legal before = subst (IsLegal job) (sym (append-nil orders)) before
single_legal job epoch instance orders (c ∷ cs) begun same legal before =
    by_steps.longer job orders (Single epoch instance (c ∷ cs)) before (begun, sym same, legal)
