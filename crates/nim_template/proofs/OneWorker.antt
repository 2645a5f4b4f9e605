-- One worker's orders of a template: what its list comes to with the order that installs its half, and with an instance.
use Rattle.std.proofs.Common.{◌≡◌, ℕ, Bool, true, List, [], ◌∷◌, ◌++◌, refl, ap, sym, subst, ◌∙◌}
use Rattle.std.specs.Prelude.{◌==◌, ◌&&◌, All, if◌then◌else◌, ℤ}
use Rattle.std.specs.List.{flat_map}
use Rattle.std.proofs.lemmas.Bool.{and_from, eq-eqb}
use Rattle.std.proofs.lemmas.List.{append-nil}
use Rattle.std.proofs.lemmas.List.Concat.{flat_map-append}
use Rattle.std.proofs.lemmas.List.Elements.{All-push}
use Rattle.std.proofs.lemmas.List.Sums.{fold_push}
use Rattle.nim_base.specs.declared.number.Object.{Object}
use Rattle.nim_base.specs.declared.number.Worker.{Worker}
use Rattle.nim_command.specs.declared.command.Command.{Command}
use Rattle.nim_command.specs.declared.entry.Entry.{Entry}
use Rattle.nim_command.specs.Expansion.{expanded}
use Rattle.nim_command.specs.Waits.{Group, commands_of}
use Rattle.nim_message.specs.declared.order.ToWorker.{ToWorker}
use Rattle.nim_message.specs.declared.order.ToWorker.TheVariants.{InstallTemplate, Instantiate}
use Rattle.nim_message.specs.Orders.{Session, after_order, counted, does_count, instance_group, no_session, session_of, with_group, with_half}
use Rattle.nim_order.specs.Orders.{AreEntriesByRule, IsOrderByRule}
use Rattle.nim_job.specs.declared.job.Job.{Job}
use Rattle.nim_plan.specs.Legal.{AreLegal, IsLegal}
use Rattle.nim_plan.specs.Paired.{Key, keys_received, keys_sent}
use Rattle.nim_plan.proofs.Listed.{order_counts}
use Rattle.nim_plan.proofs.Steps.{by_steps}
use Rattle.nim_place.specs.Sound.{version_named}
use Rattle.nim_place.proofs.Keys.{keys_received_by, keys_sent_by, new_received, new_sent}
use Rattle.nim_template.specs.Given.{IsInstalled, install_with, instance_with}
use Rattle.nim_template.proofs.Bare.{group_of, new_received_by, new_sent_by}
use Rattle.nim_template.proofs.Entries.{own_commands}

-- a half that is installed
pub record IsOutFor (orders more : List ToWorker) (current block : ℕ) (half : List Entry) : Type 0 where
  pub begun : (session_of (orders ++ more)).begun ≡ true
  pub epoch : (session_of (orders ++ more)).epoch ≡ current
  pub groups : (session_of (orders ++ more)).groups ≡ (session_of orders).groups
  pub installed : IsInstalled ((session_of (orders ++ more)).halves block) half

-- an order of the session's epoch counts
pub counts : (epoch : ℕ) (orders : List ToWorker) (order : ToWorker) → (session_of orders).begun ≡ true → (session_of orders).epoch ≡ epoch
    → does_count (session_of orders) order ≡ ((session_of orders).begun && (epoch == (session_of orders).epoch))
    → session_of (orders ++ order ∷ []) ≡ counted (session_of orders) order
counts epoch orders order begun same is =
    fold_push after_order no_session orders order
    ∙ order_counts (session_of orders) order
    (is ∙ and_from (session_of orders).begun (epoch == (session_of orders).epoch) begun (eq-eqb epoch (session_of orders).epoch (sym same)))

pub out_for : (epoch block : ℕ) (half : List Entry) (orders : List ToWorker) → (session_of orders).begun ≡ true → (session_of orders).epoch ≡ epoch
    → IsOutFor orders (install_with epoch block half) epoch block half
out_for epoch block [] orders begun same =
    let is : session_of (orders ++ []) ≡ session_of orders = ap session_of (append-nil orders) in
    record {
      begun = ap (λ (s : Session). s.begun) is ∙ begun;
      epoch = ap (λ (s : Session). s.epoch) is ∙ same;
      groups = ap (λ (s : Session). s.groups) is;
      installed = tt;
    }
out_for epoch block (entry ∷ entries) orders begun same =
    let is : session_of (orders ++ InstallTemplate epoch block (entry ∷ entries) ∷ []) ≡ with_half (session_of orders) block (entry ∷ entries) =
    counts epoch orders (InstallTemplate epoch block (entry ∷ entries)) begun same refl in
    record {
      begun = ap (λ (s : Session). s.begun) is ∙ begun;
      epoch = ap (λ (s : Session). s.epoch) is ∙ same;
      groups = ap (λ (s : Session). s.groups) is;
      installed = ap (λ (s : Session). s.halves block) is ∙ ap (λ (b : Bool). if b then entry ∷ entries else (session_of orders).halves block)
          (eq-eqb block block refl);
    }

-- an instance of a half
pub record IsInFor (orders more : List ToWorker) (current instance block : ℕ) (half : List Entry) (commands : List Command) : Type 0 where
  pub begun : (session_of (orders ++ more)).begun ≡ true
  pub epoch : (session_of (orders ++ more)).epoch ≡ current
  pub asked : commands_of (session_of (orders ++ more)).groups ≡ commands_of (session_of orders).groups ++ commands
  pub installed : IsInstalled ((session_of (orders ++ more)).halves block) half
  pub sent : (to : Worker) → keys_sent to (orders ++ more)
      ≡ keys_sent to orders ++ new_sent to (group_of current instance) (commands_of (session_of orders).groups) commands
  pub received : keys_received (orders ++ more) ≡ keys_received orders ++ new_received (group_of current instance) commands

pub in_for : (epoch instance block base : ℕ) (args : List ℤ) (before : Object → ℕ) (half : List Entry) (orders : List ToWorker)
    → (session_of orders).begun ≡ true → (session_of orders).epoch ≡ epoch → IsInstalled ((session_of orders).halves block) half
    → IsInFor orders (instance_with epoch instance block base args before half) epoch instance block half (own_commands before base args half)
in_for epoch instance block base args before [] orders begun same has =
    let is : session_of (orders ++ []) ≡ session_of orders = ap session_of (append-nil orders) in
    record {
      begun = ap (λ (s : Session). s.begun) is ∙ begun;
      epoch = ap (λ (s : Session). s.epoch) is ∙ same;
      asked = ap (λ (s : Session). commands_of s.groups) is ∙ sym (append-nil (commands_of (session_of orders).groups));
      installed = tt;
      sent = λ to. ap (keys_sent to) (append-nil orders) ∙ sym (append-nil (keys_sent to orders));
      received = ap keys_received (append-nil orders) ∙ sym (append-nil (keys_received orders));
    }
in_for epoch instance block base args before (entry ∷ entries) orders begun same has =
    let half : List Entry = entry ∷ entries in
    let versions : List ℕ = flat_map (λ (e : Entry). version_named before e.kind) half in
    let order : ToWorker = Instantiate epoch instance block base args versions [] in
    let session : Session = session_of orders in
    let own : List Entry → Session = λ h. with_group (with_half session block h) (instance_group epoch instance base args versions h) in
    let group : Group = instance_group epoch instance base args versions half in
    let is : session_of (orders ++ order ∷ []) ≡ own half = counts epoch orders order begun same refl ∙ ap own has in
    let groups : (session_of (orders ++ order ∷ [])).groups ≡ session.groups ++ group ∷ [] = ap (λ (s : Session). s.groups) is in
    record {
      begun = ap (λ (s : Session). s.begun) is ∙ begun;
      epoch = ap (λ (s : Session). s.epoch) is ∙ same;
      asked =
          ap commands_of groups ∙ flat_map-append (λ (g : Group). g.commands) session.groups (group ∷ [])
          ∙ ap (λ (rest : List Command). commands_of session.groups ++ rest) (append-nil group.commands);
      installed = ap (λ (s : Session). s.halves block) is ∙ ap (λ (b : Bool). if b then half else session.halves block) (eq-eqb block block refl);
      sent = λ to.
          keys_sent_by to orders (order ∷ []) group groups
          ∙ ap (λ (keys : List Key). keys_sent to orders ++ keys) (new_sent_by to group (commands_of session.groups) group.commands);
      received =
          keys_received_by orders (order ∷ []) group groups
          ∙ ap (λ (keys : List Key). keys_received orders ++ keys) (new_received_by group group.commands);
    }

-- ---- before sets

pub install_ruled : (epoch block : ℕ) (half : List Entry) (orders : List ToWorker) → AreEntriesByRule half → All IsOrderByRule orders
    → All IsOrderByRule (orders ++ install_with epoch block half)
install_ruled epoch block [] orders ruled rule = subst (All IsOrderByRule) (sym (append-nil orders)) rule
install_ruled epoch block (entry ∷ entries) orders ruled rule = All-push IsOrderByRule orders (InstallTemplate epoch block (entry ∷ entries)) rule ruled

pub instance_ruled : (epoch instance block base : ℕ) (args : List ℤ) (before : Object → ℕ) (half : List Entry) (orders : List ToWorker)
    → All IsOrderByRule orders → All IsOrderByRule (orders ++ instance_with epoch instance block base args before half)
instance_ruled epoch instance block base args before [] orders rule = subst (All IsOrderByRule) (sym (append-nil orders)) rule
instance_ruled epoch instance block base args before (entry ∷ entries) orders rule =
    All-push IsOrderByRule orders
    (Instantiate epoch instance block base args (flat_map (λ (e : Entry). version_named before e.kind) (entry ∷ entries)) []) rule tt

-- ---- what is legal

pub install_legal : (job : Job) (epoch block : ℕ) (half : List Entry) (orders : List ToWorker) → (session_of orders).begun ≡ true
    → (session_of orders).epoch ≡ epoch → IsLegal job orders → IsLegal job (orders ++ install_with epoch block half)
install_legal job epoch block [] orders begun same before = subst (IsLegal job) (sym (append-nil orders)) before
install_legal job epoch block (entry ∷ entries) orders begun same before =
    by_steps.longer job orders (InstallTemplate epoch block (entry ∷ entries)) before (begun, sym same, tt)

pub instance_legal : (job : Job) (epoch instance block base : ℕ) (args : List ℤ) (before : Object → ℕ) (half : List Entry) (orders : List ToWorker)
    → (session_of orders).begun ≡ true → (session_of orders).epoch ≡ epoch → IsInstalled ((session_of orders).halves block) half
    → AreLegal job (commands_of (session_of orders).groups) (own_commands before base args half) → IsLegal job orders
    → IsLegal job (orders ++ instance_with epoch instance block base args before half)
instance_legal job epoch instance block base args before [] orders begun same has legal is = subst (IsLegal job) (sym (append-nil orders)) is
instance_legal job epoch instance block base args before (entry ∷ entries) orders begun same has legal is =
    let half : List Entry = entry ∷ entries in
    let versions : List ℕ = flat_map (λ (e : Entry). version_named before e.kind) half in
    by_steps.longer job orders (Instantiate epoch instance block base args versions []) is (
      begun,
      sym same,
      subst (λ (h : List Entry). AreLegal job (commands_of (session_of orders).groups) (expanded base args versions 0 h)) (sym has) legal,
    )
