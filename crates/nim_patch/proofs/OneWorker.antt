-- One worker's orders of a patch: what its list comes to with the order that installs its ends, and with a run of them.
use Rattle.std.proofs.Common.{◌≡◌, ℕ, Bool, true, false, List, [], ◌∷◌, ◌++◌, refl, ap, sym, subst, ◌∙◌}
use Rattle.std.specs.Prelude.{◌==◌, All, if◌then◌else◌}
use Rattle.std.proofs.lemmas.Bool.{eq-eqb}
use Rattle.std.proofs.lemmas.List.{append-nil}
use Rattle.std.proofs.lemmas.List.Concat.{flat_map-append}
use Rattle.std.proofs.lemmas.List.Elements.{All-push}
use Rattle.nim_base.specs.declared.number.Worker.{Worker}
use Rattle.nim_command.specs.declared.command.Command.{Command}
use Rattle.nim_command.specs.declared.edit.PatchPart.{PatchPart}
use Rattle.nim_command.specs.Expansion.{patch_commands}
use Rattle.nim_command.specs.Waits.{Group, commands_of}
use Rattle.nim_message.specs.declared.order.ToWorker.{ToWorker}
use Rattle.nim_message.specs.declared.order.ToWorker.TheVariants.{InstallPatch, RunPatch}
use Rattle.nim_message.specs.Orders.{Session, patch_group, session_of, with_group, with_patch}
use Rattle.nim_order.specs.Orders.{IsOrderByRule}
use Rattle.nim_job.specs.declared.job.Job.{Job}
use Rattle.nim_plan.specs.Legal.{AreLegal, IsLegal}
use Rattle.nim_plan.specs.Paired.{Key, keys_received, keys_sent}
use Rattle.nim_plan.proofs.Steps.{by_steps}
use Rattle.nim_patch.specs.Given.{HasParts, install_parts, run_parts}
use Rattle.nim_patch.specs.Parts.{run_commands, versions_taken}
use Rattle.nim_place.specs.Versions.{Versions}
use Rattle.nim_place.proofs.Keys.{keys_received_by, keys_sent_by, new_received, new_sent}
use Rattle.nim_template.proofs.Bare.{group_of, new_received_by, new_sent_by}
use Rattle.nim_template.proofs.OneWorker.{counts}

-- ---- ends that are installed

-- what a list of orders comes to with ends that are installed
pub record IsPatchOut (orders more : List ToWorker) (current patch : ℕ) (parts : List PatchPart) : Type 0 where
  pub begun : (session_of (orders ++ more)).begun ≡ true
  pub epoch : (session_of (orders ++ more)).epoch ≡ current
  pub groups : (session_of (orders ++ more)).groups ≡ (session_of orders).groups
  pub halves : (session_of (orders ++ more)).halves ≡ (session_of orders).halves
  pub installed : HasParts ((session_of (orders ++ more)).patches patch) parts
  pub others : (other : ℕ) → (other == patch) ≡ false → (session_of (orders ++ more)).patches other ≡ (session_of orders).patches other

-- so it does with the order that installs them, or with none where there are no ends
pub patch_out : (epoch patch : ℕ) (parts : List PatchPart) (orders : List ToWorker) → (session_of orders).begun ≡ true → (session_of orders).epoch ≡ epoch
    → IsPatchOut orders (install_parts epoch patch parts) epoch patch parts
patch_out epoch patch [] orders begun same =
    let is : session_of (orders ++ []) ≡ session_of orders = ap session_of (append-nil orders) in
    record {
      begun = ap (λ (s : Session). s.begun) is ∙ begun;
      epoch = ap (λ (s : Session). s.epoch) is ∙ same;
      groups = ap (λ (s : Session). s.groups) is;
      halves = ap (λ (s : Session). s.halves) is;
      installed = tt;
      others = λ other apart. ap (λ (s : Session). s.patches other) is;
    }
patch_out epoch patch (part ∷ parts) orders begun same =
    let session : Session = session_of orders in
    let order : ToWorker = InstallPatch epoch patch (part ∷ parts) in
    let chosen : Bool → List PatchPart → List PatchPart = λ b old. if b then part ∷ parts else old in
    let is : session_of (orders ++ order ∷ []) ≡ with_patch session patch (part ∷ parts) = counts epoch orders order begun same refl in
    record {
      begun = ap (λ (s : Session). s.begun) is ∙ begun;
      epoch = ap (λ (s : Session). s.epoch) is ∙ same;
      groups = ap (λ (s : Session). s.groups) is;
      halves = ap (λ (s : Session). s.halves) is;
      installed = ap (λ (s : Session). s.patches patch) is ∙ ap (λ (b : Bool). chosen b (session.patches patch)) (eq-eqb patch patch refl);
      others = λ other apart. ap (λ (s : Session). s.patches other) is ∙ ap (λ (b : Bool). chosen b (session.patches other)) apart;
    }

-- ---- a run of them

-- what it comes to with commands of a patch that it asks for
pub record IsPatchIn (orders more : List ToWorker) (current instance : ℕ) (commands : List Command) : Type 0 where
  pub begun : (session_of (orders ++ more)).begun ≡ true
  pub epoch : (session_of (orders ++ more)).epoch ≡ current
  pub asked : commands_of (session_of (orders ++ more)).groups ≡ commands_of (session_of orders).groups ++ commands
  pub halves : (session_of (orders ++ more)).halves ≡ (session_of orders).halves
  pub patches : (session_of (orders ++ more)).patches ≡ (session_of orders).patches
  pub sent : (to : Worker) → keys_sent to (orders ++ more)
      ≡ keys_sent to orders ++ new_sent to (group_of current instance) (commands_of (session_of orders).groups) commands
  pub received : keys_received (orders ++ more) ≡ keys_received orders ++ new_received (group_of current instance) commands

-- so it does with the order that runs the ends
pub patch_in : (epoch instance patch : ℕ) (versions : Versions) (parts : List PatchPart) (orders : List ToWorker) → (session_of orders).begun ≡ true
    → (session_of orders).epoch ≡ epoch → HasParts ((session_of orders).patches patch) parts
    → IsPatchIn orders (run_parts epoch instance patch versions parts) epoch instance (run_commands versions parts)
patch_in epoch instance patch versions [] orders begun same has =
    let is : session_of (orders ++ []) ≡ session_of orders = ap session_of (append-nil orders) in
    record {
      begun = ap (λ (s : Session). s.begun) is ∙ begun;
      epoch = ap (λ (s : Session). s.epoch) is ∙ same;
      asked = ap (λ (s : Session). commands_of s.groups) is ∙ sym (append-nil (commands_of (session_of orders).groups));
      halves = ap (λ (s : Session). s.halves) is;
      patches = ap (λ (s : Session). s.patches) is;
      sent = λ to. ap (keys_sent to) (append-nil orders) ∙ sym (append-nil (keys_sent to orders));
      received = ap keys_received (append-nil orders) ∙ sym (append-nil (keys_received orders));
    }
patch_in epoch instance patch versions (part ∷ parts) orders begun same has =
    let all : List PatchPart = part ∷ parts in
    let named : List ℕ = versions_taken versions all in
    let order : ToWorker = RunPatch epoch instance patch named in
    let session : Session = session_of orders in
    let group : Group = patch_group epoch instance named all in
    let own : List PatchPart → Session = λ ps. with_group session (patch_group epoch instance named ps) in
    let is : session_of (orders ++ order ∷ []) ≡ own all = counts epoch orders order begun same refl ∙ ap own has in
    let groups : (session_of (orders ++ order ∷ [])).groups ≡ session.groups ++ group ∷ [] = ap (λ (s : Session). s.groups) is in
    record {
      begun = ap (λ (s : Session). s.begun) is ∙ begun;
      epoch = ap (λ (s : Session). s.epoch) is ∙ same;
      asked =
          ap commands_of groups ∙ flat_map-append (λ (g : Group). g.commands) session.groups (group ∷ [])
          ∙ ap (λ (rest : List Command). commands_of session.groups ++ rest) (append-nil group.commands);
      halves = ap (λ (s : Session). s.halves) is;
      patches = ap (λ (s : Session). s.patches) is;
      sent = λ to.
          keys_sent_by to orders (order ∷ []) group groups
          ∙ ap (λ (keys : List Key). keys_sent to orders ++ keys) (new_sent_by to group (commands_of session.groups) group.commands);
      received =
          keys_received_by orders (order ∷ []) group groups
          ∙ ap (λ (keys : List Key). keys_received orders ++ keys) (new_received_by group group.commands);
    }

-- ---- before sets

-- an order that installs ends has no before sets
pub install_ruled : (epoch patch : ℕ) (parts : List PatchPart) (orders : List ToWorker) → All IsOrderByRule orders
    → All IsOrderByRule (orders ++ install_parts epoch patch parts)
install_ruled epoch patch [] orders rule = subst (All IsOrderByRule) (sym (append-nil orders)) rule
install_ruled epoch patch (part ∷ parts) orders rule = All-push IsOrderByRule orders (InstallPatch epoch patch (part ∷ parts)) rule tt

-- nor has one that runs them: theirs are made by the rule
pub run_ruled : (epoch instance patch : ℕ) (versions : Versions) (parts : List PatchPart) (orders : List ToWorker) → All IsOrderByRule orders
    → All IsOrderByRule (orders ++ run_parts epoch instance patch versions parts)
run_ruled epoch instance patch versions [] orders rule = subst (All IsOrderByRule) (sym (append-nil orders)) rule
run_ruled epoch instance patch versions (part ∷ parts) orders rule =
    All-push IsOrderByRule orders (RunPatch epoch instance patch (versions_taken versions (part ∷ parts))) rule tt

-- ---- what is legal

-- ends may be installed
pub install_legal : (job : Job) (epoch patch : ℕ) (parts : List PatchPart) (orders : List ToWorker) → (session_of orders).begun ≡ true
    → (session_of orders).epoch ≡ epoch → IsLegal job orders → IsLegal job (orders ++ install_parts epoch patch parts)
install_legal job epoch patch [] orders begun same before = subst (IsLegal job) (sym (append-nil orders)) before
install_legal job epoch patch (part ∷ parts) orders begun same before =
    by_steps.longer job orders (InstallPatch epoch patch (part ∷ parts)) before (begun, sym same, tt)

-- and run where their commands are legal
pub run_legal : (job : Job) (epoch instance patch : ℕ) (versions : Versions) (parts : List PatchPart) (orders : List ToWorker)
    → (session_of orders).begun ≡ true → (session_of orders).epoch ≡ epoch → HasParts ((session_of orders).patches patch) parts
    → AreLegal job (commands_of (session_of orders).groups) (run_commands versions parts) → IsLegal job orders
    → IsLegal job (orders ++ run_parts epoch instance patch versions parts)
run_legal job epoch instance patch versions [] orders begun same has legal is = subst (IsLegal job) (sym (append-nil orders)) is
run_legal job epoch instance patch versions (part ∷ parts) orders begun same has legal is =
    let named : List ℕ = versions_taken versions (part ∷ parts) in
    by_steps.longer job orders (RunPatch epoch instance patch named) is (
      begun,
      sym same,
      subst (λ (ps : List PatchPart). AreLegal job (commands_of (session_of orders).groups) (patch_commands named ps)) (sym has) legal,
    )
