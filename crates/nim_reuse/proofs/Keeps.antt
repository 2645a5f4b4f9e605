-- What a worker keeps of halves and patches behind the orders of a template, and behind Singles.
use Rattle.std.proofs.Common.{◌≡◌, ℕ, Bool, true, false, List, [], ◌∷◌, ◌++◌, refl, ap, ◌∙◌}
use Rattle.std.specs.Prelude.{◌==◌, All, if◌then◌else◌, ℤ}
use Rattle.std.specs.List.{AllByRecursion, flat_map, fold}
use Rattle.std.proofs.lemmas.List.{append-nil}
use Rattle.std.proofs.lemmas.List.Elements.{recursion_from_All}
use Rattle.std.proofs.lemmas.List.Sums.{fold-append}
use Rattle.nim_base.specs.declared.number.Object.{Object}
use Rattle.nim_command.specs.declared.entry.Entry.{Entry}
use Rattle.nim_command.specs.Waits.{single_group}
use Rattle.nim_message.specs.declared.order.ToWorker.{ToWorker}
use Rattle.nim_message.specs.declared.order.ToWorker.TheVariants.{Single, InstallTemplate, Instantiate, InstallPatch, RunPatch, Reset, Stop}
use Rattle.nim_message.specs.Orders.{Session, after_order, is_current, no_session, session_of, with_group}
use Rattle.nim_place.specs.Sound.{version_named}
use Rattle.nim_template.specs.Given.{install_with, instance_with}
use Rattle.nim_template.proofs.OneWorker.{counts}
use Rattle.nim_reuse.specs.GoesOn.{IsSingle}

-- the halves of other blocks, and all patches
pub record IsKeptBy (orders more : List ToWorker) (block : ℕ) : Type 0 where
  pub halves : (other : ℕ) → (other == block) ≡ false → (session_of (orders ++ more)).halves other ≡ (session_of orders).halves other
  pub patches : (session_of (orders ++ more)).patches ≡ (session_of orders).patches

-- no more orders keep them
kept_by_none : (orders : List ToWorker) (block : ℕ) → IsKeptBy orders [] block
kept_by_none orders block =
    let is : session_of (orders ++ []) ≡ session_of orders = ap session_of (append-nil orders) in
    record { halves = λ other apart. ap (λ (s : Session). s.halves other) is; patches = ap (λ (s : Session). s.patches) is }

-- an order that installs a half keeps them
pub install_keeps : (epoch block : ℕ) (half : List Entry) (orders : List ToWorker) → (session_of orders).begun ≡ true → (session_of orders).epoch ≡ epoch
    → IsKeptBy orders (install_with epoch block half) block
install_keeps epoch block [] orders begun same = kept_by_none orders block
install_keeps epoch block (entry ∷ entries) orders begun same =
    let is = counts epoch orders (InstallTemplate epoch block (entry ∷ entries)) begun same refl in
    record {
      halves = λ other apart.
          ap (λ (s : Session). s.halves other) is ∙ ap (λ (b : Bool). if b then entry ∷ entries else (session_of orders).halves other) apart;
      patches = ap (λ (s : Session). s.patches) is;
    }

-- so does an instance
pub instance_keeps : (epoch instance block base : ℕ) (args : List ℤ) (before : Object → ℕ) (half : List Entry) (orders : List ToWorker)
    → (session_of orders).begun ≡ true → (session_of orders).epoch ≡ epoch
    → IsKeptBy orders (instance_with epoch instance block base args before half) block
instance_keeps epoch instance block base args before [] orders begun same = kept_by_none orders block
instance_keeps epoch instance block base args before (entry ∷ entries) orders begun same =
    let versions : List ℕ = flat_map (λ (e : Entry). version_named before e.kind) (entry ∷ entries) in
    let is = counts epoch orders (Instantiate epoch instance block base args versions []) begun same refl in
    record {
      halves = λ other apart.
          ap (λ (s : Session). s.halves other) is
          ∙ ap (λ (b : Bool). if b then (session_of orders).halves block else (session_of orders).halves other) apart;
      patches = ap (λ (s : Session). s.patches) is;
    }

-- ---- Singles

-- two sessions have the same halves and patches
pub record AreAlike (before after : Session) : Type 0 where
  pub halves : after.halves ≡ before.halves
  pub patches : after.patches ≡ before.patches

-- a Single leaves them
single_alike : (session : Session) (order : ToWorker) → IsSingle order → AreAlike session (after_order session order)
single_alike session (Single epoch instance commands) is = by (is_current session epoch) where
  by : (b : Bool) → AreAlike session (if b then with_group session (single_group epoch instance commands) else session)
  by true = record { halves = refl; patches = refl }
  by false = record { halves = refl; patches = refl }
single_alike session (InstallTemplate epoch block entries) is = absurd is
single_alike session (Instantiate epoch instance block base args versions edits) is = absurd is
single_alike session (InstallPatch epoch patch copies) is = absurd is
single_alike session (RunPatch epoch instance patch versions) is = absurd is
single_alike session (Reset epoch worker workers shapes) is = absurd is
single_alike session Stop is = absurd is

-- so do many
singles_alike : (session : Session) (more : List ToWorker) → AllByRecursion IsSingle more → AreAlike session (fold after_order session more)
singles_alike session [] are = record { halves = refl; patches = refl }
singles_alike session (order ∷ more) are =
    let one = single_alike session order are.0 in
    let rest = singles_alike (after_order session order) more are.1 in
    record { halves = rest.halves ∙ one.halves; patches = rest.patches ∙ one.patches }

-- behind orders so far
pub singles_keep : (orders more : List ToWorker) → All IsSingle more → AreAlike (session_of orders) (session_of (orders ++ more))
singles_keep orders more are =
    let is = fold-append after_order no_session orders more in
    let same = singles_alike (session_of orders) more (recursion_from_All IsSingle more are) in
    record { halves = ap (λ (s : Session). s.halves) is ∙ same.halves; patches = ap (λ (s : Session). s.patches) is ∙ same.patches }
