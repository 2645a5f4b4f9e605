-- One worker's order of an instance that carries edits: what its list comes to with it.
use Rattle.std.proofs.Common.{◌≡◌, ℕ, ◌<◌, Bool, true, false, List, [], ◌∷◌, ◌++◌, get_or, length, map, refl, ap, sym, subst, ◌∙◌, arith}
use Rattle.std.specs.Prelude.{◌==◌, All, if◌then◌else◌, ℤ}
use Rattle.std.specs.List.{filter, flat_map, fold}
use Rattle.std.proofs.lemmas.Bool.{eq-eqb, eqb-false, eqb-true}
use Rattle.std.proofs.lemmas.List.{append-nil, get_or-set_other, get_or-set_same, length-set}
use Rattle.std.proofs.lemmas.List.Concat.{flat_map-append}
use Rattle.std.proofs.lemmas.List.Elements.{All-push}
use Rattle.nim_base.specs.declared.number.Object.{Object}
use Rattle.nim_base.specs.declared.number.Worker.{Worker}
use Rattle.nim_command.specs.declared.command.Command.{Command}
use Rattle.nim_command.specs.declared.edit.Edit.{Edit}
use Rattle.nim_command.specs.declared.entry.Entry.{Entry}
use Rattle.nim_command.specs.Edits.{edited, edited_by}
use Rattle.nim_command.specs.Expansion.{expanded}
use Rattle.nim_command.specs.Waits.{Group, commands_of}
use Rattle.nim_message.specs.declared.order.ToWorker.{ToWorker}
use Rattle.nim_message.specs.declared.order.ToWorker.TheVariants.{Instantiate}
use Rattle.nim_message.specs.Orders.{Session, instance_group, session_of, with_group, with_half}
use Rattle.nim_order.specs.Orders.{IsOrderByRule}
use Rattle.nim_job.specs.declared.job.Job.{Job}
use Rattle.nim_plan.specs.Legal.{AreLegal, IsLegal}
use Rattle.nim_plan.specs.Paired.{Key, keys_received, keys_sent}
use Rattle.nim_plan.proofs.Steps.{by_steps}
use Rattle.nim_place.specs.Sound.{version_named}
use Rattle.nim_place.proofs.Keys.{keys_received_by, keys_sent_by}
use Rattle.nim_template.specs.Given.{IsInstalled}
use Rattle.nim_template.proofs.Bare.{new_received_by, new_sent_by}
use Rattle.nim_template.proofs.Entries.{own_commands}
use Rattle.nim_template.proofs.OneWorker.{IsInFor, counts, in_for}
use Rattle.nim_edit.specs.Carried.{carried_with, carrying, edits_for}
use Rattle.nim_edit.specs.Moves.{with_edit}

-- ---- the half with its edits

pub edited_for : (sent : List (List Entry)) (edits : List (Worker × Edit)) (number : ℕ) → number < length sent
    → get_or (fold with_edit sent edits) number [] ≡ edited_by (edits_for edits number) (get_or sent number [])
edited_for sent [] number below = refl
edited_for sent (e ∷ edits) number below =
    edited_for (with_edit sent e) edits number (omega (arith, length-set sent e.0.0 (edited e.1 (get_or sent e.0.0 [])), below))
    ∙ either (e.0.0 == number) refl where
      mine : List (Worker × Edit)
      mine = filter (λ (d : Worker × Edit). d.0.0 == number) edits

      only : List (Worker × Edit) → List Edit
      only es = map (λ (d : Worker × Edit). d.1) es

      either : (b : Bool) → (e.0.0 == number) ≡ b
          → edited_by (only mine) (get_or (with_edit sent e) number [])
          ≡ edited_by (only (if e.0.0 == number then e ∷ mine else mine)) (get_or sent number [])
      either true here =
          let same : e.0.0 ≡ number = eqb-true e.0.0 number here in
          ap (edited_by (only mine))
          (ap (λ (n : ℕ). get_or (with_edit sent e) n []) (sym same)
          ∙ get_or-set_same sent e.0.0 (edited e.1 (get_or sent e.0.0 [])) [] (omega (arith, same, below))
          ∙ ap (λ (n : ℕ). edited e.1 (get_or sent n [])) same)
          ∙ sym (ap (λ (b : Bool). edited_by (only (if b then e ∷ mine else mine)) (get_or sent number [])) here)
      either false apart =
          ap (edited_by (only mine))
          (get_or-set_other sent e.0.0 number (edited e.1 (get_or sent e.0.0 [])) [] (λ same. eqb-false e.0.0 number apart (sym same)))
          ∙ sym (ap (λ (b : Bool). edited_by (only (if b then e ∷ mine else mine)) (get_or sent number [])) apart)

-- ---- the order

installed_of : (now half : List Entry) → now ≡ half → IsInstalled now half
installed_of now [] is = tt
installed_of now (entry ∷ entries) is = is

-- a list with an order that carries edits
pub record IsCarriedBy (orders : List ToWorker) (epoch instance block base : ℕ) (args : List ℤ) (before : Object → ℕ) (edits : List Edit)
    (half : List Entry) : Type 0 where
  pub list : IsInFor orders (carried_with epoch instance block base args before edits half) epoch instance block half (own_commands before base args half)
  pub half_is : (session_of (orders ++ carried_with epoch instance block base args before edits half)).halves block ≡ half

carried_order : (epoch instance block base : ℕ) (args : List ℤ) (before : Object → ℕ) (edits : List Edit) (half : List Entry) (orders : List ToWorker)
    → (session_of orders).begun ≡ true → (session_of orders).epoch ≡ epoch → edited_by edits ((session_of orders).halves block) ≡ half
    → let more : List ToWorker = carrying epoch instance block base args before edits half in
    IsInFor orders more epoch instance block half (own_commands before base args half) × ((session_of (orders ++ more)).halves block ≡ half)
carried_order epoch instance block base args before edits half orders begun same has =
    let versions : List ℕ = flat_map (λ (e : Entry). version_named before e.kind) half in
    let order : ToWorker = Instantiate epoch instance block base args versions edits in
    let session : Session = session_of orders in
    let own : List Entry → Session = λ h. with_group (with_half session block h) (instance_group epoch instance base args versions h) in
    let group : Group = instance_group epoch instance base args versions half in
    let is : session_of (orders ++ order ∷ []) ≡ own half = counts epoch orders order begun same refl ∙ ap own has in
    let groups : (session_of (orders ++ order ∷ [])).groups ≡ session.groups ++ group ∷ [] = ap (λ (s : Session). s.groups) is in
    let half_is : (session_of (orders ++ order ∷ [])).halves block ≡ half =
    ap (λ (s : Session). s.halves block) is ∙ ap (λ (b : Bool). if b then half else session.halves block) (eq-eqb block block refl) in (
      record {
        begun = ap (λ (s : Session). s.begun) is ∙ begun;
        epoch = ap (λ (s : Session). s.epoch) is ∙ same;
        asked =
            ap commands_of groups ∙ flat_map-append (λ (g : Group). g.commands) session.groups (group ∷ [])
            ∙ ap (λ (rest : List Command). commands_of session.groups ++ rest) (append-nil group.commands);
        installed = installed_of ((session_of (orders ++ order ∷ [])).halves block) half half_is;
        sent = λ to.
            keys_sent_by to orders (order ∷ []) group groups
            ∙ ap (λ (keys : List Key). keys_sent to orders ++ keys) (new_sent_by to group (commands_of session.groups) group.commands);
        received =
            keys_received_by orders (order ∷ []) group groups
            ∙ ap (λ (keys : List Key). keys_received orders ++ keys) (new_received_by group group.commands);
      },
      half_is,
    )

pub carried_in : (epoch instance block base : ℕ) (args : List ℤ) (before : Object → ℕ) (edits : List Edit) (half : List Entry) (orders : List ToWorker)
    → (session_of orders).begun ≡ true → (session_of orders).epoch ≡ epoch → edited_by edits ((session_of orders).halves block) ≡ half
    → IsCarriedBy orders epoch instance block base args before edits half
carried_in epoch instance block base args before [] [] orders begun same has = record {
  list = in_for epoch instance block base args before [] orders begun same tt;
  half_is = ap (λ (list : List ToWorker). (session_of list).halves block) (append-nil orders) ∙ has;
}
carried_in epoch instance block base args before [] (entry ∷ entries) orders begun same has =
    let both = carried_order epoch instance block base args before [] (entry ∷ entries) orders begun same has in record { list = both.0; half_is = both.1 }
carried_in epoch instance block base args before (edit ∷ edits) half orders begun same has =
    let both = carried_order epoch instance block base args before (edit ∷ edits) half orders begun same has in record { list = both.0; half_is = both.1 }

-- its before sets are made by the rule
pub carried_ruled : (epoch instance block base : ℕ) (args : List ℤ) (before : Object → ℕ) (edits : List Edit) (half : List Entry) (orders : List ToWorker)
    → All IsOrderByRule orders → All IsOrderByRule (orders ++ carried_with epoch instance block base args before edits half)
carried_ruled epoch instance block base args before [] [] orders rule = subst (All IsOrderByRule) (sym (append-nil orders)) rule
carried_ruled epoch instance block base args before [] (entry ∷ entries) orders rule =
    All-push IsOrderByRule orders
    (Instantiate epoch instance block base args (flat_map (λ (e : Entry). version_named before e.kind) (entry ∷ entries)) []) rule tt
carried_ruled epoch instance block base args before (edit ∷ edits) half orders rule =
    All-push IsOrderByRule orders
    (Instantiate epoch instance block base args (flat_map (λ (e : Entry). version_named before e.kind) half) (edit ∷ edits)) rule tt

carrying_legal : (job : Job) (epoch instance block base : ℕ) (args : List ℤ) (before : Object → ℕ) (edits : List Edit) (half : List Entry)
    (orders : List ToWorker) → (session_of orders).begun ≡ true → (session_of orders).epoch ≡ epoch
    → edited_by edits ((session_of orders).halves block) ≡ half
    → AreLegal job (commands_of (session_of orders).groups) (own_commands before base args half) → IsLegal job orders
    → IsLegal job (orders ++ carrying epoch instance block base args before edits half)
carrying_legal job epoch instance block base args before edits half orders begun same has legal is =
    let versions : List ℕ = flat_map (λ (e : Entry). version_named before e.kind) half in
    by_steps.longer job orders (Instantiate epoch instance block base args versions edits) is (
      begun,
      sym same,
      subst (λ (h : List Entry). AreLegal job (commands_of (session_of orders).groups) (expanded base args versions 0 h)) (sym has) legal,
    )

-- and it may be given where its commands may
pub carried_legal : (job : Job) (epoch instance block base : ℕ) (args : List ℤ) (before : Object → ℕ) (edits : List Edit) (half : List Entry)
    (orders : List ToWorker) → (session_of orders).begun ≡ true → (session_of orders).epoch ≡ epoch
    → edited_by edits ((session_of orders).halves block) ≡ half
    → AreLegal job (commands_of (session_of orders).groups) (own_commands before base args half) → IsLegal job orders
    → IsLegal job (orders ++ carried_with epoch instance block base args before edits half)
carried_legal job epoch instance block base args before [] [] orders begun same has legal is = subst (IsLegal job) (sym (append-nil orders)) is
carried_legal job epoch instance block base args before [] (entry ∷ entries) orders begun same has legal is =
    carrying_legal job epoch instance block base args before [] (entry ∷ entries) orders begun same has legal is
carried_legal job epoch instance block base args before (edit ∷ edits) half orders begun same has legal is =
    carrying_legal job epoch instance block base args before (edit ∷ edits) half orders begun same has legal is
