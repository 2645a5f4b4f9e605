-- The entries of a task's later phases, at its home and at its owner, in the order of their numbers.
use Rattle.std.proofs.Common.{◌≡◌, ℕ, Bool, true, false, List, [], ◌∷◌, ◌++◌, map, refl, ap, ap₂, sym, ◌∙◌}
use Rattle.std.specs.Prelude.{◌==◌, not, if◌then◌else◌}
use Rattle.std.specs.List.{filter}
use Rattle.std.proofs.lemmas.Bool.{eq-eqb, eqb-false, eqb-true, ne_eqb}
use Rattle.std.proofs.lemmas.List.{append-nil}
use Rattle.nim_base.specs.declared.number.Worker.{Worker}
use Rattle.nim_command.specs.declared.edit.Edit.TheVariants.{Away, Here}
use Rattle.nim_command.specs.declared.edit.Spec.{Spec}
use Rattle.nim_command.specs.declared.entry.Entry.{Entry}
use Rattle.nim_command.specs.declared.template.WorkerTemplate.{WorkerTemplate}
use Rattle.nim_command.specs.Edits.{first_reads, forward_receive, forward_send, put_by, return_receives, return_sends, run_over}
use Rattle.nim_template.specs.Built.{entries_for}
use Rattle.nim_template.proofs.Numbers.{for_append as entries_append}
use Rattle.nim_edit.specs.Moves.{mask_for, spec_of, worker_at}
use Rattle.nim_edit.proofs.Puts.{FirstRead}
use Rattle.nim_edit.proofs.Segments.{late_half}

-- ---- the entries of a moved task

-- entries at a worker
abbrev pub at_worker : Worker → List Entry → List (Worker × Entry)
at_worker worker entries = map (λ (e : Entry). (worker, e)) entries

-- what a task has of its later phases, at its home and at its owner, in order
abbrev pub late_entries : WorkerTemplate → Worker → ℕ → List (Worker × Entry)
late_entries template owner task =
    let home : Worker = worker_at template.homes task in
    let spec : Spec = spec_of template.forms task in
    let firsts : List FirstRead = first_reads [] (mask_for template task owner) spec.reads in
    if owner.0 == home.0 then (home, run_over false task spec) ∷ []
    else at_worker home (map (forward_send task owner) (filter (λ (r : FirstRead). not r.there) firsts))
    ++ (at_worker owner (map (forward_receive task) firsts ++ run_over true task spec ∷ return_sends task home 0 spec.writes)
    ++ at_worker home (return_receives task 0 spec.writes))

entries_at : (worker of : Worker) (entries : List Entry) (b : Bool) → (of.0 == worker.0) ≡ b
    → entries_for worker (at_worker of entries) ≡ (if b then entries else [])
entries_at worker of [] true is = refl
entries_at worker of [] false is = refl
entries_at worker of (entry ∷ entries) true is =
    let others : List (Worker × Entry) = filter (λ (e : Worker × Entry). e.0.0 == worker.0) (at_worker of entries) in
    ap (λ (b : Bool). map (λ (e : Worker × Entry). e.1) (if b then (of, entry) ∷ others else others)) is
    ∙ ap (λ (es : List Entry). entry ∷ es) (entries_at worker of entries true is)
entries_at worker of (entry ∷ entries) false is =
    let others : List (Worker × Entry) = filter (λ (e : Worker × Entry). e.0.0 == worker.0) (at_worker of entries) in
    ap (λ (b : Bool). map (λ (e : Worker × Entry). e.1) (if b then (of, entry) ∷ others else others)) is
    ∙ entries_at worker of entries false is

-- worker by worker
pub late_for : (template : WorkerTemplate) (owner : Worker) (task : ℕ) (worker : Worker)
    → entries_for worker (late_entries template owner task) ≡ late_half template owner task worker
late_for template owner task worker =
    chosen (owner.0 == home.0) refl (worker.0 == home.0) refl (worker.0 == owner.0) refl where
      home : Worker
      home = worker_at template.homes task

      spec : Spec
      spec = spec_of template.forms task

      firsts : List FirstRead
      firsts = first_reads [] (mask_for template task owner) spec.reads

      sent : List Entry
      sent = map (forward_send task owner) (filter (λ (r : FirstRead). not r.there) firsts)

      here : List Entry
      here = map (forward_receive task) firsts ++ run_over true task spec ∷ return_sends task home 0 spec.writes

      back : List Entry
      back = return_receives task 0 spec.writes

      all : List (Worker × Entry)
      all = at_worker home sent ++ (at_worker owner here ++ at_worker home back)

      -- either way round
      turned : (v w : Worker) (b : Bool) → (w.0 == v.0) ≡ b → (v.0 == w.0) ≡ b
      turned v w true is = eq-eqb v.0 w.0 (sym (eqb-true w.0 v.0 is))
      turned v w false is = ne_eqb v.0 w.0 (λ same. eqb-false w.0 v.0 is (sym same))

      parts : (b c : Bool) → (home.0 == worker.0) ≡ b → (owner.0 == worker.0) ≡ c
          → entries_for worker all ≡ (if b then sent else []) ++ ((if c then here else []) ++ (if b then back else []))
      parts b c one two =
          entries_append worker (at_worker home sent) (at_worker owner here ++ at_worker home back)
          ∙ ap₂ (λ (xs ys : List Entry). xs ++ ys) (entries_at worker home sent b one)
          (entries_append worker (at_worker owner here) (at_worker home back)
          ∙ ap₂ (λ (xs ys : List Entry). xs ++ ys) (entries_at worker owner here c two) (entries_at worker home back b one))

      chosen : (a : Bool) → (owner.0 == home.0) ≡ a → (b : Bool) → (worker.0 == home.0) ≡ b → (c : Bool) → (worker.0 == owner.0) ≡ c
          → entries_for worker (if a then (home, run_over false task spec) ∷ [] else all)
          ≡ (if a then (if b then run_over false task spec ∷ [] else [])
          else if b then put_by (Away task owner (mask_for template task owner) spec)
          else if c then put_by (Here task home (mask_for template task owner) spec) else [])
      chosen true same b at_home c at_owner = entries_at worker home (run_over false task spec ∷ []) b (turned home worker b at_home)
      chosen false apart true at_home true at_owner =
          absurd (eqb-false owner.0 home.0 apart (sym (eqb-true worker.0 owner.0 at_owner) ∙ eqb-true worker.0 home.0 at_home))
      chosen false apart true at_home false at_owner =
          parts true false (turned home worker true at_home) (turned owner worker false at_owner)
      chosen false apart false at_home true at_owner =
          parts false true (turned home worker false at_home) (turned owner worker true at_owner) ∙ append-nil here
      chosen false apart false at_home false at_owner =
          parts false false (turned home worker false at_home) (turned owner worker false at_owner)
