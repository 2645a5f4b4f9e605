use Rattle.std.proofs.Common.{◌∙◌, nat_eq, refl, subst, sym, inl, inr}
use Rattle.std.specs.HashMap.{get}
use Rattle.nim_command.specs.Waits.{Member}
use Rattle.nim_queue.specs.Stands.{KeepsGroups}
use Rattle.nim_queue.specs.declared.waiting.Waiting.{Waiting}
use Rattle.nim_queue.proofs.Completing.{completed, nothing_kept, option_cases, stands_still}
use Rattle.nim_queue.proofs.Looking.{told_of}
use Rattle.nim_queue.proofs.Opening.{closed, opened}
use Rattle.nim_queue.proofs.queue.BeforeQueue.complete.Goals as goal

pub returns-clause-stands : goal.returns-clause-stands
returns-clause-stands c groups done stands =
    let old = c.args.self.now in
    let new = record old { waiting = c.free.new.waiting; released = c.free.new.released } in
    let free = c.free.ensures.released old.given (opened stands).released in
    elim (option_cases (get nat_eq old.waiting c.args.ticket)) [
      | inl none ↦
          closed (subst (KeepsGroups new groups) (sym (nothing_kept old groups done c.args.ticket (opened stands) none))
          (stands_still old new groups done (opened stands) (c.free.ensures.absent none) (λ t s. refl) (λ t s now. refl) free (opened stands).brief refl refl
          refl))
      | inr some ↦ closed (completed old new groups done c.args.ticket some.0 (opened stands) some.1 (c.free.ensures.gone some.0 some.1) free (λ s. refl) refl
          refl refl)
    ]

pub returns-clause-command : goal.returns-clause-command
returns-clause-command c groups done stands =
    c.free.ensures.command
    ∙ told_of (λ (w : Waiting). w.command) (λ (m : Member). m.command) c.args.self.now groups done c.args.ticket (opened stands) (λ waits followers m. refl)
