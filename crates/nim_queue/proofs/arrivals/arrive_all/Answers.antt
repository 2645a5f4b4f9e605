use Rattle.std.proofs.Common.{◌∙◌, ◌+◌, ◌++◌, ◌∷◌, [], ◌==◌, ℕ, Bool, List, length, nat_eq, ap, ap₂, sym, subst, arith}
use Rattle.std.specs.Prelude.{◌||◌, if◌then◌else◌}
use Rattle.std.specs.HashMap.{get}
use Rattle.std.proofs.Math.Path.{fun_ext}
use Rattle.std.proofs.lemmas.List.{length-append, map-append}
use Rattle.nim_command.specs.declared.command.Command.{Command}
use Rattle.nim_command.specs.Slots.{does_write}
use Rattle.nim_queue.specs.Used.{used_in}
use Rattle.nim_queue.specs.Arrived.{HasArrived, HaveArrived, Sight, commands_of, sight_of}
use Rattle.nim_queue.specs.declared.arrivals.Arrival.{Arrival}
use Rattle.nim_queue.proofs.Arriving.{arrived_more, named_more, written_more}
use Rattle.nim_queue.proofs.arrivals.arrive_all.Goals as goal

pub loop-command-preserved : goal.loop-command-preserved
loop-command-preserved c =
    let past = c.loop-command.yielded in
    let command = c.in-Some.command in
    let inv = c.loop-command.invariant in
    let first = c.args.first in
    let kept = get nat_eq c.args.waiting.now in
    let used = used_in c.args.slots.now.items in
    let before = c.loop-command.arrived.items in
    let a = c.in_ok-arrive.field-0 in
    let sight : (named : ℕ → List ℕ) → (written : ℕ → Bool) → Sight = λ named written. record { kept = kept; used = used; named = named; written = written } in
    let named = fun_ext (λ n. inv.numbers n) in
    let written = fun_ext (λ s. inv.written s) in
    let has : HasArrived (sight_of kept used first past) (first + length past) a =
    subst (λ (n : ℕ). HasArrived (sight_of kept used first past) n a) inv.ticket
    (subst (λ (s : Sight). HasArrived s c.loop-command.ticket a) (ap₂ sight named written) c.in_ok-arrive.ensures.arrival) in
    record {
      ticket = omega (arith, inv.ticket, length-append past (command ∷ []));
      numbers = λ n.
          c.in_ok-arrive.ensures.numbers n
          ∙ ap₂ (λ (ts : List ℕ) (t : ℕ). ts ++ (if command.id == n then t ∷ [] else [])) (inv.numbers n) inv.ticket
          ∙ sym (named_more first past command n);
      written = λ s.
          c.in_ok-arrive.ensures.written s ∙ ap (λ (b : Bool). b || does_write command.kind (record { 0 = s })) (inv.written s)
          ∙ sym (written_more past command s);
      commands =
          ap commands_of c.in_ok-push.ensures.items ∙ map-append (λ (x : Arrival). x.command) before (a ∷ [])
          ∙ ap₂ (λ (xs : List Command) (x : Command). xs ++ x ∷ []) inv.commands c.in_ok-arrive.ensures.same;
      arrived =
          subst (HaveArrived kept used first []) (sym c.in_ok-push.ensures.items)
          (arrived_more kept used first [] before a inv.arrived
          (subst (λ (cs : List Command). HasArrived (sight_of kept used first cs) (first + length cs) a) (sym inv.commands) has));
    }
