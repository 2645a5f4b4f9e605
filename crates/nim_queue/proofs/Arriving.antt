-- One more command of a group arrives.
use Rattle.std.proofs.Common.{◌≡◌, ℕ, suc, ◌+◌, Bool, true, false, List, [], ◌∷◌, ◌++◌, length, refl, ap, sym, subst, ◌∙◌, arith, Option}
use Rattle.std.specs.Prelude.{◌==◌, ◌||◌, if◌then◌else◌}
use Rattle.std.proofs.lemmas.List.{append-nil, append_assoc}
use Rattle.std.proofs.lemmas.List.Folds.{list_any-append}
use Rattle.nim_command.specs.declared.command.Command.{Command}
use Rattle.nim_command.specs.Slots.{does_write}
use Rattle.nim_queue.specs.Arrived.{HasArrived, HaveArrived, commands_of, is_written_in, named_in, sight_of}
use Rattle.nim_queue.specs.declared.arrivals.Arrival.{Arrival}
use Rattle.nim_queue.specs.declared.slot_use.SlotUse.{SlotUse}
use Rattle.nim_queue.specs.declared.waiting.Waiting.{Waiting}

if_first : (b : Bool) (ticket : ℕ) (xs ys : List ℕ) → (if b then ticket ∷ (xs ++ ys) else xs ++ ys) ≡ (if b then ticket ∷ xs else xs) ++ ys
if_first true ticket xs ys = refl
if_first false ticket xs ys = refl

pub named_more : (first : ℕ) (past : List Command) (c : Command) (n : ℕ)
    → named_in first (past ++ c ∷ []) n ≡ named_in first past n ++ (if c.id == n then (first + length past) ∷ [] else [])
named_more first [] c n = let same : first ≡ first + 0 = omega arith in ap (λ (t : ℕ). if c.id == n then t ∷ [] else []) same
named_more first (p ∷ past) c n =
    let same : first + 1 + length past ≡ first + suc (length past) = omega arith in
    ap (λ (ts : List ℕ). if p.id == n then first ∷ ts else ts)
    (named_more (first + 1) past c n
    ∙ ap (λ (t : ℕ). named_in (first + 1) past n ++ (if c.id == n then t ∷ [] else [])) same)
    ∙ if_first (p.id == n) first (named_in (first + 1) past n) (if c.id == n then (first + length (p ∷ past)) ∷ [] else [])

or_false : (b : Bool) → (b || false) ≡ b
or_false true = refl
or_false false = refl

pub written_more : (past : List Command) (c : Command) (s : ℕ) → is_written_in (past ++ c ∷ []) s
    ≡ (is_written_in past s || does_write c.kind (record { 0 = s }))
written_more past c s =
    list_any-append (λ (k : Command). does_write k.kind (record { 0 = s })) past (c ∷ [])
    ∙ ap (λ (b : Bool). is_written_in past s || b) (or_false (does_write c.kind (record { 0 = s })))

pub arrived_more : (kept : ℕ → Option Waiting) (used : ℕ → Option SlotUse) (first : ℕ) (past : List Command) (list : List Arrival) (a : Arrival)
    → HaveArrived kept used first past list
    → HasArrived (sight_of kept used first (past ++ commands_of list)) (first + length (past ++ commands_of list)) a
    → HaveArrived kept used first past (list ++ a ∷ [])
arrived_more kept used first past [] a have has =
    (subst (λ (cs : List Command). HasArrived (sight_of kept used first cs) (first + length cs) a) (append-nil past) has, tt)
arrived_more kept used first past (b ∷ list) a have has = (
  have.0,
  arrived_more kept used first (past ++ b.command ∷ []) list a have.1
      (subst (λ (cs : List Command). HasArrived (sight_of kept used first cs) (first + length cs) a)
      (sym (append_assoc past (b.command ∷ []) (commands_of list))) has),
)
