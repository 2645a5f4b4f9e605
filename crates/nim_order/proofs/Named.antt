-- What the rule names, within one group.
use Rattle.std.proofs.Common.{◌≡◌, ℕ, zero, suc, Bool, true, List, [], ◌∷◌, ◌++◌, map, drop, refl, ap, sym, subst, Some}
use Rattle.std.specs.Prelude.{◌==◌, ◌&&◌, ◌||◌, if◌then◌else◌, not, slice_get}
use Rattle.std.specs.List.{list_any}
use Rattle.std.proofs.Math.Path.{fun_ext}
use Rattle.std.proofs.lemmas.Bool.{eq-eqb, or_left}
use Rattle.std.proofs.lemmas.Option.{none-some, same_Some}
use Rattle.nim_base.specs.declared.number.Slot.{Slot}
use Rattle.nim_command.specs.declared.command.Command.{Command}
use Rattle.nim_command.specs.Before.{Footprint, IsByRule, before_of, befores_behind, footprint_of, is_before, is_rewritten}
use Rattle.nim_command.specs.Slots.{does_touch, does_write, reads_of, writes_of}
use Rattle.nim_command.specs.Waits.{Member, is_border, is_written_by}
use Rattle.nim_order.specs.Progress.{is_one_of}
use Rattle.nim_order.specs.Rule.{NameAll, NameAllBehind}
use Rattle.nim_order.proofs.Items.{any_later}

-- one that has to be waited for is in the before set
pub named : (past : List Footprint) (place : ℕ) (earlier later : Footprint) → slice_get past place ≡ Some earlier
    → is_before earlier (drop (suc place) past) later ≡ true → is_one_of (before_of past later) earlier.number ≡ true
named [] place earlier later there binds = absurd (none-some earlier there)
named (first ∷ rest) zero earlier later there binds =
    let same : first ≡ earlier = same_Some first earlier there in
    let test : is_before first rest later ≡ true = subst (λ (f : Footprint). is_before f rest later ≡ true) (sym same) binds in
    subst (λ (f : Footprint). is_one_of (before_of (first ∷ rest) later) f.number ≡ true) same
    (subst (λ (b : Bool). is_one_of (if b then first.number ∷ before_of rest later else before_of rest later) first.number ≡ true) (sym test)
    (or_left (first.number == first.number) (is_one_of (before_of rest later) first.number) (eq-eqb first.number first.number refl)))
named (first ∷ rest) (suc place) earlier later there binds =
    any_later (λ (n : ℕ). n == earlier.number) first.number (before_of rest later) (is_before first rest later) (named rest place earlier later there binds)

-- before sets that are those of the rule name all that it names
by_rule : (past : List Footprint) (commands : List Command) → map (λ (c : Command). c.before) commands ≡ befores_behind past (map footprint_of commands)
    → NameAllBehind past commands
by_rule past [] rule = tt
by_rule past (command ∷ commands) rule =
    let here : command.before ≡ before_of past (footprint_of command) = cc in
    let there : map (λ (c : Command). c.before) commands ≡ befores_behind (past ++ footprint_of command ∷ []) (map footprint_of commands) = cc in
    (λ number is. subst (λ (numbers : List ℕ). is_one_of numbers number ≡ true) (sym here) is, by_rule (past ++ footprint_of command ∷ []) commands there)

pub rule_names : (commands : List Command) → IsByRule commands → NameAll commands
rule_names commands rule = by_rule [] commands rule

unfoldable pub print_of : Member → Footprint
print_of m = footprint_of m.command

rewritten : (between : List Member) (slot : Slot) → is_written_by between slot ≡ is_rewritten (map print_of between) slot
unfolding print_of
rewritten [] slot = refl
rewritten (m ∷ between) slot = ap (λ (b : Bool). does_write m.command.kind slot || b) (rewritten between slot)

-- the border is by the same rule
pub border_is : (earlier : Member) (between : List Member) (later : Member)
    → is_border earlier between later ≡ is_before (footprint_of earlier.command) (map print_of between) (footprint_of later.command)
border_is earlier between later =
    ap (λ (written : Slot → Bool).
    list_any (λ slot. does_touch later.command.kind slot && not (written slot)) (writes_of earlier.command.kind)
    || list_any (λ slot. does_write later.command.kind slot && not (written slot)) (reads_of earlier.command.kind))
    (fun_ext (λ slot. rewritten between slot))
