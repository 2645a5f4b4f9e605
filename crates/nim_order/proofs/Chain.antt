-- Before sets by the rule make covered commands: of two members that conflict over a slot, a chain of waits goes from the
-- later to the earlier along the writers of the slot between them.
use Rattle.std.proofs.Common.{◌≡◌, ℕ, zero, suc, ◌<◌, ◌≤◌, Bool, true, false, List, [], ◌∷◌, length, refl, ap₂, sym, subst, ◌∙◌, arith, Option, Some, None, inl, inr}
use Rattle.std.specs.Prelude.{◌⊎◌, not, slice_get}
use Rattle.std.specs.List.{list_all, range_with_len}
use Rattle.std.specs.Option.{option_map_or}
use Rattle.std.proofs.lemmas.Bool.{cases_Bool, cases_eq, cases_lt, false≢true, not_from_false, or_left, or_right}
use Rattle.std.proofs.lemmas.List.Elements.{All-weaker}
use Rattle.nim_base.specs.declared.number.Slot.{Slot}
use Rattle.nim_command.specs.declared.command.Command.{Command}
use Rattle.nim_command.specs.Before.{IsByRule}
use Rattle.nim_command.specs.Covered.{do_conflict, is_covered, is_kept_in_order, is_reached}
use Rattle.nim_command.specs.Slots.{does_read, does_touch, does_write}
use Rattle.nim_command.specs.Waits.{Group, Member, members_of}
use Rattle.nim_order.specs.Progress.{conflict_at}
use Rattle.nim_order.specs.Rule.{MoreNamesCover, NameAll, RuleCovers}
use Rattle.nim_order.proofs.Conflicts.{conflict_slot}
use Rattle.nim_order.proofs.Direct.{Meet, meet_waits, writes}
use Rattle.nim_order.proofs.Groups.{BindAll, binds_all}
use Rattle.nim_order.proofs.Items.{all_of_range}
use Rattle.nim_order.proofs.Listed.{get_listed, length_listed, listed, wait_reaches}
use Rattle.nim_order.proofs.Named.{rule_names}

-- the last writer between two places, if there is one
last_writer : (w : ℕ → Bool) (earlier later : ℕ)
    → ((k : ℕ) → earlier < k → k < later → w k ≡ false)
    ⊎ ((k : ℕ) × (earlier < k) × (k < later) × (w k ≡ true) × ((j : ℕ) → k < j → j < later → w j ≡ false))
last_writer w earlier zero = inl (λ k from to. absurd (omega arith))
last_writer w earlier (suc later) =
    elim (cases_lt earlier later) [
      | inl less ↦ elim (cases_Bool (w later)) [
        | inl writer ↦ inr (later, less, omega arith, writer, λ j from to. absurd (omega arith))
        | inr none ↦ elim (last_writer w earlier later) [
          | inl nothing ↦
              inl (λ k from to. elim (cases_eq k later) [
                | inl same ↦ subst (λ (x : ℕ). w x ≡ false) (sym same) none
                | inr other ↦ nothing k from (omega arith)
              ])
          | inr found ↦
              inr (
                found.0,
                found.1,
                omega (arith, found.2),
                found.3,
                λ j from to. elim (cases_eq j later) [
                  | inl same ↦ subst (λ (x : ℕ). w x ≡ false) (sym same) none
                  | inr other ↦ found.4 j from (omega arith)
                ],
              )
        ]
      ]
      | inr past ↦ inl (λ k from to. absurd (omega arith))
    ]

-- a member that writes is there
writer_there : (slot : Slot) (o : Option Member) → option_map_or (λ (m : Member). does_write m.command.kind slot) o false ≡ true
    → (m : Member) × (o ≡ Some m) × (does_write m.command.kind slot ≡ true)
writer_there slot None writer = absurd (false≢true writer)
writer_there slot (Some m) writer = (m, refl, writer)

-- both of a pair touch the slot
first_touches : (slot : Slot) (e l : Member) → Meet slot e l → does_touch e.command.kind slot ≡ true
first_touches slot e l meet =
    elim meet [ inl first ↦ or_right (does_read e.command.kind slot) (does_write e.command.kind slot) first.0 | inr second ↦ second.0 ]

second_touches : (slot : Slot) (e l : Member) → Meet slot e l → does_touch l.command.kind slot ≡ true
second_touches slot e l meet =
    elim meet [ inl first ↦ first.1 | inr second ↦ or_right (does_read l.command.kind slot) (does_write l.command.kind slot) second.1 ]

-- the walk along the writers, down from the later one
walk : (ms : List Member) (slot : Slot) (n earlier later : ℕ) (e l : Member) → BindAll [] ms → later ≤ n → earlier < later
    → slice_get ms earlier ≡ Some e → slice_get ms later ≡ Some l → Meet slot e l → is_reached later (listed ms) later earlier ≡ true
walk ms slot zero earlier later e l all small before there here meet = absurd (omega arith)
walk ms slot (suc n) earlier later e l all small before there here meet =
    elim (last_writer (writes ms slot) earlier later) [
      | inl none ↦ wait_reaches ms later earlier earlier l here before (meet_waits ms slot earlier later e l all before there here meet none) (inl refl)
      | inr found ↦
          let writer = writer_there slot (slice_get ms found.0) found.3 in
          wait_reaches ms later found.0 earlier l here found.2
          (meet_waits ms slot found.0 later writer.0 l all found.2 writer.1 here (inl (writer.2, second_touches slot e l meet)) found.4)
          (inr (walk ms slot n earlier found.0 e writer.0 all (omega (arith, found.2)) found.1 there writer.1 (inr (first_touches slot e l meet, writer.2))))
    ]

-- the member at a place
there_is : (ms : List Member) (k : ℕ) → k < length ms → (m : Member) × (slice_get ms k ≡ Some m)
there_is [] k within = absurd (omega (arith, within))
there_is (m ∷ ms) zero within = (m, refl)
there_is (m ∷ ms) (suc k) within = there_is ms k (omega (arith, within))

pair_kept : (ms : List Member) (later earlier : ℕ) → BindAll [] ms → later < length ms → earlier < later → is_kept_in_order (listed ms) later earlier ≡ true
pair_kept ms later earlier all within before =
    let first = there_is ms earlier (omega arith) in
    let second = there_is ms later within in
    let is : conflict_at (listed ms) earlier later ≡ do_conflict first.0.command.kind second.0.command.kind =
    ap₂ (λ (o p : Option Command). option_map_or (λ (e : Command). option_map_or (λ (l : Command). do_conflict e.kind l.kind) p false) o false)
    (get_listed ms earlier first.0 first.1) (get_listed ms later second.0 second.1) in
    elim (cases_Bool (do_conflict first.0.command.kind second.0.command.kind)) [
      | inl conflict ↦
          or_right (not (conflict_at (listed ms) earlier later)) (is_reached later (listed ms) later earlier)
          (conflict_slot first.0.command.kind second.0.command.kind (is_reached later (listed ms) later earlier ≡ true)
          (λ slot written touched. walk ms slot later earlier later first.0 second.0 all (omega arith) before first.1 second.1 (inl (written, touched)))
          (λ slot touched written. walk ms slot later earlier later first.0 second.0 all (omega arith) before first.1 second.1 (inr (touched, written)))
          conflict)
      | inr none ↦
          or_left (not (conflict_at (listed ms) earlier later)) (is_reached later (listed ms) later earlier)
          (not_from_false (conflict_at (listed ms) earlier later) (is ∙ none))
    ]

covered_members : (ms : List Member) → BindAll [] ms → is_covered (listed ms) ≡ true
covered_members ms all =
    all_of_range (λ later. list_all (is_kept_in_order (listed ms) later) (range_with_len 0 later)) 0 (length (listed ms))
    (λ later from to. all_of_range (is_kept_in_order (listed ms) later) 0 later
    (λ earlier low high. pair_kept ms later earlier all (omega (arith, length_listed ms)) (omega arith)))

pub more_names_cover : MoreNamesCover
unfolding listed
more_names_cover groups names = covered_members (members_of groups) (binds_all groups names)

pub rule_covers : RuleCovers
rule_covers groups rule =
    more_names_cover groups
    (All-weaker (λ (g : Group). IsByRule g.commands) (λ (g : Group). NameAll g.commands) (λ g is. rule_names g.commands is) groups rule)
