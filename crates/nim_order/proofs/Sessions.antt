-- What orders come to has the before sets of the rule, where the orders do.
use Rattle.std.proofs.Common.{◌≡◌, ℕ, Bool, true, false, List, [], ◌∷◌, ◌++◌, map, refl, ap, ap₂, ◌∙◌}
use Rattle.std.specs.Prelude.{◌==◌, if◌then◌else◌, All, ℤ, slice_index_or}
use Rattle.std.specs.List.{fold}
use Rattle.std.proofs.lemmas.Bool.{cond_both}
use Rattle.std.proofs.lemmas.List.Elements.{All-head, All-nil, All-push, All-tail}
use Rattle.nim_base.specs.declared.number.Shape.{Shape}
use Rattle.nim_base.specs.declared.number.Slot.{Slot}
use Rattle.nim_command.specs.declared.command.Command.{Command}
use Rattle.nim_command.specs.declared.edit.Edit.{Edit}
use Rattle.nim_command.specs.declared.edit.PatchPart.{PatchPart}
use Rattle.nim_command.specs.declared.entry.Entry.{Entry}
use Rattle.nim_command.specs.declared.entry.EntryKind.{EntryKind}
use Rattle.nim_command.specs.Before.{Footprint, IsByRule, before_of, befores_behind, footprint_of}
use Rattle.nim_command.specs.Edits.{edited, edited_by}
use Rattle.nim_command.specs.Expansion.{copied, expanded, kind_for, taken_after}
use Rattle.nim_command.specs.Ruled.{commands_by_rule, entries_by_rule, entry_footprint}
use Rattle.nim_command.specs.Slots.{entry_reads, entry_writes, reads_of, writes_of}
use Rattle.nim_command.specs.Waits.{Group, single_group}
use Rattle.nim_message.specs.declared.order.ToWorker.{ToWorker}
use Rattle.nim_message.specs.declared.order.ToWorker.TheVariants.{Single, InstallTemplate, Instantiate, InstallPatch, RunPatch, Reset, Stop}
use Rattle.nim_message.specs.Orders.{Session, after_order, instance_group, is_current, new_session, no_session, patch_group, session_of, with_group, with_half, with_patch}
use Rattle.nim_order.specs.Orders.{AreEntriesByRule, IsOrderByRule, OrdersCover}
use Rattle.nim_order.proofs.Chain.{rule_covers}

-- entries that are given the before sets of the rule have them
pub entries_ruled : (past : List Footprint) (entries : List Entry)
    → map (λ (e : Entry). e.before) (entries_by_rule past entries) ≡ befores_behind past (map entry_footprint (entries_by_rule past entries))
entries_ruled past [] = refl
entries_ruled past (entry ∷ entries) =
    ap (λ (rest : List (List ℕ)). before_of past (entry_footprint entry) ∷ rest) (entries_ruled (past ++ entry_footprint entry ∷ []) entries)

-- and so have commands
commands_ruled : (past : List Footprint) (commands : List Command)
    → map (λ (c : Command). c.before) (commands_by_rule past commands) ≡ befores_behind past (map footprint_of (commands_by_rule past commands))
commands_ruled past [] = refl
commands_ruled past (command ∷ commands) =
    ap (λ (rest : List (List ℕ)). before_of past (footprint_of command) ∷ rest) (commands_ruled (past ++ footprint_of command ∷ []) commands)

-- an entry's command reads and writes its slots
same_reads : (base : ℕ) (args : List ℤ) (named number : ℕ) (kind : EntryKind) → entry_reads kind ≡ reads_of (kind_for base args named number kind)
same_reads base args named number (EntryKind.Send slot peer entry) = refl
same_reads base args named number (EntryKind.Receive slot offset) = refl
same_reads base args named number (EntryKind.Copy from to) = refl
same_reads base args named number (EntryKind.Run func params reads writes) = refl

same_writes : (base : ℕ) (args : List ℤ) (named number : ℕ) (kind : EntryKind) → entry_writes kind ≡ writes_of (kind_for base args named number kind)
same_writes base args named number (EntryKind.Send slot peer entry) = refl
same_writes base args named number (EntryKind.Receive slot offset) = refl
same_writes base args named number (EntryKind.Copy from to) = refl
same_writes base args named number (EntryKind.Run func params reads writes) = refl

-- the commands of entries have their before sets
expanded_befores : (base : ℕ) (args : List ℤ) (versions : List ℕ) (taken : ℕ) (entries : List Entry)
    → map (λ (c : Command). c.before) (expanded base args versions taken entries) ≡ map (λ (e : Entry). e.before) entries
expanded_befores base args versions taken [] = refl
expanded_befores base args versions taken (entry ∷ entries) =
    ap (λ (rest : List (List ℕ)). entry.before ∷ rest) (expanded_befores base args versions (taken_after taken entry.kind) entries)

-- and their numbers and slots
expanded_footprints : (base : ℕ) (args : List ℤ) (versions : List ℕ) (taken : ℕ) (entries : List Entry)
    → map entry_footprint entries ≡ map footprint_of (expanded base args versions taken entries)
expanded_footprints base args versions taken [] = refl
expanded_footprints base args versions taken (entry ∷ entries) =
    let named : ℕ = slice_index_or versions taken 0 in
    let print : List Slot → List Slot → Footprint = λ reads writes. record { number = entry.id; reads = reads; writes = writes } in
    ap₂ (λ (first : Footprint) (rest : List Footprint). first ∷ rest)
    (ap₂ print (same_reads base args named entry.id entry.kind) (same_writes base args named entry.id entry.kind))
    (expanded_footprints base args versions (taken_after taken entry.kind) entries)

expanded_ruled : (base : ℕ) (args : List ℤ) (versions : List ℕ) (entries : List Entry) → AreEntriesByRule entries
    → IsByRule (expanded base args versions 0 entries)
expanded_ruled base args versions entries rule =
    expanded_befores base args versions 0 entries ∙ rule ∙ ap (befores_behind []) (expanded_footprints base args versions 0 entries)

edits_ruled : (edits : List Edit) (entries : List Entry) → AreEntriesByRule entries → AreEntriesByRule (edited_by edits entries)
edits_ruled [] entries rule = rule
edits_ruled (edit ∷ edits) entries rule = edits_ruled edits (edited edit entries) (entries_ruled [] _)

-- a session's groups and halves have the before sets of the rule
record IsSessionByRule (session : Session) : Type 0 where
  groups : All (λ (g : Group). IsByRule g.commands) session.groups
  halves : (block : ℕ) → AreEntriesByRule (session.halves block)

begun_ruled : (epoch : ℕ) (shapes : List Shape) → IsSessionByRule (new_session epoch shapes)
begun_ruled epoch shapes = record { groups = All-nil (λ (g : Group). IsByRule g.commands); halves = λ block. refl }

group_ruled : (session : Session) (group : Group) → IsSessionByRule session → IsByRule group.commands → IsSessionByRule (with_group session group)
group_ruled session group ruled rule = record {
  groups = All-push (λ (g : Group). IsByRule g.commands) session.groups group ruled.groups rule;
  halves = ruled.halves;
}

half_ruled : (session : Session) (block : ℕ) (entries : List Entry) → IsSessionByRule session → AreEntriesByRule entries
    → IsSessionByRule (with_half session block entries)
half_ruled session block entries ruled rule = record {
  groups = ruled.groups;
  halves = λ other. cond_both (other == block) entries (session.halves other) AreEntriesByRule (λ same. rule) (λ apart. ruled.halves other);
}

patch_ruled : (session : Session) (patch : ℕ) (copies : List PatchPart) → IsSessionByRule session → IsSessionByRule (with_patch session patch copies)
patch_ruled session patch copies ruled = record { groups = ruled.groups; halves = ruled.halves }

-- an order that counts, or is passed over
counted : (b : Bool) (then_is otherwise : Session) → IsSessionByRule then_is → IsSessionByRule otherwise → IsSessionByRule (if b then then_is else otherwise)
counted true then_is otherwise first second = first
counted false then_is otherwise first second = second

order_ruled : (session : Session) (order : ToWorker) → IsSessionByRule session → IsOrderByRule order → IsSessionByRule (after_order session order)
order_ruled session (Single epoch instance commands) ruled rule =
    counted (is_current session epoch) (with_group session (single_group epoch instance commands)) session
    (group_ruled session (single_group epoch instance commands) ruled rule)
    ruled
order_ruled session (InstallTemplate epoch block entries) ruled rule =
    counted (is_current session epoch) (with_half session block entries) session (half_ruled session block entries ruled rule) ruled
order_ruled session (Instantiate epoch instance block base args versions edits) ruled rule =
    let half : List Entry = edited_by edits (session.halves block) in
    let by_rule : AreEntriesByRule half = edits_ruled edits (session.halves block) (ruled.halves block) in
    counted (is_current session epoch) (with_group (with_half session block half) (instance_group epoch instance base args versions half)) session
    (group_ruled (with_half session block half) (instance_group epoch instance base args versions half) (half_ruled session block half ruled by_rule)
    (expanded_ruled base args versions half by_rule))
    ruled
order_ruled session (InstallPatch epoch patch copies) ruled rule =
    counted (is_current session epoch) (with_patch session patch copies) session (patch_ruled session patch copies ruled) ruled
order_ruled session (RunPatch epoch instance patch versions) ruled rule =
    counted (is_current session epoch) (with_group session (patch_group epoch instance versions (session.patches patch))) session
    (group_ruled session (patch_group epoch instance versions (session.patches patch)) ruled (commands_ruled [] (copied versions 0 (session.patches patch))))
    ruled
order_ruled session (Reset epoch worker workers shapes) ruled rule = begun_ruled epoch shapes
order_ruled session Stop ruled rule = ruled

orders_ruled : (session : Session) (orders : List ToWorker) → IsSessionByRule session → All IsOrderByRule orders
    → IsSessionByRule (fold after_order session orders)
orders_ruled session [] ruled rule = ruled
orders_ruled session (order ∷ orders) ruled rule =
    orders_ruled (after_order session order) orders (order_ruled session order ruled (All-head IsOrderByRule order orders rule))
    (All-tail IsOrderByRule order orders rule)

nothing_ruled : IsSessionByRule no_session
nothing_ruled = record { groups = All-nil (λ (g : Group). IsByRule g.commands); halves = λ block. refl }

pub orders_cover : OrdersCover
orders_cover orders rule = rule_covers (session_of orders).groups (orders_ruled no_session orders nothing_ruled rule).groups
