-- What orders add to the groups of a worker's session, and what stands at the new places.
use Rattle.std.proofs.Common.{◌≡◌, ◌⊎◌, ℕ, zero, suc, ◌+◌, ◌-◌, ◌<◌, ◌≤◌, Bool, true, false, List, [], ◌∷◌, ◌++◌, length, map, refl, ap, sym, subst, ◌∙◌, inl, inr, Option, None, Some, arith}
use Rattle.std.specs.Prelude.{if◌then◌else◌, slice_get}
use Rattle.std.specs.List.{AllByRecursion, fold}
use Rattle.std.specs.Option.{option_and_then, option_map}
use Rattle.std.proofs.lemmas.Bool.{cases_lt}
use Rattle.std.proofs.lemmas.List.{append-nil, append_assoc}
use Rattle.std.proofs.lemmas.Option.{none-some, same_Some}
use Rattle.nim_command.specs.declared.command.Command.{Command}
use Rattle.nim_command.specs.declared.edit.PatchPart.{PatchPart}
use Rattle.nim_command.specs.declared.entry.Entry.{Entry}
use Rattle.nim_command.specs.Edits.{edited_by}
use Rattle.nim_command.specs.Waits.{Group, Member, members_from, members_of, single_group}
use Rattle.nim_message.specs.declared.order.ToWorker.{ToWorker}
use Rattle.nim_message.specs.declared.order.ToWorker.TheVariants.{Single, InstallTemplate, Instantiate, InstallPatch, RunPatch, Reset, Stop}
use Rattle.nim_message.specs.Orders.{Session, after_order, instance_group, is_current, patch_group, with_group, with_half, with_patch}
use Rattle.nim_order.proofs.Longer.{members_append}
use Rattle.nim_history.specs.History.{Asked, asked_at}
use Rattle.nim_base.proofs.Lists.{each_append, get_behind, get_front}
use Rattle.nim_history.proofs.InTurn.{asked_still}
use Rattle.nim_history.proofs.Left.{asked_is}

-- ---- new groups

-- an order adds only groups of which this is true, and is no Reset
abbrev pub Gives : (Group → Type 0) → ToWorker → Type 0
Gives P (Single epoch instance commands) = P (single_group epoch instance commands)
Gives P (Instantiate epoch instance block base args versions edits) =
    (half : List Entry) → P (instance_group epoch instance base args versions half)
Gives P (RunPatch epoch instance patch versions) = (copies : List PatchPart) → P (patch_group epoch instance versions copies)
Gives P (Reset epoch worker workers shapes) = ⊥
Gives P order = Unit {0}

-- the groups of one session are those of another and more of which this is true
pub record Grows (P : Group → Type 0) (session after : Session) : Type 0 where
  pub news : List Group
  pub are : after.groups ≡ session.groups ++ news
  pub all : AllByRecursion P news

none_new : (P : Group → Type 0) (session after : Session) → after.groups ≡ session.groups → Grows P session after
none_new P session after same = record { news = []; are = same ∙ sym (append-nil session.groups); all = tt }

one_new : (P : Group → Type 0) (session : Session) (group : Group) (after : Session) → after.groups ≡ session.groups ++ group ∷ [] → P group
    → Grows P session after
one_new P session group after are holds = record { news = group ∷ []; are = are; all = (holds, tt) }

new_if : (P : Group → Type 0) (b : Bool) (session wider : Session) → Grows P session wider → Grows P session (if b then wider else session)
new_if P true session wider grows = grows
new_if P false session wider grows = none_new P session session refl

order_gives : (P : Group → Type 0) (session : Session) (order : ToWorker) → Gives P order → Grows P session (after_order session order)
order_gives P session (Single epoch instance commands) gives =
    let group : Group = single_group epoch instance commands in
    new_if P (is_current session epoch) session (with_group session group) (one_new P session group (with_group session group) refl gives)
order_gives P session (InstallTemplate epoch block entries) gives =
    new_if P (is_current session epoch) session (with_half session block entries) (none_new P session (with_half session block entries) refl)
order_gives P session (Instantiate epoch instance block base args versions edits) gives =
    let half : List Entry = edited_by edits (session.halves block) in
    let group : Group = instance_group epoch instance base args versions half in
    new_if P (is_current session epoch) session (with_group (with_half session block half) group)
    (one_new P session group (with_group (with_half session block half) group) refl (gives half))
order_gives P session (InstallPatch epoch patch copies) gives =
    new_if P (is_current session epoch) session (with_patch session patch copies) (none_new P session (with_patch session patch copies) refl)
order_gives P session (RunPatch epoch instance patch versions) gives =
    let group : Group = patch_group epoch instance versions (session.patches patch) in
    new_if P (is_current session epoch) session (with_group session group)
    (one_new P session group (with_group session group) refl (gives (session.patches patch)))
order_gives P session (Reset epoch worker workers shapes) gives = absurd gives
order_gives P session Stop gives = none_new P session session refl

pub orders_give : (P : Group → Type 0) (orders : List ToWorker) (session : Session) → AllByRecursion (Gives P) orders
    → Grows P session (fold after_order session orders)
orders_give P [] session gives = none_new P session session refl
orders_give P (order ∷ orders) session gives =
    let first : Grows P session (after_order session order) = order_gives P session order gives.0 in
    let rest : Grows P (after_order session order) (fold after_order (after_order session order) orders) =
    orders_give P orders (after_order session order) gives.1 in
    record {
      news = first.news ++ rest.news;
      are = rest.are ∙ ap (λ (groups : List Group). groups ++ rest.news) first.are ∙ append_assoc session.groups first.news rest.news;
      all = each_append P first.news rest.news first.all rest.all;
    }

-- ---- what is asked for

-- a command that is asked for stands in the group that it is said to be of
pub group_asked : (groups : List Group) (place : ℕ) (asked : Asked) → asked_at groups place ≡ Some asked
    → slice_get groups asked.number ≡ Some asked.group
group_asked groups place asked = either (slice_get (members_of groups) place) where
  own : (m : Member) (o : Option Group) → slice_get groups m.group ≡ o
      → option_map (λ (group : Group). record { number = m.group; group = group; command = m.command }) o ≡ Some asked
      → slice_get groups asked.number ≡ Some asked.group
  own m None there is = absurd (none-some asked is)
  own m (Some g) there is =
      subst (λ (a : Asked). slice_get groups a.number ≡ Some a.group)
      (same_Some (record { number = m.group; group = g; command = m.command }) asked is) there

  either : (o : Option Member)
      → option_and_then
      (λ (m : Member). option_map (λ (group : Group). record { number = m.group; group = group; command = m.command }) (slice_get groups m.group)) o
      ≡ Some asked
      → slice_get groups asked.number ≡ Some asked.group
  either None is = absurd (none-some asked is)
  either (Some m) is = own m (slice_get groups m.group) refl is

-- a member of groups, and where its command stands
record IsOfOne (number : ℕ) (groups : List Group) (m : Member) : Type 0 where
  behind : ℕ
  group : Group
  is : m.group ≡ number + behind
  there : slice_get groups behind ≡ Some group
  at : ℕ
  command : slice_get group.commands at ≡ Some m.command

first_or_later : (number : ℕ) (commands : List Command) (rest : List Member) (place : ℕ) (m : Member)
    → slice_get (map (λ command. record { group = number; command = command }) commands ++ rest) place ≡ Some m
    → ((m.group ≡ number) × ((k : ℕ) × (slice_get commands k ≡ Some m.command))) ⊎ ((later : ℕ) × (slice_get rest later ≡ Some m))
first_or_later number [] rest place m there = inr (place, there)
first_or_later number (command ∷ commands) rest zero m there =
    let same = same_Some (record { group = number; command = command }) m there in
    inl (sym (ap (λ (x : Member). x.group) same), (0, ap (λ (x : Member). Some x.command) same))
first_or_later number (command ∷ commands) rest (suc place) m there =
    elim (first_or_later number commands rest place m there) [
      | inl own ↦ inl (own.0, (suc own.1.0, own.1.1))
      | inr later ↦ inr later
    ]

of_one : (number : ℕ) (groups : List Group) (place : ℕ) (m : Member) → slice_get (members_from number groups) place ≡ Some m → IsOfOne number groups m
of_one number [] place m there = absurd (none-some m there)
of_one number (group ∷ groups) place m there =
    elim (first_or_later number group.commands (members_from (number + 1) groups) place m there) [
      | inl own ↦ record { behind = 0; group = group; is = omega (arith, own.0); there = refl; at = own.1.0; command = own.1.1 }
      | inr later ↦
          let rest : IsOfOne (number + 1) groups m = of_one (number + 1) groups later.0 m later.1 in
          record { behind = suc rest.behind; group = rest.group; is = omega (arith, rest.is); there = rest.there; at = rest.at; command = rest.command }
    ]

-- a command of a new group
pub record IsNew (news : List Group) (asked : Asked) : Type 0 where
  pub behind : ℕ
  pub there : slice_get news behind ≡ Some asked.group
  pub at : ℕ
  pub command : slice_get asked.group.commands at ≡ Some asked.command

-- the member that is asked for
asked_member : (groups : List Group) (o : Option Member) (asked : Asked)
    → option_and_then
    (λ (m : Member). option_map (λ (group : Group). record { number = m.group; group = group; command = m.command }) (slice_get groups m.group)) o
    ≡ Some asked
    → o ≡ Some (record { group = asked.number; command = asked.command })
asked_member groups None asked is = absurd (none-some asked is)
asked_member groups (Some m) asked is = own (slice_get groups m.group) is where
  own : (g : Option Group) → option_map (λ (group : Group). record { number = m.group; group = group; command = m.command }) g ≡ Some asked
      → Some m ≡ Some (record { group = asked.number; command = asked.command })
  own None none = absurd (none-some asked none)
  own (Some g) some =
      ap (λ (a : Asked). Some (record { group = a.number; command = a.command }))
      (same_Some (record { number = m.group; group = g; command = m.command }) asked some)

-- behind more groups a place is an old one, or one of a new group
pub old_or_new : (groups news : List Group) (place : ℕ) (asked : Asked) → asked_at (groups ++ news) place ≡ Some asked
    → (asked_at groups place ≡ Some asked) ⊎ IsNew news asked
old_or_new groups news place asked is =
    elim (cases_lt place (length (members_of groups))) [ inl within ↦ inl (old within) | inr past ↦ inr (new past) ] where
      m : Member
      m = record { group = asked.number; command = asked.command }

      there : slice_get (members_of groups ++ members_from (0 + length groups) news) place ≡ Some m
      there = ap (λ (ms : List Member). slice_get ms place) (sym (members_append 0 groups news))
          ∙ asked_member (groups ++ news) (slice_get (members_of (groups ++ news)) place) asked is

      old : place < length (members_of groups) → asked_at groups place ≡ Some asked
      old within =
          let found = asked_is groups place m (sym (get_front (members_of groups) (members_from (0 + length groups) news) place within) ∙ there) in
          let first : Asked = record { number = m.group; group = found.0; command = m.command } in
          let at : asked_at groups place ≡ Some first = found.2 in
          at ∙ ap (λ (a : Asked). Some a) (same_Some first asked (sym (asked_still groups news place first at) ∙ is))

      new : length (members_of groups) ≤ place → IsNew news asked
      new past =
          let k : ℕ = place - length (members_of groups) in
          let split : length (members_of groups) + k ≡ place = omega (arith, past) in
          let found : IsOfOne (0 + length groups) news m =
          of_one (0 + length groups) news k m
          (sym (get_behind (members_of groups) (members_from (0 + length groups) news) k)
          ∙ ap (slice_get (members_of groups ++ members_from (0 + length groups) news)) split ∙ there) in
          let number : length groups + found.behind ≡ asked.number = omega (arith, found.is) in
          let same : found.group ≡ asked.group =
          same_Some found.group asked.group
          (sym found.there ∙ sym (get_behind groups news found.behind) ∙ ap (slice_get (groups ++ news)) number
          ∙ group_asked (groups ++ news) place asked is) in
          record {
            behind = found.behind;
            there = found.there ∙ ap (λ (g : Group). Some g) same;
            at = found.at;
            command = subst (λ (g : Group). slice_get g.commands found.at ≡ Some m.command) same found.command;
          }

-- what is true of all
pub each_at : {X : Type 0} (P : X → Type 0) (xs : List X) (k : ℕ) (x : X) → AllByRecursion P xs → slice_get xs k ≡ Some x → P x
each_at P [] k x all there = absurd (none-some x there)
each_at P (y ∷ ys) zero x all there = subst P (same_Some y x there) all.0
each_at P (y ∷ ys) (suc k) x all there = each_at P ys k x all.1 there
