-- Of two members that touch one slot, one of them writing it, with no writer of the slot between them, the later waits
-- for the earlier.
use Rattle.std.proofs.Common.{◌≡◌, ℕ, suc, ◌+◌, ◌-◌, ◌<◌, Bool, true, false, List, [], take, drop, ap, ap₂, ◌∙◌, arith, Option, Some, inl, inr}
use Rattle.std.specs.Prelude.{◌==◌, ◌&&◌, ◌⊎◌, not, slice_get, slice_range}
use Rattle.std.specs.List.{list_any}
use Rattle.std.specs.Option.{option_map_or}
use Rattle.std.proofs.lemmas.Bool.{and_from, cases_Bool, cond-false, cond-true, eqb-true, not_from_false, or_cases, or_left, or_right}
use Rattle.std.proofs.lemmas.List.{drop-take}
use Rattle.nim_base.specs.declared.number.Slot.{Slot}
use Rattle.nim_command.specs.Slots.{does_read, does_touch, does_write, reads_of, writes_of}
use Rattle.nim_command.specs.Waits.{Member, is_border, is_waited, is_written_by, waits_for}
use Rattle.nim_order.proofs.Groups.{BindAll, Binds, bind_at}
use Rattle.nim_order.proofs.Items.{any_among, any_taken, get_dropped, get_taken}

-- whether the member at a place writes, or touches, the slot
abbrev pub writes : List Member → Slot → ℕ → Bool
writes ms slot place = option_map_or (λ (m : Member). does_write m.command.kind slot) (slice_get ms place) false

-- nothing between writes the slot
none_between : (ms : List Member) (slot : Slot) (earlier later : ℕ) → ((k : ℕ) → earlier < k → k < later → writes ms slot k ≡ false)
    → is_written_by (slice_range ms (earlier + 1) later) slot ≡ false
none_between ms slot earlier later none =
    any_taken (λ (m : Member). does_write m.command.kind slot) (drop (earlier + 1) ms) (later - (earlier + 1))
    (λ k less. ap (λ (o : Option Member). option_map_or (λ (m : Member). does_write m.command.kind slot) o false) (get_dropped ms (earlier + 1) k)
    ∙ none (earlier + 1 + k) (omega arith) (omega arith))

written_borders : (earlier later : Member) (between : List Member) (slot : Slot) → does_write earlier.command.kind slot ≡ true
    → does_touch later.command.kind slot ≡ true
    → is_written_by between slot ≡ false → is_border earlier between later ≡ true
written_borders earlier later between slot written touched none =
    or_left (list_any (λ s. does_touch later.command.kind s && not (is_written_by between s)) (writes_of earlier.command.kind))
    (list_any (λ s. does_write later.command.kind s && not (is_written_by between s)) (reads_of earlier.command.kind))
    (any_among (λ s. does_touch later.command.kind s && not (is_written_by between s)) slot (writes_of earlier.command.kind) written
    (and_from (does_touch later.command.kind slot) (not (is_written_by between slot)) touched (not_from_false (is_written_by between slot) none)))

touched_borders : (earlier later : Member) (between : List Member) (slot : Slot) → does_touch earlier.command.kind slot ≡ true
    → does_write later.command.kind slot ≡ true
    → is_written_by between slot ≡ false → is_border earlier between later ≡ true
touched_borders earlier later between slot touched written none =
    elim (or_cases (does_read earlier.command.kind slot) (does_write earlier.command.kind slot) touched) [
      | inl read ↦
          or_right (list_any (λ s. does_touch later.command.kind s && not (is_written_by between s)) (writes_of earlier.command.kind))
          (list_any (λ s. does_write later.command.kind s && not (is_written_by between s)) (reads_of earlier.command.kind))
          (any_among (λ s. does_write later.command.kind s && not (is_written_by between s)) slot (reads_of earlier.command.kind) read
          (and_from (does_write later.command.kind slot) (not (is_written_by between slot)) written (not_from_false (is_written_by between slot) none)))
      | inr writes ↦
          written_borders earlier later between slot writes (or_right (does_read later.command.kind slot) (does_write later.command.kind slot) written) none
    ]

-- what stands between two places, counted in two ways
between_is : (ms : List Member) (earlier later : ℕ) → earlier < later → drop (suc earlier) (take later ms) ≡ slice_range ms (earlier + 1) later
between_is ms earlier later before =
    let sum : later ≡ suc earlier + (later - suc earlier) = omega arith in
    let next : suc earlier ≡ earlier + 1 = omega arith in
    ap (λ (n : ℕ). drop (suc earlier) (take n ms)) sum
    ∙ drop-take (suc earlier) (later - suc earlier) ms
    ∙ ap (λ (n : ℕ). take (later - n) (drop n ms)) next

-- a member waits for each that it borders
border_waits : (ms : List Member) (earlier later : ℕ) (e l : Member) → BindAll [] ms → earlier < later → slice_get ms earlier ≡ Some e
    → slice_get ms later ≡ Some l
    → is_border e (slice_range ms (earlier + 1) later) l ≡ true → waits_for ms later earlier ≡ true
unfolding Binds
border_waits ms earlier later e l all before there here borders =
    let between = slice_range ms (earlier + 1) later in
    let names : Bool = list_any (λ (number : ℕ). number == e.command.id) l.command.before in
    ap₂ (λ (o p : Option Member). option_map_or (λ (l : Member). option_map_or (λ (e : Member). is_waited e between l) p false) o false) here there
    ∙ elim (cases_Bool (e.group == l.group)) [
      | inl same ↦
          cond-true {A = Bool} (e.group == l.group) names (is_border e between l) same
          ∙ bind_at [] ms later l all here earlier e (get_taken ms later earlier before ∙ there) (eqb-true e.group l.group same)
          (ap (λ (members : List Member). is_border e members l) (between_is ms earlier later before) ∙ borders)
      | inr other ↦
          cond-false {A = Bool} (e.group == l.group) names (is_border e between l) other
          ∙ borders
    ]

-- the two touch the slot, and one of them writes it
abbrev pub Meet : Slot → Member → Member → Type 0
Meet slot e l =
    ((does_write e.command.kind slot ≡ true) × (does_touch l.command.kind slot ≡ true))
    ⊎ ((does_touch e.command.kind slot ≡ true) × (does_write l.command.kind slot ≡ true))

pub meet_waits : (ms : List Member) (slot : Slot) (earlier later : ℕ) (e l : Member) → BindAll [] ms → earlier < later → slice_get ms earlier ≡ Some e
    → slice_get ms later ≡ Some l
    → Meet slot e l → ((k : ℕ) → earlier < k → k < later → writes ms slot k ≡ false) → waits_for ms later earlier ≡ true
meet_waits ms slot earlier later e l all before there here meet none =
    border_waits ms earlier later e l all before there here
    (elim meet [
      | inl first ↦ written_borders e l (slice_range ms (earlier + 1) later) slot first.0 first.1 (none_between ms slot earlier later none)
      | inr second ↦ touched_borders e l (slice_range ms (earlier + 1) later) slot second.0 second.1 (none_between ms slot earlier later none)
    ])
