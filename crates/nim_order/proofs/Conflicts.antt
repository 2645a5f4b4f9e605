-- Two commands conflict where both touch one slot and one of them writes it.
use Rattle.std.proofs.Common.{◌≡◌, ℕ, true, false, inl, inr, Option, Some, None}
use Rattle.std.specs.Prelude.{slice_get, List}
use Rattle.std.specs.List.{list_any}
use Rattle.std.specs.Option.{option_map_or}
use Rattle.std.proofs.lemmas.Bool.{false≢true, or_cases, or_left, or_right}
use Rattle.nim_base.specs.declared.number.Slot.{Slot}
use Rattle.nim_command.specs.declared.command.Command.{Command}
use Rattle.nim_command.specs.declared.command.Kind.{Kind}
use Rattle.nim_command.specs.Covered.{do_conflict}
use Rattle.nim_command.specs.Slots.{does_read, does_touch, does_write, reads_of, writes_of}
use Rattle.nim_order.specs.Progress.{conflict_at, touches_at, writes_at}
use Rattle.nim_order.proofs.Items.{among_any, any_among}

pub write_touch : (e l : Kind) (slot : Slot) → does_write e slot ≡ true → does_touch l slot ≡ true → do_conflict e l ≡ true
write_touch e l slot writes touches =
    or_left (list_any (does_touch l) (writes_of e)) (list_any (does_write l) (reads_of e)) (any_among (does_touch l) slot (writes_of e) writes touches)

pub touch_write : (e l : Kind) (slot : Slot) → does_touch e slot ≡ true → does_write l slot ≡ true → do_conflict e l ≡ true
touch_write e l slot touches writes =
    elim (or_cases (does_read e slot) (does_write e slot) touches) [
      | inl read ↦
          or_right (list_any (does_touch l) (writes_of e)) (list_any (does_write l) (reads_of e)) (any_among (does_write l) slot (reads_of e) read writes)
      | inr written ↦ write_touch e l slot written (or_right (does_read l slot) (does_write l slot) writes)
    ]

-- where two conflict there is a slot that both touch, and one of them writes it
pub conflict_slot : (e l : Kind) (G : Type 0) → ((slot : Slot) → does_write e slot ≡ true → does_touch l slot ≡ true → G)
    → ((slot : Slot) → does_touch e slot ≡ true → does_write l slot ≡ true → G) → do_conflict e l ≡ true → G
conflict_slot e l G first second conflict =
    elim (or_cases (list_any (does_touch l) (writes_of e)) (list_any (does_write l) (reads_of e)) conflict) [
      | inl written ↦ among_any (does_touch l) G (writes_of e) first written
      | inr read ↦ among_any (does_write l) G (reads_of e) (λ slot reads writes. second slot (or_left (does_read e slot) (does_write e slot) reads) writes) read
    ]

turned : (e l : Kind) → do_conflict e l ≡ true → do_conflict l e ≡ true
turned e l conflict =
    conflict_slot e l (do_conflict l e ≡ true) (λ slot writes touches. touch_write l e slot touches writes)
    (λ slot touches writes. write_touch l e slot writes touches)
    conflict

turned_both : (o p : Option Command)
    → option_map_or (λ (e : Command). option_map_or (λ (l : Command). do_conflict e.kind l.kind) p false) o false ≡ true
    → option_map_or (λ (e : Command). option_map_or (λ (l : Command). do_conflict e.kind l.kind) o false) p false ≡ true
turned_both None p conflict = absurd (false≢true conflict)
turned_both (Some e) None conflict = absurd (false≢true conflict)
turned_both (Some e) (Some l) conflict = turned e.kind l.kind conflict

pub conflict_turned : (commands : List Command) (one other : ℕ) → conflict_at commands one other ≡ true → conflict_at commands other one ≡ true
conflict_turned commands one other conflict = turned_both (slice_get commands one) (slice_get commands other) conflict

touch_write_both : (slot : Slot) (o p : Option Command)
    → option_map_or (λ (e : Command). does_touch e.kind slot) o false ≡ true → option_map_or (λ (l : Command). does_write l.kind slot) p false ≡ true
    → option_map_or (λ (e : Command). option_map_or (λ (l : Command). do_conflict e.kind l.kind) p false) o false ≡ true
touch_write_both slot None p touches writes = absurd (false≢true touches)
touch_write_both slot (Some e) None touches writes = absurd (false≢true writes)
touch_write_both slot (Some e) (Some l) touches writes = touch_write e.kind l.kind slot touches writes

pub touched_written : (commands : List Command) (earlier later : ℕ) (slot : Slot) → touches_at commands earlier slot ≡ true
    → writes_at commands later slot ≡ true
    → conflict_at commands earlier later ≡ true
touched_written commands earlier later slot touches writes = touch_write_both slot (slice_get commands earlier) (slice_get commands later) touches writes

pub written_touched : (commands : List Command) (earlier later : ℕ) (slot : Slot) → writes_at commands earlier slot ≡ true
    → touches_at commands later slot ≡ true
    → conflict_at commands earlier later ≡ true
written_touched commands earlier later slot writes touches = conflict_turned commands later earlier (touched_written commands later earlier slot touches writes)

writes_touch_there : (slot : Slot) (o : Option Command) → option_map_or (λ (c : Command). does_write c.kind slot) o false ≡ true
    → option_map_or (λ (c : Command). does_touch c.kind slot) o false ≡ true
writes_touch_there slot None writes = absurd (false≢true writes)
writes_touch_there slot (Some c) writes = or_right (does_read c.kind slot) (does_write c.kind slot) writes

-- what is written is touched
pub writes_touch : (commands : List Command) (place : ℕ) (slot : Slot) → writes_at commands place slot ≡ true → touches_at commands place slot ≡ true
writes_touch commands place slot writes = writes_touch_there slot (slice_get commands place) writes
