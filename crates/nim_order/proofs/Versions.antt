-- Objects with their versions are contents of a kind that commands leave slot by slot.
use Rattle.std.proofs.Common.{◌≡◌, ℕ, zero, suc, true, false, List, [], ◌∷◌, refl, ap, sym, ◌∙◌, Option, Some, None}
use Rattle.std.specs.Prelude.{◌==◌, slice_get}
use Rattle.std.specs.Option.{option_map_or}
use Rattle.std.proofs.Math.Path.{fun_ext}
use Rattle.std.proofs.lemmas.Bool.{cond-false, cond-true, eq-eqb, eqb-false, eqb-true, or_cases, or_left, or_parts, ne_eqb, false≢true}
use Rattle.std.proofs.Common.{inl, inr}
use Rattle.nim_base.specs.declared.number.Slot.{Slot}
use Rattle.nim_command.specs.declared.command.Command.{Command}
use Rattle.nim_command.specs.declared.command.Kind.{Kind}
use Rattle.nim_command.specs.declared.command.Kind.TheVariants.{Create, Load, Send, Receive, Copy, Run, Fetch}
use Rattle.nim_command.specs.Holds.{Content, content_at, holds, left_by, put_at, version_after}
use Rattle.nim_command.specs.Slots.{does_touch, does_write, is_among}
use Rattle.nim_order.specs.Contents.{held_before}
use Rattle.nim_order.specs.Laws.{VersionsAreLocal}

put_elsewhere : (written slot : Slot) (content : Content) (before : Slot → Content) → is_among (written ∷ []) slot ≡ false
    → put_at written content before slot ≡ before slot
put_elsewhere written slot content before unwritten =
    let parts = or_parts (written.0 == slot.0) false unwritten in
    cond-false {A = Content} (slot.0 == written.0) content (before slot) (ne_eqb slot.0 written.0 (λ same. eqb-false written.0 slot.0 parts.0 (sym same)))

put_there : (written slot : Slot) (content : Content) (before : Slot → Content) → is_among (written ∷ []) slot ≡ true
    → put_at written content before slot ≡ content
put_there written slot content before writes =
    elim (or_cases (written.0 == slot.0) false writes) [
      | inl same ↦ cond-true {A = Content} (slot.0 == written.0) content (before slot) (eq-eqb slot.0 written.0 (sym (eqb-true written.0 slot.0 same)))
      | inr never ↦ absurd (false≢true never)
    ]

keeps : (kind : Kind) (before : Slot → Content) (slot : Slot) → does_write kind slot ≡ false → left_by kind before slot ≡ before slot
keeps (Create written iota number) before slot unwritten = put_elsewhere written slot (content_at written 0) before unwritten
keeps (Load written version value) before slot unwritten = put_elsewhere written slot (content_at written version) before unwritten
keeps (Receive written version) before slot unwritten = put_elsewhere written slot (content_at written version) before unwritten
keeps (Copy from to) before slot unwritten = put_elsewhere to slot (before from) before unwritten
keeps (Run position func params reads writes) before slot unwritten =
    cond-false {A = Content} (is_among writes slot) (content_at slot (version_after position)) (before slot) unwritten
keeps (Send from peer entry) before slot unwritten = refl
keeps (Fetch from ticket) before slot unwritten = refl

put_same : (written slot : Slot) (content : Content) (first second : Slot → Content) → is_among (written ∷ []) slot ≡ true
    → put_at written content first slot ≡ put_at written content second slot
put_same written slot content first second writes = put_there written slot content first writes ∙ sym (put_there written slot content second writes)

depends : (kind : Kind) (first second : Slot → Content) → ((touched : Slot) → does_touch kind touched ≡ true → first touched ≡ second touched)
    → (slot : Slot) → does_write kind slot ≡ true → left_by kind first slot ≡ left_by kind second slot
depends (Create written iota number) first second same slot writes = put_same written slot (content_at written 0) first second writes
depends (Load written version value) first second same slot writes = put_same written slot (content_at written version) first second writes
depends (Receive written version) first second same slot writes = put_same written slot (content_at written version) first second writes
depends (Copy from to) first second same slot writes =
    put_there to slot (first from) first writes
    ∙ same from (or_left (is_among (from ∷ []) from) (is_among (to ∷ []) from) (or_left (from.0 == from.0) false (eq-eqb from.0 from.0 refl)))
    ∙ sym (put_there to slot (second from) second writes)
depends (Run position func params reads writes) first second same slot written =
    cond-true {A = Content} (is_among writes slot) (content_at slot (version_after position)) (first slot) written
    ∙ sym (cond-true {A = Content} (is_among writes slot) (content_at slot (version_after position)) (second slot) written)
depends (Send from peer entry) first second same slot writes = absurd (false≢true writes)
depends (Fetch from ticket) first second same slot writes = absurd (false≢true writes)

at_slot : (o : Option Command) (before : Slot → Content) (slot : Slot)
    → option_map_or (λ (c : Command). left_by c.kind before) o before slot ≡ option_map_or (λ (c : Command). left_by c.kind before slot) o (before slot)
at_slot None before slot = refl
at_slot (Some c) before slot = refl

same_holds : (commands : List Command) (place : ℕ) → held_before (λ (c : Command). left_by c.kind) (λ (s : Slot). None) commands place ≡ holds commands place
same_holds commands zero = refl
same_holds commands (suc place) =
    ap (λ (before : Slot → Content). option_map_or (λ (c : Command). left_by c.kind before) (slice_get commands place) before) (same_holds commands place)
    ∙ fun_ext (λ slot. at_slot (slice_get commands place) (holds commands place) slot)

pub versions_are_local : VersionsAreLocal
versions_are_local = record {
  local = record { keeps = λ c. keeps c.kind; depends = λ c. depends c.kind };
  same = λ commands place slot. ap (λ (now : Slot → Content). now slot) (same_holds commands place);
}
