-- What a task that runs elsewhere sends and receives: what it reads goes to its owner, and what it writes comes back.
use Rattle.std.proofs.Common.{◌≡◌, ℕ, ◌+◌, ◌<◌, Bool, true, false, List, [], ◌∷◌, ◌++◌, map, refl, ap, ap₂, sym, subst, ◌∙◌, arith}
use Rattle.std.proofs.Common.{Some}
use Rattle.std.specs.Prelude.{◌==◌, ◌&&◌, ◌||◌, not, if◌then◌else◌, ℤ}
use Rattle.std.specs.List.{AllByRecursion, filter}
use Rattle.std.proofs.lemmas.Bool.{eq-eqb, ne_eqb}
use Rattle.std.proofs.lemmas.List.{append_assoc}
use Rattle.nim_base.specs.declared.number.Object.{Object}
use Rattle.nim_base.specs.declared.number.Slot.{Slot}
use Rattle.nim_base.specs.declared.number.Worker.{Worker}
use Rattle.nim_command.specs.declared.command.Command.{Command}
use Rattle.nim_command.specs.declared.edit.Spec.{Spec}
use Rattle.nim_command.specs.declared.entry.EntryKind.{EntryKind}
use Rattle.nim_command.specs.Edits.{entry_of, forward_receive, forward_send, return_receives, return_sends, run_over, written_slots}
use Rattle.nim_command.specs.Expansion.{version_at}
use Rattle.nim_command.specs.Holds.{Content, content_at, left_by, version_after}
use Rattle.nim_command.specs.Numbers.{counted_from, entry_number, main_slot, offset_after, scratch_slot, task_of}
use Rattle.nim_command.specs.Slots.{is_among, object_of}
use Rattle.nim_place.proofs.Legal.{main_of}
use Rattle.nim_template.proofs.Planes.{taken_is}
use Rattle.nim_edit.proofs.Ascending.{away_commands}
use Rattle.nim_edit.proofs.Effects.{scratch_written}
use Rattle.nim_edit.proofs.Elsewhere.{scratch_of}
use Rattle.nim_edit.proofs.InOrder.{placed_command}
use Rattle.nim_edit.proofs.LateEntries.{at_worker}
use Rattle.nim_edit.proofs.Leaves.{same_version}
use Rattle.nim_edit.proofs.Parcels.{Held, Parcel, Puts, both_balanced, held_after, held_append, held_with, parcels, puts_by, send_keeps, step_at, takings}
use Rattle.nim_edit.proofs.Parcels.{then_balanced, version_in}
use Rattle.nim_edit.proofs.Puts.{FirstRead}
use Rattle.nim_edit.proofs.RunsElsewhere.{all_written}

-- a read of an object that has a main slot, whose version the home has
abbrev pub IsAtHome : (Object → ℕ) → ℕ → Held → Worker → FirstRead → Type 0
IsAtHome before base held home f =
    (f.object.0 < 512) × (held home (main_slot f.object) ≡ Some (f.object, version_at base (before f.object) f.offset))

-- ---- what is sent on

sent_on : (before : Object → ℕ) (base : ℕ) (args : List ℤ) (task : ℕ) (home owner : Worker) (held : Held) (fs : List FirstRead)
    → AllByRecursion (IsAtHome before base held home) fs
    → parcels held (map (placed_command before base args) (at_worker home (map (forward_send task owner) (filter (λ (r : FirstRead). not r.there) fs))))
    ≡ takings (map (placed_command before base args) (at_worker owner (map (forward_receive task) fs)))
sent_on before base args task home owner held [] all = refl
sent_on before base args task home owner held (f ∷ fs) all = either f.there (sent_on before base args task home owner held fs all.1) where
  lacking : List FirstRead
  lacking = filter (λ (r : FirstRead). not r.there) fs

  more : List (Worker × Command)
  more = map (placed_command before base args) (at_worker owner (map (forward_receive task) fs))

  placed : List FirstRead → List (Worker × Command)
  placed rs = map (placed_command before base args) (at_worker home (map (forward_send task owner) rs))

  command : Bool → Worker × Command
  command b =
      placed_command before base args (
        owner,
        entry_of (entry_number task 3 f.index)
            (if b then EntryKind.Copy (main_slot f.object) (scratch_slot f.object) else EntryKind.Receive (scratch_slot f.object) f.offset),
      )

  version_is : version_in (held home (main_slot f.object)) ≡ version_at base (before (object_of (scratch_slot f.object))) f.offset
  version_is =
      ap version_in all.0.1 ∙ ap (λ (o : Object). version_at base (before o) f.offset) (sym (scratch_of f.object all.0.0))

  object_is : object_of (main_slot f.object) ≡ object_of (scratch_slot f.object)
  object_is = main_of f.object all.0.0 ∙ sym (scratch_of f.object all.0.0)

  either : (b : Bool) → parcels held (placed lacking) ≡ takings more
      → parcels held (placed (if not b then f ∷ lacking else lacking)) ≡ takings (command b ∷ more)
  either true rest = rest
  either false rest =
      ap₂ (λ (o : Object) (ps : List Parcel). (owner, entry_number task 3 f.index, o, version_in (held home (main_slot f.object))) ∷ ps) object_is
      (ap (λ (h : Held). parcels h (placed lacking))
      (send_keeps home (entry_number task 2 f.index) (main_slot f.object) owner (entry_number task 3 f.index) [] held) ∙ rest)
      ∙ ap (λ (v : ℕ). (owner, entry_number task 3 f.index, object_of (scratch_slot f.object), v) ∷ takings more) version_is

on_keeps : (before : Object → ℕ) (base : ℕ) (args : List ℤ) (task : ℕ) (home owner : Worker) (held : Held) (fs : List FirstRead)
    → held_after held (map (placed_command before base args) (at_worker home (map (forward_send task owner) fs))) ≡ held
on_keeps before base args task home owner held [] = refl
on_keeps before base args task home owner held (f ∷ fs) =
    ap (λ (h : Held). held_after h (map (placed_command before base args) (at_worker home (map (forward_send task owner) fs))))
    (send_keeps home (entry_number task 2 f.index) (main_slot f.object) owner (entry_number task 3 f.index) [] held)
    ∙ on_keeps before base args task home owner held fs

on_takes : (before : Object → ℕ) (base : ℕ) (args : List ℤ) (task : ℕ) (home owner : Worker) (fs : List FirstRead)
    → takings (map (placed_command before base args) (at_worker home (map (forward_send task owner) fs))) ≡ []
on_takes before base args task home owner [] = refl
on_takes before base args task home owner (f ∷ fs) = on_takes before base args task home owner fs

-- what comes to the owner goes to scratch slots
scratch_apart : (object : Object) (slot : Slot) → slot.0 < 512 → (slot.0 == (scratch_slot object).0) ≡ false
scratch_apart object slot low = ne_eqb slot.0 (scratch_slot object).0 (λ same. absurd (omega (arith, same, low)))

abbrev SameMains : Held → Held → Type 0
SameMains now held = (worker : Worker) (slot : Slot) → slot.0 < 512 → now worker slot ≡ held worker slot

-- a command that leaves its worker's main slots
same_step : (c : Worker × Command) (held : Held)
    → ((before : Slot → Content) (slot : Slot) → slot.0 < 512 → left_by c.1.kind before slot ≡ before slot) → SameMains (held_with c held) held
same_step c held keeps worker slot low = either (c.0.0 == worker.0) refl where
  either : (b : Bool) → (c.0.0 == worker.0) ≡ b → held_with c held worker slot ≡ held worker slot
  either true here = step_at c held worker slot true here ∙ keeps (held worker) slot low
  either false apart = step_at c held worker slot false apart

come_sends : (before : Object → ℕ) (base : ℕ) (args : List ℤ) (task : ℕ) (owner : Worker) (fs : List FirstRead) (held : Held)
    → parcels held (map (placed_command before base args) (at_worker owner (map (forward_receive task) fs))) ≡ []
come_sends before base args task owner [] held = refl
come_sends before base args task owner (f ∷ fs) held = either f.there (λ h. come_sends before base args task owner fs h) where
  more : List (Worker × Command)
  more = map (placed_command before base args) (at_worker owner (map (forward_receive task) fs))

  command : Bool → Worker × Command
  command b =
      placed_command before base args (
        owner,
        entry_of (entry_number task 3 f.index)
            (if b then EntryKind.Copy (main_slot f.object) (scratch_slot f.object) else EntryKind.Receive (scratch_slot f.object) f.offset),
      )

  either : (b : Bool) → ((h : Held) → parcels h more ≡ []) → parcels held (command b ∷ more) ≡ []
  either true rest = rest (held_with (command true) held)
  either false rest = rest (held_with (command false) held)

come_keeps : (before : Object → ℕ) (base : ℕ) (args : List ℤ) (task : ℕ) (owner : Worker) (fs : List FirstRead) (held : Held)
    → SameMains (held_after held (map (placed_command before base args) (at_worker owner (map (forward_receive task) fs)))) held
come_keeps before base args task owner [] held worker slot low = refl
come_keeps before base args task owner (f ∷ fs) held worker slot low =
    either f.there (λ h. come_keeps before base args task owner fs h worker slot low) where
      more : List (Worker × Command)
      more = map (placed_command before base args) (at_worker owner (map (forward_receive task) fs))

      command : Bool → Worker × Command
      command b =
          placed_command before base args (
            owner,
            entry_of (entry_number task 3 f.index)
                (if b then EntryKind.Copy (main_slot f.object) (scratch_slot f.object) else EntryKind.Receive (scratch_slot f.object) f.offset),
          )

      keeps : (old : Slot → Content) (content : Content) (other : Slot) → other.0 < 512
          → (if other.0 == (scratch_slot f.object).0 then content else old other) ≡ old other
      keeps old content other small = ap (λ (b : Bool). if b then content else old other) (scratch_apart f.object other small)

      either : (b : Bool) → ((h : Held) → held_after h more worker slot ≡ h worker slot) → held_after held (command b ∷ more) worker slot ≡ held worker slot
      either true rest =
          rest (held_with (command true) held)
          ∙ same_step (command true) held (λ old other small. keeps old (old (main_slot f.object)) other small) worker slot low
      either false rest =
          rest (held_with (command false) held)
          ∙ same_step (command false) held (λ old other small. keeps old
          (content_at (scratch_slot f.object) (version_at base (before (object_of (scratch_slot f.object))) f.offset)) other small) worker slot low

-- ---- what comes back

sent_back : (before : Object → ℕ) (base : ℕ) (args : List ℤ) (task : ℕ) (home owner : Worker) (version : ℕ) (held : Held) (index : ℕ) (objects : List Object)
    → task < 1024 → version ≡ version_after (counted_from base (task_of (entry_number task 4 0)))
    → AllByRecursion (λ (o : Object). o.0 < 512) objects
    → AllByRecursion (λ (o : Object). held owner (scratch_slot o) ≡ Some (o, version)) objects
    → parcels held (map (placed_command before base args) (at_worker owner (return_sends task home index objects)))
    ≡ takings (map (placed_command before base args) (at_worker home (return_receives task index objects)))
sent_back before base args task home owner version held index [] few is low there = refl
sent_back before base args task home owner version held index (o ∷ objects) few is low there =
    ap₂ (λ (p : Object) (v : ℕ). (home, entry_number task 6 index, p, v)
    ∷ parcels (held_with (placed_command before base args (
      owner,
      entry_of (entry_number task 5 index) (EntryKind.Send (scratch_slot o) home
          (entry_number task 6 index)),
    )) held)
    (map (placed_command before base args) (at_worker owner (return_sends task home (index + 1) objects))))
    (scratch_of o low.0 ∙ sym (main_of o low.0))
    (ap version_in there.0 ∙ is ∙ sym (same_version base (before (object_of (main_slot o))) task few))
    ∙ ap (λ (ps : List Parcel). (
      home,
      entry_number task 6 index,
      object_of (main_slot o),
      version_at base (before (object_of (main_slot o)))
          (offset_after task),
    ) ∷ ps)
    (ap (λ (h : Held). parcels h (map (placed_command before base args) (at_worker owner (return_sends task home (index + 1) objects))))
    (send_keeps owner (entry_number task 5 index) (scratch_slot o) home (entry_number task 6 index) [] held)
    ∙ sent_back before base args task home owner version held (index + 1) objects few is low.1 there.1)

back_keeps : (before : Object → ℕ) (base : ℕ) (args : List ℤ) (task : ℕ) (home owner : Worker) (held : Held) (index : ℕ) (objects : List Object)
    → held_after held (map (placed_command before base args) (at_worker owner (return_sends task home index objects))) ≡ held
back_keeps before base args task home owner held index [] = refl
back_keeps before base args task home owner held index (o ∷ objects) =
    ap (λ (h : Held). held_after h (map (placed_command before base args) (at_worker owner (return_sends task home (index + 1) objects))))
    (send_keeps owner (entry_number task 5 index) (scratch_slot o) home (entry_number task 6 index) [] held)
    ∙ back_keeps before base args task home owner held (index + 1) objects

back_takes : (before : Object → ℕ) (base : ℕ) (args : List ℤ) (task : ℕ) (home owner : Worker) (index : ℕ) (objects : List Object)
    → takings (map (placed_command before base args) (at_worker owner (return_sends task home index objects))) ≡ []
back_takes before base args task home owner index [] = refl
back_takes before base args task home owner index (o ∷ objects) = back_takes before base args task home owner (index + 1) objects

got_sends : (before : Object → ℕ) (base : ℕ) (args : List ℤ) (task : ℕ) (home : Worker) (index : ℕ) (objects : List Object) (held : Held)
    → parcels held (map (placed_command before base args) (at_worker home (return_receives task index objects))) ≡ []
got_sends before base args task home index [] held = refl
got_sends before base args task home index (o ∷ objects) held =
    got_sends before base args task home (index + 1) objects
    (held_with (placed_command before base args (home, entry_of (entry_number task 6 index) (EntryKind.Receive (main_slot o) (offset_after task)))) held)

puts_more : (first : Bool) (rest own : Bool) (x y : Content)
    → (if rest && own then x else (if (first || false) && own then x else y)) ≡ (if (first || rest) && own then x else y)
puts_more true true own x y = either own where
  either : (b : Bool) → (if b then x else (if b then x else y)) ≡ (if b then x else y)
  either true = refl
  either false = refl
puts_more true false own x y = refl
puts_more false true own x y = refl
puts_more false false own x y = refl

got_puts : (before : Object → ℕ) (base : ℕ) (args : List ℤ) (task : ℕ) (home : Worker) (version index : ℕ) (objects : List Object) (held : Held)
    → task < 1024 → version ≡ version_after (counted_from base (task_of (entry_number task 4 0)))
    → Puts (held_after held (map (placed_command before base args) (at_worker home (return_receives task index objects)))) held home version
    (written_slots false objects)
got_puts before base args task home version index [] held few is worker slot low = refl
got_puts before base args task home version index (o ∷ objects) held few is worker slot low =
    got_puts before base args task home version (index + 1) objects (held_with command held) few is worker slot low
    ∙ ap (λ (c : Content). if is_among (written_slots false objects) slot && (home.0 == worker.0) then content_at slot version else c)
    (puts_by home command.1 held version (main_slot o ∷ [])
    (λ old other. taken_is (main_slot o) other version (content_at (main_slot o) taken) (old other) (ap (content_at (main_slot o)) taken_same)) worker slot low)
    ∙ puts_more ((main_slot o).0 == slot.0) (is_among (written_slots false objects) slot) (home.0 == worker.0) (content_at slot version) (held worker slot)
  where
    command : Worker × Command
    command = placed_command before base args (home, entry_of (entry_number task 6 index) (EntryKind.Receive (main_slot o) (offset_after task)))

    taken : ℕ
    taken = version_at base (before (object_of (main_slot o))) (offset_after task)

    taken_same : taken ≡ version
    taken_same = same_version base (before (object_of (main_slot o))) task few ∙ sym is

-- ---- all of it

-- what is sent for a task is received, and its writes are put into its home's main slots
pub record IsMovedWell (held : Held) (home : Worker) (version : ℕ) (writes : List Object) (commands : List (Worker × Command)) : Type 0 where
  pub balanced : parcels held commands ≡ takings commands
  pub puts : Puts (held_after held commands) held home version (written_slots false writes)

-- where it runs at its home
pub home_well : (before : Object → ℕ) (base : ℕ) (args : List ℤ) (home : Worker) (task : ℕ) (spec : Spec) (held : Held)
    → IsMovedWell held home (version_after (counted_from base (task_of (entry_number task 4 0)))) spec.writes
    (map (placed_command before base args) ((home, run_over false task spec) ∷ []))
home_well before base args home task spec held = record {
  balanced = refl;
  puts = puts_by home (placed_command before base args (home, run_over false task spec)).1 held
      (version_after (counted_from base (task_of (entry_number task 4 0)))) (written_slots false spec.writes) (λ old slot. refl);
}

-- and where it runs at another owner
pub away_well : (before : Object → ℕ) (base : ℕ) (args : List ℤ) (home owner : Worker) (task : ℕ) (spec : Spec) (firsts : List FirstRead) (held : Held)
    → task < 1024 → AllByRecursion (IsAtHome before base held home) firsts → AllByRecursion (λ (o : Object). o.0 < 512) spec.writes
    → IsMovedWell held home (version_after (counted_from base (task_of (entry_number task 4 0)))) spec.writes
    (away_commands before base args home owner task spec firsts)
away_well before base args home owner task spec firsts held few at_home low = record {
  balanced =
      subst (λ (cs : List (Worker × Command)). parcels held cs ≡ takings cs) (append_assoc sends receives (run ++ (back ++ got)))
      (both_balanced held (sends ++ receives) (run ++ (back ++ got))
      (then_balanced held sends receives (sent_on before base args task home owner held firsts at_home)
      (on_takes before base args task home owner (filter (λ (r : FirstRead). not r.there) firsts))
      (come_sends before base args task owner firsts (held_after held sends)))
      (subst (λ (h : Held). parcels h (run ++ (back ++ got)) ≡ takings (run ++ (back ++ got))) (sym to_second)
      (both_balanced second run (back ++ got) refl
      (then_balanced third back got (sent_back before base args task home owner version third 0 spec.writes few refl low written)
      (back_takes before base args task home owner 0 spec.writes)
      (got_sends before base args task home 0 spec.writes (held_after third back))))));
  puts = λ worker slot small.
      ap (λ (h : Held). h worker slot) state_is
      ∙ got_puts before base args task home version 0 spec.writes third few refl worker slot small
      ∙ ap (λ (c : Content). if is_among (written_slots false spec.writes) slot && (home.0 == worker.0) then content_at slot version else c)
      (third_mains worker slot small);
} where
  version : ℕ
  version = version_after (counted_from base (task_of (entry_number task 4 0)))

  sends : List (Worker × Command)
  sends = map (placed_command before base args) (at_worker home (map (forward_send task owner) (filter (λ (r : FirstRead). not r.there) firsts)))

  receives : List (Worker × Command)
  receives = map (placed_command before base args) (at_worker owner (map (forward_receive task) firsts))

  run : List (Worker × Command)
  run = map (placed_command before base args) ((owner, run_over true task spec) ∷ [])

  back : List (Worker × Command)
  back = map (placed_command before base args) (at_worker owner (return_sends task home 0 spec.writes))

  got : List (Worker × Command)
  got = map (placed_command before base args) (at_worker home (return_receives task 0 spec.writes))

  second : Held
  second = held_after held receives

  third : Held
  third = held_after second run

  sends_keep : held_after held sends ≡ held
  sends_keep = on_keeps before base args task home owner held (filter (λ (r : FirstRead). not r.there) firsts)

  to_second : held_after held (sends ++ receives) ≡ second
  to_second = held_append held sends receives ∙ ap (λ (h : Held). held_after h receives) sends_keep

  state_is : held_after held (sends ++ (receives ++ (run ++ (back ++ got)))) ≡ held_after third got
  state_is =
      held_append held sends (receives ++ (run ++ (back ++ got)))
      ∙ ap (λ (h : Held). held_after h (receives ++ (run ++ (back ++ got)))) sends_keep
      ∙ held_append held receives (run ++ (back ++ got))
      ∙ held_append second run (back ++ got)
      ∙ held_append third back got
      ∙ ap (λ (h : Held). held_after h got) (back_keeps before base args task home owner third 0 spec.writes)

  third_mains : (worker : Worker) (slot : Slot) → slot.0 < 512 → third worker slot ≡ held worker slot
  third_mains worker slot small =
      same_step (placed_command before base args (owner, run_over true task spec)) second
      (λ old other little. ap (λ (b : Bool). if b then content_at other version else old other) (scratch_written other spec.writes little)) worker slot small
      ∙ come_keeps before base args task owner firsts held worker slot small

  written : AllByRecursion (λ (o : Object). third owner (scratch_slot o) ≡ Some (o, version)) spec.writes
  written = mapped spec.writes (all_written (second owner) version spec.writes spec.writes low (λ slot is. is)) where
    mapped : (objects : List Object)
        → AllByRecursion (λ (o : Object). (if is_among (written_slots true spec.writes) (scratch_slot o) then content_at (scratch_slot o) version
        else second owner (scratch_slot o)) ≡ Some (o, version)) objects
        → AllByRecursion (λ (o : Object). third owner (scratch_slot o) ≡ Some (o, version)) objects
    mapped [] are = tt
    mapped (o ∷ objects) are = (
      step_at (placed_command before base args (owner, run_over true task spec)) second owner (scratch_slot o) true (eq-eqb owner.0 owner.0 refl) ∙ are.0,
      mapped objects are.1,
    )
