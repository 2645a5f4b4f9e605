-- What a half leaves in a main slot in the end stays as it is when tasks move: the home gets back what the task writes,
-- under the same offset, and the owner writes scratch slots alone.
use Rattle.std.proofs.Common.{◌≡◌, ℕ, zero, suc, ◌+◌, ◌≤◌, ◌<◌, Bool, true, false, List, [], ◌∷◌, ◌++◌, length, map, refl, ap, ap₂, sym, subst, ◌∙◌, arith}
use Rattle.std.proofs.Common.{Option, None, Some}
use Rattle.std.specs.Prelude.{◌==◌, ◌||◌, not, if◌then◌else◌, slice_index_or}
use Rattle.std.specs.List.{filter, flat_map, range_with_len}
use Rattle.std.proofs.lemmas.Bool.{ne_eqb}
use Rattle.std.proofs.lemmas.List.Concat.{flat_map-append}
use Rattle.nim_base.specs.declared.number.Object.{Object}
use Rattle.nim_base.specs.declared.number.Slot.{Slot}
use Rattle.nim_base.specs.declared.number.Worker.{Worker}
use Rattle.nim_command.specs.declared.edit.Edit.TheVariants.{Away, Here}
use Rattle.nim_command.specs.declared.edit.Spec.{Spec}
use Rattle.nim_command.specs.declared.entry.Entry.{Entry}
use Rattle.nim_command.specs.declared.entry.EntryKind.{EntryKind}
use Rattle.nim_command.specs.declared.template.WorkerTemplate.{WorkerTemplate}
use Rattle.nim_command.specs.Edits.{first_reads, forward_receive, forward_send, put_by, return_receives, return_sends, run_over, written_slots}
use Rattle.nim_command.specs.Numbers.{entry_number, main_slot, offset_after, scratch_slot, task_of}
use Rattle.nim_command.specs.Slots.{is_among}
use Rattle.nim_template.specs.Built.{all_slots, slots_of}
use Rattle.nim_template.specs.Written.{HasEffect, item_for, item_of, last_written, offset_left}
use Rattle.nim_edit.specs.Form.{IsInForm}
use Rattle.nim_edit.proofs.Between.{after_append, after_entries}
use Rattle.nim_edit.proofs.Puts.{FirstRead, task_is}
use Rattle.nim_edit.proofs.Stays.{LeavesAlike, half_after}

-- ---- what edits put

sends_left : (slot : Slot) (before : Option ℕ) (task : ℕ) (to : Worker) (reads : List FirstRead)
    → after_entries (offset_left slot) before (map (forward_send task to) reads) ≡ before
sends_left slot before task to [] = refl
sends_left slot before task to (read ∷ reads) = sends_left slot before task to reads

returned_left : (slot : Slot) (before : Option ℕ) (task : ℕ) (home : Worker) (index : ℕ) (objects : List Object)
    → after_entries (offset_left slot) before (return_sends task home index objects) ≡ before
returned_left slot before task home index [] = refl
returned_left slot before task home index (object ∷ objects) = returned_left slot before task home (index + 1) objects

-- what comes back is what the run would have left
received_left : (slot : Slot) (before : Option ℕ) (task index : ℕ) (objects : List Object)
    → after_entries (offset_left slot) before (return_receives task index objects)
    ≡ (if is_among (written_slots false objects) slot then Some (offset_after task) else before)
received_left slot before task index [] = refl
received_left slot before task index (object ∷ objects) =
    received_left slot (if (main_slot object).0 == slot.0 then Some (offset_after task) else before) task (index + 1) objects
    ∙ joined (is_among (written_slots false objects) slot) ((main_slot object).0 == slot.0) where
      joined : (a b : Bool)
          → (if a then Some (offset_after task) else (if b then Some (offset_after task) else before))
          ≡ (if b || a then Some (offset_after task) else before)
      joined true true = refl
      joined true false = refl
      joined false true = refl
      joined false false = refl

-- a scratch slot is no main slot
pub scratch_apart : (slot : Slot) (object : Object) → slot.0 < 512 → ((scratch_slot object).0 == slot.0) ≡ false
scratch_apart slot object main = ne_eqb (scratch_slot object).0 slot.0 (λ same. absurd (omega (arith, same, main)))

copied_left : (slot : Slot) (before : Option ℕ) (task : ℕ) (reads : List FirstRead) → slot.0 < 512
    → after_entries (offset_left slot) before (map (forward_receive task) reads) ≡ before
copied_left slot before task [] main = refl
copied_left slot before task (read ∷ reads) main =
    ap (λ (b : Option ℕ). after_entries (offset_left slot) b (map (forward_receive task) reads)) (either read.there)
    ∙ copied_left slot before task reads main where
      number : ℕ
      number = entry_number task 3 read.index

      either : (b : Bool)
          → offset_left slot before number (if b then EntryKind.Copy (main_slot read.object) (scratch_slot read.object)
          else EntryKind.Receive (scratch_slot read.object) read.offset) ≡ before
      either true = refl
      either false = ap (λ (b : Bool). if b then Some read.offset else before) (scratch_apart slot read.object main)

pub scratch_written : (slot : Slot) (objects : List Object) → slot.0 < 512 → is_among (written_slots true objects) slot ≡ false
scratch_written slot [] main = refl
scratch_written slot (object ∷ objects) main = ap₂ (λ (a b : Bool). a || b) (scratch_apart slot object main) (scratch_written slot objects main)

-- at the home
away_left : (slot : Slot) (before : Option ℕ) (task : ℕ) (to : Worker) (mask : ℕ) (spec : Spec) → task < 1024
    → after_entries (offset_left slot) before (run_over false task spec ∷ []) ≡ after_entries (offset_left slot) before (put_by (Away task to mask spec))
away_left slot before task to mask spec few =
    let reads : List FirstRead = filter (λ (r : FirstRead). not r.there) (first_reads [] mask spec.reads) in
    ap (λ (t : ℕ). if is_among (written_slots false spec.writes) slot then Some (offset_after t) else before)
    (task_is task 4 0 few (omega arith) (omega arith))
    ∙ sym (after_append (offset_left slot) before (map (forward_send task to) reads) (return_receives task 0 spec.writes)
    ∙ ap (λ (b : Option ℕ). after_entries (offset_left slot) b (return_receives task 0 spec.writes)) (sends_left slot before task to reads)
    ∙ received_left slot before task 0 spec.writes)

-- at the owner
here_left : (slot : Slot) (before : Option ℕ) (task : ℕ) (from : Worker) (mask : ℕ) (spec : Spec) → slot.0 < 512
    → before ≡ after_entries (offset_left slot) before (put_by (Here task from mask spec))
here_left slot before task from mask spec main =
    let reads : List FirstRead = first_reads [] mask spec.reads in
    let run : Entry = run_over true task spec in
    let sends : List Entry = return_sends task from 0 spec.writes in
    sym (after_append (offset_left slot) before (map (forward_receive task) reads) (run ∷ sends)
    ∙ ap (λ (b : Option ℕ). after_entries (offset_left slot) b (run ∷ sends)) (copied_left slot before task reads main)
    ∙ ap (λ (w : Bool). after_entries (offset_left slot) (if w then Some (offset_after (task_of run.id)) else before) sends)
    (scratch_written slot spec.writes main)
    ∙ returned_left slot before task from 0 spec.writes)

-- a main slot
leaves_alike : (slot : Slot) → slot.0 < 512 → LeavesAlike (offset_left slot) (λ (last : Option ℕ). Unit {0})
leaves_alike slot main = record {
  stays = λ last number kind all. tt;
  away = λ last task to mask spec few all. away_left slot last task to mask spec few;
  here = λ last task from mask spec all. here_left slot last task from mask spec main;
}

-- each main slot has in the end what it has as built
pub ends_alike : (template : WorkerTemplate) → IsInForm template → (worker : Worker) (object : Object) → worker.0 < length template.built → object.0 < 512
    → last_written (slice_index_or template.halves worker.0 []) (main_slot object) ≡ last_written (slice_index_or template.built worker.0 []) (main_slot object)
ends_alike template form worker object below main =
    half_after (offset_left (main_slot object)) (λ (last : Option ℕ). Unit {0}) (leaves_alike (main_slot object) main) template form worker below None tt

-- ---- the effect

same_slots : {Y : Type 0} (f g : Worker × Object → List Y) (worker : Worker) (from n : ℕ)
    → ((o : ℕ) → from ≤ o → o < from + n → f (worker, record { 0 = o }) ≡ g (worker, record { 0 = o }))
    → flat_map f (map (λ (number : ℕ). let object : Object = record { 0 = number } in (worker, object)) (range_with_len from n))
    ≡ flat_map g (map (λ (number : ℕ). let object : Object = record { 0 = number } in (worker, object)) (range_with_len from n))
same_slots f g worker from zero same = refl
same_slots {Y} f g worker from (suc n) same =
    ap₂ (λ (xs ys : List Y). xs ++ ys) (same from (omega arith) (omega arith))
    (same_slots f g worker (from + 1) n (λ o above below. same o (omega (arith, above)) (omega (arith, below))))

pub same_all : {Y : Type 0} (f g : Worker × Object → List Y) (objects from n : ℕ)
    → ((w o : ℕ) → from ≤ w → w < from + n → o < objects → f (record { 0 = w }, record { 0 = o }) ≡ g (record { 0 = w }, record { 0 = o }))
    → flat_map f (flat_map (λ (number : ℕ). slots_of (record { 0 = number }) objects) (range_with_len from n))
    ≡ flat_map g (flat_map (λ (number : ℕ). slots_of (record { 0 = number }) objects) (range_with_len from n))
same_all f g objects from zero same = refl
same_all {Y} f g objects from (suc n) same =
    let first : List (Worker × Object) = slots_of (record { 0 = from }) objects in
    let rest : List (Worker × Object) = flat_map (λ (number : ℕ). slots_of (record { 0 = number }) objects) (range_with_len (from + 1) n) in
    flat_map-append f first rest
    ∙ ap₂ (λ (xs ys : List Y). xs ++ ys)
    (same_slots f g (record { 0 = from }) 0 objects (λ o above below. same from o (omega arith) (omega arith) (omega (arith, below))))
    (same_all f g objects (from + 1) n (λ w o above below inside. same w o (omega (arith, above)) (omega (arith, below)) inside))
    ∙ sym (flat_map-append g first rest)

-- what halves write is what other halves write, where both end as the same were built
pub same_effect : (before after : WorkerTemplate) (objects : ℕ) → objects ≤ 512 → IsInForm before → IsInForm after → after.built ≡ before.built
    → flat_map (item_for before.halves) (all_slots (length before.built) objects)
    ≡ flat_map (item_for after.halves) (all_slots (length before.built) objects)
same_effect before after objects few form also same =
    same_all (item_for before.halves) (item_for after.halves) objects 0 (length before.built)
    (λ w o above below inside. ap (item_of (record { 0 = w }, record { 0 = o }))
    (ends_alike before form (record { 0 = w }) (record { 0 = o }) (omega (arith, below)) (omega (arith, inside, few))
    ∙ ap (λ (halves : List (List Entry)). last_written (slice_index_or halves w []) (main_slot (record { 0 = o }))) (sym same)
    ∙ sym (ends_alike after also (record { 0 = w }) (record { 0 = o })
    (subst (λ (halves : List (List Entry)). w < length halves) (sym same) (omega (arith, below)))
    (omega (arith, inside, few)))))

-- the effect as the halves were built is the effect behind a move
pub kept_effect : (before after : WorkerTemplate) (objects : ℕ) → objects ≤ 512 → IsInForm before → IsInForm after → after.built ≡ before.built
    → after.effect ≡ before.effect → HasEffect (length before.built) objects before → HasEffect (length before.built) objects after
kept_effect before after objects few form also same is has = is ∙ has ∙ same_effect before after objects few form also same
