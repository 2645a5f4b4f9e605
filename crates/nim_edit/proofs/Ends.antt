-- What is sent in parts of an instance is received in the same order: in what was built, and in a moved task.
use Rattle.std.proofs.Common.{◌≡◌, ℕ, ◌+◌, ◌≤◌, ◌<◌, Bool, true, false, List, [], ◌∷◌, ◌++◌, map, refl, ap, ap₂, sym, ◌∙◌, arith}
use Rattle.std.specs.Prelude.{◌*◌, ◌%◌, ◌||◌, nat_le, nat_lt, not, if◌then◌else◌, ℤ}
use Rattle.std.specs.List.{AllByRecursion, filter}
use Rattle.std.proofs.lemmas.Bool.{false≢true, leb-false, leb-true, ltb-false, ltb-true}
use Rattle.std.proofs.lemmas.List.{append-nil}
use Rattle.std.proofs.lemmas.List.Concat.{flat_map-append}
use Rattle.nim_base.specs.declared.number.Object.{Object}
use Rattle.nim_base.specs.declared.number.Worker.{Worker}
use Rattle.nim_command.specs.declared.command.Command.{Command}
use Rattle.nim_command.specs.declared.command.Kind.{Kind}
use Rattle.nim_command.specs.declared.command.Kind.TheVariants.{Create, Load, Send, Receive, Copy, Run, Fetch}
use Rattle.nim_command.specs.declared.edit.Spec.{Spec}
use Rattle.nim_command.specs.declared.entry.EntryKind.{EntryKind}
use Rattle.nim_command.specs.Edits.{entry_of, forward_receive, forward_send, return_receives, return_sends, run_over}
use Rattle.nim_command.specs.Numbers.{entry_number, main_slot, scratch_slot, task_of}
use Rattle.nim_command.specs.Slots.{object_of}
use Rattle.nim_place.specs.Sound.{end_received, end_sent}
use Rattle.nim_place.proofs.Legal.{main_of}
use Rattle.nim_template.proofs.RankedEnds.{Ends, ends_received, ends_sent}
use Rattle.nim_edit.proofs.Ascending.{away_commands}
use Rattle.nim_edit.proofs.Elsewhere.{scratch_of}
use Rattle.nim_edit.proofs.InOrder.{commands_onward, early_commands, placed_command}
use Rattle.nim_edit.proofs.LateEntries.{at_worker}
use Rattle.nim_edit.proofs.Listed.{AreCopied, IsCopyOf, IsRunKind, is_early}
use Rattle.nim_edit.proofs.Puts.{FirstRead}

-- ---- two lists

-- ---- a part of what was built

-- a test of numbers that early numbers of one task pass together
abbrev IsOfTasks : (ℕ → Bool) → Type 0
IsOfTasks q = (one other : ℕ) → is_early one ≡ true → is_early other ≡ true → task_of one ≡ task_of other → q one ≡ q other

-- the ends of those that pass are the ends that pass
pub record AreOfPart (q : ℕ → Bool) (cs : List (Worker × Command)) : Type 0 where
  pub sent : ends_sent (filter (λ (c : Worker × Command). q c.1.id) cs) ≡ filter (λ (e : Worker × ℕ × Object). q e.1) (ends_sent cs)
  pub received : ends_received (filter (λ (c : Worker × Command). q c.1.id) cs) ≡ filter (λ (e : Worker × ℕ × Object). q e.1) (ends_received cs)

part_ends : (q : ℕ → Bool) → IsOfTasks q → (tasks : ℕ) (cs : List (Worker × Command)) → AreCopied tasks cs → AreOfPart q cs
part_ends q of tasks [] are = record { sent = refl; received = refl }
part_ends q of tasks (c ∷ cs) are = joined (part_ends q of tasks cs are.3) where
  passed : List (Worker × Command)
  passed = filter (λ (d : Worker × Command). q d.1.id) cs

  test : Ends → Ends
  test ends = filter (λ (e : Worker × ℕ × Object). q e.1) ends

  sent_by : (kind : Kind) → (is_early c.1.id ≡ true → IsCopyOf c.1.id kind) → (is_early c.1.id ≡ false → IsRunKind kind)
      → ends_sent passed ≡ test (ends_sent cs) → (b : Bool) → q c.1.id ≡ b
      → (if b then end_sent kind ++ ends_sent passed else ends_sent passed) ≡ test (end_sent kind ++ ends_sent cs)
  sent_by (Send slot peer entry) copy run rest b is =
      either b ∙ sym (ap (λ (d : Bool). if d then end ∷ test (ends_sent cs) else test (ends_sent cs)) same) where
        end : Worker × ℕ × Object
        end = (peer, entry, object_of slot)

        early : is_early c.1.id ≡ true
        early = chosen (is_early c.1.id) refl where
          chosen : (d : Bool) → is_early c.1.id ≡ d → d ≡ true
          chosen true is = refl
          chosen false is = absurd (run is)

        same : q entry ≡ b
        same = of entry c.1.id (copy early).2 early (copy early).1 ∙ is

        either : (d : Bool) → (if d then end ∷ ends_sent passed else ends_sent passed) ≡ (if d then end ∷ test (ends_sent cs) else test (ends_sent cs))
        either true = ap (λ (es : Ends). end ∷ es) rest
        either false = rest
  sent_by (Receive slot version) copy run rest true is = rest
  sent_by (Receive slot version) copy run rest false is = rest
  sent_by (Run position func params reads writes) copy run rest true is = rest
  sent_by (Run position func params reads writes) copy run rest false is = rest
  sent_by (Create slot iota first) copy run rest true is = rest
  sent_by (Create slot iota first) copy run rest false is = rest
  sent_by (Load slot version value) copy run rest true is = rest
  sent_by (Load slot version value) copy run rest false is = rest
  sent_by (Copy from to) copy run rest true is = rest
  sent_by (Copy from to) copy run rest false is = rest
  sent_by (Fetch slot ticket) copy run rest true is = rest
  sent_by (Fetch slot ticket) copy run rest false is = rest

  received_by : (kind : Kind) → ends_received passed ≡ test (ends_received cs) → (b : Bool) → q c.1.id ≡ b
      → (if b then end_received c.0 c.1.id kind ++ ends_received passed else ends_received passed) ≡ test (end_received c.0 c.1.id kind ++ ends_received cs)
  received_by (Receive slot version) rest b is =
      either b ∙ sym (ap (λ (d : Bool). if d then end ∷ test (ends_received cs) else test (ends_received cs)) is) where
        end : Worker × ℕ × Object
        end = (c.0, c.1.id, object_of slot)

        either : (d : Bool) → (if d then end ∷ ends_received passed else ends_received passed)
            ≡ (if d then end ∷ test (ends_received cs) else test (ends_received cs))
        either true = ap (λ (es : Ends). end ∷ es) rest
        either false = rest
  received_by (Send slot peer entry) rest true is = rest
  received_by (Send slot peer entry) rest false is = rest
  received_by (Run position func params reads writes) rest true is = rest
  received_by (Run position func params reads writes) rest false is = rest
  received_by (Create slot iota first) rest true is = rest
  received_by (Create slot iota first) rest false is = rest
  received_by (Load slot version value) rest true is = rest
  received_by (Load slot version value) rest false is = rest
  received_by (Copy from to) rest true is = rest
  received_by (Copy from to) rest false is = rest
  received_by (Fetch slot ticket) rest true is = rest
  received_by (Fetch slot ticket) rest false is = rest

  lifted : (b : Bool) → ends_sent (if b then c ∷ passed else passed) ≡ (if b then end_sent c.1.kind ++ ends_sent passed else ends_sent passed)
  lifted true = refl
  lifted false = refl

  lifted_too : (b : Bool)
      → ends_received (if b then c ∷ passed else passed) ≡ (if b then end_received c.0 c.1.id c.1.kind ++ ends_received passed else ends_received passed)
  lifted_too true = refl
  lifted_too false = refl

  joined : AreOfPart q cs → AreOfPart q (c ∷ cs)
  joined rest = record {
    sent = lifted (q c.1.id) ∙ sent_by c.1.kind are.0 are.1 rest.sent (q c.1.id) refl;
    received = lifted_too (q c.1.id) ∙ received_by c.1.kind rest.received (q c.1.id) refl;
  }

-- a part of commands that are copied is
pub copied_part : (p : Worker × Command → Bool) (tasks : ℕ) (cs : List (Worker × Command)) → AreCopied tasks cs → AreCopied tasks (filter p cs)
copied_part p tasks [] are = tt
copied_part p tasks (c ∷ cs) are = either (p c) (copied_part p tasks cs are.3) where
  either : (b : Bool) → AreCopied tasks (filter p cs) → AreCopied tasks (if b then c ∷ filter p cs else filter p cs)
  either true rest = (are.0, are.1, are.2, rest)
  either false rest = rest

part_same : (q : ℕ → Bool) → IsOfTasks q → (tasks : ℕ) (cs : List (Worker × Command)) → AreCopied tasks cs → ends_sent cs ≡ ends_received cs
    → ends_sent (filter (λ (c : Worker × Command). q c.1.id) cs) ≡ ends_received (filter (λ (c : Worker × Command). q c.1.id) cs)
part_same q of tasks cs are same =
    let part : AreOfPart q cs = part_ends q of tasks cs are in
    part.sent ∙ ap (filter (λ (e : Worker × ℕ × Object). q e.1)) same ∙ sym part.received

-- whether a number is from a task on
onward_of : (task : ℕ) → IsOfTasks (λ n. not (nat_lt n (64 * task)))
onward_of task one other first second same = ap not (either (nat_lt one (64 * task)) refl (nat_lt other (64 * task)) refl) where
  either : (a : Bool) → nat_lt one (64 * task) ≡ a → (b : Bool) → nat_lt other (64 * task) ≡ b → a ≡ b
  either true less true also = refl
  either false more false also = refl
  either true less false also = absurd (omega (arith, same, ltb-true one (64 * task) less, ltb-false other (64 * task) also))
  either false more true also = absurd (omega (arith, same, ltb-false one (64 * task) more, ltb-true other (64 * task) also))

-- an early number is of its task's first phases, where it is of one of 1,024
early_small : (number : ℕ) → is_early number ≡ true → number < 65536 → number % 64 < 16
early_small number early few = either (nat_lt (number % 64) 16) refl (nat_le 65536 number) refl early where
  either : (a : Bool) → nat_lt (number % 64) 16 ≡ a → (b : Bool) → nat_le 65536 number ≡ b → (a || b) ≡ true → number % 64 < 16
  either true less b more is = ltb-true (number % 64) 16 less
  either false less true more is = absurd (omega (arith, few, leb-true 65536 number more))
  either false less false more is = absurd (false≢true is)

-- or below what comes behind its first phases
under_of : (task : ℕ) → task < 1024 → IsOfTasks (λ n. not (nat_le (64 * task + 16) n))
under_of task few one other first second same = ap not (either (nat_le high one) refl (nat_le high other) refl) where
  high : ℕ
  high = 64 * task + 16

  apart : (a b : ℕ) → is_early b ≡ true → task_of a ≡ task_of b → a < high → high ≤ b → ⊥
  apart a b early equal less past = omega (arith, few, equal, less, past, early_small b early (omega (arith, few, equal, less)))

  either : (a : Bool) → nat_le high one ≡ a → (b : Bool) → nat_le high other ≡ b → a ≡ b
  either true past true also = refl
  either false less false also = refl
  either true past false also =
      absurd (apart other one first (sym same) (leb-false high other also) (leb-true high one past))
  either false less true also =
      absurd (apart one other second same (leb-false high one less) (leb-true high other also))

pub early_ends : (task tasks : ℕ) (cs : List (Worker × Command)) → task < 1024 → AreCopied tasks cs → ends_sent cs ≡ ends_received cs
    → ends_sent (early_commands task cs) ≡ ends_received (early_commands task cs)
early_ends task tasks cs few are same =
    part_same (λ n. not (nat_le (64 * task + 16) n)) (under_of task few) tasks (commands_onward (64 * task) cs)
    (copied_part (λ (c : Worker × Command). not (nat_lt c.1.id (64 * task))) tasks cs are)
    (part_same (λ n. not (nat_lt n (64 * task))) (onward_of task) tasks cs are same)

pub onward_ends : (task tasks : ℕ) (cs : List (Worker × Command)) → AreCopied tasks cs → ends_sent cs ≡ ends_received cs
    → ends_sent (commands_onward (64 * task) cs) ≡ ends_received (commands_onward (64 * task) cs)
onward_ends task tasks cs are same = part_same (λ n. not (nat_lt n (64 * task))) (onward_of task) tasks cs are same

-- ---- a moved task

sent_on : (before : Object → ℕ) (base : ℕ) (args : List ℤ) (task : ℕ) (home owner : Worker) (fs : List FirstRead)
    → AllByRecursion (λ (f : FirstRead). f.object.0 < 512) fs
    → ends_sent (map (placed_command before base args) (at_worker home (map (forward_send task owner) (filter (λ (r : FirstRead). not r.there) fs))))
    ≡ ends_received (map (placed_command before base args) (at_worker owner (map (forward_receive task) fs)))
sent_on before base args task home owner [] low = refl
sent_on before base args task home owner (f ∷ fs) low = either f.there (sent_on before base args task home owner fs low.1) where
  lacking : List FirstRead
  lacking = filter (λ (r : FirstRead). not r.there) fs

  more : List (Worker × Command)
  more = map (placed_command before base args) (at_worker owner (map (forward_receive task) fs))

  placed : List FirstRead → List (Worker × Command)
  placed rs = map (placed_command before base args) (at_worker home (map (forward_send task owner) rs))

  command : Bool → Worker × Command
  command b =
      placed_command before base args (
        owner,
        entry_of (entry_number task 3 f.index)
            (if b then EntryKind.Copy (main_slot f.object) (scratch_slot f.object) else EntryKind.Receive (scratch_slot f.object) f.offset),
      )

  either : (b : Bool) → ends_sent (placed lacking) ≡ ends_received more
      → ends_sent (placed (if not b then f ∷ lacking else lacking)) ≡ ends_received (command b ∷ more)
  either true rest = rest
  either false rest =
      ap₂ (λ (o : Object) (es : Ends). (owner, entry_number task 3 f.index, o) ∷ es) (main_of f.object low.0 ∙ sym (scratch_of f.object low.0)) rest

sent_back : (before : Object → ℕ) (base : ℕ) (args : List ℤ) (task : ℕ) (home owner : Worker) (index : ℕ) (objects : List Object)
    → AllByRecursion (λ (o : Object). o.0 < 512) objects
    → ends_sent (map (placed_command before base args) (at_worker owner (return_sends task home index objects)))
    ≡ ends_received (map (placed_command before base args) (at_worker home (return_receives task index objects)))
sent_back before base args task home owner index [] low = refl
sent_back before base args task home owner index (o ∷ objects) low =
    ap₂ (λ (p : Object) (es : Ends). (home, entry_number task 6 index, p) ∷ es) (scratch_of o low.0 ∙ sym (main_of o low.0))
    (sent_back before base args task home owner (index + 1) objects low.1)

received_none : (before : Object → ℕ) (base : ℕ) (args : List ℤ) (task : ℕ) (home owner : Worker) (fs : List FirstRead)
    → ends_received (map (placed_command before base args) (at_worker home (map (forward_send task owner) fs))) ≡ []
received_none before base args task home owner [] = refl
received_none before base args task home owner (f ∷ fs) = received_none before base args task home owner fs

come_none : (before : Object → ℕ) (base : ℕ) (args : List ℤ) (task : ℕ) (owner : Worker) (fs : List FirstRead)
    → ends_sent (map (placed_command before base args) (at_worker owner (map (forward_receive task) fs))) ≡ []
come_none before base args task owner [] = refl
come_none before base args task owner (f ∷ fs) = either f.there (come_none before base args task owner fs) where
  more : List (Worker × Command)
  more = map (placed_command before base args) (at_worker owner (map (forward_receive task) fs))

  command : Bool → Worker × Command
  command b =
      placed_command before base args (
        owner,
        entry_of (entry_number task 3 f.index)
            (if b then EntryKind.Copy (main_slot f.object) (scratch_slot f.object) else EntryKind.Receive (scratch_slot f.object) f.offset),
      )

  either : (b : Bool) → ends_sent more ≡ [] → ends_sent (command b ∷ more) ≡ []
  either true rest = rest
  either false rest = rest

back_none : (before : Object → ℕ) (base : ℕ) (args : List ℤ) (task : ℕ) (home owner : Worker) (index : ℕ) (objects : List Object)
    → ends_received (map (placed_command before base args) (at_worker owner (return_sends task home index objects))) ≡ []
back_none before base args task home owner index [] = refl
back_none before base args task home owner index (o ∷ objects) = back_none before base args task home owner (index + 1) objects

got_none : (before : Object → ℕ) (base : ℕ) (args : List ℤ) (task : ℕ) (home : Worker) (index : ℕ) (objects : List Object)
    → ends_sent (map (placed_command before base args) (at_worker home (return_receives task index objects))) ≡ []
got_none before base args task home index [] = refl
got_none before base args task home index (o ∷ objects) = got_none before base args task home (index + 1) objects

sent_append : (xs ys : List (Worker × Command)) → ends_sent (xs ++ ys) ≡ ends_sent xs ++ ends_sent ys
sent_append xs ys = flat_map-append (λ (c : Worker × Command). end_sent c.1.kind) xs ys

received_append : (xs ys : List (Worker × Command)) → ends_received (xs ++ ys) ≡ ends_received xs ++ ends_received ys
received_append xs ys = flat_map-append (λ (c : Worker × Command). end_received c.0 c.1.id c.1.kind) xs ys

pub away_ends : (before : Object → ℕ) (base : ℕ) (args : List ℤ) (home owner : Worker) (task : ℕ) (spec : Spec) (firsts : List FirstRead)
    → AllByRecursion (λ (f : FirstRead). f.object.0 < 512) firsts → AllByRecursion (λ (o : Object). o.0 < 512) spec.writes
    → ends_sent (away_commands before base args home owner task spec firsts) ≡ ends_received (away_commands before base args home owner task spec firsts)
away_ends before base args home owner task spec firsts low main =
    sent_append sends (receives ++ (run ++ (back ++ got)))
    ∙ ap (λ (es : Ends). ends_sent sends ++ es)
    (sent_append receives (run ++ (back ++ got))
    ∙ ap (λ (es : Ends). es ++ ends_sent (run ++ (back ++ got))) (come_none before base args task owner firsts)
    ∙ sent_append back got
    ∙ ap (λ (es : Ends). ends_sent back ++ es) (got_none before base args task home 0 spec.writes)
    ∙ append-nil (ends_sent back))
    ∙ ap₂ (λ (es fs : Ends). es ++ fs) (sent_on before base args task home owner firsts low) (sent_back before base args task home owner 0 spec.writes main)
    ∙ sym (received_append sends (receives ++ (run ++ (back ++ got)))
    ∙ ap (λ (es : Ends). es ++ ends_received (receives ++ (run ++ (back ++ got))))
    (received_none before base args task home owner (filter (λ (r : FirstRead). not r.there) firsts))
    ∙ received_append receives (run ++ (back ++ got))
    ∙ ap (λ (es : Ends). ends_received receives ++ es)
    (received_append back got ∙ ap (λ (es : Ends). es ++ ends_received got) (back_none before base args task home owner 0 spec.writes))) where
      sends : List (Worker × Command)
      sends = map (placed_command before base args) (at_worker home (map (forward_send task owner) (filter (λ (r : FirstRead). not r.there) firsts)))

      receives : List (Worker × Command)
      receives = map (placed_command before base args) (at_worker owner (map (forward_receive task) firsts))

      run : List (Worker × Command)
      run = map (placed_command before base args) ((owner, run_over true task spec) ∷ [])

      back : List (Worker × Command)
      back = map (placed_command before base args) (at_worker owner (return_sends task home 0 spec.writes))

      got : List (Worker × Command)
      got = map (placed_command before base args) (at_worker home (return_receives task 0 spec.writes))
