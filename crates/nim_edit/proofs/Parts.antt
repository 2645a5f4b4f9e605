-- Parts of an instance's commands: those of first phases and of closing copies are copies, and run nothing; a task's later
-- phases have its run, at its owner. And an effect names main slots.
use Rattle.std.proofs.Common.{◌≡◌, ℕ, zero, suc, ◌+◌, ◌≤◌, ◌<◌, Bool, true, false, List, [], ◌∷◌, ◌++◌, length, map, refl, ap, ap₂, sym, ◌∙◌, arith}
use Rattle.std.proofs.Common.{Option, None, Some}
use Rattle.std.specs.Prelude.{◌*◌, ◌%◌, ◌==◌, ◌||◌, nat_le, nat_lt, not, if◌then◌else◌, slice_index_or, ℤ}
use Rattle.std.specs.List.{AllByRecursion, filter, flat_map, range_with_len}
use Rattle.std.proofs.lemmas.Bool.{eqb-true, leb-false, lt-ltb, ltb-false}
use Rattle.std.proofs.lemmas.List.Concat.{flat_map-append}
use Rattle.nim_base.specs.declared.number.Object.{Object}
use Rattle.nim_base.specs.declared.number.Slot.{Slot}
use Rattle.nim_base.specs.declared.number.Worker.{Worker}
use Rattle.nim_command.specs.declared.command.Command.{Command}
use Rattle.nim_command.specs.declared.command.Kind.{Kind}
use Rattle.nim_command.specs.declared.command.Kind.TheVariants.{Create, Load, Send, Receive, Copy, Run, Fetch}
use Rattle.nim_command.specs.declared.edit.Spec.{Spec}
use Rattle.nim_command.specs.declared.entry.EntryKind.{EntryKind}
use Rattle.nim_command.specs.declared.template.WorkerTemplate.{WorkerTemplate}
use Rattle.nim_command.specs.Edits.{entry_of, first_reads, forward_receive, forward_send, return_receives, return_sends, run_over}
use Rattle.nim_command.specs.Numbers.{counted_from, entry_number, main_slot, scratch_slot, task_of}
use Rattle.nim_place.specs.Sound.{owned_from, run_by}
use Rattle.nim_place.specs.Versions.{Versions, held_at}
use Rattle.nim_template.specs.Built.{all_slots, effect_at, effect_here, effect_of, slots_of}
use Rattle.nim_template.specs.Walk.{offset_for}
use Rattle.nim_template.proofs.Ranked.{runs_of}
use Rattle.nim_edit.specs.Moves.{mask_for, spec_of, worker_at}
use Rattle.nim_edit.proofs.Ascending.{away_commands, late_is}
use Rattle.nim_edit.proofs.InOrder.{commands_onward, commands_under, early_commands, late_commands, placed_command}
use Rattle.nim_edit.proofs.LateEntries.{at_worker}
use Rattle.nim_edit.proofs.Listed.{AreCopied, IsCopyOf, is_early}
use Rattle.nim_edit.proofs.Puts.{FirstRead}
use Rattle.nim_edit.proofs.SamePlanes.{AreAt, AreCopies}

-- ---- copies

-- what is known of a task's first commands
pub record AreFirst (task : ℕ) (cs : List (Worker × Command)) : Type 0 where
  pub copies : AreCopies cs
  pub at : AreAt task cs

pub early_copies : (task tasks : ℕ) (cs : List (Worker × Command)) → AreCopied tasks cs → AreFirst task (early_commands task cs)
early_copies task tasks [] are = record { copies = tt; at = tt }
early_copies task tasks (c ∷ cs) are = first (nat_lt c.1.id low) refl (early_copies task tasks cs are.3) where
  low : ℕ
  low = 64 * task

  high : ℕ
  high = 64 * task + 16

  second : (b : Bool) → nat_le high c.1.id ≡ b → low ≤ c.1.id → AreFirst task (early_commands task cs)
      → AreFirst task (if not b then c ∷ early_commands task cs else early_commands task cs)
  second true is above rest = rest
  second false is above rest =
      let below : c.1.id < high = leb-false high c.1.id is in
      let early = within (c.1.id) above below in
      record { copies = (are.0 early, early, rest.copies); at = (above, below, rest.at) } where
        within : (id : ℕ) → low ≤ id → id < high → is_early id ≡ true
        within id above below =
            ap (λ (b : Bool). b || nat_le 65536 id) (lt-ltb (id % 64) 16 (omega (arith, above, below)))

  first : (b : Bool) → nat_lt c.1.id low ≡ b → AreFirst task (early_commands task cs)
      → AreFirst task (commands_under high (if not b then c ∷ commands_onward low cs else commands_onward low cs))
  first true is rest = rest
  first false is rest = second (nat_le high c.1.id) refl (ltb-false c.1.id low is) rest

-- closing copies
pub onward_copies : (tasks : ℕ) (cs : List (Worker × Command)) → AreCopied tasks cs → AreCopies (commands_onward (64 * tasks) cs)
onward_copies tasks [] are = tt
onward_copies tasks (c ∷ cs) are = either (nat_lt c.1.id (64 * tasks)) refl (onward_copies tasks cs are.3) where
  either : (b : Bool) → nat_lt c.1.id (64 * tasks) ≡ b → AreCopies (commands_onward (64 * tasks) cs)
      → AreCopies (if not b then c ∷ commands_onward (64 * tasks) cs else commands_onward (64 * tasks) cs)
  either true is rest = rest
  either false is rest = let early = are.2 (ltb-false c.1.id (64 * tasks) is) in (are.0 early, early, rest)

-- ---- runs

copy_runs : (worker : Worker) (number : ℕ) (kind : Kind) → IsCopyOf number kind → run_by worker kind ≡ []
copy_runs worker number (Send slot peer entry) copy = refl
copy_runs worker number (Receive slot version) copy = refl
copy_runs worker number (Run position func params reads writes) copy = absurd copy
copy_runs worker number (Create slot iota first) copy = refl
copy_runs worker number (Load slot version value) copy = refl
copy_runs worker number (Copy from to) copy = refl
copy_runs worker number (Fetch slot ticket) copy = refl

pub copies_run : (cs : List (Worker × Command)) → AreCopies cs → runs_of cs ≡ []
copies_run [] are = refl
copies_run (c ∷ cs) are =
    ap₂ (λ (xs ys : List (Worker × ℕ)). xs ++ ys) (copy_runs c.0 c.1.id c.1.kind are.0) (copies_run cs are.2)

runs_append : (xs ys : List (Worker × Command)) → runs_of (xs ++ ys) ≡ runs_of xs ++ runs_of ys
runs_append xs ys = flat_map-append (λ (c : Worker × Command). run_by c.0 c.1.kind) xs ys

sends_run : (before : Object → ℕ) (base : ℕ) (args : List ℤ) (task : ℕ) (home owner : Worker) (fs : List FirstRead)
    → runs_of (map (placed_command before base args) (at_worker home (map (forward_send task owner) fs))) ≡ []
sends_run before base args task home owner [] = refl
sends_run before base args task home owner (f ∷ fs) = sends_run before base args task home owner fs

come_run : (before : Object → ℕ) (base : ℕ) (args : List ℤ) (task : ℕ) (owner : Worker) (fs : List FirstRead)
    → runs_of (map (placed_command before base args) (at_worker owner (map (forward_receive task) fs))) ≡ []
come_run before base args task owner [] = refl
come_run before base args task owner (f ∷ fs) = either f.there (come_run before base args task owner fs) where
  more : List (Worker × Command)
  more = map (placed_command before base args) (at_worker owner (map (forward_receive task) fs))

  command : Bool → Worker × Command
  command b =
      placed_command before base args (
        owner,
        entry_of (entry_number task 3 f.index)
            (if b then EntryKind.Copy (main_slot f.object) (scratch_slot f.object) else EntryKind.Receive (scratch_slot f.object) f.offset),
      )

  either : (b : Bool) → runs_of more ≡ [] → runs_of (command b ∷ more) ≡ []
  either true rest = rest
  either false rest = rest

back_run : (before : Object → ℕ) (base : ℕ) (args : List ℤ) (task : ℕ) (home owner : Worker) (index : ℕ) (objects : List Object)
    → runs_of (map (placed_command before base args) (at_worker owner (return_sends task home index objects))) ≡ []
back_run before base args task home owner index [] = refl
back_run before base args task home owner index (o ∷ objects) = back_run before base args task home owner (index + 1) objects

got_run : (before : Object → ℕ) (base : ℕ) (args : List ℤ) (task : ℕ) (home : Worker) (index : ℕ) (objects : List Object)
    → runs_of (map (placed_command before base args) (at_worker home (return_receives task index objects))) ≡ []
got_run before base args task home index [] = refl
got_run before base args task home index (o ∷ objects) = got_run before base args task home (index + 1) objects

away_run : (before : Object → ℕ) (base : ℕ) (args : List ℤ) (home owner : Worker) (task : ℕ) (spec : Spec) (firsts : List FirstRead)
    → runs_of (away_commands before base args home owner task spec firsts) ≡ (owner, counted_from base (task_of (entry_number task 4 0))) ∷ []
away_run before base args home owner task spec firsts =
    runs_append sends (receives ++ (run ++ (back ++ got)))
    ∙ ap₂ (λ (xs ys : List (Worker × ℕ)). xs ++ ys)
    (sends_run before base args task home owner (filter (λ (r : FirstRead). not r.there) firsts))
    (runs_append receives (run ++ (back ++ got))
    ∙ ap₂ (λ (xs ys : List (Worker × ℕ)). xs ++ ys) (come_run before base args task owner firsts)
    (ap (λ (xs : List (Worker × ℕ)). (owner, counted_from base (task_of (entry_number task 4 0))) ∷ xs)
    (runs_append back got
    ∙ ap₂ (λ (xs ys : List (Worker × ℕ)). xs ++ ys) (back_run before base args task home owner 0 spec.writes)
    (got_run before base args task home 0 spec.writes)))) where
      sends : List (Worker × Command)
      sends = map (placed_command before base args) (at_worker home (map (forward_send task owner) (filter (λ (r : FirstRead). not r.there) firsts)))

      receives : List (Worker × Command)
      receives = map (placed_command before base args) (at_worker owner (map (forward_receive task) firsts))

      run : List (Worker × Command)
      run = map (placed_command before base args) ((owner, run_over true task spec) ∷ [])

      back : List (Worker × Command)
      back = map (placed_command before base args) (at_worker owner (return_sends task home 0 spec.writes))

      got : List (Worker × Command)
      got = map (placed_command before base args) (at_worker home (return_receives task 0 spec.writes))

pub late_run : (template : WorkerTemplate) (before : Object → ℕ) (base : ℕ) (args : List ℤ) (task : ℕ)
    → runs_of (late_commands template before base args task) ≡ (worker_at template.owners task, counted_from base (task_of (entry_number task 4 0))) ∷ []
late_run template before base args task = either (owner.0 == home.0) refl where
  home : Worker
  home = worker_at template.homes task

  owner : Worker
  owner = worker_at template.owners task

  spec : Spec
  spec = spec_of template.forms task

  position : ℕ
  position = counted_from base (task_of (entry_number task 4 0))

  either : (b : Bool) → (owner.0 == home.0) ≡ b → runs_of (late_commands template before base args task) ≡ (owner, position) ∷ []
  either true same =
      ap runs_of (late_is template before base args task true same)
      ∙ ap (λ (n : ℕ). (let w : Worker = record { 0 = n } in (w, position) ∷ [])) (sym (eqb-true owner.0 home.0 same))
  either false apart =
      ap runs_of (late_is template before base args task false apart)
      ∙ away_run before base args home owner task spec (first_reads [] (mask_for template task owner) spec.reads)

-- each with its position
pub owned_is : (base from n : ℕ) (owners : List Worker) → length owners ≡ n → (f : ℕ → Worker)
    → ((i : ℕ) → i < n → f (from + i) ≡ slice_index_or owners i (record { 0 = 0 }))
    → flat_map (λ (t : ℕ). (f t, base + t) ∷ []) (range_with_len from n) ≡ owned_from (base + from) owners
owned_is base from zero [] long f same = refl
owned_is base from zero (owner ∷ owners) long f same = absurd (omega (arith, long))
owned_is base from (suc n) [] long f same = absurd (omega (arith, long))
owned_is base from (suc n) (owner ∷ owners) long f same =
    ap₂ (λ (w : Worker) (xs : List (Worker × ℕ)). (w, base + from) ∷ xs)
    (ap f (omega arith) ∙ same 0 (omega arith))
    (owned_is base (from + 1) n owners (omega (arith, long)) f
    (λ i less. ap f (omega arith) ∙ same (suc i) (omega (arith, less)))
    ∙ ap (λ (k : ℕ). owned_from k owners) (omega arith))

-- ---- an effect

-- each item is of a main slot
abbrev pub AreMain : List (Worker × Slot × ℕ) → Type 0
AreMain items = AllByRecursion (λ (item : Worker × Slot × ℕ). item.1.0 < 512) items

main_append : (xs ys : List (Worker × Slot × ℕ)) → AreMain xs → AreMain ys → AreMain (xs ++ ys)
main_append [] ys first second = second
main_append (x ∷ xs) ys first second = (first.0, main_append xs ys first.1 second)

main_here : (slot : Worker × Object) (o : Option ℕ) → slot.1.0 < 512 → AreMain (effect_at slot o)
main_here slot None low = tt
main_here slot (Some offset) low = either (offset == 0) where
  either : (b : Bool) → AreMain (if b then [] else (slot.0, main_slot slot.1, offset_for offset) ∷ [])
  either true = tt
  either false = (low, tt)

main_effect : (offsets : Versions) (slots : List (Worker × Object)) → AllByRecursion (λ (s : Worker × Object). s.1.0 < 512) slots
    → AreMain (effect_of offsets slots)
main_effect offsets [] low = tt
main_effect offsets (slot ∷ slots) low =
    main_append (effect_here offsets slot) (effect_of offsets slots) (main_here slot (held_at offsets slot.0 (main_slot slot.1)) low.0)
    (main_effect offsets slots low.1)

low_append : (xs ys : List (Worker × Object)) → AllByRecursion (λ (s : Worker × Object). s.1.0 < 512) xs
    → AllByRecursion (λ (s : Worker × Object). s.1.0 < 512) ys → AllByRecursion (λ (s : Worker × Object). s.1.0 < 512) (xs ++ ys)
low_append [] ys first second = second
low_append (x ∷ xs) ys first second = (first.0, low_append xs ys first.1 second)

own_low : (worker : Worker) (from n : ℕ) → from + n ≤ 512
    → AllByRecursion (λ (s : Worker × Object). s.1.0 < 512)
    (map (λ (number : ℕ). let object : Object = record { 0 = number } in (worker, object)) (range_with_len from n))
own_low worker from zero few = tt
own_low worker from (suc n) few = (omega (arith, few), own_low worker (from + 1) n (omega (arith, few)))

all_low : (objects from n : ℕ) → objects ≤ 512
    → AllByRecursion (λ (s : Worker × Object). s.1.0 < 512)
    (flat_map (λ (number : ℕ). slots_of (record { 0 = number }) objects) (range_with_len from n))
all_low objects from zero few = tt
all_low objects from (suc n) few =
    low_append (slots_of (record { 0 = from }) objects) (flat_map (λ (number : ℕ). slots_of (record { 0 = number }) objects) (range_with_len (from + 1) n))
    (own_low (record { 0 = from }) 0 objects (omega (arith, few))) (all_low objects (from + 1) n few)

-- of so many workers and objects
pub effect_main : (offsets : Versions) (workers objects : ℕ) → objects ≤ 512 → AreMain (effect_of offsets (all_slots workers objects))
effect_main offsets workers objects few = main_effect offsets (all_slots workers objects) (all_low objects 0 workers few)
