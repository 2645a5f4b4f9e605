-- Closing copies are received as they are sent, and no Copy of an instance whose tasks moved goes to a main slot.
use Rattle.std.proofs.Common.{◌≡◌, ℕ, zero, suc, ◌+◌, ◌<◌, ◌≤◌, Bool, true, false, List, [], ◌∷◌, ◌++◌, map, refl, ap, ap₂, sym, subst, ◌∙◌}
use Rattle.std.proofs.Common.{arith, Option, None, Some}
use Rattle.std.specs.Prelude.{◌*◌, ◌==◌, if◌then◌else◌, nat_lt, not, ℤ}
use Rattle.std.specs.List.{AllByRecursion, filter, flat_map, range_with_len}
use Rattle.std.proofs.lemmas.Bool.{false_from_ne_true, ltb-true}
use Rattle.std.proofs.lemmas.List.{append-nil, append_assoc}
use Rattle.nim_base.specs.declared.number.Object.{Object}
use Rattle.nim_base.specs.declared.number.Slot.{Slot}
use Rattle.nim_base.specs.declared.number.Worker.{Worker}
use Rattle.nim_base.specs.declared.task.TaskForm.{TaskForm}
use Rattle.nim_command.specs.declared.command.Command.{Command}
use Rattle.nim_command.specs.declared.command.Kind.{Kind}
use Rattle.nim_command.specs.declared.command.Kind.TheVariants.{Create, Load, Send, Receive, Copy, Run, Fetch}
use Rattle.nim_command.specs.declared.edit.Spec.{Spec}
use Rattle.nim_command.specs.declared.entry.Entry.{Entry}
use Rattle.nim_command.specs.declared.entry.EntryKind.{EntryKind}
use Rattle.nim_command.specs.declared.template.WorkerTemplate.{WorkerTemplate}
use Rattle.nim_command.specs.Edits.{entry_of, first_reads, forward_receive, forward_send, return_receives, return_sends}
use Rattle.nim_command.specs.Expansion.{version_at}
use Rattle.nim_command.specs.Holds.{content_at}
use Rattle.nim_command.specs.Numbers.{entry_number, main_slot, scratch_slot}
use Rattle.nim_command.specs.Slots.{object_of}
use Rattle.nim_place.specs.declared.placement.Placement.{Placement}
use Rattle.nim_place.specs.Schedule.{moves, receive_of, send_of}
use Rattle.nim_place.specs.Stands.{MapStands, StandsOn, is_aside}
use Rattle.nim_place.specs.Versions.{Versions, after_commands, after_kind, latest_of, puts_of, version_of, with_version}
use Rattle.nim_place.proofs.History.{stands_more}
use Rattle.nim_place.proofs.Puts.{IsPut, IsWhole, put_all}
use Rattle.nim_template.specs.Closing.{closed_for, closing_entries, closing_from, closing_number, closings, copy_from}
use Rattle.nim_template.specs.Walk.{home_of, offset_for}
use Rattle.nim_template.proofs.Chosen.{command_at}
use Rattle.nim_template.proofs.Copies.{IsCopy, receive_at}
use Rattle.nim_template.proofs.Ends.{IsClosing, closing_next}
use Rattle.nim_template.proofs.InTurn.{closing_copy}
use Rattle.nim_template.proofs.Planes.{Has, current_there, taken_is}
use Rattle.nim_template.proofs.Ranked.{ranked_from}
use Rattle.nim_template.proofs.Sames.{AllBelow}
use Rattle.nim_edit.specs.Moves.{mask_for, spec_of, worker_at}
use Rattle.nim_base.proofs.Lists.{each_append}
use Rattle.nim_edit.proofs.Ascending.{late_is}
use Rattle.nim_edit.proofs.InOrder.{commands_onward, early_commands, late_commands, placed_command, task_commands}
use Rattle.nim_edit.proofs.LateEntries.{at_worker}
use Rattle.nim_edit.proofs.Parcels.{Held, Parcel, has_puts, held_with, parcels, puts_by, send_keeps, takings, version_in}
use Rattle.nim_edit.proofs.Puts.{FirstRead}

-- ---- closing copies

pub closings_balanced : (most base : ℕ) (args : List ℤ) (entry offsets versions : Versions) (needs : List (Worker × Object)) (copy : ℕ) (held : Held)
    → Has versions held → versions.objects ≤ 512 → IsClosing most base entry offsets versions needs
    → parcels held (map (command_at base args) (closing_entries copy (closings offsets needs)))
    ≡ takings (map (command_at base args) (closing_entries copy (closings offsets needs)))
closings_balanced most base args entry offsets versions [] copy held has small is = refl
closings_balanced most base args entry offsets versions (need ∷ needs) copy held has small is =
    either (closing_from offsets need) refl
    (λ v k h found few later. closings_balanced most base args entry (closed_for offsets need) v needs k h found few later) where
      rest_of : ℕ → List (Worker × Command)
      rest_of k = map (command_at base args) (closing_entries k (closings (closed_for offsets need) needs))

      either : (o : Option Worker) → closing_from offsets need ≡ o
          → ((v : Versions) (k : ℕ) (h : Held) → Has v h → v.objects ≤ 512 → IsClosing most base entry (closed_for offsets need) v needs
          → parcels h (rest_of k) ≡ takings (rest_of k))
          → parcels held (map (command_at base args) (closing_entries copy (copy_from offsets need o ++ closings (closed_for offsets need) needs)))
          ≡ takings (map (command_at base args) (closing_entries copy (copy_from offsets need o ++ closings (closed_for offsets need) needs)))
      either None found rest = rest versions copy held has small (closing_next most base entry offsets versions need needs is None found)
      either (Some from) found rest =
          let version : ℕ = version_at base 0 (offset_for (latest_of offsets need.1)) in
          let slot : Slot = main_slot need.1 in
          let number : ℕ = closing_number copy in
          let next : Versions = with_version need.0 version versions slot in
          let copied : IsCopy versions from need.0 need.1 version = closing_copy most base entry offsets versions need needs from is found in
          let receive : Worker × Command = (need.0, receive_at number need.1 version) in
          let whole : IsWhole versions = is.alike.whole in
          let put : IsPut versions need.0 version (slot ∷ []) next = put_all versions need.0 version (slot ∷ []) whole copied.to_below in
          ap₂ (λ (v : ℕ) (ps : List Parcel). (need.0, number, object_of slot, v) ∷ ps)
          (ap version_in (current_there versions held need.1 from has small copied.current) ∙ sym copied.latest)
          (ap (λ (h : Held). parcels (held_with receive h) (rest_of (copy + 1))) (send_keeps from number slot need.0 number [] held)
          ∙ rest next (copy + 1) (held_with receive held)
          (has_puts held (held_with receive held) versions need.0 version (slot ∷ []) has whole copied.to_below small
          (puts_by need.0 (receive_at number need.1 version) held version (slot ∷ [])
          (λ before other. taken_is slot other version (content_at slot version) (before other) refl)))
          (omega (arith, put.objects, small)) (closing_next most base entry offsets versions need needs is (Some from) found))

-- ---- no Copy goes to a main slot

-- a Copy goes to a scratch slot
abbrev pub IsAside : Kind → Type 0
IsAside (Copy from to) = 512 ≤ to.0
IsAside _ = Unit {0}

abbrev pub AreAside : List (Worker × Command) → Type 0
AreAside cs = AllByRecursion (λ (c : Worker × Command). IsAside c.1.kind) cs

aside_is : (versions : Versions) (kind : Kind) → versions.objects ≤ 512 → IsAside kind → is_aside versions kind ≡ true
aside_is versions (Copy from to) small past =
    ap not (false_from_ne_true (nat_lt to.0 versions.objects) (λ is. (let less = ltb-true to.0 versions.objects is in omega (arith, less, small, past))))
aside_is versions (Create slot iota first) small past = refl
aside_is versions (Load slot version value) small past = refl
aside_is versions (Send slot peer entry) small past = refl
aside_is versions (Receive slot version) small past = refl
aside_is versions (Run position func params reads writes) small past = refl
aside_is versions (Fetch slot ticket) small past = refl

-- what stood for some commands stands for these too
pub stands_all : (cs : List (Worker × Command)) (versions : Versions) → versions.objects ≤ 512 → AllBelow versions.workers cs → AreAside cs
    → StandsOn versions (after_commands versions cs) cs
stands_all [] versions small below aside given stands = subst (λ (all : List (Worker × Command)). MapStands all versions) (sym (append-nil given)) stands
stands_all (c ∷ cs) versions small below aside given stands =
    let next : Versions = after_kind c.0 versions c.1.kind in
    let put : IsPut versions c.0 (version_of c.1.kind) (puts_of c.1.kind) next =
    put_all versions c.0 (version_of c.1.kind) (puts_of c.1.kind) (record { slots = stands.slots; all = stands.all }) below.0 in
    subst (λ (all : List (Worker × Command)). MapStands all (after_commands next cs)) (append_assoc given (c ∷ []) cs)
    (stands_all cs next (omega (arith, put.objects, small)) (subst (λ (n : ℕ). AllBelow n cs) (sym put.workers) below.1) aside.1 (given ++ c ∷ [])
    (stands_more given versions c.0 c.1 stands below.0 (aside_is versions c.1.kind small aside.0)))

aside_append : (xs ys : List (Worker × Command)) → AreAside xs → AreAside ys → AreAside (xs ++ ys)
aside_append xs ys first second = each_append (λ (c : Worker × Command). IsAside c.1.kind) xs ys first second

pub each_filter : {X : Type 0} (P : X → Type 0) (p : X → Bool) (xs : List X) → AllByRecursion P xs → AllByRecursion P (filter p xs)
each_filter P p [] all = tt
each_filter {X} P p (x ∷ xs) all = either (p x) (each_filter P p xs all.1) where
  either : (b : Bool) → AllByRecursion P (filter p xs) → AllByRecursion P (if b then x ∷ filter p xs else filter p xs)
  either true rest = (all.0, rest)
  either false rest = rest

sends_aside : (number : ℕ) (owner : Worker) (ms : List _) → AreAside (map (send_of number owner) ms)
sends_aside number owner [] = tt
sends_aside number owner (m ∷ ms) = (tt, sends_aside number owner ms)

receives_aside : (versions : Versions) (number : ℕ) (owner : Worker) (ms : List _) → AreAside (map (receive_of versions number owner) ms)
receives_aside versions number owner [] = tt
receives_aside versions number owner (m ∷ ms) = (tt, receives_aside versions number owner ms)

pub ranked_aside : (place : Placement) (live : List Bool) (base : ℕ) (args : List ℤ) (number : ℕ) (versions : Versions) (forms : List TaskForm)
    → AreAside (ranked_from place live base args number versions forms)
ranked_aside place live base args number versions [] = tt
ranked_aside place live base args number versions (form ∷ forms) =
    let owner : Worker = home_of place versions.objects live form in
    let ms = moves versions owner [] form.reads in
    each_append (λ (c : Worker × Command). IsAside c.1.kind) _ _
    (each_append (λ (c : Worker × Command). IsAside c.1.kind) (map (send_of number owner) ms) _ (sends_aside number owner ms)
    (each_append (λ (c : Worker × Command). IsAside c.1.kind) (map (receive_of versions number owner) ms) _ (receives_aside versions number owner ms)
    (tt, tt)))
    (ranked_aside place live base args (number + 1) _ forms)

pub closings_aside : (base : ℕ) (args : List ℤ) (copy : ℕ) (cs : List _) → AreAside (map (command_at base args) (closing_entries copy cs))
closings_aside base args copy [] = tt
closings_aside base args copy (c ∷ cs) = (tt, (tt, closings_aside base args (copy + 1) cs))

-- ---- the commands of a moved task

placed_aside : (before : Object → ℕ) (base : ℕ) (args : List ℤ) (worker : Worker) (task : ℕ) (fs : List FirstRead)
    → AreAside (map (placed_command before base args) (at_worker worker (map (forward_receive task) fs)))
placed_aside before base args worker task [] = tt
placed_aside before base args worker task (f ∷ fs) = either f.there (placed_aside before base args worker task fs) where
  more : List (Worker × Command)
  more = map (placed_command before base args) (at_worker worker (map (forward_receive task) fs))

  either : (b : Bool) → AreAside more
      → AreAside (placed_command before base args (
        worker,
        entry_of (entry_number task 3 f.index)
            (if b then EntryKind.Copy (main_slot f.object) (scratch_slot f.object) else EntryKind.Receive (scratch_slot f.object) f.offset),
      ) ∷ more)
  either true rest = (omega arith, rest)
  either false rest = (tt, rest)

on_aside : (before : Object → ℕ) (base : ℕ) (args : List ℤ) (worker to : Worker) (task : ℕ) (fs : List FirstRead)
    → AreAside (map (placed_command before base args) (at_worker worker (map (forward_send task to) fs)))
on_aside before base args worker to task [] = tt
on_aside before base args worker to task (f ∷ fs) = (tt, on_aside before base args worker to task fs)

back_aside : (before : Object → ℕ) (base : ℕ) (args : List ℤ) (worker home : Worker) (task index : ℕ) (objects : List Object)
    → AreAside (map (placed_command before base args) (at_worker worker (return_sends task home index objects)))
back_aside before base args worker home task index [] = tt
back_aside before base args worker home task index (o ∷ objects) = (tt, back_aside before base args worker home task (index + 1) objects)

got_aside : (before : Object → ℕ) (base : ℕ) (args : List ℤ) (worker : Worker) (task index : ℕ) (objects : List Object)
    → AreAside (map (placed_command before base args) (at_worker worker (return_receives task index objects)))
got_aside before base args worker task index [] = tt
got_aside before base args worker task index (o ∷ objects) = (tt, got_aside before base args worker task (index + 1) objects)

-- entries at one worker
abbrev AreOf : (Worker → Type 0) → List (Worker × Command) → Type 0
AreOf P cs = AllByRecursion (λ (c : Worker × Command). P c.0) cs

placed_of : (P : Worker → Type 0) (before : Object → ℕ) (base : ℕ) (args : List ℤ) (worker : Worker) (es : List Entry) → P worker
    → AreOf P (map (placed_command before base args) (at_worker worker es))
placed_of P before base args worker [] mine = tt
placed_of P before base args worker (e ∷ es) mine = (mine, placed_of P before base args worker es mine)

-- the commands of a task's later phases are its home's and its owner's, and no Copy goes to a main slot
pub late_aside : (template : WorkerTemplate) (before : Object → ℕ) (base : ℕ) (args : List ℤ) (task : ℕ)
    → AreAside (late_commands template before base args task)
late_aside template before base args task = either (owner.0 == home.0) refl where
  home : Worker
  home = worker_at template.homes task

  owner : Worker
  owner = worker_at template.owners task

  spec : Spec
  spec = spec_of template.forms task

  firsts : List FirstRead
  firsts = first_reads [] (mask_for template task owner) spec.reads

  either : (b : Bool) → (owner.0 == home.0) ≡ b → AreAside (late_commands template before base args task)
  either true same = subst AreAside (sym (late_is template before base args task true same)) (tt, tt)
  either false apart =
      subst AreAside (sym (late_is template before base args task false apart))
      (aside_append _ _ (on_aside before base args home owner task (filter (λ (r : FirstRead). not r.there) firsts))
      (aside_append _ _ (placed_aside before base args owner task firsts)
      (tt, aside_append _ _ (back_aside before base args owner home task 0 spec.writes) (got_aside before base args home task 0 spec.writes))))

pub late_of_two : (P : Worker → Type 0) (template : WorkerTemplate) (before : Object → ℕ) (base : ℕ) (args : List ℤ) (task : ℕ)
    → P (worker_at template.homes task) → P (worker_at template.owners task) → AreOf P (late_commands template before base args task)
late_of_two P template before base args task at_home at_owner = either (owner.0 == home.0) refl where
  home : Worker
  home = worker_at template.homes task

  owner : Worker
  owner = worker_at template.owners task

  spec : Spec
  spec = spec_of template.forms task

  firsts : List FirstRead
  firsts = first_reads [] (mask_for template task owner) spec.reads

  both : (xs ys : List (Worker × Command)) → AreOf P xs → AreOf P ys → AreOf P (xs ++ ys)
  both xs ys first second = each_append (λ (c : Worker × Command). P c.0) xs ys first second

  either : (b : Bool) → (owner.0 == home.0) ≡ b → AreOf P (late_commands template before base args task)
  either true same = subst (AreOf P) (sym (late_is template before base args task true same)) (at_home, tt)
  either false apart =
      subst (AreOf P) (sym (late_is template before base args task false apart))
      (both _ _ (placed_of P before base args home (map (forward_send task owner) (filter (λ (r : FirstRead). not r.there) firsts)) at_home)
      (both _ _ (placed_of P before base args owner (map (forward_receive task) firsts) at_owner) (
        at_owner,
        both _ _ (placed_of P before base args owner (return_sends task home 0 spec.writes) at_owner)
            (placed_of P before base args home (return_receives task 0 spec.writes) at_home),
      )))

-- what is true of all commands that were built, and of those of a task's later phases, is true of all commands in order
pub each_in_order : (P : Worker × Command → Type 0) (template : WorkerTemplate) (before : Object → ℕ) (base : ℕ) (args : List ℤ)
    (all : List (Worker × Command)) → AllByRecursion P all
    → (high : ℕ) → ((task : ℕ) → task < high → AllByRecursion P (late_commands template before base args task)) → (from n : ℕ) → from + n ≤ high
    → AllByRecursion P (flat_map (task_commands template before base args all) (range_with_len from n))
each_in_order P template before base args all each high late from zero few = tt
each_in_order P template before base args all each high late from (suc n) few =
    each_append P (task_commands template before base args all from) (flat_map (task_commands template before base args all) (range_with_len (from + 1) n))
    (each_append P (early_commands from all) (late_commands template before base args from)
    (each_filter P _ (commands_onward (64 * from) all) (each_filter P _ all each)) (late from (omega (arith, few))))
    (each_in_order P template before base args all each high late (from + 1) n (omega (arith, few)))
