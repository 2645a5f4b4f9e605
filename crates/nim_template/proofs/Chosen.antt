-- Single scheduling chooses the same in a map of versions as in a map of offsets that it is like.
use Rattle.std.proofs.Common.{◌≡◌, ℕ, ◌+◌, ◌<◌, ◌≤◌, Bool, true, false, List, [], ◌∷◌, ◌++◌, length, map, refl, ap, ap₂, sym, subst, ◌∙◌, arith}
use Rattle.std.proofs.Common.{Option}
use Rattle.std.proofs.Common.{None, Some}
use Rattle.std.specs.Prelude.{◌^◌, ◌==◌, ◌||◌, if◌then◌else◌, ℤ}
use Rattle.std.specs.List.{flat_map}
use Rattle.std.proofs.lemmas.Bool.{eq-eqb, eqb-true, false≢true, or_left, or_right}
use Rattle.std.proofs.lemmas.List.{map-append}
use Rattle.std.proofs.lemmas.List.Concat.{flat_map-append}
use Rattle.nim_base.specs.declared.number.Object.{Object}
use Rattle.nim_base.specs.declared.number.Slot.{Slot}
use Rattle.nim_base.specs.declared.number.Worker.{Worker}
use Rattle.nim_base.specs.declared.task.TaskForm.{TaskForm}
use Rattle.nim_command.specs.declared.command.Command.{Command}
use Rattle.nim_command.specs.declared.command.Kind.{Kind}
use Rattle.nim_command.specs.declared.entry.Entry.{Entry}
use Rattle.nim_command.specs.Expansion.{command_for, param_with, version_at}
use Rattle.nim_command.specs.Numbers.{counted_from, entry_number, main_slot, task_of}
use Rattle.nim_command.specs.Slots.{is_among}
use Rattle.nim_place.specs.declared.placement.Placement.{Placement}
use Rattle.nim_place.specs.Schedule.{copies_of, is_one_of, moved_first, moves, run_of, scheduled, source_of}
use Rattle.nim_place.specs.Versions.{Versions, after_commands, held_at, holder, is_current, latest_of, with_version}
use Rattle.nim_place.proofs.Moves.{AreLacking, AreMoves, moves_facts, moves_lacking}
use Rattle.nim_place.proofs.Puts.{IsPut, put_all}
use Rattle.nim_template.specs.Tasks.{task_with, without_before}
use Rattle.nim_template.specs.Walk.{entry_for, home_of, offset_for, task_for}
use Rattle.nim_template.proofs.Alike.{IsAlike, IsEntry, alike_put, at_more, same_current, same_holder}
use Rattle.nim_template.proofs.Closes.{current_of}
use Rattle.nim_template.proofs.Offsets.{IsKept}
use Rattle.nim_template.proofs.Walks.{IsAfter, only_object, put_after, same_latest}

-- ---- what moves

-- an object is chosen alike at an owner
pub record IsSame (first second : Versions) (owner : Worker) (object : Object) : Type 0 where
  pub current : is_current first object owner ≡ is_current second object owner
  pub holder : is_current second object owner ≡ false → holder first object ≡ holder second object

pick : (a b : Bool) (x y : Option Worker) → (b ≡ false → x ≡ y) → (if a || b then None else x) ≡ (if a || b then None else y)
pick true b x y same = refl
pick false true x y same = refl
pick false false x y same = same refl

source_same : (first second : Versions) (owner : Worker) (past : List Object) (object : Object) → IsSame first second owner object
    → source_of first owner past object ≡ source_of second owner past object
source_same first second owner past object same =
    ap (λ (b : Bool). if is_one_of past object || b then None else holder first object) same.current
    ∙ pick (is_one_of past object) (is_current second object owner) (holder first object) (holder second object) same.holder

pub moves_same : (first second : Versions) (owner : Worker) (past reads : List Object)
    → ((object : Object) → is_one_of reads object ≡ true → IsSame first second owner object)
    → moves first owner past reads ≡ moves second owner past reads
moves_same first second owner past [] same = refl
moves_same first second owner past (next ∷ reads) same =
    ap (λ (s : Option Worker). moved_first (length past) next s (moves first owner (past ++ next ∷ []) reads))
    (source_same first second owner past next (same next (or_left (next.0 == next.0) (is_one_of reads next) (eq-eqb next.0 next.0 refl))))
    ∙ ap (moved_first (length past) next (source_of second owner past next))
    (moves_same first second owner (past ++ next ∷ []) reads (λ object is. same object (or_right (next.0 == object.0) (is_one_of reads object) is)))

-- what an owner needs for reads: each is an object of the map, and what nothing writes is there
pub record AreReady (offsets : Versions) (owner : Worker) (reads : List Object) : Type 0 where
  pub below : owner.0 < offsets.workers
  pub within : (object : Object) → is_one_of reads object ≡ true → object.0 < offsets.objects
  pub held : (object : Object) → is_one_of reads object ≡ true → latest_of offsets object ≡ 0 → held_at offsets owner (main_slot object) ≡ Some 0

pub ready_same : (base most : ℕ) (entry offsets versions : Versions) (owner : Worker) (reads : List Object) → IsAlike base entry offsets versions
    → IsKept most offsets → IsEntry base offsets.objects entry → AreReady offsets owner reads → base + most < 2 ^ 64
    → (object : Object) → is_one_of reads object ≡ true → IsSame versions offsets owner object
ready_same base most entry offsets versions owner reads alike kept at ready room object is =
    either (latest_of offsets object == 0) refl where
      there : object.0 < offsets.objects
      there = ready.within object is

      either : (b : Bool) → (latest_of offsets object == 0) ≡ b → IsSame versions offsets owner object
      either true none =
          let zero_is : latest_of offsets object ≡ 0 = eqb-true (latest_of offsets object) 0 none in
          let holds : held_at offsets owner (main_slot object) ≡ Some 0 = ready.held object is zero_is in
          let mine : is_current offsets object owner ≡ true = current_of offsets object owner (holds ∙ ap Some (sym zero_is)) in
          let latest : latest_of versions object ≡ latest_of entry object =
          alike.latest object there ∙ ap (version_at base (latest_of entry object)) zero_is in
          let also : is_current versions object owner ≡ true =
          current_of versions object owner (alike.held owner object 0 ready.below there holds ∙ ap Some (sym latest)) in
          record { current = also ∙ sym mine; holder = λ lacks. absurd (false≢true (sym lacks ∙ mine)) }
      either false more =
          let same : (worker : Worker) → worker.0 < offsets.workers → is_current versions object worker ≡ is_current offsets object worker =
          λ worker below. same_current base most entry offsets versions worker object alike kept at below there more room in
          record { current = same owner ready.below; holder = λ lacks. same_holder versions offsets object alike.workers same }

-- what moves was written by a task of the block
pub moved_more : (offsets : Versions) (owner : Worker) (reads : List Object) (object : Object) → AreReady offsets owner reads → is_one_of reads object ≡ true
    → is_current offsets object owner ≡ false → (latest_of offsets object == 0) ≡ false
moved_more offsets owner reads object ready is lacks = either (latest_of offsets object == 0) refl where
  either : (b : Bool) → (latest_of offsets object == 0) ≡ b → b ≡ false
  either true none =
      let zero_is : latest_of offsets object ≡ 0 = eqb-true (latest_of offsets object) 0 none in
      absurd (false≢true (sym lacks ∙ current_of offsets object owner (ready.held object is zero_is ∙ ap Some (sym zero_is))))
  either false more = refl

-- ---- the commands

-- the command of an entry, with its worker, at a base
abbrev pub command_at : ℕ → List ℤ → Worker × Entry → Worker × Command
command_at base args e = (e.0, without_before (command_for base args 0 e.1))

abbrev pub plain : Worker × Command → Worker × Command
plain c = (c.0, without_before c.1)

offset_same : (base old offset : ℕ) → (offset == 0) ≡ false → offset ≤ 1024 → base + offset < 2 ^ 64
    → version_at base 0 (offset_for offset) ≡ version_at base old offset
offset_same base old offset more few room =
    let small : offset_for offset ≡ offset = omega (arith, few) in
    ap (version_at base 0) small ∙ at_more base 0 offset more room ∙ sym (at_more base old offset more room)

copies_same : (base most : ℕ) (entry offsets versions : Versions) (args : List ℤ) (form : TaskForm) (task : ℕ) (owner : Worker) (ms : List _)
    → IsAlike base entry offsets versions → IsKept most offsets → AreReady offsets owner form.reads → most ≤ 1024 → base + 1024 < 2 ^ 64
    → AreMoves offsets owner form.reads ms → AreLacking offsets owner ms
    → map (command_at base args) (flat_map (entry_for form) (copies_of offsets task owner ms)) ≡ map plain (copies_of versions task owner ms)
copies_same base most entry offsets versions args form task owner [] alike kept ready few room are lacking = refl
copies_same base most entry offsets versions args form task owner (m ∷ ms) alike kept ready few room are lacking =
    let there : m.object.0 < offsets.objects = ready.within m.object are.2 in
    let low = kept.latest m.object there in
    let version : version_at base 0 (offset_for (latest_of offsets m.object)) ≡ latest_of versions m.object =
    offset_same base (latest_of entry m.object) (latest_of offsets m.object) (moved_more offsets owner form.reads m.object ready are.2 lacking.0)
    (omega (arith, low, few)) (omega (arith, low, few, room))
    ∙ sym (alike.latest m.object there) in
    let send : Worker × Command =
    (m.from, record { id = entry_number task 0 m.index; kind = Kind.Send (main_slot m.object) owner (entry_number task 1 m.index); before = [] }) in
    let receive : ℕ → Worker × Command = λ v. (owner, record { id = entry_number task 1 m.index; kind = Kind.Receive (main_slot m.object) v; before = [] }) in
    ap₂ (λ (v : ℕ) (rest : List (Worker × Command)). send ∷ receive v ∷ rest) version
    (copies_same base most entry offsets versions args form task owner ms alike kept ready few room are.4 lacking.1)

-- the task of a run's number
pub run_task : (task : ℕ) → task ≤ 1024 → task_of (entry_number task 4 0) ≡ task
run_task task few = omega arith

-- the commands of a task
pub task_same : (base most : ℕ) (entry offsets versions : Versions) (place : Placement) (live : List Bool) (args : List ℤ) (task : ℕ) (form : TaskForm)
    → IsAlike base entry offsets versions → IsKept most offsets → IsEntry base offsets.objects entry
    → AreReady offsets (home_of place offsets.objects live form) form.reads → most ≤ 1024 → task ≤ 1024 → base + 1024 < 2 ^ 64
    → map (command_at base args) (flat_map (entry_for form) (scheduled offsets (task_for form) task task place live))
    ≡ map plain (scheduled versions (task_with args form) task (counted_from base task) place live)
task_same base most entry offsets versions place live args task form alike kept at ready few small room =
    let owner : Worker = home_of place offsets.objects live form in
    let ms = moves offsets owner [] form.reads in
    let own : Worker → List (Worker × Command) = λ w. copies_of versions task w (moves versions w [] form.reads)
    ++ (w, run_of (task_with args form) task (counted_from base task) (moves versions w [] form.reads)) ∷ [] in
    let chosen : moves versions owner [] form.reads ≡ ms =
    moves_same versions offsets owner [] form.reads (ready_same base most entry offsets versions owner form.reads alike kept at ready (omega
    (arith, few, room))) in
    let copies : map (command_at base args) (flat_map (entry_for form) (copies_of offsets task owner ms)) ≡ map plain (copies_of versions task owner ms) =
    copies_same base most entry offsets versions args form task owner ms alike kept ready few room (moves_facts offsets owner form.reads)
    (moves_lacking offsets owner [] form.reads) in
    let run : Worker × Command = (owner, run_of (task_for form) task task ms) in
    let runs : ℕ → List (Worker × Command) = λ t. (
      owner,
      record {
        id = entry_number task 4 0;
        kind = Kind.Run (counted_from base t) form.func (map (param_with args) form.params)
            (map main_slot form.reads) (map main_slot form.writes);
        before = [];
      },
    ) ∷ [] in
    let last : List (Worker × Command) = (owner, run_of (task_with args form) task (counted_from base task) ms) ∷ [] in
    ap (map (command_at base args)) (flat_map-append (entry_for form) (copies_of offsets task owner ms) (run ∷ []))
    ∙ map-append (command_at base args) (flat_map (entry_for form) (copies_of offsets task owner ms)) (flat_map (entry_for form) (run ∷ []))
    ∙ ap₂ (λ (xs ys : List (Worker × Command)). xs ++ ys) copies (ap runs (run_task task small))
    ∙ sym (map-append plain (copies_of versions task owner ms) last)
    ∙ sym (ap (λ (x : List _). map plain (copies_of versions task owner x ++ (
      owner,
      run_of (task_with args form) task
          (counted_from base task) x,
    ) ∷ [])) chosen)
    ∙ sym (ap (λ (n : ℕ). map plain (own (home_of place n live form))) alike.objects)

-- ---- what they leave

pub copies_alike : (base most : ℕ) (entry offsets versions now after : Versions) (reads : List Object) (task : ℕ) (owner : Worker) (ms : List _)
    → IsAlike base entry offsets versions → IsKept most offsets → IsEntry base offsets.objects entry → AreReady offsets owner reads
    → base + most < 2 ^ 64 → AreMoves offsets owner reads ms → AreLacking offsets owner ms
    → IsAlike base entry now after → IsKept most now → now.workers ≡ offsets.workers → now.objects ≡ offsets.objects
    → ((object : Object) → object.0 < offsets.objects → latest_of now object ≡ latest_of offsets object)
    → IsAlike base entry (after_commands now (copies_of offsets task owner ms)) (after_commands after (copies_of versions task owner ms))
copies_alike base most entry offsets versions now after reads task owner [] alike kept at ready room are lacking still keeps rows columns same = still
copies_alike base most entry offsets versions now after reads task owner (m ∷ ms) alike kept at ready room are lacking still keeps rows columns same =
    let there : m.object.0 < offsets.objects = ready.within m.object are.2 in
    let low = kept.latest m.object there in
    let more = moved_more offsets owner reads m.object ready are.2 lacking.0 in
    let offset : ℕ = latest_of offsets m.object in
    let version : ℕ = latest_of versions m.object in
    let slots : List Slot = main_slot m.object ∷ [] in
    let next : Versions = with_version owner offset now (main_slot m.object) in
    let reached : Versions = with_version owner version after (main_slot m.object) in
    let below : owner.0 < now.workers = omega (arith, rows, ready.below) in
    let equal : (object : Object) → is_among slots (main_slot object) ≡ true → offset ≡ latest_of offsets object =
    λ object among. ap (λ (n : ℕ). latest_of offsets (record { 0 = n })) (only_object m.object object among) in
    let put : IsPut now owner offset slots next = put_all now owner offset slots keeps.whole below in
    let over : (object : Object) → object.0 < now.objects → is_among slots (main_slot object) ≡ true → latest_of now object ≤ offset =
    λ object inside among. (let one = same object (omega (arith, columns, inside)) in let two = equal object among in omega (arith, one, two)) in
    let is_after : IsAfter most now next = put_after most most now owner offset slots keeps below (omega arith) low over in
    let like : IsAlike base entry next reached =
    alike_put base entry now after owner offset version slots still keeps.whole
    (subst (λ (n : ℕ). IsEntry base n entry) (sym columns) at) below more (omega (arith, low, room))
    (alike.latest m.object there ∙ at_more base (latest_of entry m.object) offset more (omega (arith, low, room))) over in
    copies_alike base most entry offsets versions next reached reads task owner ms alike kept at ready room are.4 lacking.1 like is_after.kept
    (is_after.workers ∙ rows) (is_after.objects ∙ columns)
    (λ object inside.
    same_latest (is_among slots (main_slot object)) (latest_of now object) offset (latest_of next object) (latest_of offsets object)
    (put.latest object (omega (arith, columns, inside))) (same object inside) (equal object))
