-- The effect of a template lists what its halves write.
use Rattle.std.proofs.Common.{◌≡◌, ℕ, zero, suc, ◌+◌, ◌<◌, ◌≤◌, Bool, true, false, List, [], ◌∷◌, ◌++◌, length, map, refl, ap, ap₂, sym, subst, ◌∙◌}
use Rattle.std.proofs.Common.{arith}
use Rattle.std.proofs.Common.{Option, None, Some}
use Rattle.std.specs.Prelude.{◌==◌, ◌&&◌, ◌||◌, if◌then◌else◌, slice_index_or}
use Rattle.std.specs.List.{filter, flat_map, fold, list_all, list_any, range_with_len}
use Rattle.std.specs.Option.{is_some}
use Rattle.std.proofs.lemmas.Bool.{eqb-true, false≢true, ne_eqb}
use Rattle.std.proofs.lemmas.List.Concat.{flat_map-append}
use Rattle.std.proofs.lemmas.List.FromFn.{get_or-map-range_with_len}
use Rattle.std.proofs.lemmas.List.Sums.{fold-append}
use Rattle.nim_base.specs.declared.number.Object.{Object}
use Rattle.nim_base.specs.declared.number.Slot.{Slot}
use Rattle.nim_base.specs.declared.number.Worker.{Worker}
use Rattle.nim_base.specs.declared.task.TaskForm.{TaskForm}
use Rattle.nim_command.specs.declared.command.Command.{Command}
use Rattle.nim_command.specs.declared.entry.Entry.{Entry}
use Rattle.nim_command.specs.Before.{Footprint}
use Rattle.nim_command.specs.Holds.{version_after}
use Rattle.nim_command.specs.Numbers.{entry_number, main_slot, offset_after, task_of}
use Rattle.nim_command.specs.Ruled.{entries_by_rule, entry_footprint}
use Rattle.nim_command.specs.Slots.{is_among}
use Rattle.nim_place.specs.declared.placement.Placement.{Placement}
use Rattle.nim_place.specs.Schedule.{copies_of, moves, run_of, scheduled}
use Rattle.nim_place.specs.Versions.{Versions, after_commands, after_kind, held_at, holder, is_current, latest_of, with_version}
use Rattle.nim_place.proofs.Moves.{AreLacking, AreMoves, moves_facts, moves_lacking}
use Rattle.nim_place.proofs.Places.{both_true}
use Rattle.nim_place.proofs.Puts.{IsPut, IsWhole, kept_for, put_all, whole_after}
use Rattle.nim_template.specs.declared.closing.Closing.{Closing}
use Rattle.nim_template.specs.declared.template.ControllerTemplate.{ControllerTemplate}
use Rattle.nim_template.specs.declared.walk.Walk.{Walk}
use Rattle.nim_template.specs.Built.{all_slots, built, effect_at, effect_here, end_of, entries_for, half_for, needs_of, slots_of}
use Rattle.nim_template.specs.Closing.{after_closings, closed_for, closing_entries, closing_from, closings, copy_from, received_from}
use Rattle.nim_template.specs.Fits.{is_fit}
use Rattle.nim_template.specs.Walk.{walked_past, entry_for, home_of, offset_for, empty_walk, task_for, walked, with_need, with_offset}
use Rattle.nim_template.specs.Written.{HasEffect, item_for, item_of, last_written, offset_left}
use Rattle.nim_template.proofs.Again.{home_within, needs_are, nothing_held, start_walked}
use Rattle.nim_template.proofs.Chosen.{AreReady, moved_more, run_task}
use Rattle.nim_template.proofs.Closes.{AreNeeds, ClosesFor, closes_for, current_of, needs_after}
use Rattle.nim_template.proofs.Instances.{form_ready}
use Rattle.nim_template.proofs.Numbers.{need_entries}
use Rattle.nim_template.proofs.Offsets.{IsKept}
use Rattle.nim_template.proofs.Sizes.{AreLike, form_like, like_need, like_needs, need_if}
use Rattle.nim_template.proofs.Walks.{AreCopies, IsWalked, IsWalkedTo, copies_kept, form_walked, has_any, latest_within, need_walked, needs_walked}
use Rattle.nim_template.proofs.Walks.{only_object, walk_kept}

-- ---- lists

-- what a worker's slot has, by the entries of all workers
abbrev written_by : Worker → Slot → Option ℕ → Worker × Entry → Option ℕ
written_by worker slot before e = if e.0.0 == worker.0 then offset_left slot before e.1.id e.1.kind else before

abbrev all_written : Worker → Slot → Option ℕ → List (Worker × Entry) → Option ℕ
all_written worker slot before entries = fold (written_by worker slot) before entries

abbrev own_written : Slot → Option ℕ → List Entry → Option ℕ
own_written slot before entries = fold (λ (b : Option ℕ) (entry : Entry). offset_left slot b entry.id entry.kind) before entries

own_all : (worker : Worker) (slot : Slot) (before : Option ℕ) (entries : List (Worker × Entry))
    → own_written slot before (entries_for worker entries) ≡ all_written worker slot before entries
own_all worker slot before [] = refl
own_all worker slot before (e ∷ entries) =
    either (e.0.0 == worker.0) (λ b. own_all worker slot b entries) where
      either : (c : Bool) → ((b : Option ℕ) → own_written slot b (entries_for worker entries) ≡ all_written worker slot b entries)
          → own_written slot before
          (map (λ (x : Worker × Entry). x.1)
          (if c then e ∷ filter (λ (x : Worker × Entry). x.0.0 == worker.0) entries else filter (λ (x : Worker × Entry). x.0.0 == worker.0) entries))
          ≡ all_written worker slot (if c then offset_left slot before e.1.id e.1.kind else before) entries
      either true rest = rest (offset_left slot before e.1.id e.1.kind)
      either false rest = rest before

ruled_written : (slot : Slot) (before : Option ℕ) (past : List Footprint) (entries : List Entry)
    → own_written slot before (entries_by_rule past entries) ≡ own_written slot before entries
ruled_written slot before past [] = refl
ruled_written slot before past (entry ∷ entries) =
    ruled_written slot (offset_left slot before entry.id entry.kind) (past ++ entry_footprint entry ∷ []) entries

-- ---- offsets other than 0

-- the offset of what a task of the block wrote, as an entry has it
abbrev seen : Option ℕ → Option ℕ
seen None = None
seen (Some offset) = if offset == 0 then None else Some (offset_for offset)

item_seen : (slot : Worker × Object) (o : Option ℕ) → effect_at slot o ≡ item_of slot (seen o)
item_seen slot None = refl
item_seen slot (Some offset) = either (offset == 0) where
  either : (b : Bool) → (if b then [] else (slot.0, main_slot slot.1, offset_for offset) ∷ []) ≡ item_of slot (if b then None else Some (offset_for offset))
  either true = refl
  either false = refl

seen_more : (offset : ℕ) → (offset == 0) ≡ false → seen (Some offset) ≡ Some (offset_for offset)
seen_more offset more = ap (λ (b : Bool). if b then None else Some (offset_for offset)) more

seen_none : (offsets : Versions) (most : ℕ) (worker : Worker) (object : Object) → IsKept most offsets → worker.0 < offsets.workers
    → object.0 < offsets.objects → latest_of offsets object ≡ 0 → (o : Option ℕ) → held_at offsets worker (main_slot object) ≡ o → seen o ≡ None
seen_none offsets most worker object kept below there none None is = refl
seen_none offsets most worker object kept below there none (Some offset) is =
    let under = kept.held worker object offset below there is in
    let zero_is : offset ≡ 0 = omega (arith, under, none) in
    ap (λ (n : ℕ). seen (Some n)) zero_is

-- a put of an offset other than 0
put_seen : (b c : Bool) (offset : ℕ) (was now : Option ℕ) → now ≡ (if b && c then Some offset else was) → (offset == 0) ≡ false
    → seen now ≡ (if c then (if b then Some (offset_for offset) else seen was) else seen was)
put_seen true true offset was now is more = ap seen is ∙ seen_more offset more
put_seen true false offset was now is more = ap seen is
put_seen false true offset was now is more = ap seen is
put_seen false false offset was now is more = ap seen is

zero_seen : (b c : Bool) (was now : Option ℕ) → now ≡ (if b && c then Some 0 else was) → (b ≡ true → c ≡ true → seen was ≡ None) → seen now ≡ seen was
zero_seen true true was now is none = ap seen is ∙ sym (none refl refl)
zero_seen true false was now is none = ap seen is
zero_seen false c was now is none = ap seen is

same_both : (b : Bool) (x : Option ℕ) → (if b then x else x) ≡ x
same_both true x = refl
same_both false x = refl

alone : (b : Bool) → (b || false) ≡ b
alone true = refl
alone false = refl

-- what is received, behind what is sent
received_seen : (now : Versions) (worker owner from : Worker) (object moved : Object) (offset : ℕ) → IsWhole now → owner.0 < now.workers
    → worker.0 < now.workers → object.0 < now.objects → (offset == 0) ≡ false
    → seen (held_at (with_offset owner moved offset now) worker (main_slot object))
    ≡ (if owner.0 == worker.0
    then (if moved.0 == object.0 then Some (offset_for offset) else (if from.0 == worker.0 then seen (held_at now worker (main_slot object)) else seen
    (held_at now worker (main_slot object))))
    else (if from.0 == worker.0 then seen (held_at now worker (main_slot object)) else seen (held_at now worker (main_slot object))))
received_seen now worker owner from object moved offset whole own below there more =
    let slots : List Slot = main_slot moved ∷ [] in
    let next : Versions = with_offset owner moved offset now in
    let put : IsPut now owner offset slots next = put_all now owner offset slots whole own in
    put_seen (is_among slots (main_slot object)) (owner.0 == worker.0) offset (held_at now worker (main_slot object)) (held_at next worker (main_slot object))
    (put.held worker (main_slot object) (kept_for now worker (main_slot object) below there)) more
    ∙ ap₂ (λ (b : Bool) (s : Option ℕ). if owner.0 == worker.0 then (if b then Some (offset_for offset) else s) else s) (alone (moved.0 == object.0))
    (sym (same_both (from.0 == worker.0) (seen (held_at now worker (main_slot object)))))

copies_seen : (base now : Versions) (form : TaskForm) (task : ℕ) (owner worker : Worker) (object : Object) (ms : List _) → IsWhole now
    → AreReady base owner form.reads → AreMoves base owner form.reads ms → AreLacking base owner ms → owner.0 < now.workers → worker.0 < now.workers
    → object.0 < now.objects
    → seen (held_at (after_commands now (copies_of base task owner ms)) worker (main_slot object))
    ≡ all_written worker (main_slot object) (seen (held_at now worker (main_slot object))) (flat_map (entry_for form) (copies_of base task owner ms))
copies_seen base now form task owner worker object [] whole ready are lacking own below there = refl
copies_seen base now form task owner worker object (m ∷ ms) whole ready are lacking own below there =
    let offset : ℕ = latest_of base m.object in
    let slots : List Slot = main_slot m.object ∷ [] in
    let next : Versions = with_offset owner m.object offset now in
    let put : IsPut now owner offset slots next = put_all now owner offset slots whole own in
    let rest : List (Worker × Entry) = flat_map (entry_for form) (copies_of base task owner ms) in
    copies_seen base next form task owner worker object ms (whole_after now owner offset slots next put whole) ready are.4 lacking.1
    (omega (arith, put.workers, own)) (omega (arith, put.workers, below)) (omega (arith, put.objects, there))
    ∙ ap (λ (s : Option ℕ). all_written worker (main_slot object) s rest)
    (received_seen now worker owner m.from object m.object offset whole own below there (moved_more base owner form.reads m.object ready are.2 lacking.0))

task_seen : (place : Placement) (live : List Bool) (task : ℕ) (offsets : Versions) (form : TaskForm) (worker : Worker) (object : Object)
    → IsKept task offsets → AreReady offsets (home_of place offsets.objects live form) form.reads → task < 1024 → worker.0 < offsets.workers
    → object.0 < offsets.objects
    → seen (held_at (after_commands offsets (scheduled offsets (task_for form) task task place live)) worker (main_slot object))
    ≡ all_written worker (main_slot object) (seen (held_at offsets worker (main_slot object)))
    (flat_map (entry_for form) (scheduled offsets (task_for form) task task place live))
task_seen place live task offsets form worker object kept ready few below there =
    let owner : Worker = home_of place offsets.objects live form in
    let ms = moves offsets owner [] form.reads in
    let copies : List (Worker × Command) = copies_of offsets task owner ms in
    let run : Worker × Command = (owner, run_of (task_for form) task task ms) in
    let mid : Versions = after_commands offsets copies in
    let slot : Slot = main_slot object in
    let slots : List Slot = map main_slot form.writes in
    let step : Versions → Worker × Command → Versions = λ before c. after_kind c.0 before c.1.kind in
    let facts : AreCopies task offsets offsets mid = copies_kept task offsets offsets task owner ms kept ready.below
    (λ o. latest_within task offsets o kept) (λ o inside. refl) in
    let own : owner.0 < mid.workers = omega (arith, facts.is_after.workers, ready.below) in
    let after : Versions = fold (with_version owner (version_after task)) mid slots in
    let put : IsPut mid owner (version_after task) slots after = put_all mid owner (version_after task) slots facts.is_after.kept.whole own in
    let first : seen (held_at mid worker slot) ≡ all_written worker slot (seen (held_at offsets worker slot)) (flat_map (entry_for form) copies) =
    copies_seen offsets offsets form task owner worker object ms kept.whole ready (moves_facts offsets owner form.reads)
    (moves_lacking offsets owner [] form.reads)
    ready.below below there in
    let last : seen (held_at after worker slot)
    ≡ (if owner.0 == worker.0 then (if is_among slots slot then Some (offset_for (version_after task)) else seen (held_at mid worker slot)) else seen
    (held_at mid worker slot)) =
    put_seen (is_among slots slot) (owner.0 == worker.0) (version_after task) (held_at mid worker slot) (held_at after worker slot)
    (put.held worker slot (kept_for mid worker slot (omega (arith, facts.is_after.workers, below)) (omega (arith, facts.is_after.objects, there))))
    (ne_eqb (version_after task) 0 (λ none. omega (arith, none, few))) in
    let offset : offset_for (version_after task) ≡ offset_after (task_of (entry_number task 4 0)) =
    (let number = run_task task (omega (arith, few)) in omega (arith, number, few)) in
    ap (λ (v : Versions). seen (held_at v worker slot)) (fold-append step offsets copies (run ∷ []))
    ∙ last
    ∙ ap₂ (λ (x : ℕ) (s : Option ℕ). if owner.0 == worker.0 then (if is_among slots slot then Some x else s) else s) offset first
    ∙ sym (fold-append (written_by worker slot) (seen (held_at offsets worker slot)) (flat_map (entry_for form) copies) (flat_map (entry_for form) (run ∷ [])))
    ∙ sym (ap (all_written worker slot (seen (held_at offsets worker slot))) (flat_map-append (entry_for form) copies (run ∷ [])))

-- ---- the walk

need_seen : (most : ℕ) (owner : Worker) (walk : Walk) (needed : Object) (worker : Worker) (object : Object) → IsWalked most walk
    → owner.0 < walk.offsets.workers → worker.0 < walk.offsets.workers → object.0 < walk.offsets.objects
    → seen (held_at (with_need owner walk needed).offsets worker (main_slot object)) ≡ seen (held_at walk.offsets worker (main_slot object))
need_seen most owner walk needed worker object is own below there = either (latest_of walk.offsets needed == 0) refl where
  put : IsPut walk.offsets owner 0 (main_slot needed ∷ []) (with_offset owner needed 0 walk.offsets)
  put = put_all walk.offsets owner 0 (main_slot needed ∷ []) is.kept.whole own

  either : (b : Bool) → (latest_of walk.offsets needed == 0) ≡ b
      → seen (held_at
      (need_if b owner walk needed).offsets worker (main_slot object)) ≡ seen (held_at walk.offsets worker (main_slot object))
  either true none =
      zero_seen (is_among (main_slot needed ∷ []) (main_slot object)) (owner.0 == worker.0) (held_at walk.offsets worker (main_slot object))
      (held_at (with_offset owner needed 0 walk.offsets) worker (main_slot object))
      (put.held worker (main_slot object) (kept_for walk.offsets worker (main_slot object) below there))
      (λ among same.
      seen_none walk.offsets most worker object is.kept below there
      (sym (ap (λ (n : ℕ). latest_of walk.offsets (record { 0 = n })) (only_object needed object among)) ∙ eqb-true (latest_of walk.offsets needed) 0 none)
      (held_at walk.offsets worker (main_slot object)) refl)
  either false more = refl

needs_seen : (most : ℕ) (owner : Worker) (reads : List Object) (walk : Walk) (worker : Worker) (object : Object) → IsWalked most walk
    → owner.0 < walk.offsets.workers → worker.0 < walk.offsets.workers → object.0 < walk.offsets.objects
    → seen (held_at (fold (with_need owner) walk reads).offsets worker (main_slot object)) ≡ seen (held_at walk.offsets worker (main_slot object))
needs_seen most owner [] walk worker object is own below there = refl
needs_seen most owner (first ∷ reads) walk worker object is own below there =
    let like = like_need owner walk first in
    needs_seen most owner reads (with_need owner walk first) worker object (need_walked most owner walk first is own) (omega (arith, like.workers, own))
    (omega (arith, like.workers, below)) (omega (arith, like.objects, there))
    ∙ need_seen most owner walk first worker object is own below there

walk_seen : (place : Placement) (live : List Bool) (number : ℕ) (walk : Walk) (forms : List TaskForm) (worker : Worker) (object : Object)
    → IsWalked number walk → ((objects : ℕ) (f : TaskForm) → (home_of place objects live f).0 < walk.offsets.workers)
    → list_all (is_fit walk.offsets.objects) forms ≡ true → number + length forms ≤ 1024 → worker.0 < walk.offsets.workers → object.0 < walk.offsets.objects
    → seen (held_at walk.offsets worker (main_slot object)) ≡ all_written worker (main_slot object) None walk.entries
    → seen (held_at (walked place live number walk forms).offsets worker (main_slot object))
    ≡ all_written worker (main_slot object) None (walked place live number walk forms).entries
walk_seen place live number walk [] worker object is homes fit few below there so_far = so_far
walk_seen place live number walk (form ∷ forms) worker object is homes fit few below there so_far =
    let each = both_true (is_fit walk.offsets.objects form) (list_all (is_fit walk.offsets.objects) forms) fit in
    let owner : Worker = home_of place walk.offsets.objects live form in
    let own : owner.0 < walk.offsets.workers = homes walk.offsets.objects form in
    let ready : Walk = fold (with_need owner) walk form.reads in
    let like_ready : AreLike walk.offsets ready.offsets = like_needs owner form.reads walk in
    let now : IsWalked number ready = needs_walked number owner form.reads walk is own in
    let next : Walk = walked_past place live number walk form in
    let like : AreLike walk.offsets next.offsets = form_like place live number walk next form refl in
    let slot : Slot = main_slot object in
    let more : List (Worker × Entry) = flat_map (entry_for form) (scheduled ready.offsets (task_for form) number number place live) in
    let mine : seen (held_at next.offsets worker slot) ≡ all_written worker slot None next.entries =
    task_seen place live number ready.offsets form worker object now.kept (form_ready place live number walk form is homes each.0) (omega (arith, few))
    (omega (arith, like_ready.workers, below)) (omega (arith, like_ready.objects, there))
    ∙ ap (λ (s : Option ℕ). all_written worker slot s more)
    (needs_seen number owner form.reads walk worker object is own below there ∙ so_far
    ∙ sym (ap (all_written worker slot None) (need_entries owner form.reads walk)))
    ∙ sym (fold-append (written_by worker slot) None ready.entries more) in
    walk_seen place live (number + 1) next forms worker object (form_walked number place live walk form is homes (omega (arith, few)))
    (λ objects f. (let low = homes objects f in omega (arith, like.workers, low)))
    (subst (λ (n : ℕ). list_all (is_fit n) forms ≡ true) (sym like.objects) each.1) (omega (arith, few)) (omega (arith, like.workers, below))
    (omega (arith, like.objects, there)) mine

-- ---- closing copies

-- what a closing copy brings was written by a task of the block
pub closing_more : (most : ℕ) (offsets : Versions) (need : Worker × Object) (from : Worker) → IsKept most offsets → need.0.0 < offsets.workers
    → need.1.0 < offsets.objects → has_any offsets need.0 need.1 ≡ true → closing_from offsets need ≡ Some from → (latest_of offsets need.1 == 0) ≡ false
closing_more most offsets need from kept below there some found = either (latest_of offsets need.1 == 0) refl where
  current : latest_of offsets need.1 ≡ 0 → (o : Option ℕ) → held_at offsets need.0 (main_slot need.1) ≡ o → is_some o ≡ true
      → is_current offsets need.1 need.0 ≡ true
  current none None is has = absurd (false≢true has)
  current none (Some offset) is has =
      let under = kept.held need.0 need.1 offset below there is in
      let same : offset ≡ latest_of offsets need.1 = omega (arith, under, none) in
      current_of offsets need.1 need.0 (is ∙ ap Some same)

  either : (b : Bool) → (latest_of offsets need.1 == 0) ≡ b → b ≡ false
  either true none =
      let now : is_current offsets need.1 need.0 ≡ true =
      current (eqb-true (latest_of offsets need.1) 0 none) (held_at offsets need.0 (main_slot need.1)) refl some in
      let nobody : closing_from offsets need ≡ None = ap (λ (b : Bool). if b then None else holder offsets need.1) now in
      absurd (false≢true (ap (λ (o : Option Worker). is_some o) (sym nobody ∙ found)))
  either false more = refl

closings_seen : (most : ℕ) (offsets : Versions) (needs : List (Worker × Object)) (copy : ℕ) (worker : Worker) (object : Object) → IsKept most offsets
    → AreNeeds offsets needs → worker.0 < offsets.workers → object.0 < offsets.objects
    → seen (held_at (after_closings offsets needs) worker (main_slot object))
    ≡ all_written worker (main_slot object) (seen (held_at offsets worker (main_slot object))) (closing_entries copy (closings offsets needs))
closings_seen most offsets [] copy worker object kept are below there = refl
closings_seen most offsets (need ∷ needs) copy worker object kept are below there =
    let first : ClosesFor most offsets need (closed_for offsets need) = closes_for most offsets need kept are.0 are.1 are.2 in
    let after = first.closed.is_after in
    either (closing_from offsets need) refl
    (λ k. closings_seen most (closed_for offsets need) needs k worker object after.kept (needs_after most offsets (closed_for offsets need) needs after are.3)
    (omega (arith, after.workers, below)) (omega (arith, after.objects, there))) where
      shown : (o : Option Worker) → closing_from offsets need ≡ o
          → ((k : ℕ) → seen (held_at (after_closings (received_from offsets need o) needs) worker (main_slot object))
          ≡ all_written worker (main_slot object) (seen (held_at (received_from offsets need o) worker (main_slot object)))
          (closing_entries k (closings (received_from offsets need o) needs)))
          → seen (held_at (after_closings (received_from offsets need o) needs) worker (main_slot object))
          ≡ all_written worker (main_slot object) (seen (held_at offsets worker (main_slot object)))
          (closing_entries copy (copy_from offsets need o ++ closings (received_from offsets need o) needs))
      shown None is rest = rest copy
      shown (Some from) is rest =
          rest (copy + 1)
          ∙ ap (λ (s : Option ℕ). all_written worker (main_slot object) s
          (closing_entries (copy + 1) (closings (with_offset need.0 need.1 (latest_of offsets need.1) offsets) needs)))
          (received_seen offsets worker need.0 from object need.1 (latest_of offsets need.1) kept.whole are.0 below there
          (closing_more most offsets need from kept are.0 are.1 are.2 is))

      either : (o : Option Worker) → closing_from offsets need ≡ o
          → ((k : ℕ) → seen (held_at (after_closings (closed_for offsets need) needs) worker (main_slot object))
          ≡ all_written worker (main_slot object) (seen (held_at (closed_for offsets need) worker (main_slot object)))
          (closing_entries k (closings (closed_for offsets need) needs)))
          → seen (held_at (after_closings (closed_for offsets need) needs) worker (main_slot object))
          ≡ all_written worker (main_slot object) (seen (held_at offsets worker (main_slot object)))
          (closing_entries copy (copy_from offsets need (closing_from offsets need) ++ closings (closed_for offsets need) needs))
      either o is rest = shown (closing_from offsets need) refl rest

-- ---- all slots

flat_same : {X : Type 0} (f g : ℕ → List X) (from n : ℕ) → ((k : ℕ) → from ≤ k → k < from + n → f k ≡ g k)
    → flat_map f (range_with_len from n) ≡ flat_map g (range_with_len from n)
flat_same f g from zero same = refl
flat_same {X} f g from (suc n) same =
    ap₂ (λ (xs ys : List X). xs ++ ys) (same from (omega arith) (omega arith))
    (flat_same f g (from + 1) n (λ k above below. same k (omega (arith, above)) (omega (arith, below))))

flat_flat : {X Y Z : Type 0} (h : Y → List Z) (own : X → List Y) (xs : List X) → flat_map h (flat_map own xs) ≡ flat_map (λ x. flat_map h (own x)) xs
flat_flat h own [] = refl
flat_flat {X} {Y} {Z} h own (x ∷ xs) =
    flat_map-append h (own x) (flat_map own xs) ∙ ap (λ (rest : List Z). flat_map h (own x) ++ rest) (flat_flat h own xs)

flat_of_map : {X Y Z : Type 0} (h : Y → List Z) (g : X → Y) (xs : List X) → flat_map h (map g xs) ≡ flat_map (λ x. h (g x)) xs
flat_of_map h g [] = refl
flat_of_map {X} {Y} {Z} h g (x ∷ xs) = ap (λ (rest : List Z). h (g x) ++ rest) (flat_of_map h g xs)

all_same : {X : Type 0} (h k : Worker × Object → List X) (workers objects : ℕ)
    → ((worker : Worker) (object : Object) → worker.0 < workers → object.0 < objects → h (worker, object) ≡ k (worker, object))
    → flat_map h (all_slots workers objects) ≡ flat_map k (all_slots workers objects)
all_same {X} h k workers objects same =
    let own : ℕ → List (Worker × Object) = λ number. slots_of (record { 0 = number }) objects in
    let slot : ℕ → ℕ → Worker × Object = λ w o. (record { 0 = w }, record { 0 = o }) in
    flat_flat h own (range_with_len 0 workers)
    ∙ flat_same (λ (n : ℕ). flat_map h (own n)) (λ (n : ℕ). flat_map k (own n)) 0 workers
    (λ w above below.
    flat_of_map h (slot w) (range_with_len 0 objects)
    ∙ flat_same (λ (o : ℕ). h (slot w o)) (λ (o : ℕ). k (slot w o)) 0 objects
    (λ o low there. same (record { 0 = w }) (record { 0 = o }) (omega (arith, below)) (omega (arith, there)))
    ∙ sym (flat_of_map k (slot w) (range_with_len 0 objects)))
    ∙ sym (flat_flat k own (range_with_len 0 workers))

-- the effect lists what the halves write
pub built_effect : (place : Placement) (objects : ℕ) (live : List Bool) (template : ControllerTemplate) → list_any (λ (flag : Bool). flag) live ≡ true
    → length template.forms ≤ 1024 → list_all (is_fit objects) template.forms ≡ true → HasEffect (length live) objects (built place objects live template)
built_effect place objects live template some few fit =
    let workers : ℕ = length live in
    let forms : List TaskForm = template.forms in
    let walk : Walk = end_of place objects live forms in
    let slots : List (Worker × Object) = all_slots workers objects in
    let needs : List (Worker × Object) = needs_of walk.needed slots in
    let copies : List Closing = closings walk.offsets needs in
    let closing : List (Worker × Entry) = closing_entries 0 copies in
    let entries : List (Worker × Entry) = walk.entries ++ closing in
    let begins : IsWalked 0 (empty_walk workers objects) = start_walked workers objects in
    let homes : (n : ℕ) (f : TaskForm) → (home_of place n live f).0 < workers = home_within place live some in
    let to : IsWalkedTo (0 + length forms) (empty_walk workers objects) walk = walk_kept place live 0 (empty_walk workers objects) forms begins homes (omega
    (arith, few)) in
    let are : AreNeeds walk.offsets needs = needs_are (0 + length forms) walk slots to.walked in
    all_same (effect_here (after_closings walk.offsets needs)) (item_for (built place objects live template).halves) workers objects
    (λ worker object below there.
    let slot : Slot = main_slot object in
    let tasks : seen (held_at walk.offsets worker slot) ≡ all_written worker slot None walk.entries =
    walk_seen place live 0 (empty_walk workers objects) forms worker object begins homes fit (omega (arith, few)) below there
    (ap seen (nothing_held workers objects worker object)) in
    let ends : seen (held_at (after_closings walk.offsets needs) worker slot) ≡ all_written worker slot None entries =
    closings_seen (0 + length forms) walk.offsets needs 0 worker object to.walked.kept are (omega (arith, to.like.workers, below))
    (omega (arith, to.like.objects, there))
    ∙ ap (λ (s : Option ℕ). all_written worker slot s closing) tasks
    ∙ sym (fold-append (written_by worker slot) None walk.entries closing) in
    let half : slice_index_or (built place objects live template).halves worker.0 [] ≡ half_for worker entries =
    get_or-map-range_with_len (λ (n : ℕ). half_for (record { 0 = n }) entries) 0 workers worker.0 worker.0 [] below (omega arith) in
    item_seen (worker, object) (held_at (after_closings walk.offsets needs) worker slot)
    ∙ ap (item_of (worker, object))
    (ends ∙ sym (own_all worker slot None entries) ∙ sym (ruled_written slot None [] (entries_for worker entries))
    ∙ sym (ap (λ (es : List Entry). last_written es slot) half)))
