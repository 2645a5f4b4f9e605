-- Maps stay before the position that commands reach.
use Rattle.std.proofs.Common.{◌≡◌, ℕ, ◌+◌, ◌<◌, ◌≤◌, Bool, true, false, List, [], ◌∷◌, ◌++◌, length, map, refl, ap, sym, subst, ◌∙◌, arith, Option, None, Some}
use Rattle.std.proofs.Common.{inl, inr}
use Rattle.std.specs.Prelude.{◌^◌, ◌⊎◌, if◌then◌else◌}
use Rattle.std.specs.List.{AllByRecursion, list_any}
use Rattle.std.specs.Option.{is_some}
use Rattle.std.proofs.lemmas.Bool.{cases_lt, false≢true}
use Rattle.std.proofs.lemmas.List.{get_or_past}
use Rattle.std.proofs.lemmas.List.Elements.{recursion_from_All}
use Rattle.nim_base.specs.declared.number.Object.{Object}
use Rattle.nim_base.specs.declared.number.Slot.{Slot}
use Rattle.nim_base.specs.declared.number.Worker.{Worker}
use Rattle.nim_base.specs.declared.task.Task.{Task}
use Rattle.nim_base.specs.declared.task.TaskForm.{TaskForm}
use Rattle.nim_command.specs.declared.command.Command.{Command}
use Rattle.nim_command.specs.Expansion.{version_at}
use Rattle.nim_command.specs.Numbers.{main_slot}
use Rattle.nim_command.specs.Slots.{is_among}
use Rattle.nim_place.specs.declared.placement.Placement.{Placement}
use Rattle.nim_place.specs.Schedule.{copies_of, moves, run_of, scheduled}
use Rattle.nim_place.specs.Stands.{commands_for}
use Rattle.nim_place.specs.Versions.{Versions, after_commands, held_at, latest_of, no_versions, puts_of, version_of}
use Rattle.nim_place.proofs.Moves.{AreMoves, moves_facts}
use Rattle.nim_place.proofs.Puts.{kept_bounds, kept_for}
use Rattle.nim_template.specs.Again.{IsBefore}
use Rattle.nim_template.specs.StaysBefore.{MapsStayBefore}
use Rattle.nim_template.specs.Walk.{home_of}
use Rattle.nim_base.proofs.Lists.{each_append, replicate_or}
use Rattle.nim_template.proofs.Again.{home_within, nothing_held, some_same, start_walked}
use Rattle.nim_template.proofs.Alike.{at_most}
use Rattle.nim_template.proofs.Effects.{some_kept}
use Rattle.nim_template.proofs.Ends.{AreEnds}
use Rattle.nim_template.proofs.Offsets.{IsKept}
use Rattle.nim_template.proofs.Sames.{AllBelow, AreLeft, PutAtMost, greatest_least, left, most_for, own_held}

-- ---- commands

-- each is of one of so many workers, and puts no version past a position
abbrev StayBefore : ℕ → ℕ → Worker × Command → Type 0
StayBefore workers next c = (c.0.0 < workers) × (version_of c.1.kind ≤ next)

stay_below : (workers next : ℕ) (cs : List (Worker × Command)) → AllByRecursion (StayBefore workers next) cs → AllBelow workers cs
stay_below workers next [] each = tt
stay_below workers next (c ∷ cs) each = (each.0.0, stay_below workers next cs each.1)

stay_most : (workers next : ℕ) (slot : Slot) (cs : List (Worker × Command)) → AllByRecursion (StayBefore workers next) cs
    → PutAtMost slot next (map (λ (c : Worker × Command). c.1) cs)
stay_most workers next slot [] each = tt
stay_most workers next slot (c ∷ cs) each = ((λ among. each.0.1), stay_most workers next slot cs each.1)

own_most : (slot : Slot) (next found : ℕ) (before : Option ℕ) (cs : List Command) → PutAtMost slot next cs
    → ((version : ℕ) → before ≡ Some version → version ≤ next) → own_held slot before cs ≡ Some found → found ≤ next
own_most slot next found before [] most low is = low found is
own_most slot next found before (c ∷ cs) most low is =
    either (is_among (puts_of c.kind) slot) refl is (λ b under held. own_most slot next found b cs most.1 under held) where
      either : (b : Bool) → is_among (puts_of c.kind) slot ≡ b → own_held slot (if b then Some (version_of c.kind) else before) cs ≡ Some found
          → ((o : Option ℕ) → ((version : ℕ) → o ≡ Some version → version ≤ next) → own_held slot o cs ≡ Some found → found ≤ next) → found ≤ next
      either true among held rest =
          rest (Some (version_of c.kind))
          (λ version same. (let equal = some_same (version_of c.kind) version same in let put = most.0 among in omega (arith, equal, put))) held
      either false apart held rest = rest before low held

commands_before : (workers objects base next : ℕ) (versions : Versions) (cs : List (Worker × Command)) → IsBefore workers objects base versions
    → base ≤ next → next < 2 ^ 64 → AllByRecursion (StayBefore workers next) cs → IsBefore workers objects next (after_commands versions cs)
commands_before workers objects base next versions cs before above room each =
    let after : Versions = after_commands versions cs in
    let are : AreLeft versions cs after =
    left versions cs (record { slots = before.slots; all = before.all })
    (subst (λ (n : ℕ). AllBelow n cs) (sym before.rows) (stay_below workers next cs each)) in
    record {
      rows = are.workers ∙ before.rows;
      columns = are.objects ∙ before.columns;
      slots = are.whole.slots;
      all = are.whole.all;
      latest = λ object there.
          (let low = before.latest object there in
          let most = greatest_least (main_slot object) (latest_of versions object) next cs (omega (arith, low, above))
          (stay_most workers next (main_slot object) cs each) in
          let is = are.latest object (omega (arith, before.columns, there)) in
          omega (arith, is, most));
      held = λ worker object found is.
          (let bounds = kept_bounds after worker (main_slot object) (some_kept after worker (main_slot object) found is) in
          let row = bounds.0 in
          let column = bounds.1 in
          own_most (main_slot object) next found (held_at versions worker (main_slot object)) (commands_for worker cs)
          (most_for (main_slot object) next worker cs (stay_most workers next (main_slot object) cs each))
          (λ version had. (let low = before.held worker object version had in omega (arith, low, above)))
          (sym (are.held worker (main_slot object)
          (kept_for versions worker (main_slot object) (omega (arith, are.workers, row)) (omega (arith, are.objects, column)))) ∙ is));
      room = room;
    }

-- ---- a new map

new_before : (workers objects base : ℕ) → base < 2 ^ 64 → IsBefore workers objects base (no_versions workers objects)
new_before workers objects base room = record {
  rows = refl;
  columns = refl;
  slots = (start_walked workers objects).whole.slots;
  all = (start_walked workers objects).whole.all;
  latest = λ object there. (let none = replicate_or {X = ℕ} objects object.0 0 in omega (arith, none));
  held = λ worker object found is.
      absurd (false≢true (ap (λ (o : Option ℕ). is_some o) (sym (nothing_held workers objects worker object) ∙ is)));
  room = room;
}

-- ---- a task

-- no latest version is past the position
latest_low : (workers objects position : ℕ) (versions : Versions) (object : Object) → IsBefore workers objects position versions
    → latest_of versions object ≤ position
latest_low workers objects position versions object before = either (cases_lt object.0 objects) where
  either : (object.0 < objects) ⊎ (objects ≤ object.0) → latest_of versions object ≤ position
  either (inl there) = before.latest object there
  either (inr past) =
      (let none : latest_of versions object ≡ 0 = get_or_past versions.latest object.0 0 (omega (arith, before.all, before.columns, past)) in
      omega (arith, none))

copies_before : (workers objects position number : ℕ) (versions : Versions) (owner : Worker) (reads : List Object) (ms : List _)
    → IsBefore workers objects position versions → owner.0 < workers → AreMoves versions owner reads ms
    → AllByRecursion (StayBefore workers (position + 1)) (copies_of versions number owner ms)
copies_before workers objects position number versions owner reads [] before below are = tt
copies_before workers objects position number versions owner reads (m ∷ ms) before below are =
    let from = are.0 in
    let low = latest_low workers objects position versions m.object before in (
      (omega (arith, before.rows, from), omega arith),
      ((below, omega (arith, low)), copies_before workers objects position number versions owner reads ms before below are.4),
    )

task_before : (workers objects position number : ℕ) (versions : Versions) (task : Task) (place : Placement) (live : List Bool)
    → IsBefore workers objects position versions → length live ≡ workers → list_any (λ (flag : Bool). flag) live ≡ true → position + 1 < 2 ^ 64
    → IsBefore workers objects (position + 1) (after_commands versions (scheduled versions task number position place live))
task_before workers objects position number versions task place live before many some room =
    let form : TaskForm = record { func = task.func; params = []; reads = task.reads; writes = task.writes } in
    let owner : Worker = home_of place versions.objects live form in
    let ms = moves versions owner [] task.reads in
    let low : owner.0 < length live = home_within place live some versions.objects form in
    let below : owner.0 < workers = omega (arith, low, many) in
    let run : List (Worker × Command) = (owner, run_of task number position ms) ∷ [] in
    commands_before workers objects position (position + 1) versions (copies_of versions number owner ms ++ run) before (omega arith) room
    (each_append (StayBefore workers (position + 1)) (copies_of versions number owner ms) run
    (copies_before workers objects position number versions owner task.reads ms before below (moves_facts versions owner task.reads))
    ((below, omega arith), tt))

pub maps_stay_before : MapsStayBefore
maps_stay_before = record {
  new = new_before;
  commands = λ workers objects base next versions commands before above room each.
      commands_before workers objects base next versions commands before above room
      (recursion_from_All (λ (c : Worker × Command). (c.0.0 < workers) × (version_of c.1.kind ≤ next)) commands each);
  task = task_before;
}

-- ---- an instance

-- behind an instance a map is before the position behind its tasks
pub ends_before : (workers objects base most : ℕ) (entry offsets versions : Versions) → IsBefore workers objects base entry
    → AreEnds base entry offsets versions → IsKept most offsets → offsets.workers ≡ workers → offsets.objects ≡ objects → base + most < 2 ^ 64
    → IsBefore workers objects (base + most) versions
ends_before workers objects base most entry offsets versions before ends kept rows columns room = record {
  rows = ends.alike.workers ∙ rows;
  columns = ends.alike.objects ∙ columns;
  slots = ends.alike.whole.slots;
  all = ends.alike.whole.all;
  latest = λ object there.
      (let inside : object.0 < offsets.objects = omega (arith, columns, there) in
      let is = ends.alike.latest object inside in
      let under = at_most base (latest_of entry object) (latest_of offsets object) (before.latest object there) in
      let high = kept.latest object inside in
      omega (arith, is, under, high));
  held = λ worker object found is. held worker object found is (held_at offsets worker (main_slot object)) refl;
  room = room;
} where
  held : (worker : Worker) (object : Object) (found : ℕ) → held_at versions worker (main_slot object) ≡ Some found → (o : Option ℕ)
      → held_at offsets worker (main_slot object) ≡ o → found ≤ base + most
  held worker object found is o there =
      (let bounds = kept_bounds versions worker (main_slot object) (some_kept versions worker (main_slot object) found is) in
      let row = bounds.0 in
      let column = bounds.1 in
      chosen (omega (arith, ends.alike.workers, row)) (omega (arith, ends.alike.objects, column)) o there) where
        chosen : worker.0 < offsets.workers → object.0 < offsets.objects → (x : Option ℕ) → held_at offsets worker (main_slot object) ≡ x
            → found ≤ base + most
        chosen below inside None none =
            (let low = before.held worker object found (sym (ends.alike.old worker object below inside none) ∙ is) in omega (arith, low))
        chosen below inside (Some offset) some =
            (let under = kept.held worker object offset below inside some in
            let high = kept.latest object inside in
            let same = some_same found (version_at base (latest_of entry object) offset) (sym is ∙ ends.alike.held worker object offset below inside some) in
            let most_is = at_most base (latest_of entry object) offset (before.latest object (omega (arith, columns, inside))) in
            omega (arith, under, high, same, most_is))
