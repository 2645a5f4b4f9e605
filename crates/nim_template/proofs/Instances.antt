-- The tasks of a block, one after another: their entries at a base are what single scheduling gives them.
use Rattle.std.proofs.Common.{◌≡◌, ℕ, ◌+◌, ◌<◌, ◌≤◌, Bool, true, false, List, [], ◌∷◌, ◌++◌, length, map, refl, ap, ap₂, sym, subst, ◌∙◌, arith}
use Rattle.std.proofs.Common.{Option}
use Rattle.std.proofs.Common.{None, Some}
use Rattle.std.specs.Prelude.{◌^◌, ◌==◌, ◌&&◌, ◌||◌, if◌then◌else◌, ℤ}
use Rattle.std.specs.List.{flat_map, fold, list_all}
use Rattle.std.specs.Option.{is_some}
use Rattle.std.proofs.lemmas.Bool.{eq-eqb, eqb-true, false≢true, ne_eqb, or_left, or_right}
use Rattle.std.proofs.lemmas.List.{append-nil, append_assoc, map-append}
use Rattle.std.proofs.lemmas.List.Sums.{fold-append}
use Rattle.nim_base.specs.declared.number.Object.{Object}
use Rattle.nim_base.specs.declared.number.Slot.{Slot}
use Rattle.nim_base.specs.declared.number.Worker.{Worker}
use Rattle.nim_base.specs.declared.task.TaskForm.{TaskForm}
use Rattle.nim_command.specs.declared.command.Command.{Command}
use Rattle.nim_command.specs.declared.entry.Entry.{Entry}
use Rattle.nim_command.specs.Holds.{version_after}
use Rattle.nim_command.specs.Numbers.{counted_from, main_slot}
use Rattle.nim_place.specs.declared.placement.Placement.{Placement}
use Rattle.nim_place.specs.Schedule.{copies_of, is_one_of, moves, run_of, scheduled}
use Rattle.nim_place.specs.Versions.{Versions, after_commands, after_kind, held_at, is_current, latest_of, with_version}
use Rattle.nim_place.proofs.Moves.{moves_facts, moves_lacking}
use Rattle.nim_place.proofs.Places.{both_true}
use Rattle.nim_place.proofs.Puts.{IsPut, kept_for, put_all}
use Rattle.nim_template.specs.declared.walk.Walk.{Walk}
use Rattle.nim_template.specs.Fits.{is_fit}
use Rattle.nim_template.specs.Tasks.{scheduled_from, task_with}
use Rattle.nim_template.specs.Walk.{walked_past, entry_for, home_of, task_for, walked, with_need, with_offset}
use Rattle.nim_template.proofs.Alike.{IsAlike, IsEntry, alike_need, alike_put}
use Rattle.nim_template.proofs.Chosen.{AreReady, command_at, copies_alike, moves_same, plain, ready_same, task_same}
use Rattle.nim_template.proofs.Fits.{read_below}
use Rattle.nim_template.proofs.Numbers.{need_entries}
use Rattle.nim_template.proofs.Offsets.{IsKept}
use Rattle.nim_template.proofs.Sizes.{AreLike, form_like, like_need, like_needs, need_if}
use Rattle.nim_template.proofs.Zeros.{IsZero, need_latest, zero_needs, zero_task}
use Rattle.nim_template.proofs.Walks.{AreCopies, IsWalked, any_after, copies_kept, form_walked, has_any, latest_within, need_walked, needs_walked}

-- ---- what single scheduling gives, by what it chooses in the offsets

scheduled_shown : (base most : ℕ) (entry offsets versions : Versions) (place : Placement) (live : List Bool) (args : List ℤ) (task position : ℕ)
    (form : TaskForm) → IsAlike base entry offsets versions → IsKept most offsets → IsEntry base offsets.objects entry
    → AreReady offsets (home_of place offsets.objects live form) form.reads → base + most < 2 ^ 64
    → scheduled versions (task_with args form) task position place live
    ≡ copies_of versions task (home_of place offsets.objects live form) (moves offsets (home_of place offsets.objects live form) [] form.reads)
    ++ (
      home_of place offsets.objects live form,
      run_of (task_with args form) task position (moves offsets (home_of place offsets.objects live form) [] form.reads),
    ) ∷ []
scheduled_shown base most entry offsets versions place live args task position form alike kept at ready room =
    let owner : Worker = home_of place offsets.objects live form in
    let own : Worker → List (Worker × Command) = λ w. copies_of versions task w (moves versions w [] form.reads)
    ++ (w, run_of (task_with args form) task position (moves versions w [] form.reads)) ∷ [] in
    let chosen : moves versions owner [] form.reads ≡ moves offsets owner [] form.reads =
    moves_same versions offsets owner [] form.reads (ready_same base most entry offsets versions owner form.reads alike kept at ready room) in
    ap (λ (n : ℕ). own (home_of place n live form)) alike.objects
    ∙ ap (λ (x : List _). copies_of versions task owner x ++ (owner, run_of (task_with args form) task position x) ∷ []) chosen

-- what a task leaves
pub task_alike : (base : ℕ) (entry offsets versions : Versions) (place : Placement) (live : List Bool) (args : List ℤ) (task : ℕ) (form : TaskForm)
    → IsAlike base entry offsets versions → IsKept task offsets → IsEntry base offsets.objects entry
    → AreReady offsets (home_of place offsets.objects live form) form.reads → task < 1024 → base + 1024 < 2 ^ 64
    → IsAlike base entry (after_commands offsets (scheduled offsets (task_for form) task task place live))
    (after_commands versions (scheduled versions (task_with args form) task (counted_from base task) place live))
task_alike base entry offsets versions place live args task form alike kept at ready few room =
    let owner : Worker = home_of place offsets.objects live form in
    let ms = moves offsets owner [] form.reads in
    let step : Versions → Worker × Command → Versions = λ before c. after_kind c.0 before c.1.kind in
    let small : base + task < 2 ^ 64 = omega (arith, few, room) in
    let run : Worker × Command = (owner, run_of (task_for form) task task ms) in
    let real : Worker × Command = (owner, run_of (task_with args form) task (counted_from base task) ms) in
    let mid : Versions = after_commands offsets (copies_of offsets task owner ms) in
    let mids : Versions = after_commands versions (copies_of versions task owner ms) in
    let copies : AreCopies task offsets offsets mid = copies_kept task offsets offsets task owner ms kept ready.below
    (λ object. latest_within task offsets object kept) (λ object there. refl) in
    let like : IsAlike base entry mid mids =
    copies_alike base task entry offsets versions offsets versions form.reads task owner ms alike kept at ready small (moves_facts offsets owner form.reads)
    (moves_lacking offsets owner [] form.reads) alike kept refl refl (λ object there. refl) in
    let slots : List Slot = map main_slot form.writes in
    let last : IsAlike base entry (fold (with_version owner (version_after task)) mid slots)
    (fold (with_version owner (version_after (counted_from base task))) mids slots) =
    alike_put base entry mid mids owner (version_after task) (version_after (counted_from base task)) slots like copies.is_after.kept.whole
    (subst (λ (n : ℕ). IsEntry base n entry) (sym copies.is_after.objects) at) (omega (arith, copies.is_after.workers, ready.below))
    (ne_eqb (version_after task) 0 (λ none. omega (arith, none, few))) (omega (arith, few, room)) (omega (arith, few, room))
    (λ object inside among. (let most = copies.is_after.kept.latest object inside in omega (arith, most, few))) in
    let first : after_commands offsets (copies_of offsets task owner ms ++ run ∷ []) ≡ after_commands mid (run ∷ []) =
    fold-append step offsets (copies_of offsets task owner ms) (run ∷ []) in
    let second : after_commands versions (scheduled versions (task_with args form) task (counted_from base task) place live) ≡ after_commands mids (real ∷ []) =
    ap (after_commands versions) (scheduled_shown base task entry offsets versions place live args task (counted_from base task) form alike kept at ready small)
    ∙ fold-append step versions (copies_of versions task owner ms) (real ∷ []) in
    subst (λ (v : Versions). IsAlike base entry v (after_commands versions (scheduled versions (task_with args form) task (counted_from base task) place live)))
    (sym first) (subst (IsAlike base entry (after_commands mid (run ∷ []))) (sym second) last)

-- ---- what reads need

-- one need: it stays that what is needed is there
need_grows : (most : ℕ) (owner : Worker) (walk : Walk) (object : Object) → IsWalked most walk → owner.0 < walk.offsets.workers
    → (worker : Worker) (other : Object) → worker.0 < walk.offsets.workers → other.0 < walk.offsets.objects → has_any walk.needed worker other ≡ true
    → has_any (with_need owner walk object).needed worker other ≡ true
need_grows most owner walk object is below worker other lower inside has = either (latest_of walk.offsets object == 0) where
  either : (b : Bool)
      → has_any
      (need_if b owner walk object).needed worker other ≡ true
  either true =
      any_after walk.needed (with_offset owner object 0 walk.needed) owner 0 (main_slot object ∷ [])
      (put_all walk.needed owner 0 (main_slot object ∷ []) is.whole (omega (arith, is.workers, below))) worker other
      (omega (arith, is.workers, lower)) (omega (arith, is.objects, inside)) has
  either false = has

needs_grow : (most : ℕ) (owner : Worker) (reads : List Object) (walk : Walk) → IsWalked most walk → owner.0 < walk.offsets.workers
    → (worker : Worker) (other : Object) → worker.0 < walk.offsets.workers → other.0 < walk.offsets.objects → has_any walk.needed worker other ≡ true
    → has_any (fold (with_need owner) walk reads).needed worker other ≡ true
needs_grow most owner [] walk is below worker other lower inside has = has
needs_grow most owner (object ∷ reads) walk is below worker other lower inside has =
    let like = like_need owner walk object in
    needs_grow most owner reads (with_need owner walk object) (need_walked most owner walk object is below) (omega (arith, like.workers, below)) worker other
    (omega (arith, like.workers, lower)) (omega (arith, like.objects, inside)) (need_grows most owner walk object is below worker other lower inside has)

-- what no task so far writes is needed then
need_there : (most : ℕ) (owner : Worker) (walk : Walk) (object : Object) → IsWalked most walk → owner.0 < walk.offsets.workers
    → object.0 < walk.offsets.objects → latest_of walk.offsets object ≡ 0 → has_any (with_need owner walk object).needed owner object ≡ true
need_there most owner walk object is below inside none =
    either (latest_of walk.offsets object == 0) (eq-eqb (latest_of walk.offsets object) 0 none) where
      put : IsPut walk.needed owner 0 (main_slot object ∷ []) (with_offset owner object 0 walk.needed)
      put = put_all walk.needed owner 0 (main_slot object ∷ []) is.whole (omega (arith, is.workers, below))

      either : (b : Bool) → b ≡ true
          → has_any
          (need_if b owner walk object).needed owner object ≡ true
      either true yes_is =
          ap (λ (o : Option ℕ). is_some o)
          (put.held owner (main_slot object)
          (kept_for walk.needed owner (main_slot object) (omega (arith, is.workers, below)) (omega (arith, is.objects, inside)))
          ∙ ap₂ (λ (b c : Bool). if (b || false) && c then Some 0 else held_at walk.needed owner (main_slot object)) (eq-eqb object.0 object.0 refl)
          (eq-eqb owner.0 owner.0 refl))
      either false not_is = absurd (false≢true not_is)

needs_latest : (most : ℕ) (owner : Worker) (reads : List Object) (walk : Walk) → IsWalked most walk → owner.0 < walk.offsets.workers
    → (other : Object) → other.0 < walk.offsets.objects → latest_of (fold (with_need owner) walk reads).offsets other ≡ latest_of walk.offsets other
needs_latest most owner [] walk is below other inside = refl
needs_latest most owner (object ∷ reads) walk is below other inside =
    let like = like_need owner walk object in
    needs_latest most owner reads (with_need owner walk object) (need_walked most owner walk object is below) (omega (arith, like.workers, below)) other
    (omega (arith, like.objects, inside))
    ∙ need_latest most owner walk object is below other inside

-- each read that nothing so far writes is needed
pub reads_there : (most : ℕ) (owner : Worker) (reads : List Object) (walk : Walk) → IsWalked most walk → owner.0 < walk.offsets.workers
    → (object : Object) → is_one_of reads object ≡ true → object.0 < walk.offsets.objects → latest_of walk.offsets object ≡ 0
    → has_any (fold (with_need owner) walk reads).needed owner object ≡ true
reads_there most owner [] walk is below object one inside none = absurd (false≢true one)
reads_there most owner (first ∷ reads) walk is below object one inside none =
    let like = like_need owner walk first in
    let next : IsWalked most (with_need owner walk first) = need_walked most owner walk first is below in
    let lower : owner.0 < (with_need owner walk first).offsets.workers = omega (arith, like.workers, below) in
    let within : object.0 < (with_need owner walk first).offsets.objects = omega (arith, like.objects, inside) in
    either (first.0 == object.0) refl one
    (needs_grow most owner reads (with_need owner walk first) next lower owner object lower within)
    (λ later. reads_there most owner reads (with_need owner walk first) next lower object later within
    (need_latest most owner walk first is below object inside ∙ none)) where
      either : (b : Bool) → (first.0 == object.0) ≡ b → (b || is_one_of reads object) ≡ true
          → (has_any (with_need owner walk first).needed owner object ≡ true
          → has_any (fold (with_need owner) (with_need owner walk first) reads).needed owner object ≡ true)
          → (is_one_of reads object ≡ true → has_any (fold (with_need owner) (with_need owner walk first) reads).needed owner object ≡ true)
          → has_any (fold (with_need owner) (with_need owner walk first) reads).needed owner object ≡ true
      either true same found grow rest =
          grow (subst (λ (n : ℕ). has_any (with_need owner walk (record { 0 = n })).needed owner object ≡ true) (sym (eqb-true first.0 object.0 same))
          (need_there most owner walk object is below inside none))
      either false same found grow rest = rest found

-- one need leaves a map of versions alike
need_alike : (base most : ℕ) (entry versions : Versions) (owner : Worker) (walk : Walk) (object : Object) → IsAlike base entry walk.offsets versions
    → IsWalked most walk → owner.0 < walk.offsets.workers → object.0 < walk.offsets.objects
    → (latest_of walk.offsets object ≡ 0 → is_current entry object owner ≡ true) → IsAlike base entry (with_need owner walk object).offsets versions
need_alike base most entry versions owner walk object alike is below inside current = either (latest_of walk.offsets object == 0) refl where
  either : (b : Bool) → (latest_of walk.offsets object == 0) ≡ b
      → IsAlike base entry
      (need_if b owner walk object).offsets versions
  either true none =
      let zero_is : latest_of walk.offsets object ≡ 0 = eqb-true (latest_of walk.offsets object) 0 none in
      alike_need base most entry walk.offsets versions owner object alike is.kept below inside zero_is (current zero_is)
  either false more = alike

pub needs_alike : (base most : ℕ) (entry versions : Versions) (owner : Worker) (reads : List Object) (walk : Walk) → IsAlike base entry walk.offsets versions
    → IsWalked most walk → owner.0 < walk.offsets.workers → ((object : Object) → is_one_of reads object ≡ true → object.0 < walk.offsets.objects)
    → ((object : Object) → is_one_of reads object ≡ true → latest_of walk.offsets object ≡ 0 → is_current entry object owner ≡ true)
    → IsAlike base entry (fold (with_need owner) walk reads).offsets versions
needs_alike base most entry versions owner [] walk alike is below within current = alike
needs_alike base most entry versions owner (object ∷ reads) walk alike is below within current =
    let like = like_need owner walk object in
    let mine : is_one_of (object ∷ reads) object ≡ true = or_left (object.0 == object.0) (is_one_of reads object) (eq-eqb object.0 object.0 refl) in
    needs_alike base most entry versions owner reads (with_need owner walk object)
    (need_alike base most entry versions owner walk object alike is below (within object mine) (current object mine))
    (need_walked most owner walk object is below) (omega (arith, like.workers, below))
    (λ other one. (let inside = within other (or_right (object.0 == other.0) (is_one_of reads other) one) in omega (arith, like.objects, inside)))
    (λ other one none.
    let also : is_one_of (object ∷ reads) other ≡ true = or_right (object.0 == other.0) (is_one_of reads other) one in
    current other also (sym (need_latest most owner walk object is below other (within other also)) ∙ none))

zero_held : (o : Option ℕ) → is_some o ≡ true → ((offset : ℕ) → o ≡ Some offset → offset ≡ 0) → o ≡ Some 0
zero_held None some zero_is = absurd (false≢true some)
zero_held (Some offset) some zero_is = ap Some (zero_is offset refl)

-- ---- the walk

pub walk_grows : (place : Placement) (live : List Bool) (number : ℕ) (walk : Walk) (forms : List TaskForm) → IsWalked number walk
    → ((objects : ℕ) (f : TaskForm) → (home_of place objects live f).0 < walk.offsets.workers) → number + length forms < 2 ^ 64
    → (worker : Worker) (object : Object) → worker.0 < walk.offsets.workers → object.0 < walk.offsets.objects → has_any walk.needed worker object ≡ true
    → has_any (walked place live number walk forms).needed worker object ≡ true
walk_grows place live number walk [] is homes room worker object below there has = has
walk_grows place live number walk (form ∷ forms) is homes room worker object below there has =
    let next : Walk = walked_past place live number walk form in
    let like : AreLike walk.offsets next.offsets = form_like place live number walk next form refl in
    walk_grows place live (number + 1) next forms (form_walked number place live walk form is homes (omega (arith, room)))
    (λ objects f. (let low = homes objects f in omega (arith, like.workers, low))) (omega (arith, room)) worker object (omega (arith, like.workers, below))
    (omega (arith, like.objects, there))
    (needs_grow number (home_of place walk.offsets.objects live form) form.reads walk is (homes walk.offsets.objects form) worker object below there has)

-- what a task's home needs is there
pub form_ready : (place : Placement) (live : List Bool) (number : ℕ) (walk : Walk) (form : TaskForm) → IsWalked number walk
    → ((objects : ℕ) (f : TaskForm) → (home_of place objects live f).0 < walk.offsets.workers) → is_fit walk.offsets.objects form ≡ true
    → let ready : Walk = fold (with_need (home_of place walk.offsets.objects live form)) walk form.reads in
    AreReady ready.offsets (home_of place ready.offsets.objects live form) form.reads
form_ready place live number walk form is homes fit =
    let owner : Worker = home_of place walk.offsets.objects live form in
    let below : owner.0 < walk.offsets.workers = homes walk.offsets.objects form in
    let ready : Walk = fold (with_need owner) walk form.reads in
    let like_ready : AreLike walk.offsets ready.offsets = like_needs owner form.reads walk in
    let now : IsWalked number ready = needs_walked number owner form.reads walk is below in
    let within : (object : Object) → is_one_of form.reads object ≡ true → object.0 < walk.offsets.objects =
    λ object one. read_below walk.offsets.objects form object fit one in
    let same_home : owner ≡ home_of place ready.offsets.objects live form = ap (λ (n : ℕ). home_of place n live form) (sym like_ready.objects) in
    subst (λ (w : Worker). AreReady ready.offsets w form.reads) same_home
    (record {
      below = omega (arith, like_ready.workers, below);
      within = λ object one. (let inside = within object one in omega (arith, like_ready.objects, inside));
      held = λ object one none.
          let inside : object.0 < ready.offsets.objects = (let low = within object one in omega (arith, like_ready.objects, low)) in
          let was : latest_of walk.offsets object ≡ 0 = sym (needs_latest number owner form.reads walk is below object (within object one)) ∙ none in
          let lower : owner.0 < ready.offsets.workers = omega (arith, like_ready.workers, below) in
          zero_held (held_at ready.offsets owner (main_slot object))
          (now.some owner object lower inside (reads_there number owner form.reads walk is below object one (within object one) was))
          (λ offset found. (let under = now.kept.held owner object offset lower inside found in omega (arith, under, none)));
    })

-- what the tasks of a block come to from a map on: their commands, and the map that these leave
pub record AreTasks (base : ℕ) (args : List ℤ) (entry : Versions) (before after : Walk) (commands : List (Worker × Command))
    (versions : Versions) : Type 0 where
  pub same : map (command_at base args) after.entries ≡ map (command_at base args) before.entries ++ map plain commands
  pub alike : IsAlike base entry after.offsets versions
  pub zero : IsZero entry after.offsets

-- from a map in which what is needed is current
pub tasks_same : (place : Placement) (live : List Bool) (base : ℕ) (args : List ℤ) (entry : Versions) (number : ℕ) (walk : Walk) (versions : Versions)
    (forms : List TaskForm) → IsAlike base entry walk.offsets versions → IsZero entry walk.offsets → IsWalked number walk
    → ((objects : ℕ) (f : TaskForm) → (home_of place objects live f).0 < walk.offsets.workers) → IsEntry base walk.offsets.objects entry
    → list_all (is_fit walk.offsets.objects) forms ≡ true
    → ((worker : Worker) (object : Object) → worker.0 < walk.offsets.workers → object.0 < walk.offsets.objects
    → has_any (walked place live number walk forms).needed worker object ≡ true → is_current entry object worker ≡ true)
    → number + length forms ≤ 1024 → base + 1024 < 2 ^ 64
    → AreTasks base args entry walk (walked place live number walk forms) (scheduled_from place live base args number versions forms)
    (after_commands versions (scheduled_from place live base args number versions forms))
tasks_same place live base args entry number walk versions [] alike zero is homes at fit current few room =
    record { same = sym (append-nil (map (command_at base args) walk.entries)); alike = alike; zero = zero }
tasks_same place live base args entry number walk versions (form ∷ forms) alike zero is homes at fit current few room =
    let owner : Worker = home_of place walk.offsets.objects live form in
    let below : owner.0 < walk.offsets.workers = homes walk.offsets.objects form in
    let each = both_true (is_fit walk.offsets.objects form) (list_all (is_fit walk.offsets.objects) forms) fit in
    let ready : Walk = fold (with_need owner) walk form.reads in
    let next : Walk = walked_past place live number walk form in
    let like : AreLike walk.offsets next.offsets = form_like place live number walk next form refl in
    let like_ready : AreLike walk.offsets ready.offsets = like_needs owner form.reads walk in
    let now : IsWalked number ready = needs_walked number owner form.reads walk is below in
    let after : IsWalked (number + 1) next = form_walked number place live walk form is homes (omega (arith, few)) in
    let later : (objects : ℕ) (f : TaskForm) → (home_of place objects live f).0 < next.offsets.workers =
    λ objects f. (let low = homes objects f in omega (arith, like.workers, low)) in
    let within : (object : Object) → is_one_of form.reads object ≡ true → object.0 < walk.offsets.objects =
    λ object one. read_below walk.offsets.objects form object each.0 one in
    let needed : (object : Object) → is_one_of form.reads object ≡ true → latest_of walk.offsets object ≡ 0 → has_any ready.needed owner object ≡ true =
    λ object one none. reads_there number owner form.reads walk is below object one (within object one) none in
    let holds : (object : Object) → is_one_of form.reads object ≡ true → latest_of walk.offsets object ≡ 0 → is_current entry object owner ≡ true =
    λ object one none.
    current owner object below (within object one)
    (walk_grows place live (number + 1) next forms after later (omega (arith, few)) owner object (omega (arith, like.workers, below))
    (let inside = within object one in omega (arith, like.objects, inside)) (needed object one none)) in
    let alike_now : IsAlike base entry ready.offsets versions =
    needs_alike base number entry versions owner form.reads walk alike is below within holds in
    let zero_now : IsZero entry ready.offsets = zero_needs number entry owner form.reads walk zero is below within holds in
    let at_ready : IsEntry base ready.offsets.objects entry = subst (λ (n : ℕ). IsEntry base n entry) (sym like_ready.objects) at in
    let are_ready = form_ready place live number walk form is homes each.0 in
    let commands : List (Worker × Command) = scheduled versions (task_with args form) number (counted_from base number) place live in
    let mine : map (command_at base args) next.entries ≡ map (command_at base args) walk.entries ++ map plain commands =
    map-append (command_at base args) ready.entries (flat_map (entry_for form) (scheduled ready.offsets (task_for form) number number place live))
    ∙ ap₂ (λ (es : List (Worker × Entry)) (cs : List (Worker × Command)). map (command_at base args) es ++ cs) (need_entries owner form.reads walk)
    (task_same base number entry ready.offsets versions place live args number form alike_now now.kept at_ready are_ready (omega (arith, few)) (omega
    (arith, few)) room) in
    let reached : Versions = after_commands versions commands in
    let more : List (Worker × Command) = scheduled_from place live base args (number + 1) reached forms in
    let rest : AreTasks base args entry next (walked place live (number + 1) next forms) more (after_commands reached more) =
    tasks_same place live base args entry (number + 1) next reached forms
    (task_alike base entry ready.offsets versions place live args number form alike_now now.kept at_ready are_ready (omega (arith, few)) room)
    (zero_task entry place live number ready.offsets form zero_now now.kept are_ready (omega (arith, few))) after later
    (subst (λ (n : ℕ). IsEntry base n entry) (sym like.objects) at)
    (subst (λ (n : ℕ). list_all (is_fit n) forms ≡ true) (sym like.objects) each.1)
    (λ worker object lower inside has. current worker object (omega (arith, like.workers, lower)) (omega (arith, like.objects, inside)) has)
    (omega (arith, few)) room in
    record {
      same =
          rest.same
          ∙ ap (λ (cs : List (Worker × Command)). cs ++ map plain more) mine
          ∙ append_assoc (map (command_at base args) walk.entries) (map plain commands) (map plain more)
          ∙ ap (λ (cs : List (Worker × Command)). map (command_at base args) walk.entries ++ cs) (sym (map-append plain commands more));
      alike =
          subst (IsAlike base entry (walked place live (number + 1) next forms).offsets)
          (sym (fold-append (λ (before : Versions) (c : Worker × Command). after_kind c.0 before c.1.kind) versions commands more)) rest.alike;
      zero = rest.zero;
    }
