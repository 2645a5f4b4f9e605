-- What a walk keeps: its maps stay as they have to be, and what is needed at entry has some offset.
use Rattle.std.proofs.Common.{◌≡◌, ℕ, ◌+◌, ◌<◌, ◌≤◌, Bool, true, false, List, [], ◌∷◌, ◌++◌, length, map, refl, ap, sym, subst, ◌∙◌, arith, Option}
use Rattle.std.proofs.Common.{Some}
use Rattle.std.specs.Prelude.{◌^◌, ◌==◌, ◌&&◌, ◌||◌, if◌then◌else◌, max, nat_lt}
use Rattle.std.specs.List.{fold}
use Rattle.std.specs.Option.{is_some}
use Rattle.std.proofs.lemmas.Bool.{eqb-true, ltb-true, ltb-false}
use Rattle.std.proofs.lemmas.List.{get_or_past}
use Rattle.std.proofs.lemmas.List.Sums.{fold-append}
use Rattle.nim_base.specs.declared.number.Object.{Object}
use Rattle.nim_base.specs.declared.number.Slot.{Slot}
use Rattle.nim_base.specs.declared.number.Worker.{Worker}
use Rattle.nim_base.specs.declared.task.TaskForm.{TaskForm}
use Rattle.nim_command.specs.declared.command.Command.{Command}
use Rattle.nim_command.specs.Holds.{version_after}
use Rattle.nim_command.specs.Numbers.{main_slot}
use Rattle.nim_command.specs.Slots.{is_among}
use Rattle.nim_place.specs.declared.placement.Placement.{Placement}
use Rattle.nim_place.specs.Schedule.{copies_of, moves, run_of, scheduled}
use Rattle.nim_place.specs.Versions.{Versions, after_commands, after_kind, held_at, latest_of, with_version}
use Rattle.nim_place.proofs.Puts.{IsPut, IsWhole, kept_for, put_all, whole_after}
use Rattle.nim_template.specs.declared.walk.Walk.{Walk}
use Rattle.nim_template.specs.Walk.{walked_past, home_of, task_for, walked, with_need, with_offset}
use Rattle.nim_template.proofs.Offsets.{IsKept, kept_put}
use Rattle.nim_template.proofs.Sizes.{AreLike, form_like, like_need, like_needs, like_same, like_then, need_if}

-- what a worker's main slot of an object has, if anything
abbrev pub has_any : Versions → Worker → Object → Bool
has_any offsets worker object = is_some (held_at offsets worker (main_slot object))

still_any : (b : Bool) (offset : ℕ) (old new : Option ℕ) → new ≡ (if b then Some offset else old) → is_some old ≡ true → is_some new ≡ true
still_any true offset old new is some = ap (λ (o : Option ℕ). is_some o) is
still_any false offset old new is some = ap (λ (o : Option ℕ). is_some o) is ∙ some

-- nothing is emptied
pub any_after : (offsets after : Versions) (worker : Worker) (offset : ℕ) (slots : List Slot) → IsPut offsets worker offset slots after
    → (other : Worker) (object : Object) → other.0 < offsets.workers → object.0 < offsets.objects
    → has_any offsets other object ≡ true → has_any after other object ≡ true
any_after offsets after worker offset slots put other object below there some =
    still_any (is_among slots (main_slot object) && (worker.0 == other.0)) offset (held_at offsets other (main_slot object)) (held_at after other
    (main_slot object))
    (put.held other (main_slot object) (kept_for offsets other (main_slot object) below there)) some

-- what a map keeps through puts
pub record IsAfter (most : ℕ) (before after : Versions) : Type 0 where
  pub kept : IsKept most after
  pub workers : after.workers ≡ before.workers
  pub objects : after.objects ≡ before.objects
  pub some : (worker : Worker) (object : Object) → worker.0 < before.workers → object.0 < before.objects
      → has_any before worker object ≡ true → has_any after worker object ≡ true

pub put_after : (most next : ℕ) (offsets : Versions) (worker : Worker) (offset : ℕ) (slots : List Slot) → IsKept most offsets → worker.0 < offsets.workers
    → most ≤ next → offset ≤ next
    → ((object : Object) → object.0 < offsets.objects → is_among slots (main_slot object) ≡ true → latest_of offsets object ≤ offset)
    → IsAfter next offsets (fold (with_version worker offset) offsets slots)
put_after most next offsets worker offset slots kept below more within over =
    let put : IsPut offsets worker offset slots (fold (with_version worker offset) offsets slots) = put_all offsets worker offset slots kept.whole below in
    record {
      kept = kept_put most next offsets worker offset slots kept below more within over;
      workers = put.workers;
      objects = put.objects;
      some = any_after offsets (fold (with_version worker offset) offsets slots) worker offset slots put;
    }

pub after_then : (most : ℕ) (a b c : Versions) → IsAfter most b c → (next : ℕ) → IsAfter next a b → IsAfter most a c
after_then most a b c second next first = record {
  kept = second.kept;
  workers = second.workers ∙ first.workers;
  objects = second.objects ∙ first.objects;
  some = λ worker object below there has.
      second.some worker object (omega (arith, first.workers, below)) (omega (arith, first.objects, there)) (first.some worker object below there has);
}

pub after_none : (most : ℕ) (a : Versions) → IsKept most a → IsAfter most a a
after_none most a kept = record { kept = kept; workers = refl; objects = refl; some = λ worker object below there has. has }

-- the latest offset of no object is above the most
pub latest_within : (most : ℕ) (offsets : Versions) (object : Object) → IsKept most offsets → latest_of offsets object ≤ most
latest_within most offsets object kept = either (nat_lt object.0 offsets.objects) refl where
  either : (b : Bool) → nat_lt object.0 offsets.objects ≡ b → latest_of offsets object ≤ most
  either true is = kept.latest object (ltb-true object.0 offsets.objects is)
  either false is =
      let past = ltb-false object.0 offsets.objects is in
      let none : latest_of offsets object ≡ 0 = get_or_past offsets.latest object.0 0 (omega (arith, past, kept.whole.all)) in
      omega arith

strip : (b : Bool) → (b || false) ≡ true → b ≡ true
strip true is = refl
strip false is = is

-- an object whose main slot is the only one
pub only_object : (first second : Object) → is_among (main_slot first ∷ []) (main_slot second) ≡ true → first.0 ≡ second.0
only_object first second is = eqb-true first.0 second.0 (strip (first.0 == second.0) is)

pub same_latest : (b : Bool) (old offset new target : ℕ) → new ≡ (if b then max old offset else old) → old ≡ target → (b ≡ true → offset ≡ target)
    → new ≡ target
same_latest true old offset new target is before equal = let same : offset ≡ target = equal refl in omega arith
same_latest false old offset new target is before equal = is ∙ before

-- ---- a task

-- what a map keeps that takes in copies of what is the latest
pub record AreCopies (most : ℕ) (base before after : Versions) : Type 0 where
  pub is_after : IsAfter most before after
  pub latest : (object : Object) → object.0 < before.objects → latest_of after object ≡ latest_of base object

pub copies_kept : (most : ℕ) (base offsets : Versions) (number : ℕ) (owner : Worker) (ms : List _) → IsKept most offsets → owner.0 < offsets.workers
    → ((object : Object) → latest_of base object ≤ most)
    → ((object : Object) → object.0 < offsets.objects → latest_of offsets object ≡ latest_of base object)
    → AreCopies most base offsets (after_commands offsets (copies_of base number owner ms))
copies_kept most base offsets number owner [] kept below within same = record { is_after = after_none most offsets kept; latest = same }
copies_kept most base offsets number owner (m ∷ ms) kept below within same =
    let slots : List Slot = main_slot m.object ∷ [] in
    let offset : ℕ = latest_of base m.object in
    let next : Versions = with_version owner offset offsets (main_slot m.object) in
    let equal : (object : Object) → is_among slots (main_slot object) ≡ true → latest_of base m.object ≡ latest_of base object =
    λ object among. ap (λ (n : ℕ). latest_of base (record { 0 = n })) (only_object m.object object among) in
    let put : IsPut offsets owner offset slots next = put_all offsets owner offset slots kept.whole below in
    let first : IsAfter most offsets next = put_after most most offsets owner offset slots kept below (omega arith) (within m.object)
    (λ object there among. let one = same object there in let two = equal object among in omega (arith, one, two)) in
    let rest : AreCopies most base next (after_commands next (copies_of base number owner ms)) =
    copies_kept most base next number owner ms first.kept (omega (arith, first.workers, below)) within
    (λ object there.
    let before : object.0 < offsets.objects = omega (arith, first.objects, there) in
    same_latest (is_among slots (main_slot object)) (latest_of offsets object) offset (latest_of next object) (latest_of base object)
    (put.latest object before) (same object before) (equal object)) in
    record {
      is_after = after_then most offsets next (after_commands next (copies_of base number owner ms)) rest.is_after most first;
      latest = λ object there. rest.latest object (omega (arith, first.objects, there));
    }

scheduled_kept : (number : ℕ) (offsets : Versions) (form : TaskForm) (place : Placement) (live : List Bool) → IsKept number offsets
    → (home_of place offsets.objects live form).0 < offsets.workers → number + 1 < 2 ^ 64
    → IsAfter (number + 1) offsets (after_commands offsets (scheduled offsets (task_for form) number number place live))
scheduled_kept number offsets form place live kept below room =
    let owner : Worker = home_of place offsets.objects live form in
    let ms = moves offsets owner [] form.reads in
    let copies : List (Worker × Command) = copies_of offsets number owner ms in
    let run : Command = run_of (task_for form) number number ms in
    let mid : Versions = after_commands offsets copies in
    let first : AreCopies number offsets offsets mid = copies_kept number offsets offsets number owner ms kept below
    (λ object. latest_within number offsets object kept) (λ object there. refl) in
    let slots : List Slot = map main_slot form.writes in
    let last : IsAfter (number + 1) mid (fold (with_version owner (version_after number)) mid slots) =
    put_after number (number + 1) mid owner (version_after number) slots first.is_after.kept (omega (arith, first.is_after.workers, below)) (omega arith)
    (omega arith) (λ object there among. let most = first.is_after.kept.latest object there in omega (arith, most)) in
    let joined : after_commands offsets (copies ++ (owner, run) ∷ []) ≡ after_commands mid ((owner, run) ∷ []) =
    fold-append (λ (before : Versions) (c : Worker × Command). after_kind c.0 before c.1.kind) offsets copies ((owner, run) ∷ []) in
    subst (IsAfter (number + 1) offsets) (sym joined)
    (after_then (number + 1) offsets mid (fold (with_version owner (version_after number)) mid slots) last number first.is_after)

-- ---- what is needed

pub record IsWalked (most : ℕ) (walk : Walk) : Type 0 where
  pub kept : IsKept most walk.offsets
  pub whole : IsWhole walk.needed
  pub workers : walk.needed.workers ≡ walk.offsets.workers
  pub objects : walk.needed.objects ≡ walk.offsets.objects
  pub some : (worker : Worker) (object : Object) → worker.0 < walk.offsets.workers → object.0 < walk.offsets.objects
      → has_any walk.needed worker object ≡ true → has_any walk.offsets worker object ≡ true

both_any : (b : Bool) (first second new other : Option ℕ) → new ≡ (if b then Some 0 else first) → other ≡ (if b then Some 0 else second)
    → (is_some first ≡ true → is_some second ≡ true) → is_some new ≡ true → is_some other ≡ true
both_any true first second new other is also before some = ap (λ (o : Option ℕ). is_some o) also
both_any false first second new other is also before some = ap (λ (o : Option ℕ). is_some o) also ∙ before (sym (ap (λ (o : Option ℕ). is_some o) is) ∙ some)

pub need_walked : (most : ℕ) (worker : Worker) (walk : Walk) (object : Object) → IsWalked most walk → worker.0 < walk.offsets.workers
    → IsWalked most (with_need worker walk object)
need_walked most worker walk object is below = either (latest_of walk.offsets object == 0) refl where
  put : IsPut walk.needed worker 0 (main_slot object ∷ []) (with_offset worker object 0 walk.needed)
  put = put_all walk.needed worker 0 (main_slot object ∷ []) is.whole (omega (arith, is.workers, below))

  also : IsPut walk.offsets worker 0 (main_slot object ∷ []) (with_offset worker object 0 walk.offsets)
  also = put_all walk.offsets worker 0 (main_slot object ∷ []) is.kept.whole below

  either : (b : Bool) → (latest_of walk.offsets object == 0) ≡ b
      → IsWalked most
      (need_if b worker walk object)
  either true none =
      let first : IsAfter most walk.offsets (with_offset worker object 0 walk.offsets) =
      put_after most most walk.offsets worker 0 (main_slot object ∷ []) is.kept below (omega arith) (omega arith)
      (λ other there among.
      let same : latest_of walk.offsets object ≡ latest_of walk.offsets other =
      ap (λ (n : ℕ). latest_of walk.offsets (record { 0 = n })) (only_object object other among) in
      let zero_is = eqb-true (latest_of walk.offsets object) 0 none in
      omega (arith, same, zero_is)) in
      record {
        kept = first.kept;
        whole = whole_after walk.needed worker 0 (main_slot object ∷ []) (with_offset worker object 0 walk.needed) put is.whole;
        workers = put.workers ∙ is.workers ∙ sym first.workers;
        objects = put.objects ∙ is.objects ∙ sym first.objects;
        some = λ other at other_below there has.
            let lower : other.0 < walk.offsets.workers = omega (arith, first.workers, other_below) in
            let inside : at.0 < walk.offsets.objects = omega (arith, first.objects, there) in
            both_any (is_among (main_slot object ∷ []) (main_slot at) && (worker.0 == other.0))
            (held_at walk.needed other (main_slot at)) (held_at walk.offsets other (main_slot at))
            (held_at (with_offset worker object 0 walk.needed) other (main_slot at)) (held_at (with_offset worker object 0 walk.offsets) other (main_slot at))
            (put.held other (main_slot at) (kept_for walk.needed other (main_slot at) (omega (arith, is.workers, lower)) (omega (arith, is.objects, inside))))
            (also.held other (main_slot at) (kept_for walk.offsets other (main_slot at) lower inside))
            (is.some other at lower inside) has;
      }
  either false none = is

pub needs_walked : (most : ℕ) (worker : Worker) (reads : List Object) (walk : Walk) → IsWalked most walk → worker.0 < walk.offsets.workers
    → IsWalked most (fold (with_need worker) walk reads)
needs_walked most worker [] walk is below = is
needs_walked most worker (object ∷ reads) walk is below =
    let like = like_need worker walk object in
    needs_walked most worker reads (with_need worker walk object) (need_walked most worker walk object is below) (omega (arith, like.workers, below))

-- ---- the walk

pub form_walked : (number : ℕ) (place : Placement) (live : List Bool) (walk : Walk) (form : TaskForm) → IsWalked number walk
    → ((objects : ℕ) (f : TaskForm) → (home_of place objects live f).0 < walk.offsets.workers) → number + 1 < 2 ^ 64
    → IsWalked (number + 1) (walked_past place live number walk form)
form_walked number place live walk form is homes room =
    let home : Worker = home_of place walk.offsets.objects live form in
    let ready : Walk = fold (with_need home) walk form.reads in
    let now : IsWalked number ready = needs_walked number home form.reads walk is (homes walk.offsets.objects form) in
    let like = like_needs home form.reads walk in
    let first : IsAfter (number + 1) ready.offsets (after_commands ready.offsets (scheduled ready.offsets (task_for form) number number place live)) =
    scheduled_kept number ready.offsets form place live now.kept (let below = homes ready.offsets.objects form in omega (arith, like.workers, below)) room in
    record {
      kept = first.kept;
      whole = now.whole;
      workers = now.workers ∙ sym first.workers;
      objects = now.objects ∙ sym first.objects;
      some = λ worker object below there has.
          let lower : worker.0 < ready.offsets.workers = omega (arith, first.workers, below) in
          let inside : object.0 < ready.offsets.objects = omega (arith, first.objects, there) in
          first.some worker object lower inside (now.some worker object lower inside has);
    }

-- where a walk ends
pub record IsWalkedTo (most : ℕ) (before after : Walk) : Type 0 where
  pub walked : IsWalked most after
  pub like : AreLike before.offsets after.offsets

pub walk_kept : (place : Placement) (live : List Bool) (number : ℕ) (walk : Walk) (forms : List TaskForm) → IsWalked number walk
    → ((objects : ℕ) (f : TaskForm) → (home_of place objects live f).0 < walk.offsets.workers) → number + length forms < 2 ^ 64
    → IsWalkedTo (number + length forms) walk (walked place live number walk forms)
walk_kept place live number walk [] is homes room =
    record { walked = subst (λ (n : ℕ). IsWalked n walk) (omega arith) is; like = like_same walk.offsets }
walk_kept place live number walk (form ∷ forms) is homes room =
    let next : Walk = walked_past place live number walk form in
    let like : AreLike walk.offsets next.offsets = form_like place live number walk next form refl in
    let rest : IsWalkedTo (number + 1 + length forms) next (walked place live (number + 1) next forms) =
    walk_kept place live (number + 1) next forms (form_walked number place live walk form is homes (omega (arith, room)))
    (λ objects f. let below = homes objects f in omega (arith, like.workers, below)) (omega (arith, room)) in
    record {
      walked = subst (λ (n : ℕ). IsWalked n (walked place live (number + 1) next forms)) (omega arith) rest.walked;
      like = like_then walk.offsets next.offsets (walked place live (number + 1) next forms).offsets like rest.like;
    }
