-- What a block needs at entry holds again behind its effect.
use Rattle.std.proofs.Common.{◌≡◌, ℕ, zero, suc, ◌+◌, ◌<◌, ◌≤◌, Bool, true, false, List, [], ◌∷◌, length, refl, ap, ap₂, sym, ◌∙◌, arith, Option}
use Rattle.std.proofs.Common.{None, Some}
use Rattle.std.proofs.Common.{inl}
use Rattle.std.specs.Prelude.{◌*◌, ◌==◌, ◌&&◌, if◌then◌else◌, nat_lt, replicate, slice_get, slice_index_or}
use Rattle.std.specs.List.{fold, list_any}
use Rattle.std.specs.Option.{is_some, option_map_or}
use Rattle.std.proofs.lemmas.Bool.{eqb-false, eqb-true, false≢true, ltb-true}
use Rattle.nim_base.specs.declared.number.Object.{Object}
use Rattle.nim_base.specs.declared.number.Worker.{Worker}
use Rattle.nim_base.specs.declared.task.TaskForm.{TaskForm}
use Rattle.nim_command.specs.Numbers.{main_slot}
use Rattle.nim_place.specs.declared.placement.Placement.{Placement}
use Rattle.nim_place.specs.Placement.{home, live_ahead, live_from, preferred}
use Rattle.nim_place.specs.Versions.{Versions, after_effect, held_at, is_current, is_kept, latest_of, no_versions, place_of, with_written}
use Rattle.nim_place.proofs.Finds.{current_held}
use Rattle.nim_place.proofs.Live.{ahead_within}
use Rattle.nim_place.proofs.Places.{both_true}
use Rattle.nim_place.proofs.Puts.{IsWhole, kept_bounds}
use Rattle.nim_template.specs.declared.template.ControllerTemplate.{ControllerTemplate}
use Rattle.nim_template.specs.declared.walk.Walk.{Walk}
use Rattle.nim_template.specs.Again.{HoldAgain, IsBefore, are_current}
use Rattle.nim_template.specs.Built.{all_slots, built, effect_of, end_of, needs_of}
use Rattle.nim_template.specs.Closing.{after_closings}
use Rattle.nim_template.specs.Walk.{home_of, empty_walk}
use Rattle.nim_base.proofs.Lists.{replicate_or}
use Rattle.nim_template.proofs.Closes.{AreCurrent, AreNeeds, Closes, closes, current_of, needs_after}
use Rattle.nim_template.proofs.Effects.{IsDone, IsOf, counted, done_comes, done_stays, kept_none, slot_there, some_kept}
use Rattle.nim_template.proofs.Offsets.{IsKept}
use Rattle.nim_template.proofs.Walks.{IsWalked, IsWalkedTo, walk_kept}

-- ---- one main slot

pub some_same : (x y : ℕ) → Some x ≡ Some y → x ≡ y
some_same x y is = ap (λ (o : Option ℕ). option_map_or (λ (z : ℕ). z) o x) is

pub counted_more : (base lower higher : ℕ) → lower ≤ higher → counted base lower ≤ counted base higher
counted_more base lower higher below = omega arith

current_again : (most workers objects base : ℕ) (offsets versions : Versions) (need : Worker × Object) → IsKept most offsets → offsets.workers ≡ workers
    → offsets.objects ≡ objects → need.0.0 < workers → need.1.0 < objects → is_current offsets need.1 need.0 ≡ true → IsBefore workers objects base versions
    → is_current versions need.1 need.0 ≡ true
    → is_current (fold (with_written base) versions (effect_of offsets (all_slots workers objects))) need.1 need.0 ≡ true
current_again most workers objects base offsets versions need kept rows columns below there current before now =
    let holds : held_at offsets need.0 (main_slot need.1) ≡ Some (latest_of offsets need.1) =
    current_held (latest_of offsets need.1) (held_at offsets need.0 (main_slot need.1)) current in
    either (latest_of offsets need.1 == 0) refl holds where
      are : IsOf offsets versions
      are = record {
        whole = record { slots = before.slots; all = before.all };
        workers = before.rows ∙ sym rows;
        objects = before.columns ∙ sym columns;
      }

      shown : (top : ℕ) → IsDone (fold (with_written base) versions (effect_of offsets (all_slots workers objects))) need top
          → is_current (fold (with_written base) versions (effect_of offsets (all_slots workers objects))) need.1 need.0 ≡ true
      shown top done =
          current_of (fold (with_written base) versions (effect_of offsets (all_slots workers objects))) need.1 need.0 (done.held ∙ ap Some (sym done.latest))

      under : (worker : Worker) (offset : ℕ) → held_at offsets worker (main_slot need.1) ≡ Some offset → offset ≤ latest_of offsets need.1
      under worker offset is =
          let bounds = kept_bounds offsets worker (main_slot need.1) (some_kept offsets worker (main_slot need.1) offset is) in
          kept.held worker need.1 offset bounds.0 bounds.1 is

      either : (b : Bool) → (latest_of offsets need.1 == 0) ≡ b → held_at offsets need.0 (main_slot need.1) ≡ Some (latest_of offsets need.1)
          → is_current (fold (with_written base) versions (effect_of offsets (all_slots workers objects))) need.1 need.0 ≡ true
      either true none holds =
          let zero_is = eqb-true (latest_of offsets need.1) 0 none in
          let never : (worker : Worker) (offset : ℕ) → held_at offsets worker (main_slot need.1) ≡ Some offset → (offset == 0) ≡ false → ⊥ =
          λ worker offset is more. (let low = under worker offset is in eqb-false offset 0 more (omega (arith, low, zero_is))) in
          shown (latest_of versions need.1)
          (done_stays offsets base need (latest_of versions need.1)
          (record {
            below = omega (arith, rows, below);
            there = omega (arith, columns, there);
            most = λ worker offset is more. absurd (never worker offset is more);
            own = λ offset is more. absurd (never need.0 offset is more);
          })
          (all_slots workers objects) versions are
          (record { held = current_held (latest_of versions need.1) (held_at versions need.0 (main_slot need.1)) now; latest = refl }))
      either false more holds =
          let low = before.latest need.1 there in
          let room = before.room in
          shown (counted base (latest_of offsets need.1))
          (done_comes offsets base need (counted base (latest_of offsets need.1)) (latest_of offsets need.1)
          (record {
            below = omega (arith, rows, below);
            there = omega (arith, columns, there);
            most = λ worker offset is other. counted_more base offset (latest_of offsets need.1) (under worker offset is);
            own = λ offset is other. ap (counted base) (some_same offset (latest_of offsets need.1) (sym is ∙ holds));
          })
          holds more (all_slots workers objects) versions are (omega (arith, low, room)) (slot_there workers objects need below there))

all_again : (most workers objects base : ℕ) (offsets versions after : Versions) (needs : List (Worker × Object)) → IsKept most offsets
    → offsets.workers ≡ workers → offsets.objects ≡ objects → ((need : Worker × Object) → need.0.0 < workers → need.1.0 < objects
    → is_current offsets need.1 need.0 ≡ true → is_current versions need.1 need.0 ≡ true → is_current after need.1 need.0 ≡ true)
    → AreNeeds offsets needs → AreCurrent offsets needs → are_current versions needs ≡ true → are_current after needs ≡ true
all_again most workers objects base offsets versions after [] kept rows columns one are current now = refl
all_again most workers objects base offsets versions after (need ∷ needs) kept rows columns one are current now =
    let each = both_true (is_current versions need.1 need.0) (are_current versions needs) now in
    ap₂ (λ (a b : Bool). a && b) (one need (omega (arith, rows, are.0)) (omega (arith, columns, are.1)) current.0 each.0)
    (all_again most workers objects base offsets versions after needs kept rows columns one are.3 current.1 each.1)

-- ---- the walk

length_replicate : {X : Type 0} (n : ℕ) (x : X) → length (replicate n x) ≡ n
length_replicate zero x = refl
length_replicate (suc n) x = omega (arith, length_replicate n x)

pub unheld : (b : Bool) (o : Option ℕ) → o ≡ None → (if b then o else None) ≡ None
unheld true o is = is
unheld false o is = refl

pub nothing_held : (workers objects : ℕ) (worker : Worker) (object : Object) → held_at (no_versions workers objects) worker (main_slot object) ≡ None
nothing_held workers objects worker object =
    let place : ℕ = place_of (no_versions workers objects) worker (main_slot object) in
    unheld (is_kept (no_versions workers objects) worker (main_slot object)) (slice_index_or (replicate (objects * workers) None) place None)
    (replicate_or (objects * workers) place None)

pub start_walked : (workers objects : ℕ) → IsWalked 0 (empty_walk workers objects)
start_walked workers objects =
    let whole : IsWhole (no_versions workers objects) = record {
      slots = length_replicate (objects * workers) None;
      all = length_replicate {X = ℕ} objects 0;
    } in
    record {
      kept = record {
        whole = whole;
        latest = λ object there. let none = replicate_or {X = ℕ} objects object.0 0 in omega (arith, none);
        held = λ worker object offset below there is.
            absurd (false≢true (ap (λ (o : Option ℕ). is_some o) (sym (nothing_held workers objects worker object) ∙ is)));
        there = λ object there. inl (replicate_or {X = ℕ} objects object.0 0);
      };
      whole = whole;
      workers = refl;
      objects = refl;
      some = λ worker object below there has. absurd (false≢true (sym (ap (λ (o : Option ℕ). is_some o) (nothing_held workers objects worker object)) ∙ has));
    }

pub home_within : (place : Placement) (live : List Bool) → list_any (λ (flag : Bool). flag) live ≡ true → (objects : ℕ) (form : TaskForm)
    → (home_of place objects live form).0 < length live
home_within place live some objects form = either (slice_get form.writes 0) where
  first : live_ahead live 0 < length live
  first = ahead_within live (live_ahead live 0) some refl

  within : (from : ℕ) → live_from live from < length live
  within from = chosen (nat_lt (live_ahead live from) (length live)) refl where
    chosen : (b : Bool) → nat_lt (live_ahead live from) (length live) ≡ b → (if b then live_ahead live from else live_ahead live 0) < length live
    chosen true is = ltb-true (live_ahead live from) (length live) is
    chosen false is = first

  either : (o : Option Object) → (option_map_or (λ (object : Object). home place object objects live) o (record { 0 = 0 })).0 < length live
  either None = omega (arith, first)
  either (Some object) = within (preferred place object.0 objects (length live))

pub needs_are : (most : ℕ) (walk : Walk) (slots : List (Worker × Object)) → IsWalked most walk → AreNeeds walk.offsets (needs_of walk.needed slots)
needs_are most walk [] is = tt
needs_are most walk (slot ∷ slots) is = either (is_current walk.needed slot.1 slot.0) refl (needs_are most walk slots is) where
  either : (b : Bool) → is_current walk.needed slot.1 slot.0 ≡ b → AreNeeds walk.offsets (needs_of walk.needed slots)
      → AreNeeds walk.offsets (if b then slot ∷ needs_of walk.needed slots else needs_of walk.needed slots)
  either false current rest = rest
  either true current rest =
      let holds : held_at walk.needed slot.0 (main_slot slot.1) ≡ Some (latest_of walk.needed slot.1) =
      current_held (latest_of walk.needed slot.1) (held_at walk.needed slot.0 (main_slot slot.1)) current in
      let bounds = kept_bounds walk.needed slot.0 (main_slot slot.1) (some_kept walk.needed slot.0 (main_slot slot.1) (latest_of walk.needed slot.1) holds) in
      let below : slot.0.0 < walk.offsets.workers = omega (arith, is.workers, bounds.0) in
      let there : slot.1.0 < walk.offsets.objects = omega (arith, is.objects, bounds.1) in
      (below, there, is.some slot.0 slot.1 below there (ap (λ (o : Option ℕ). is_some o) holds), rest)

-- where the preconditions hold before an instance, they hold behind its effect
pub built_again : (place : Placement) (objects : ℕ) (live : List Bool) (template : ControllerTemplate) → list_any (λ (flag : Bool). flag) live ≡ true
    → length template.forms ≤ 1024 → HoldAgain (length live) objects (built place objects live template)
built_again place objects live template some few base versions before now =
    let workers : ℕ = length live in
    let slots : List (Worker × Object) = all_slots workers objects in
    let walk : Walk = end_of place objects live template.forms in
    let needs : List (Worker × Object) = needs_of walk.needed slots in
    let to : IsWalkedTo (0 + length template.forms) (empty_walk workers objects) walk =
    walk_kept place live 0 (empty_walk workers objects) template.forms (start_walked workers objects) (home_within place live some) (omega (arith, few)) in
    let are : AreNeeds walk.offsets needs = needs_are (0 + length template.forms) walk slots to.walked in
    let ends : Closes (0 + length template.forms) walk.offsets needs (after_closings walk.offsets needs) =
    closes (0 + length template.forms) walk.offsets needs to.walked.kept are in
    let offsets : Versions = after_closings walk.offsets needs in
    let rows : offsets.workers ≡ workers = ends.closed.is_after.workers ∙ to.like.workers in
    let columns : offsets.objects ≡ objects = ends.closed.is_after.objects ∙ to.like.objects in
    let after : Versions = fold (with_written base) versions (effect_of offsets slots) in
    let left : after_effect base versions (effect_of offsets slots) ≡ after =
    ap (λ (v : Versions). fold (with_written base) v (effect_of offsets slots)) (kept_none offsets versions slots) in
    ap (λ (v : Versions). are_current v needs) left
    ∙ all_again (0 + length template.forms) workers objects base offsets versions after needs ends.closed.is_after.kept rows columns
    (λ need below there current was.
    current_again (0 + length template.forms) workers objects base offsets versions need ends.closed.is_after.kept rows columns below there current before was)
    (needs_after (0 + length template.forms) walk.offsets offsets needs ends.closed.is_after are) ends.current now
