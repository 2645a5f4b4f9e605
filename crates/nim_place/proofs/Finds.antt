-- The run of a task finds the latest version of what it reads.
use Rattle.std.proofs.Common.{◌≡◌, ℕ, ◌<◌, Bool, true, false, List, [], ◌∷◌, ◌++◌, length, refl, ap, ap₂, sym, ◌∙◌, arith, Option, None, Some}
use Rattle.std.specs.Prelude.{◌==◌, ◌&&◌, ◌||◌, if◌then◌else◌}
use Rattle.std.specs.Option.{is_some, option_map, option_map_or}
use Rattle.std.proofs.lemmas.Bool.{eq-eqb, eqb-true, false≢true, or_left, or_right}
use Rattle.std.proofs.lemmas.List.Folds.{list_any-append}
use Rattle.nim_base.specs.declared.number.Object.{Object}
use Rattle.nim_base.specs.declared.number.Worker.{Worker}
use Rattle.nim_base.specs.declared.task.Task.{Task}
use Rattle.nim_command.specs.declared.command.Kind.{Kind}
use Rattle.nim_command.specs.Numbers.{main_slot}
use Rattle.nim_command.specs.Slots.{object_of}
use Rattle.nim_place.specs.declared.schedule.Moved.{Moved}
use Rattle.nim_place.specs.Finds.{FindsLatest}
use Rattle.nim_place.specs.Schedule.{copies_of, is_one_of, moved_first, moves, source_of}
use Rattle.nim_place.specs.Versions.{Versions, after_commands, after_kind, held_at, holder, is_current, is_kept, latest_of}
use Rattle.nim_place.proofs.Given.{all_stand, copies_fit}
use Rattle.nim_place.proofs.Moves.{both_false, is_moved, moves_facts}
use Rattle.nim_place.proofs.Puts.{IsPut, IsWhole, kept_for, put_all, whole_after}

found_merged : {X : Type 0} (b c own : Bool) (x y h : X) → own ≡ true → (b ≡ true → y ≡ x)
    → (if c then x else (if (b || false) && own then y else h)) ≡ (if b || c then x else h)
found_merged true true own x y h is same = refl
found_merged true false true x y h is same = same refl
found_merged true false false x y h is same = absurd (false≢true is)
found_merged false true own x y h is same = refl
found_merged false false own x y h is same = refl

-- what the owner's main slot holds after copies
pub after_copies : (base versions : Versions) (number : ℕ) (owner : Worker) (ms : List Moved) (object : Object) → IsWhole versions → owner.0 < versions.workers
    → object.0 < versions.objects
    → (is_kept (after_commands versions (copies_of base number owner ms)) owner (main_slot object) ≡ true)
    × (held_at (after_commands versions (copies_of base number owner ms)) owner (main_slot object)
    ≡ (if is_moved ms object then Some (latest_of base object) else held_at versions owner (main_slot object)))
after_copies base versions number owner [] object whole below there = (kept_for versions owner (main_slot object) below there, refl)
after_copies base versions number owner (m ∷ ms) object whole below there =
    let next : Versions = after_kind owner versions (Kind.Receive (main_slot m.object) (latest_of base m.object)) in
    let put : IsPut versions owner (latest_of base m.object) (main_slot m.object ∷ []) next = put_all versions owner (latest_of base m.object)
    (main_slot m.object ∷ []) whole below in
    let rest = after_copies base next number owner ms object (whole_after versions owner (latest_of base m.object) (main_slot m.object ∷ []) next put whole)
    (omega (arith, put.workers, below))
    (omega (arith, put.objects, there)) in (
      rest.0,
      rest.1
          ∙ ap (λ (held : Option ℕ). if is_moved ms object then Some (latest_of base object) else held)
          (put.held owner (main_slot object) (kept_for versions owner (main_slot object) below there))
          ∙ found_merged (m.object.0 == object.0) (is_moved ms object) (owner.0 == owner.0) (Some (latest_of base object)) (Some (latest_of base m.object))
          (held_at versions owner (main_slot object))
          (eq-eqb owner.0 owner.0 refl) (λ same. ap (λ (n : ℕ). Some (latest_of base (record { 0 = n }))) (eqb-true m.object.0 object.0 same)),
    )

-- what the owner lacks and some worker holds moves
does_move : (versions : Versions) (owner : Worker) (past reads : List Object) (object : Object) (from : Worker) → holder versions object ≡ Some from
    → is_current versions object owner ≡ false
    → is_one_of past object ≡ false → is_one_of reads object ≡ true → is_moved (moves versions owner past reads) object ≡ true
does_move versions owner past [] object from held lacks first read = absurd (false≢true read)
does_move versions owner past (next ∷ reads) object from held lacks first read =
    either (does_move versions owner (past ++ next ∷ []) reads object from held lacks) (next.0 == object.0) refl read where
      shown : (o : Option Worker) → is_moved (moves versions owner (past ++ next ∷ []) reads) object ≡ true
          → is_moved (moved_first (length past) next o (moves versions owner (past ++ next ∷ []) reads)) object ≡ true
      shown None later = later
      shown (Some w) later = or_right (next.0 == object.0) (is_moved (moves versions owner (past ++ next ∷ []) reads) object) later

      source : (next.0 == object.0) ≡ true → source_of versions owner past next ≡ Some from
      source same =
          ap (λ (n : ℕ). source_of versions owner past (record { 0 = n })) (eqb-true next.0 object.0 same)
          ∙ ap₂ (λ (a b : Bool). if a || b then None else holder versions object) first lacks ∙ held

      either : (is_one_of (past ++ next ∷ []) object ≡ false → is_one_of reads object ≡ true
          → is_moved (moves versions owner (past ++ next ∷ []) reads) object ≡ true)
          → (b : Bool) → (next.0 == object.0) ≡ b → (b || is_one_of reads object) ≡ true → is_moved (moves versions owner past (next ∷ reads)) object ≡ true
      either later true same here =
          ap (λ (o : Option Worker). is_moved (moved_first (length past) next o (moves versions owner (past ++ next ∷ []) reads)) object) (source same)
          ∙ or_left (next.0 == object.0) (is_moved (moves versions owner (past ++ next ∷ []) reads) object) same
      either later false other here =
          shown (source_of versions owner past next)
          (later (list_any-append (λ (o : Object). o.0 == object.0) past (next ∷ [])
          ∙ both_false (is_one_of past object) ((next.0 == object.0) || false) first (ap (λ (b : Bool). b || false) other)) here)

pub current_held : (latest : ℕ) (held : Option ℕ) → option_map_or (λ (version : ℕ). version == latest) held false ≡ true → held ≡ Some latest
current_held latest None is = absurd (false≢true is)
current_held latest (Some version) is = ap Some (eqb-true version latest is)

pick_either : {X : Type 0} (b : Bool) (x y : X) → (b ≡ false → y ≡ x) → (if b then x else y) ≡ x
pick_either true x y other = refl
pick_either false x y other = other refl

-- what the owner's main slot of an object that is read holds after the copies
pub latest_there : (versions : Versions) (owner : Worker) (reads : List Object) (object : Object) → is_one_of reads object ≡ true
    → is_some (holder versions object) ≡ true
    → (if is_moved (moves versions owner [] reads) object then Some (latest_of versions object) else held_at versions owner (main_slot object))
    ≡ Some (latest_of versions object)
latest_there versions owner reads object read some =
    pick_either (is_moved (moves versions owner [] reads) object) (Some (latest_of versions object)) (held_at versions owner (main_slot object))
    (λ stays. current_held (latest_of versions object) (held_at versions owner (main_slot object))
    (current stays (is_current versions object owner) refl (holder versions object) refl some)) where
      current : is_moved (moves versions owner [] reads) object ≡ false → (b : Bool) → is_current versions object owner ≡ b → (h : Option Worker)
          → holder versions object ≡ h → is_some h ≡ true → is_current versions object owner ≡ true
      current stays true is h held there = is
      current stays false is None held there = absurd (false≢true there)
      current stays false is (Some from) held there = absurd (false≢true (sym stays ∙ does_move versions owner [] reads object from held is refl read))

pub schedule_finds : (versions : Versions) (owner : Worker) (task : Task) (number : ℕ) → owner.0 < versions.workers → FindsLatest versions owner task number
schedule_finds versions owner task number below given stands object read there some =
    let moved : List Moved = moves versions owner [] task.reads in
    let after = after_copies versions versions number owner moved object (record { slots = stands.slots; all = stands.all }) below there in
    let now = all_stand (copies_of versions number owner moved) versions
    (copies_fit versions number owner task.reads moved (moves_facts versions owner task.reads) below) given stands in
    now.held owner (main_slot object) after.0
    ∙ ap (option_map (λ (version : ℕ). (object_of (main_slot object), version))) (after.1 ∙ latest_there versions owner task.reads object read some)
