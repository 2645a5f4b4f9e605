-- Who holds the latest version of an object has it in its main slot, and has commands.
use Rattle.std.proofs.Common.{◌≡◌, ℕ, Bool, true, false, List, [], ◌∷◌, ◌++◌, length, map, refl, ap, sym, ◌∙◌, Option, None, Some}
use Rattle.std.specs.Prelude.{◌==◌, if◌then◌else◌, slice_index_or}
use Rattle.std.specs.List.{filter}
use Rattle.std.specs.Option.{option_map}
use Rattle.std.proofs.lemmas.Bool.{eqb-true}
use Rattle.std.proofs.lemmas.List.{map-append}
use Rattle.std.proofs.lemmas.List.Elements.{filter-append}
use Rattle.std.proofs.lemmas.Option.{none-some}
use Rattle.nim_base.specs.declared.number.Object.{Object}
use Rattle.nim_base.specs.declared.number.Worker.{Worker}
use Rattle.nim_command.specs.declared.command.Command.{Command}
use Rattle.nim_command.specs.Holds.{holds}
use Rattle.nim_command.specs.Numbers.{main_slot}
use Rattle.nim_command.specs.Slots.{object_of}
use Rattle.nim_message.specs.declared.order.ToWorker.{ToWorker}
use Rattle.nim_place.specs.declared.schedule.Moved.{Moved}
use Rattle.nim_place.specs.Extends.{AskFor, is_live}
use Rattle.nim_place.specs.Schedule.{moved_first, moves, send_of, source_of}
use Rattle.nim_place.specs.Stands.{MapStands, commands_for}
use Rattle.nim_place.specs.Versions.{Versions, held_at, is_current, is_kept, latest_of, place_of}
use Rattle.nim_place.proofs.Finds.{current_held}
use Rattle.nim_place.proofs.History.{holds_last}
use Rattle.nim_place.proofs.Moves.{source_facts}

-- the commands of one worker, in two parts
pub for_append : (worker : Worker) (xs ys : List (Worker × Command)) → commands_for worker (xs ++ ys) ≡ commands_for worker xs ++ commands_for worker ys
for_append worker xs ys =
    let mine : Worker × Command → Bool = λ c. c.0.0 == worker.0 in
    ap (map (λ (c : Worker × Command). c.1)) (filter-append mine xs ys) ∙ map-append (λ (c : Worker × Command). c.1) (filter mine xs) (filter mine ys)

-- a slot that holds the latest version is one that the map has
pub current_kept : (versions : Versions) (object : Object) (worker : Worker) → is_current versions object worker ≡ true
    → is_kept versions worker (main_slot object) ≡ true
current_kept versions object worker current = either (is_kept versions worker (main_slot object)) refl where
  nothing : is_kept versions worker (main_slot object) ≡ false → held_at versions worker (main_slot object) ≡ None
  nothing is = ap (λ (b : Bool). if b then slice_index_or versions.held (place_of versions worker (main_slot object)) None else None) is

  either : (b : Bool) → is_kept versions worker (main_slot object) ≡ b → b ≡ true
  either true is = refl
  either false is =
      let held : held_at versions worker (main_slot object) ≡ Some (latest_of versions object) =
      current_held (latest_of versions object) (held_at versions worker (main_slot object)) current in
      absurd (none-some (latest_of versions object) (sym (nothing is) ∙ held))

-- so it has this version when the commands so far have run
pub slot_held : (versions : Versions) (given : List (Worker × Command)) (object : Object) (worker : Worker) → MapStands given versions
    → is_current versions object worker ≡ true
    → holds (commands_for worker given) (length (commands_for worker given)) (main_slot object)
    ≡ Some (object_of (main_slot object), latest_of versions object)
slot_held versions given object worker stands current =
    stands.held worker (main_slot object) (current_kept versions object worker current)
    ∙ ap (option_map (λ (version : ℕ). (object_of (main_slot object), version)))
    (current_held (latest_of versions object) (held_at versions worker (main_slot object)) current)

-- and the worker is live
pub holder_lives : (versions : Versions) (live : List Bool) (epoch : ℕ) (lists : ℕ → List ToWorker) (given : List (Worker × Command)) (object : Object)
    (worker : Worker)
    → MapStands given versions → AskFor live epoch lists given → is_current versions object worker ≡ true → is_live live worker ≡ true
holder_lives versions live epoch lists given object worker stands ask current = either (is_live live worker) refl where
  either : (b : Bool) → is_live live worker ≡ b → b ≡ true
  either true is = refl
  either false is =
      absurd (none-some (object_of (main_slot object), latest_of versions object)
      (sym (ap (λ (cs : List Command). holds cs (length cs) (main_slot object)) (ask.none worker is)) ∙ slot_held versions given object worker stands current))

-- each comes from a worker that holds its latest version
abbrev pub AreHeld : Versions → List Moved → Type 0
AreHeld versions [] = Unit {0}
AreHeld versions (m ∷ ms) = (is_current versions m.object m.from ≡ true) × AreHeld versions ms

held_behind : (versions : Versions) (owner : Worker) (past reads : List Object) → AreHeld versions (moves versions owner past reads)
held_behind versions owner past [] = tt
held_behind versions owner past (next ∷ reads) =
    either (held_behind versions owner (past ++ next ∷ []) reads) (source_of versions owner past next) refl where
      either : AreHeld versions (moves versions owner (past ++ next ∷ []) reads) → (o : Option Worker) → source_of versions owner past next ≡ o
          → AreHeld versions (moved_first (length past) next o (moves versions owner (past ++ next ∷ []) reads))
      either rest None found = rest
      either rest (Some from) found = ((source_facts versions owner past next from found).current, rest)

pub moves_held : (versions : Versions) (owner : Worker) (reads : List Object) → AreHeld versions (moves versions owner [] reads)
moves_held versions owner reads = held_behind versions owner [] reads

-- behind commands the slots hold the latest versions of what moves
abbrev pub HeldIn : Versions → List Command → List Moved → Type 0
HeldIn versions past [] = Unit {0}
HeldIn versions past (m ∷ ms) =
    (holds past (length past) (main_slot m.object) ≡ Some (object_of (main_slot m.object), latest_of versions m.object)) × HeldIn versions past ms

-- also behind a Send
pub held_still : (versions : Versions) (number : ℕ) (owner : Worker) (past : List Command) (sent : Moved) (ms : List Moved) → HeldIn versions past ms
    → HeldIn versions (past ++ (send_of number owner sent).1 ∷ []) ms
held_still versions number owner past sent [] held = tt
held_still versions number owner past sent (m ∷ ms) held =
    (holds_last past (send_of number owner sent).1 (main_slot m.object) ∙ held.0, held_still versions number owner past sent ms held.1)

-- those that a worker sends it holds
pub held_here : (versions : Versions) (given : List (Worker × Command)) (worker : Worker) (ms : List Moved) → MapStands given versions → AreHeld versions ms
    → HeldIn versions (commands_for worker given) (filter (λ (m : Moved). m.from.0 == worker.0) ms)
held_here versions given worker [] stands are = tt
held_here versions given worker (m ∷ ms) stands are = either (m.from.0 == worker.0) refl (held_here versions given worker ms stands are.1) where
  either : (b : Bool) → (m.from.0 == worker.0) ≡ b
      → HeldIn versions (commands_for worker given) (filter (λ (n : Moved). n.from.0 == worker.0) ms)
      → HeldIn versions (commands_for worker given)
      (if b then m ∷ filter (λ (n : Moved). n.from.0 == worker.0) ms else filter (λ (n : Moved). n.from.0 == worker.0) ms)
  either true same rest =
      let here : is_current versions m.object worker ≡ true =
      sym (ap (λ (n : ℕ). is_current versions m.object (record { 0 = n })) (eqb-true m.from.0 worker.0 same)) ∙ are.0 in
      (slot_held versions given m.object worker stands here, rest)
  either false other rest = rest
