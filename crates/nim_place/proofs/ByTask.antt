-- The before sets of a task's commands are those of the rule, worker by worker.
use Rattle.std.proofs.Common.{◌≡◌, ℕ, Bool, true, false, not, List, [], ◌∷◌, ◌++◌, map, refl, ap, ap₂, sym, subst, ◌∙◌}
use Rattle.std.specs.Prelude.{◌==◌, ◌&&◌, ◌||◌, if◌then◌else◌}
use Rattle.std.specs.List.{filter, list_any}
use Rattle.std.proofs.lemmas.Bool.{eqb-true, false≢true}
use Rattle.std.proofs.lemmas.List.{append-nil, append_assoc, map-append}
use Rattle.nim_base.specs.declared.number.Object.{Object}
use Rattle.nim_base.specs.declared.number.Slot.{Slot}
use Rattle.nim_base.specs.declared.number.Worker.{Worker}
use Rattle.nim_base.specs.declared.task.Task.{Task}
use Rattle.nim_command.specs.declared.command.Command.{Command}
use Rattle.nim_command.specs.Before.{Footprint, IsByRule, before_of, befores_behind, footprint_of, is_before, is_rewritten}
use Rattle.nim_command.specs.Numbers.{entry_number, main_slot}
use Rattle.nim_command.specs.Slots.{is_among}
use Rattle.nim_command.proofs.Lists.{any_nothing}
use Rattle.nim_place.specs.declared.schedule.Moved.{Moved}
use Rattle.nim_place.specs.Schedule.{copies_of, is_one_of, moves, receive_of, run_of, send_of}
use Rattle.nim_place.specs.Stands.{commands_for}
use Rattle.nim_place.specs.Versions.{Versions}
use Rattle.nim_place.proofs.History.{for_more}
use Rattle.nim_place.proofs.Moves.{AreMoves, is_moved, moves_facts}

-- ---- what sends write nothing, and wait for nothing

abbrev Quiet : List Footprint → Type 0
Quiet [] = Unit {0}
Quiet (f ∷ fs) = (f.writes ≡ []) × Quiet fs

quiet_more : (past : List Footprint) (f : Footprint) → Quiet past → f.writes ≡ [] → Quiet (past ++ f ∷ [])
quiet_more [] f quiet none = (none, tt)
quiet_more (p ∷ past) f quiet none = (quiet.0, quiet_more past f quiet.1 none)

no_before : (f : Footprint) (rest : List Footprint) (later : Footprint) → f.writes ≡ [] → later.writes ≡ [] → is_before f rest later ≡ false
no_before f rest later none nothing =
    ap₂ (λ (a b : Bool). a || b)
    (ap (list_any (λ (slot : Slot). (is_among later.reads slot || is_among later.writes slot) && not (is_rewritten rest slot))) none)
    (any_nothing (λ (slot : Slot). is_among later.writes slot && not (is_rewritten rest slot))
    (λ slot. ap (λ (ws : List Slot). is_among ws slot && not (is_rewritten rest slot)) nothing) f.reads)

quiet_before : (past : List Footprint) (later : Footprint) → Quiet past → later.writes ≡ [] → before_of past later ≡ []
quiet_before [] later quiet nothing = refl
quiet_before (f ∷ past) later quiet nothing =
    ap (λ (b : Bool). if b then f.number ∷ before_of past later else before_of past later) (no_before f past later quiet.0 nothing)
    ∙ quiet_before past later quiet.1 nothing

sends_ruled : (number : ℕ) (owner : Worker) (past : List Footprint) (ms : List Moved) → Quiet past
    → map (λ (c : Command). c.before) (map (λ (m : Moved). (send_of number owner m).1) ms)
    ≡ befores_behind past (map footprint_of (map (λ (m : Moved). (send_of number owner m).1) ms))
sends_ruled number owner past [] quiet = refl
sends_ruled number owner past (m ∷ ms) quiet =
    let print : Footprint = footprint_of (send_of number owner m).1 in
    ap₂ (λ (first : List ℕ) (rest : List (List ℕ)). first ∷ rest) (sym (quiet_before past print quiet refl))
    (sends_ruled number owner (past ++ print ∷ []) ms (quiet_more past print quiet refl))

-- ---- what is received waits for nothing, and the run for all of it

-- what the before set of a Receive depends on
abbrev print_of : ℕ → Moved → Footprint
print_of number m = record { number = entry_number number 1 m.index; reads = []; writes = main_slot m.object ∷ [] }

-- no object of the first moves again
abbrev Unmoved : List Moved → List Moved → Type 0
Unmoved [] ms = Unit {0}
Unmoved (x ∷ past) ms = (is_moved ms x.object ≡ false) × Unmoved past ms

first_false : (a b : Bool) → (a || b) ≡ false → a ≡ false
first_false true b is = absurd (false≢true (sym is))
first_false false b is = refl

second_false : (a b : Bool) → (a || b) ≡ false → b ≡ false
second_false true b is = absurd (false≢true (sym is))
second_false false b is = is

unmoved_more : (past : List Moved) (m : Moved) (ms : List Moved) → Unmoved past (m ∷ ms) → is_moved ms m.object ≡ false → Unmoved (past ++ m ∷ []) ms
unmoved_more [] m ms before once = (once, tt)
unmoved_more (x ∷ past) m ms before once = (second_false (m.object.0 == x.object.0) (is_moved ms x.object) before.0, unmoved_more past m ms before.1 once)

touches : (same free : Bool) → same ≡ false → ((((false || (same || false)) && free) || false) || false) ≡ false
touches true free is = absurd (false≢true (sym is))
touches false free is = refl

receive_before : (number : ℕ) (past : List Moved) (m : Moved) (ms : List Moved) → Unmoved past (m ∷ ms)
    → before_of (map (print_of number) past) (print_of number m) ≡ []
receive_before number [] m ms before = refl
receive_before number (x ∷ past) m ms before =
    let rest : List Footprint = map (print_of number) past in
    ap (λ (b : Bool). if b then entry_number number 1 x.index ∷ before_of rest (print_of number m) else before_of rest (print_of number m))
    (touches (m.object.0 == x.object.0) (not (is_rewritten rest (main_slot x.object))) (first_false (m.object.0 == x.object.0) (is_moved ms x.object) before.0))
    ∙ receive_before number past m ms before.1

among_reads : (reads : List Object) (object : Object) → is_one_of reads object ≡ true → is_among (map main_slot reads) (main_slot object) ≡ true
among_reads [] object is = is
among_reads (r ∷ reads) object is = either (r.0 == object.0) is (among_reads reads object) where
  either : (b : Bool) → (b || is_one_of reads object) ≡ true → (is_one_of reads object ≡ true → is_among (map main_slot reads) (main_slot object) ≡ true)
      → (b || is_among (map main_slot reads) (main_slot object)) ≡ true
  either true here rest = refl
  either false here rest = rest here

not_rewritten : (number : ℕ) (ms : List Moved) (object : Object) → is_moved ms object ≡ false
    → is_rewritten (map (print_of number) ms) (main_slot object) ≡ false
not_rewritten number [] object is = refl
not_rewritten number (m ∷ ms) object is =
    ap₂ (λ (a b : Bool). (a || false) || b) (first_false (m.object.0 == object.0) (is_moved ms object) is)
    (not_rewritten number ms object (second_false (m.object.0 == object.0) (is_moved ms object) is))

run_before : (versions : Versions) (owner : Worker) (number : ℕ) (reads : List Object) (run : Footprint) (ms : List Moved) → run.reads ≡ map main_slot reads
    → AreMoves versions owner reads ms
    → map (λ (m : Moved). entry_number number 1 m.index) ms ≡ before_of (map (print_of number) ms) run
run_before versions owner number reads run [] same are = refl
run_before versions owner number reads run (m ∷ ms) same are =
    let rest : List Footprint = map (print_of number) ms in
    let read : is_among run.reads (main_slot m.object) ≡ true = ap (λ (slots : List Slot). is_among slots (main_slot m.object)) same
    ∙ among_reads reads m.object are.2 in
    let waits : is_before (print_of number m) rest run ≡ true =
    ap₂ (λ (a b : Bool). (((a || is_among run.writes (main_slot m.object)) && not b) || false) || false) read (not_rewritten number ms m.object are.3) in
    ap (λ (numbers : List ℕ). entry_number number 1 m.index ∷ numbers) (run_before versions owner number reads run ms same are.4)
    ∙ sym (ap (λ (b : Bool). if b then entry_number number 1 m.index ∷ before_of rest run else before_of rest run) waits)

receives_ruled : (versions : Versions) (owner : Worker) (number : ℕ) (reads : List Object) (run : Command) (past ms : List Moved) → Unmoved past ms
    → AreMoves versions owner reads ms
    → run.before ≡ before_of (map (print_of number) (past ++ ms)) (footprint_of run)
    → map (λ (c : Command). c.before) (map (λ (m : Moved). (receive_of versions number owner m).1) ms ++ run ∷ [])
    ≡ befores_behind (map (print_of number) past) (map footprint_of (map (λ (m : Moved). (receive_of versions number owner m).1) ms ++ run ∷ []))
receives_ruled versions owner number reads run past [] unmoved are last =
    ap (λ (numbers : List ℕ). numbers ∷ []) (last ∙ ap (λ (ms : List Moved). before_of (map (print_of number) ms) (footprint_of run)) (append-nil past))
receives_ruled versions owner number reads run past (m ∷ ms) unmoved are last =
    let prints : List Footprint = map footprint_of (map (λ (n : Moved). (receive_of versions number owner n).1) ms ++ run ∷ []) in
    ap₂ (λ (first : List ℕ) (rest : List (List ℕ)). first ∷ rest) (sym (receive_before number past m ms unmoved))
    (receives_ruled versions owner number reads run (past ++ m ∷ []) ms (unmoved_more past m ms unmoved are.3) are.4
    (last ∙ ap (λ (all : List Moved). before_of (map (print_of number) all) (footprint_of run)) (sym (append_assoc past (m ∷ []) ms)))
    ∙ ap (λ (before : List Footprint). befores_behind before prints) (map-append (print_of number) past (m ∷ [])))

-- ---- which of the commands are whose

pub elsewhere : (owner worker from : Worker) → (owner.0 == worker.0) ≡ true → (from.0 ≡ owner.0 → ⊥) → (from.0 == worker.0) ≡ false
elsewhere owner worker from is apart = either (from.0 == worker.0) refl where
  either : (b : Bool) → (from.0 == worker.0) ≡ b → b ≡ false
  either true same = absurd (apart (eqb-true from.0 worker.0 same ∙ sym (eqb-true owner.0 worker.0 is)))
  either false same = refl

-- the owner has what it receives
pub for_owner : (versions : Versions) (owner worker : Worker) (number : ℕ) (reads : List Object) (ms : List Moved) → AreMoves versions owner reads ms
    → (owner.0 == worker.0) ≡ true
    → commands_for worker (copies_of versions number owner ms) ≡ map (λ (m : Moved). (receive_of versions number owner m).1) ms
for_owner versions owner worker number reads [] are is = refl
for_owner versions owner worker number reads (m ∷ ms) are is =
    let others : List (Worker × Command) = filter (λ (c : Worker × Command). c.0.0 == worker.0) (copies_of versions number owner ms) in
    let behind : Bool → List (Worker × Command) = λ b. if b then receive_of versions number owner m ∷ others else others in
    ap₂ (λ (a b : Bool). map (λ (c : Worker × Command). c.1) (if a then send_of number owner m ∷ behind b else behind b))
    (elsewhere owner worker m.from is are.1) is
    ∙ ap (λ (rest : List Command). (receive_of versions number owner m).1 ∷ rest) (for_owner versions owner worker number reads ms are.4 is)

sent : (b : Bool) (c : Worker × Command) (others : List (Worker × Command))
    → map (λ (d : Worker × Command). d.1) (if b then c ∷ others else others)
    ≡ (if b then c.1 ∷ map (λ (d : Worker × Command). d.1) others else map (λ (d : Worker × Command). d.1) others)
sent true c others = refl
sent false c others = refl

chosen : {X Y : Type 0} (b : Bool) (f : X → Y) (x : X) (xs : List X) → map f (if b then x ∷ xs else xs) ≡ (if b then f x ∷ map f xs else map f xs)
chosen true f x xs = refl
chosen false f x xs = refl

-- another worker has what it sends
pub for_other : (versions : Versions) (owner worker : Worker) (number : ℕ) (ms : List Moved) → (owner.0 == worker.0) ≡ false
    → commands_for worker (copies_of versions number owner ms)
    ≡ map (λ (m : Moved). (send_of number owner m).1) (filter (λ (m : Moved). m.from.0 == worker.0) ms)
for_other versions owner worker number [] is = refl
for_other versions owner worker number (m ∷ ms) is =
    let others : List (Worker × Command) = filter (λ (c : Worker × Command). c.0.0 == worker.0) (copies_of versions number owner ms) in
    ap (λ (b : Bool). map (λ (c : Worker × Command). c.1) (if m.from.0 == worker.0 then send_of number owner m
    ∷ (if b then receive_of versions number owner m ∷ others else others) else (if b then receive_of versions number owner m ∷ others else others))) is
    ∙ sent (m.from.0 == worker.0) (send_of number owner m) others
    ∙ ap (λ (rest : List Command). if m.from.0 == worker.0 then (send_of number owner m).1 ∷ rest else rest) (for_other versions owner worker number ms is)
    ∙ sym (chosen (m.from.0 == worker.0) (λ (n : Moved). (send_of number owner n).1) m (filter (λ (n : Moved). n.from.0 == worker.0) ms))

-- each worker's commands of a task
ruled : (versions : Versions) (owner worker : Worker) (task : Task) (number position : ℕ) (ms : List Moved) → AreMoves versions owner task.reads ms
    → IsByRule (commands_for worker (copies_of versions number owner ms ++ (owner, run_of task number position ms) ∷ []))
ruled versions owner worker task number position ms are =
    subst IsByRule (sym (for_more worker (copies_of versions number owner ms) (owner, run_of task number position ms)))
    (either (owner.0 == worker.0) refl) where
      either : (b : Bool) → (owner.0 == worker.0) ≡ b
          → IsByRule (commands_for worker (copies_of versions number owner ms) ++ (if b then run_of task number position ms ∷ [] else []))
      either true is =
          subst (λ (cs : List Command). IsByRule (cs ++ run_of task number position ms ∷ []))
          (sym (for_owner versions owner worker number task.reads ms are is))
          (receives_ruled versions owner number task.reads (run_of task number position ms) [] ms tt are
          (run_before versions owner number task.reads (footprint_of (run_of task number position ms)) ms refl are))
      either false is =
          let mine : List Moved = filter (λ (m : Moved). m.from.0 == worker.0) ms in
          subst IsByRule (sym (append-nil (commands_for worker (copies_of versions number owner ms))))
          (subst IsByRule (sym (for_other versions owner worker number ms is)) (sends_ruled number owner [] mine tt))

pub schedule_ruled : (versions : Versions) (owner : Worker) (task : Task) (number position : ℕ) (commands : List (Worker × Command))
    → commands ≡ copies_of versions number owner (moves versions owner [] task.reads) ++
    (owner, run_of task number position (moves versions owner [] task.reads)) ∷ []
    → (worker : Worker) → IsByRule (commands_for worker commands)
schedule_ruled versions owner task number position commands is worker =
    subst (λ (cs : List (Worker × Command)). IsByRule (commands_for worker cs)) (sym is)
    (ruled versions owner worker task number position (moves versions owner [] task.reads) (moves_facts versions owner task.reads))
