-- What is sent in an instance is received once, and what is received is sent once.
use Rattle.std.proofs.Common.{◌≡◌, ℕ, ◌+◌, ◌<◌, ◌≤◌, Bool, true, false, List, [], ◌∷◌, ◌++◌, map, refl, ap, ap₂, sym, ◌∙◌, arith}
use Rattle.std.specs.Prelude.{◌*◌, ◌==◌, ◌&&◌, if◌then◌else◌, count_by, ℤ}
use Rattle.std.specs.List.{AllByRecursion, flat_map}
use Rattle.std.proofs.lemmas.Bool.{eq-eqb, eqb-true}
use Rattle.std.proofs.lemmas.List.{append-nil}
use Rattle.std.proofs.lemmas.List.Concat.{flat_map-append}
use Rattle.std.proofs.lemmas.List.Elements.{All-from_recursion}
use Rattle.nim_base.specs.declared.number.Object.{Object}
use Rattle.nim_base.specs.declared.number.Worker.{Worker}
use Rattle.nim_base.specs.declared.task.Task.{Task}
use Rattle.nim_base.specs.declared.task.TaskForm.{TaskForm}
use Rattle.nim_command.specs.declared.command.Command.{Command}
use Rattle.nim_command.specs.declared.command.Kind.{Kind}
use Rattle.nim_command.specs.declared.command.Kind.TheVariants.{Create, Load, Send, Receive, Copy, Run, Fetch}
use Rattle.nim_command.specs.Numbers.{counted_from}
use Rattle.nim_command.specs.Ranks.{is_later}
use Rattle.nim_place.specs.declared.placement.Placement.{Placement}
use Rattle.nim_place.specs.Schedule.{moves, receive_of, run_of, scheduled, send_of}
use Rattle.nim_place.specs.Sound.{EachEndOnce, end_received, end_sent, is_end}
use Rattle.nim_place.specs.Versions.{Versions, after_commands}
use Rattle.nim_place.proofs.Pairs.{count_first}
use Rattle.nim_place.proofs.Places.{both_true}
use Rattle.nim_template.specs.declared.closing.Closing.{Closing}
use Rattle.nim_template.specs.Closing.{closing_entries, closing_send}
use Rattle.nim_template.specs.Tasks.{task_with}
use Rattle.nim_template.specs.Walk.{home_of}
use Rattle.nim_template.proofs.ByRank.{RanksAscend, order_of}
use Rattle.nim_template.proofs.Chosen.{command_at}
use Rattle.nim_template.proofs.Ranked.{ranked_from, ranked_task}

-- ---- Sends and Receives

abbrev pub Ends : Type 0
Ends = List (Worker × ℕ × Object)

abbrev pub ends_sent : List (Worker × Command) → Ends
ends_sent commands = flat_map (λ (c : Worker × Command). end_sent c.1.kind) commands

abbrev pub ends_received : List (Worker × Command) → Ends
ends_received commands = flat_map (λ (c : Worker × Command). end_received c.0 c.1.id c.1.kind) commands

sends_receive_none : (number : ℕ) (owner : Worker) (ms : List _) → ends_received (map (send_of number owner) ms) ≡ []
sends_receive_none number owner [] = refl
sends_receive_none number owner (m ∷ ms) = sends_receive_none number owner ms

receives_send_none : (versions : Versions) (number : ℕ) (owner : Worker) (ms : List _) → ends_sent (map (receive_of versions number owner) ms) ≡ []
receives_send_none versions number owner [] = refl
receives_send_none versions number owner (m ∷ ms) = receives_send_none versions number owner ms

moved_ends : (versions : Versions) (number : ℕ) (owner : Worker) (ms : List _)
    → ends_sent (map (send_of number owner) ms) ≡ ends_received (map (receive_of versions number owner) ms)
moved_ends versions number owner [] = refl
moved_ends versions number owner (m ∷ ms) = ap (λ (ends : Ends). end_sent (send_of number owner m).1.kind ++ ends) (moved_ends versions number owner ms)

-- of two lists with the same ends
pub both_ends : (xs ys : List (Worker × Command)) → ends_sent xs ≡ ends_received xs → ends_sent ys ≡ ends_received ys
    → ends_sent (xs ++ ys) ≡ ends_received (xs ++ ys)
both_ends xs ys first second =
    flat_map-append (λ (c : Worker × Command). end_sent c.1.kind) xs ys
    ∙ ap₂ (λ (es fs : Ends). es ++ fs) first second
    ∙ sym (flat_map-append (λ (c : Worker × Command). end_received c.0 c.1.id c.1.kind) xs ys)

task_ends : (versions : Versions) (task : Task) (number position : ℕ) (owner : Worker)
    → ends_sent (ranked_task versions task number position owner) ≡ ends_received (ranked_task versions task number position owner)
task_ends versions task number position owner =
    let ms = moves versions owner [] task.reads in
    let sends : List (Worker × Command) = map (send_of number owner) ms in
    let receives : List (Worker × Command) = map (receive_of versions number owner) ms in
    let run : List (Worker × Command) = (owner, run_of task number position ms) ∷ [] in
    let of_sent : Worker × Command → Ends = λ c. end_sent c.1.kind in
    let of_received : Worker × Command → Ends = λ c. end_received c.0 c.1.id c.1.kind in
    flat_map-append of_sent sends (receives ++ run)
    ∙ ap (λ (es : Ends). ends_sent sends ++ es) (flat_map-append of_sent receives run
    ∙ ap (λ (es : Ends). es ++ []) (receives_send_none versions number owner ms))
    ∙ append-nil (ends_sent sends)
    ∙ moved_ends versions number owner ms
    ∙ sym (append-nil (ends_received receives))
    ∙ sym (flat_map-append of_received receives run)
    ∙ sym (ap (λ (es : Ends). es ++ ends_received (receives ++ run)) (sends_receive_none number owner ms))
    ∙ sym (flat_map-append of_received sends (receives ++ run))

pub ranked_ends : (place : Placement) (live : List Bool) (base : ℕ) (args : List ℤ) (number : ℕ) (versions : Versions) (forms : List TaskForm)
    → ends_sent (ranked_from place live base args number versions forms) ≡ ends_received (ranked_from place live base args number versions forms)
ranked_ends place live base args number versions [] = refl
ranked_ends place live base args number versions (form ∷ forms) =
    let task : Task = task_with args form in
    let owner : Worker = home_of place versions.objects live form in
    let after : Versions = after_commands versions (scheduled versions task number (counted_from base number) place live) in
    both_ends (ranked_task versions task number (counted_from base number) owner) (ranked_from place live base args (number + 1) after forms)
    (task_ends versions task number (counted_from base number) owner) (ranked_ends place live base args (number + 1) after forms)

closing_ends : (base : ℕ) (args : List ℤ) (copy : ℕ) (cs : List Closing)
    → ends_sent (map (command_at base args) (closing_entries copy cs)) ≡ ends_received (map (command_at base args) (closing_entries copy cs))
closing_ends base args copy [] = refl
closing_ends base args copy (c ∷ cs) =
    ap (λ (es : Ends). end_sent (command_at base args (closing_send copy c)).1.kind ++ es) (closing_ends base args (copy + 1) cs)

pub all_ends : (place : Placement) (live : List Bool) (base : ℕ) (args : List ℤ) (versions : Versions) (forms : List TaskForm) (cs : List Closing)
    → let all : List (Worker × Command) =
    ranked_from place live base args 0 versions forms ++ map (command_at base args) (closing_entries 0 cs) in
    ends_sent all ≡ ends_received all
all_ends place live base args versions forms cs =
    both_ends (ranked_from place live base args 0 versions forms) (map (command_at base args) (closing_entries 0 cs))
    (ranked_ends place live base args 0 versions forms) (closing_ends base args 0 cs)

-- ---- each once

-- the numbers of ends ascend
abbrev EndsAscend : ℕ → Ends → Type 0
EndsAscend low [] = Unit {0}
EndsAscend low (one ∷ ends) = (low ≤ 2 * one.1 + 1) × EndsAscend (2 * one.1 + 2) ends

ends_lower : (less low : ℕ) (ends : Ends) → less ≤ low → EndsAscend low ends → EndsAscend less ends
ends_lower less low [] below are = tt
ends_lower less low (one ∷ ends) below are = (omega (arith, below, are.0), are.1)

-- those of commands that ascend by rank do
ends_ascend : (low high : ℕ) (cs : List (Worker × Command)) → RanksAscend low high cs → EndsAscend low (ends_received cs)
ends_ascend low high [] are = tt
ends_ascend low high (c ∷ cs) are =
    either c.1.kind are.1 (ends_ascend (order_of c.1 + 1) high cs are.2) where
      either : (kind : Kind) → low ≤ (if is_later kind then 2 * c.1.id + 1 else 2 * c.1.id)
          → EndsAscend ((if is_later kind then 2 * c.1.id + 1 else 2 * c.1.id) + 1) (ends_received cs)
          → EndsAscend low (end_received c.0 c.1.id kind ++ ends_received cs)
      either (Receive slot version) above rest = (above, ends_lower (2 * c.1.id + 2) (2 * c.1.id + 1 + 1) (ends_received cs) (omega arith) rest)
      either (Send slot peer entry) above rest = ends_lower low (2 * c.1.id + 1) (ends_received cs) (omega (arith, above)) rest
      either (Create slot iota number) above rest = ends_lower low (2 * c.1.id + 1 + 1) (ends_received cs) (omega (arith, above)) rest
      either (Load slot version value) above rest = ends_lower low (2 * c.1.id + 1 + 1) (ends_received cs) (omega (arith, above)) rest
      either (Copy from to) above rest = ends_lower low (2 * c.1.id + 1 + 1) (ends_received cs) (omega (arith, above)) rest
      either (Run position func params reads writes) above rest =
          ends_lower low (2 * c.1.id + 1 + 1) (ends_received cs) (omega (arith, above)) rest
      either (Fetch slot ticket) above rest = ends_lower low (2 * c.1.id + 1 + 1) (ends_received cs) (omega (arith, above)) rest

end_apart : (one other : Worker × ℕ × Object) → (one.1 ≡ other.1 → ⊥) → is_end one other ≡ false
end_apart one other apart = either (is_end one other) refl where
  either : (b : Bool) → is_end one other ≡ b → b ≡ false
  either true is =
      absurd (apart (eqb-true one.1 other.1 (both_true (one.0.0 == other.0.0) (one.1 == other.1)
      (both_true ((one.0.0 == other.0.0) && (one.1 == other.1)) (one.2.0 == other.2.0) is).0).1))
  either false is = refl

end_itself : (one : Worker × ℕ × Object) → is_end one one ≡ true
end_itself one = rw (eq-eqb one.0.0 one.0.0 refl, eq-eqb one.1 one.1 refl, eq-eqb one.2.0 one.2.0 refl) refl

none_after : (one : Worker × ℕ × Object) (low : ℕ) (ends : Ends) → 2 * one.1 + 1 < low → EndsAscend low ends → count_by (is_end one) ends ≡ 0
none_after one low [] below are = refl
none_after one low (other ∷ ends) below are =
    let first = count_first (is_end one) other ends false (end_apart one other (λ same. omega (arith, same, below, are.0))) in
    let rest = none_after one (2 * other.1 + 2) ends (omega (arith, below, are.0)) are.1 in
    omega (arith, first, rest)

once_after : (one : Worker × ℕ × Object) (low : ℕ) (all ends : Ends) → 2 * one.1 + 1 < low → EndsAscend low ends
    → AllByRecursion (λ (other : Worker × ℕ × Object). count_by (is_end other) all ≡ 1) ends
    → AllByRecursion (λ (other : Worker × ℕ × Object). count_by (is_end other) (one ∷ all) ≡ 1) ends
once_after one low all [] below are once = tt
once_after one low all (other ∷ ends) below are once =
    let first = count_first (is_end other) one all false (end_apart other one (λ same. omega (arith, same, below, are.0))) in
    let single = once.0 in
    (omega (arith, first, single), once_after one (2 * other.1 + 2) all ends (omega (arith, below, are.0)) are.1 once.1)

each_once : (low : ℕ) (ends : Ends) → EndsAscend low ends → AllByRecursion (λ (one : Worker × ℕ × Object). count_by (is_end one) ends ≡ 1) ends
each_once low [] are = tt
each_once low (one ∷ ends) are =
    let first = count_first (is_end one) one ends true (end_itself one) in
    let none = none_after one (2 * one.1 + 2) ends (omega arith) are.1 in (
      omega (arith, first, none),
      once_after one (2 * one.1 + 2) ends ends (omega arith) are.1 (each_once (2 * one.1 + 2) ends are.1),
    )

pub ends_once : (low high : ℕ) (cs : List (Worker × Command)) → RanksAscend low high cs → EachEndOnce (ends_received cs) (ends_received cs)
ends_once low high cs are =
    All-from_recursion (λ (one : Worker × ℕ × Object). count_by (is_end one) (ends_received cs) ≡ 1) (ends_received cs)
    (each_once low (ends_received cs) (ends_ascend low high cs are))
