-- The commands of an instance in the order of their ranks: of each task what is sent, what is received and the run.
use Rattle.std.proofs.Common.{◌≡◌, ℕ, ◌+◌, ◌<◌, ◌≤◌, Bool, true, false, List, [], ◌∷◌, ◌++◌, length, map, refl, ap, ap₂, sym, subst, ◌∙◌, arith}
use Rattle.std.specs.Prelude.{◌*◌, ◌^◌, ◌==◌, if◌then◌else◌, nat_le, ℤ}
use Rattle.std.specs.List.{flat_map}
use Rattle.std.proofs.lemmas.Bool.{eqb-true, leb-true}
use Rattle.std.proofs.lemmas.List.{append_assoc}
use Rattle.std.proofs.lemmas.List.Concat.{flat_map-append}
use Rattle.nim_base.specs.declared.number.Object.{Object}
use Rattle.nim_base.specs.declared.number.Worker.{Worker}
use Rattle.nim_base.specs.declared.task.Task.{Task}
use Rattle.nim_base.specs.declared.task.TaskForm.{TaskForm}
use Rattle.nim_command.specs.declared.command.Command.{Command}
use Rattle.nim_command.specs.Numbers.{counted_from, entry_number}
use Rattle.nim_place.specs.declared.placement.Placement.{Placement}
use Rattle.nim_place.specs.Schedule.{copies_of, moves, receive_of, run_of, scheduled, send_of}
use Rattle.nim_place.specs.Sound.{owned_from, run_by}
use Rattle.nim_place.specs.Stands.{commands_for}
use Rattle.nim_place.specs.Versions.{Versions, after_commands}
use Rattle.nim_place.proofs.ByTask.{elsewhere}
use Rattle.nim_place.proofs.Held.{for_append}
use Rattle.nim_place.proofs.Moves.{AreIndexed, AreMoves, moves_facts, moves_indexed}
use Rattle.nim_template.specs.declared.closing.Closing.{Closing}
use Rattle.nim_template.specs.Closing.{closing_entries, closing_number}
use Rattle.nim_template.specs.Tasks.{scheduled_from, task_with}
use Rattle.nim_template.specs.Walk.{home_of}
use Rattle.nim_template.proofs.ByRank.{RanksAscend, ascends_lower, ascends_then, for_step}
use Rattle.nim_template.proofs.Chosen.{command_at}
use Rattle.nim_template.proofs.Sizes.{like_commands}

-- ---- the commands of a task

abbrev pub ranked_task : Versions → Task → ℕ → ℕ → Worker → List (Worker × Command)
ranked_task versions task number position owner =
    map (send_of number owner) (moves versions owner [] task.reads)
    ++ (map (receive_of versions number owner) (moves versions owner [] task.reads)
    ++ (owner, run_of task number position (moves versions owner [] task.reads)) ∷ [])

-- of all tasks of a block, from one of this number and from a map on
abbrev pub ranked_from : Placement → List Bool → ℕ → List ℤ → ℕ → Versions → List TaskForm → List (Worker × Command)
ranked_from place live base args number versions [] = []
ranked_from place live base args number versions (form ∷ forms) =
    ranked_task versions (task_with args form) number (counted_from base number) (home_of place versions.objects live form)
    ++ ranked_from place live base args (number + 1)
    (after_commands versions (scheduled versions (task_with args form) number (counted_from base number) place live)) forms

-- ---- worker by worker

sends_mine : (versions : Versions) (owner worker : Worker) (number : ℕ) (reads : List Object) (ms : List _) → AreMoves versions owner reads ms
    → (owner.0 == worker.0) ≡ true → commands_for worker (map (send_of number owner) ms) ≡ []
sends_mine versions owner worker number reads [] are is = refl
sends_mine versions owner worker number reads (m ∷ ms) are is =
    for_step worker (send_of number owner m) (map (send_of number owner) ms) false (elsewhere owner worker m.from is are.1)
    ∙ sends_mine versions owner worker number reads ms are.4 is

split_for : (versions : Versions) (owner worker : Worker) (number : ℕ) (reads : List Object) (ms : List _) → AreMoves versions owner reads ms
    → commands_for worker (copies_of versions number owner ms)
    ≡ commands_for worker (map (send_of number owner) ms) ++ commands_for worker (map (receive_of versions number owner) ms)
split_for versions owner worker number reads [] are = refl
split_for versions owner worker number reads (m ∷ ms) are =
    either (m.from.0 == worker.0) (owner.0 == worker.0) refl refl (split_for versions owner worker number reads ms are.4) where
      sends : List (Worker × Command)
      sends = map (send_of number owner) ms

      receives : List (Worker × Command)
      receives = map (receive_of versions number owner) ms

      rest : List (Worker × Command)
      rest = copies_of versions number owner ms

      either : (b d : Bool) → (m.from.0 == worker.0) ≡ b → (owner.0 == worker.0) ≡ d
          → commands_for worker (copies_of versions number owner ms)
          ≡ commands_for worker (map (send_of number owner) ms) ++ commands_for worker (map (receive_of versions number owner) ms)
          → commands_for worker (send_of number owner m ∷ receive_of versions number owner m ∷ copies_of versions number owner ms)
          ≡ commands_for worker (send_of number owner m ∷ map (send_of number owner) ms)
          ++ commands_for worker (receive_of versions number owner m ∷ map (receive_of versions number owner) ms)
      either true true first second behind = absurd (are.1 (eqb-true m.from.0 worker.0 first ∙ sym (eqb-true owner.0 worker.0 second)))
      either true false first second behind =
          for_step worker (send_of number owner m) (receive_of versions number owner m ∷ rest) true first
          ∙ ap (λ (cs : List Command). (send_of number owner m).1 ∷ cs) (for_step worker (receive_of versions number owner m) rest false second ∙ behind)
          ∙ sym (ap₂ (λ (xs ys : List Command). xs ++ ys) (for_step worker (send_of number owner m) sends true first)
          (for_step worker (receive_of versions number owner m) receives false second))
      either false true first second behind =
          let none : commands_for worker sends ≡ [] = sends_mine versions owner worker number reads ms are.4 second in
          for_step worker (send_of number owner m) (receive_of versions number owner m ∷ rest) false first
          ∙ for_step worker (receive_of versions number owner m) rest true second
          ∙ ap (λ (cs : List Command). (receive_of versions number owner m).1 ∷ cs)
          (behind ∙ ap (λ (cs : List Command). cs ++ commands_for worker receives) none)
          ∙ sym (ap₂ (λ (xs ys : List Command). xs ++ ys) (for_step worker (send_of number owner m) sends false first ∙ none)
          (for_step worker (receive_of versions number owner m) receives true second))
      either false false first second behind =
          for_step worker (send_of number owner m) (receive_of versions number owner m ∷ rest) false first
          ∙ for_step worker (receive_of versions number owner m) rest false second
          ∙ behind
          ∙ sym (ap₂ (λ (xs ys : List Command). xs ++ ys) (for_step worker (send_of number owner m) sends false first)
          (for_step worker (receive_of versions number owner m) receives false second))

task_for_worker : (versions : Versions) (owner worker : Worker) (task : Task) (number position : ℕ)
    → commands_for worker (copies_of versions number owner (moves versions owner [] task.reads)
    ++ (owner, run_of task number position (moves versions owner [] task.reads)) ∷ [])
    ≡ commands_for worker (ranked_task versions task number position owner)
task_for_worker versions owner worker task number position =
    let ms = moves versions owner [] task.reads in
    let sends : List (Worker × Command) = map (send_of number owner) ms in
    let receives : List (Worker × Command) = map (receive_of versions number owner) ms in
    let run : List (Worker × Command) = (owner, run_of task number position ms) ∷ [] in
    for_append worker (copies_of versions number owner ms) run
    ∙ ap (λ (cs : List Command). cs ++ commands_for worker run) (split_for versions owner worker number task.reads ms (moves_facts versions owner task.reads))
    ∙ append_assoc (commands_for worker sends) (commands_for worker receives) (commands_for worker run)
    ∙ ap (λ (cs : List Command). commands_for worker sends ++ cs) (sym (for_append worker receives run))
    ∙ sym (for_append worker sends (receives ++ run))

pub ranked_for : (place : Placement) (live : List Bool) (base : ℕ) (args : List ℤ) (number : ℕ) (versions : Versions) (forms : List TaskForm) (worker : Worker)
    → commands_for worker (scheduled_from place live base args number versions forms)
    ≡ commands_for worker (ranked_from place live base args number versions forms)
ranked_for place live base args number versions [] worker = refl
ranked_for place live base args number versions (form ∷ forms) worker =
    let task : Task = task_with args form in
    let owner : Worker = home_of place versions.objects live form in
    let commands : List (Worker × Command) = scheduled versions task number (counted_from base number) place live in
    let after : Versions = after_commands versions commands in
    for_append worker commands (scheduled_from place live base args (number + 1) after forms)
    ∙ ap₂ (λ (xs ys : List Command). xs ++ ys) (task_for_worker versions owner worker task number (counted_from base number))
    (ranked_for place live base args (number + 1) after forms worker)
    ∙ sym (for_append worker (ranked_task versions task number (counted_from base number) owner)
    (ranked_from place live base args (number + 1) after forms))

-- ---- in the order of ranks

abbrev stage_if : Bool → ℕ
stage_if b = if b then 2 else 3

stage_small : (number : ℕ) → number < 131072 → stage_if (nat_le 131072 number) ≡ 3
stage_small number few = either (nat_le 131072 number) refl where
  either : (b : Bool) → nat_le 131072 number ≡ b → stage_if b ≡ 3
  either true is = (let more = leb-true 131072 number is in absurd (omega (arith, more, few)))
  either false is = refl

sends_ascend : (number : ℕ) (owner : Worker) (low : ℕ) (ms : List _) → number < 1024 → low ≤ 8 → AreIndexed low 8 ms
    → RanksAscend (128 * number + 2 * low) (128 * number + 16) (map (send_of number owner) ms)
sends_ascend number owner low [] few room at = omega (arith, room)
sends_ascend number owner low (m ∷ ms) few room at =
    let id : entry_number number 0 m.index ≡ 64 * number + m.index = omega (arith, few, at.1) in (
      stage_small (entry_number number 0 m.index) (omega (arith, few, at.1)),
      omega (arith, id, at.0),
      ascends_lower (2 * entry_number number 0 m.index + 1) (128 * number + 2 * (m.index + 1)) (128 * number + 16) (map (send_of number owner) ms)
          (omega (arith, id)) (sends_ascend number owner (m.index + 1) ms few (omega (arith, at.1)) at.2),
    )

receives_ascend : (versions : Versions) (number : ℕ) (owner : Worker) (low : ℕ) (ms : List _) → number < 1024 → low ≤ 8 → AreIndexed low 8 ms
    → RanksAscend (128 * number + 16 + 2 * low) (128 * number + 32) (map (receive_of versions number owner) ms)
receives_ascend versions number owner low [] few room at = omega (arith, room)
receives_ascend versions number owner low (m ∷ ms) few room at =
    let id : entry_number number 1 m.index ≡ 64 * number + 8 + m.index = omega (arith, few, at.1) in (
      stage_small (entry_number number 1 m.index) (omega (arith, few, at.1)),
      omega (arith, id, at.0),
      ascends_lower (2 * entry_number number 1 m.index + 1 + 1) (128 * number + 16 + 2 * (m.index + 1)) (128 * number + 32)
          (map (receive_of versions number owner) ms) (omega (arith, id))
          (receives_ascend versions number owner (m.index + 1) ms few (omega (arith, at.1)) at.2),
    )

task_ascends : (versions : Versions) (task : Task) (number position : ℕ) (owner : Worker) → number < 1024 → length task.reads ≤ 8
    → RanksAscend (128 * number) (128 * (number + 1)) (ranked_task versions task number position owner)
task_ascends versions task number position owner few short =
    let ms = moves versions owner [] task.reads in
    let at : AreIndexed 0 8 ms = moves_indexed versions owner [] task.reads 8 (omega (arith, short)) in
    let sends : List (Worker × Command) = map (send_of number owner) ms in
    let receives : List (Worker × Command) = map (receive_of versions number owner) ms in
    let run : List (Worker × Command) = (owner, run_of task number position ms) ∷ [] in
    let id : entry_number number 4 0 ≡ 64 * number + 32 = omega (arith, few) in
    let last : RanksAscend (128 * number + 32) (128 * (number + 1)) run = (refl, omega (arith, id), omega (arith, id)) in
    ascends_then (128 * number) (128 * number + 16) (128 * (number + 1)) sends (receives ++ run)
    (ascends_lower (128 * number) (128 * number + 2 * 0) (128 * number + 16) sends (omega arith) (sends_ascend number owner 0 ms few (omega arith) at))
    (ascends_then (128 * number + 16) (128 * number + 32) (128 * (number + 1)) receives run
    (ascends_lower (128 * number + 16) (128 * number + 16 + 2 * 0) (128 * number + 32) receives (omega arith)
    (receives_ascend versions number owner 0 ms few (omega arith) at)) last)

-- each form reads few objects
abbrev pub AreShort : List TaskForm → Type 0
AreShort [] = Unit {0}
AreShort (form ∷ forms) = (length form.reads ≤ 8) × AreShort forms

pub ranked_ascend : (place : Placement) (live : List Bool) (base : ℕ) (args : List ℤ) (number : ℕ) (versions : Versions) (forms : List TaskForm)
    → number + length forms ≤ 1024 → AreShort forms
    → RanksAscend (128 * number) (128 * (number + length forms)) (ranked_from place live base args number versions forms)
ranked_ascend place live base args number versions [] few short = omega arith
ranked_ascend place live base args number versions (form ∷ forms) few short =
    let task : Task = task_with args form in
    let owner : Worker = home_of place versions.objects live form in
    let after : Versions = after_commands versions (scheduled versions task number (counted_from base number) place live) in
    subst (λ (n : ℕ). RanksAscend (128 * number) (128 * n) (ranked_from place live base args number versions (form ∷ forms))) (omega arith)
    (ascends_then (128 * number) (128 * (number + 1)) (128 * (number + 1 + length forms))
    (ranked_task versions task number (counted_from base number) owner) (ranked_from place live base args (number + 1) after forms)
    (task_ascends versions task number (counted_from base number) owner (omega (arith, few)) short.0)
    (ranked_ascend place live base args (number + 1) after forms (omega (arith, few)) short.1))

pub closings_ascend : (base : ℕ) (args : List ℤ) (copy : ℕ) (cs : List Closing) → copy + length cs ≤ 8192
    → RanksAscend (2 * (65536 + copy)) (2 * (65536 + copy + length cs)) (map (command_at base args) (closing_entries copy cs))
closings_ascend base args copy [] few = omega arith
closings_ascend base args copy (c ∷ cs) few =
    let id : closing_number copy ≡ 65536 + copy = omega (arith, few) in
    let stage = stage_small (closing_number copy) (omega (arith, few)) in (
      stage,
      omega (arith, id),
      (
        stage,
        omega (arith, id),
        ascends_lower (2 * closing_number copy + 1 + 1) (2 * (65536 + (copy + 1))) (2 * (65536 + copy + length (c ∷ cs)))
            (map (command_at base args) (closing_entries (copy + 1) cs)) (omega (arith, id))
            (subst (λ (n : ℕ). RanksAscend (2 * (65536 + (copy + 1))) (2 * n) (map (command_at base args) (closing_entries (copy + 1) cs))) (omega arith)
            (closings_ascend base args (copy + 1) cs (omega (arith, few)))),
      ),
    )

-- ---- runs

abbrev pub runs_of : List (Worker × Command) → List (Worker × ℕ)
runs_of commands = flat_map (λ (c : Worker × Command). run_by c.0 c.1.kind) commands

sends_run_none : (number : ℕ) (owner : Worker) (ms : List _) → runs_of (map (send_of number owner) ms) ≡ []
sends_run_none number owner [] = refl
sends_run_none number owner (m ∷ ms) = sends_run_none number owner ms

receives_run_none : (versions : Versions) (number : ℕ) (owner : Worker) (ms : List _) → runs_of (map (receive_of versions number owner) ms) ≡ []
receives_run_none versions number owner [] = refl
receives_run_none versions number owner (m ∷ ms) = receives_run_none versions number owner ms

task_runs : (versions : Versions) (task : Task) (number position : ℕ) (owner : Worker)
    → runs_of (ranked_task versions task number position owner) ≡ (owner, position) ∷ []
task_runs versions task number position owner =
    let ms = moves versions owner [] task.reads in
    let sends : List (Worker × Command) = map (send_of number owner) ms in
    let receives : List (Worker × Command) = map (receive_of versions number owner) ms in
    let run : List (Worker × Command) = (owner, run_of task number position ms) ∷ [] in
    let of_run : Worker × Command → List (Worker × ℕ) = λ c. run_by c.0 c.1.kind in
    flat_map-append of_run sends (receives ++ run)
    ∙ ap₂ (λ (xs ys : List (Worker × ℕ)). xs ++ ys) (sends_run_none number owner ms)
    (flat_map-append of_run receives run
    ∙ ap (λ (xs : List (Worker × ℕ)). xs ++ (owner, position) ∷ []) (receives_run_none versions number owner ms))

pub ranked_runs : (place : Placement) (live : List Bool) (base : ℕ) (args : List ℤ) (number objects : ℕ) (versions : Versions) (forms : List TaskForm)
    → versions.objects ≡ objects → base + number + length forms < 2 ^ 64
    → runs_of (ranked_from place live base args number versions forms) ≡ owned_from (base + number) (map (home_of place objects live) forms)
ranked_runs place live base args number objects versions [] columns room = refl
ranked_runs place live base args number objects versions (form ∷ forms) columns room =
    let task : Task = task_with args form in
    let owner : Worker = home_of place versions.objects live form in
    let commands : List (Worker × Command) = scheduled versions task number (counted_from base number) place live in
    let after : Versions = after_commands versions commands in
    let of_run : Worker × Command → List (Worker × ℕ) = λ c. run_by c.0 c.1.kind in
    let position : counted_from base number ≡ base + number = omega (arith, room) in
    let like = like_commands commands versions in
    let rest : List TaskForm = forms in
    flat_map-append of_run (ranked_task versions task number (counted_from base number) owner) (ranked_from place live base args (number + 1) after forms)
    ∙ ap₂ (λ (xs ys : List (Worker × ℕ)). xs ++ ys)
    (task_runs versions task number (counted_from base number) owner
    ∙ ap₂ (λ (n p : ℕ). (home_of place n live form, p) ∷ []) columns position)
    (ranked_runs place live base args (number + 1) objects after forms (like.objects ∙ columns) (omega (arith, room))
    ∙ ap (λ (p : ℕ). owned_from p (map (home_of place objects live) rest)) (omega arith))

pub closing_runs : (base : ℕ) (args : List ℤ) (copy : ℕ) (cs : List Closing) → runs_of (map (command_at base args) (closing_entries copy cs)) ≡ []
closing_runs base args copy [] = refl
closing_runs base args copy (c ∷ cs) = closing_runs base args (copy + 1) cs
