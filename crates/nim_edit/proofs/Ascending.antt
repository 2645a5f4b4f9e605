-- The commands of an instance whose tasks moved, task by task, ascend by rank.
use Rattle.std.proofs.Common.{◌≡◌, ℕ, zero, suc, ◌+◌, ◌≤◌, ◌<◌, Bool, true, false, List, [], ◌∷◌, ◌++◌, length, map, refl, ap, sym, subst, ◌∙◌, arith}
use Rattle.std.specs.Prelude.{◌*◌, ◌==◌, nat_le, nat_lt, not, if◌then◌else◌, ℤ}
use Rattle.std.specs.List.{filter, flat_map, range_with_len}
use Rattle.std.proofs.lemmas.Bool.{leb-false, leb-true, ltb-false}
use Rattle.std.proofs.lemmas.List.{append_assoc, map-append}
use Rattle.nim_base.specs.declared.number.Object.{Object}
use Rattle.nim_base.specs.declared.number.Worker.{Worker}
use Rattle.nim_command.specs.declared.command.Command.{Command}
use Rattle.nim_command.specs.declared.edit.Spec.{Spec}
use Rattle.nim_command.specs.declared.entry.Entry.{Entry}
use Rattle.nim_command.specs.declared.entry.EntryKind.{EntryKind}
use Rattle.nim_command.specs.declared.template.WorkerTemplate.{WorkerTemplate}
use Rattle.nim_command.specs.Edits.{first_reads, forward_receive, forward_send, return_receives, return_sends, run_over}
use Rattle.nim_command.specs.Expansion.{kind_for}
use Rattle.nim_command.specs.Numbers.{entry_number}
use Rattle.nim_command.specs.Ranks.{is_later, rank_stage}
use Rattle.nim_template.proofs.ByRank.{RanksAscend, ascends_lower, ascends_then, order_of}
use Rattle.nim_edit.specs.Form.{IsInForm}
use Rattle.nim_edit.specs.Moves.{mask_for, spec_of, worker_at}
use Rattle.nim_edit.proofs.InOrder.{bare_command, commands_in_order, commands_onward, commands_under, early_commands, late_commands}
use Rattle.nim_edit.proofs.LateEntries.{at_worker}
use Rattle.nim_edit.proofs.InOrder.{placed_command, task_commands}
use Rattle.nim_edit.proofs.Leaves.{named}
use Rattle.nim_edit.proofs.Migrations.{task_short}
use Rattle.nim_edit.proofs.Puts.{AreOf, FirstRead, Indexed, IsShort, filter_indexed, first_indexed, receives_of, return_receives_of, return_sends_of, sends_of}

pub order_bounds : (c : Command) → (2 * c.id ≤ order_of c) × (order_of c ≤ 2 * c.id + 1)
order_bounds c = either (is_later c.kind) where
  either : (b : Bool) → (2 * c.id ≤ (if b then 2 * c.id + 1 else 2 * c.id)) × ((if b then 2 * c.id + 1 else 2 * c.id) ≤ 2 * c.id + 1)
  either true = (omega arith, omega arith)
  either false = (omega arith, omega arith)

filter_ranks : (p : Worker × Command → Bool) (low high : ℕ) (cs : List (Worker × Command)) → RanksAscend low high cs → RanksAscend low high (filter p cs)
filter_ranks p low high [] are = are
filter_ranks p low high (c ∷ cs) are = either (p c) (filter_ranks p (order_of c.1 + 1) high cs are.2) where
  either : (b : Bool) → RanksAscend (order_of c.1 + 1) high (filter p cs) → RanksAscend low high (if b then c ∷ filter p cs else filter p cs)
  either true rest = (are.0, are.1, rest)
  either false rest = ascends_lower low (order_of c.1 + 1) high (filter p cs) (omega (arith, are.1)) rest

-- each is between two ranks
abbrev AreWithin : ℕ → ℕ → List (Worker × Command) → Type 0
AreWithin low high [] = Unit {0}
AreWithin low high (c ∷ cs) = (low ≤ order_of c.1) × (order_of c.1 + 1 ≤ high) × AreWithin low high cs

lower_end : (from low high less : ℕ) (cs : List (Worker × Command)) → RanksAscend from high cs → from ≤ less → AreWithin low less cs → RanksAscend from less cs
lower_end from low high less [] are above within = above
lower_end from low high less (c ∷ cs) are above within =
    (are.0, are.1, lower_end (order_of c.1 + 1) low high less cs are.2 within.1 within.2)

ranks_within : (from low high less : ℕ) (cs : List (Worker × Command)) → RanksAscend from high cs → low ≤ less → AreWithin low less cs → RanksAscend low less cs
ranks_within from low high less [] are above within = above
ranks_within from low high less (c ∷ cs) are above within =
    (are.0, within.0, lower_end (order_of c.1 + 1) low high less cs are.2 within.1 within.2)

early_within : (task : ℕ) (cs : List (Worker × Command)) → AreWithin (128 * task) (128 * task + 32) (early_commands task cs)
early_within task [] = tt
early_within task (c ∷ cs) = first (nat_lt c.1.id (64 * task)) refl (early_within task cs) where
  low : ℕ
  low = 64 * task

  high : ℕ
  high = 64 * task + 16

  second : (b : Bool) → nat_le high c.1.id ≡ b → low ≤ c.1.id → AreWithin (128 * task) (128 * task + 32) (early_commands task cs)
      → AreWithin (128 * task) (128 * task + 32) (if not b then c ∷ early_commands task cs else early_commands task cs)
  second true is above rest = rest
  second false is above rest =
      let bounds = order_bounds c.1 in
      let below : c.1.id < high = leb-false high c.1.id is in
      (omega (arith, bounds.0, above), omega (arith, bounds.1, below), rest)

  first : (b : Bool) → nat_lt c.1.id (64 * task) ≡ b → AreWithin (128 * task) (128 * task + 32) (early_commands task cs)
      → AreWithin (128 * task) (128 * task + 32) (commands_under (64 * task + 16) (if not b then c ∷ commands_onward (64 * task) cs
      else commands_onward (64 * task) cs))
  first true is rest = rest
  first false is rest = second (nat_le high c.1.id) refl (ltb-false c.1.id low is) rest

early_ascends : (task low high : ℕ) (cs : List (Worker × Command)) → RanksAscend low high cs
    → RanksAscend (128 * task) (128 * task + 32) (early_commands task cs)
early_ascends task low high cs are =
    ranks_within low (128 * task) high (128 * task + 32) (early_commands task cs)
    (filter_ranks (λ (c : Worker × Command). not (nat_le (64 * task + 16) c.1.id)) low high (commands_onward (64 * task) cs)
    (filter_ranks (λ (c : Worker × Command). not (nat_lt c.1.id (64 * task))) low high cs are)) (omega arith) (early_within task cs)

abbrev stage_if : Bool → ℕ
stage_if b = if b then 2 else 3

-- a command of a low number is of the last stage
last_stage : (before : Object → ℕ) (base : ℕ) (args : List ℤ) (e : Entry) → e.id < 131072
    → rank_stage (bare_command before base args e).id (bare_command before base args e).kind ≡ 3
last_stage before base args e few = by_kind e.kind where
  small : stage_if (nat_le 131072 e.id) ≡ 3
  small = either (nat_le 131072 e.id) refl where
    either : (b : Bool) → nat_le 131072 e.id ≡ b → stage_if b ≡ 3
    either true is = absurd (omega (arith, few, leb-true 131072 e.id is))
    either false is = refl

  by_kind : (kind : EntryKind) → rank_stage e.id (kind_for base args (named before kind) e.id kind) ≡ 3
  by_kind (EntryKind.Send slot peer entry) = small
  by_kind (EntryKind.Receive slot offset) = small
  by_kind (EntryKind.Copy from to) = refl
  by_kind (EntryKind.Run func params reads writes) = refl

phase_ascends : (before : Object → ℕ) (base : ℕ) (args : List ℤ) (worker : Worker) (task phase low : ℕ) (es : List Entry) → task < 1024 → phase < 8 → low ≤ 8
    → AreOf task phase low es
    → RanksAscend (128 * task + 16 * phase + 2 * low) (128 * task + 16 * phase + 16) (map (placed_command before base args) (at_worker worker es))
phase_ascends before base args worker task phase low [] few below room are = omega (arith, room)
phase_ascends before base args worker task phase low (e ∷ es) few below room are =
    let command : Command = bare_command before base args e in
    let bounds = order_bounds command in
    let id : command.id ≡ 64 * task + 8 * phase + are.0 = omega (arith, few, below, are.2, are.3) in (
      last_stage before base args e (omega (arith, id, few, below, are.2)),
      omega (arith, bounds.0, id, are.1),
      ascends_lower (order_of command + 1) (128 * task + 16 * phase + 2 * (are.0 + 1)) (128 * task + 16 * phase + 16)
          (map (placed_command before base args) (at_worker worker es)) (omega (arith, bounds.1, id))
          (phase_ascends before base args worker task phase (are.0 + 1) es few below (omega (arith, are.2)) are.4),
    )

run_ascends : (before : Object → ℕ) (base : ℕ) (args : List ℤ) (worker : Worker) (task : ℕ) (spec : Spec) (scratch : Bool) → task < 1024
    → RanksAscend (128 * task + 64) (128 * task + 80) (map (placed_command before base args) ((worker, run_over scratch task spec) ∷ []))
run_ascends before base args worker task spec scratch few =
    let id : entry_number task 4 0 ≡ 64 * task + 32 = omega (arith, few) in (refl, omega (arith, id), omega (arith, id))

placed_append : (before : Object → ℕ) (base : ℕ) (args : List ℤ) (worker : Worker) (xs ys : List Entry)
    → map (placed_command before base args) (at_worker worker (xs ++ ys))
    ≡ map (placed_command before base args) (at_worker worker xs) ++ map (placed_command before base args) (at_worker worker ys)
placed_append before base args worker xs ys =
    ap (map (placed_command before base args)) (map-append (λ (e : Entry). (worker, e)) xs ys)
    ∙ map-append (placed_command before base args) (at_worker worker xs) (at_worker worker ys)

-- what a moved task asks for, part by part
abbrev pub away_commands : (Object → ℕ) → ℕ → List ℤ → Worker → Worker → ℕ → Spec → List FirstRead → List (Worker × Command)
away_commands before base args home owner task spec firsts =
    let placed : List (Worker × Entry) → List (Worker × Command) = map (placed_command before base args) in
    placed (at_worker home (map (forward_send task owner) (filter (λ (r : FirstRead). not r.there) firsts)))
    ++ (placed (at_worker owner (map (forward_receive task) firsts))
    ++ (placed ((owner, run_over true task spec) ∷ [])
    ++ (placed (at_worker owner (return_sends task home 0 spec.writes))
    ++ placed (at_worker home (return_receives task 0 spec.writes)))))

-- those of a task's later phases are the run at its home, or these
pub late_is : (template : WorkerTemplate) (before : Object → ℕ) (base : ℕ) (args : List ℤ) (task : ℕ) (a : Bool)
    → ((worker_at template.owners task).0 == (worker_at template.homes task).0) ≡ a
    → late_commands template before base args task
    ≡ (if a then map (placed_command before base args) ((worker_at template.homes task, run_over false task (spec_of template.forms task)) ∷ [])
    else away_commands before base args (worker_at template.homes task) (worker_at template.owners task) task (spec_of template.forms task)
    (first_reads [] (mask_for template task (worker_at template.owners task)) (spec_of template.forms task).reads))
late_is template before base args task a is =
    ap (λ (b : Bool). placed (if b then (home, run_over false task spec) ∷ [] else moved)) is ∙ either a where
      home : Worker
      home = worker_at template.homes task

      owner : Worker
      owner = worker_at template.owners task

      spec : Spec
      spec = spec_of template.forms task

      firsts : List FirstRead
      firsts = first_reads [] (mask_for template task owner) spec.reads

      placed : List (Worker × Entry) → List (Worker × Command)
      placed es = map (placed_command before base args) es

      sent : List (Worker × Entry)
      sent = at_worker home (map (forward_send task owner) (filter (λ (r : FirstRead). not r.there) firsts))

      came : List Entry
      came = map (forward_receive task) firsts

      back : List Entry
      back = return_sends task home 0 spec.writes

      got : List (Worker × Entry)
      got = at_worker home (return_receives task 0 spec.writes)

      moved : List (Worker × Entry)
      moved = sent ++ (at_worker owner (came ++ run_over true task spec ∷ back) ++ got)

      either : (b : Bool) → placed (if b then (home, run_over false task spec) ∷ [] else moved)
          ≡ (if b then placed ((home, run_over false task spec) ∷ []) else away_commands before base args home owner task spec firsts)
      either true = refl
      either false =
          map-append (placed_command before base args) sent (at_worker owner (came ++ run_over true task spec ∷ back) ++ got)
          ∙ ap (λ (cs : List (Worker × Command)). placed sent ++ cs)
          (map-append (placed_command before base args) (at_worker owner (came ++ run_over true task spec ∷ back)) got
          ∙ ap (λ (cs : List (Worker × Command)). cs ++ placed got) (placed_append before base args owner came (run_over true task spec ∷ back))
          ∙ append_assoc (placed (at_worker owner came)) (placed (at_worker owner (run_over true task spec ∷ back))) (placed got))

raise_end : (low mid high : ℕ) (cs : List (Worker × Command)) → mid ≤ high → RanksAscend low mid cs → RanksAscend low high cs
raise_end low mid high [] above are = omega (arith, above, are)
raise_end low mid high (c ∷ cs) above are = (are.0, are.1, raise_end (order_of c.1 + 1) mid high cs above are.2)

late_ascends : (template : WorkerTemplate) → IsInForm template → (before : Object → ℕ) (base : ℕ) (args : List ℤ) (task : ℕ) → task < length template.forms
    → RanksAscend (128 * task + 32) (128 * (task + 1)) (late_commands template before base args task)
late_ascends template form before base args task within = either (owner.0 == home.0) refl where
  home : Worker
  home = worker_at template.homes task

  owner : Worker
  owner = worker_at template.owners task

  spec : Spec
  spec = spec_of template.forms task

  few : task < 1024
  few = omega (arith, within, form.many)

  short : IsShort spec
  short = task_short template.forms task form.fit within

  firsts : List FirstRead
  firsts = first_reads [] (mask_for template task owner) spec.reads

  indexed : Indexed 0 firsts
  indexed = first_indexed [] (mask_for template task owner) 0 spec.reads refl (omega (arith, short.reads))

  lacking : List FirstRead
  lacking = filter (λ (r : FirstRead). not r.there) firsts

  placed : List (Worker × Entry) → List (Worker × Command)
  placed es = map (placed_command before base args) es

  phase : (worker : Worker) (number : ℕ) (es : List Entry) → number < 8 → AreOf task number 0 es
      → RanksAscend (128 * task + 16 * number) (128 * task + 16 * number + 16) (placed (at_worker worker es))
  phase worker number es below are =
      ascends_lower (128 * task + 16 * number) (128 * task + 16 * number + 2 * 0) (128 * task + 16 * number + 16) (placed (at_worker worker es)) (omega arith)
      (phase_ascends before base args worker task number 0 es few below (omega arith) are)

  at : (low high : ℕ) (less more : ℕ) (cs : List (Worker × Command)) → less ≤ low → high ≤ more → RanksAscend low high cs → RanksAscend less more cs
  at low high less more cs first second are = ascends_lower less low more cs first (raise_end low high more cs second are)

  either : (b : Bool) → (owner.0 == home.0) ≡ b → RanksAscend (128 * task + 32) (128 * (task + 1)) (late_commands template before base args task)
  either true is =
      subst (RanksAscend (128 * task + 32) (128 * (task + 1))) (sym (late_is template before base args task true is))
      (at (128 * task + 64) (128 * task + 80) (128 * task + 32) (128 * (task + 1)) (placed ((home, run_over false task spec) ∷ [])) (omega arith) (omega arith)
      (run_ascends before base args home task spec false few))
  either false is =
      let sends : List (Worker × Command) = placed (at_worker home (map (forward_send task owner) lacking)) in
      let receives : List (Worker × Command) = placed (at_worker owner (map (forward_receive task) firsts)) in
      let run : List (Worker × Command) = placed ((owner, run_over true task spec) ∷ []) in
      let back : List (Worker × Command) = placed (at_worker owner (return_sends task home 0 spec.writes)) in
      let got : List (Worker × Command) = placed (at_worker home (return_receives task 0 spec.writes)) in
      let writes : 0 + length spec.writes ≤ 8 = omega (arith, short.writes) in
      subst (RanksAscend (128 * task + 32) (128 * (task + 1))) (sym (late_is template before base args task false is))
      (ascends_then (128 * task + 32) (128 * task + 48) (128 * (task + 1)) sends (receives ++ (run ++ (back ++ got)))
      (at (128 * task + 16 * 2) (128 * task + 16 * 2 + 16) (128 * task + 32) (128 * task + 48) sends (omega arith) (omega arith)
      (phase home 2 (map (forward_send task owner) lacking) (omega arith)
      (sends_of task owner 0 lacking (filter_indexed (λ (r : FirstRead). not r.there) 0 firsts indexed))))
      (ascends_then (128 * task + 48) (128 * task + 64) (128 * (task + 1)) receives (run ++ (back ++ got))
      (at (128 * task + 16 * 3) (128 * task + 16 * 3 + 16) (128 * task + 48) (128 * task + 64) receives (omega arith) (omega arith)
      (phase owner 3 (map (forward_receive task) firsts) (omega arith) (receives_of task 0 firsts indexed)))
      (ascends_then (128 * task + 64) (128 * task + 80) (128 * (task + 1)) run (back ++ got) (run_ascends before base args owner task spec true few)
      (ascends_then (128 * task + 80) (128 * task + 96) (128 * (task + 1)) back got
      (at (128 * task + 16 * 5) (128 * task + 16 * 5 + 16) (128 * task + 80) (128 * task + 96) back (omega arith) (omega arith)
      (phase owner 5 (return_sends task home 0 spec.writes) (omega arith) (return_sends_of task home 0 spec.writes writes)))
      (at (128 * task + 16 * 6) (128 * task + 16 * 6 + 16) (128 * task + 96) (128 * (task + 1)) got (omega arith) (omega arith)
      (phase home 6 (return_receives task 0 spec.writes) (omega arith) (return_receives_of task 0 spec.writes writes)))))))

tasks_ascend : (template : WorkerTemplate) → IsInForm template → (before : Object → ℕ) (base : ℕ) (args : List ℤ) (listed : List (Worker × Command))
    (low high : ℕ)
    → RanksAscend low high listed → (from n : ℕ) → from + n ≤ length template.forms
    → RanksAscend (128 * from) (128 * (from + n)) (flat_map (task_commands template before base args listed) (range_with_len from n))
tasks_ascend template form before base args listed low high are from zero few = omega arith
tasks_ascend template form before base args listed low high are from (suc n) few =
    let rest : List (Worker × Command) = flat_map (task_commands template before base args listed) (range_with_len (from + 1) n) in
    let later : RanksAscend (128 * (from + 1)) (128 * (from + suc n)) rest =
    subst (λ (k : ℕ). RanksAscend (128 * (from + 1)) (128 * k) rest) (omega arith)
    (tasks_ascend template form before base args listed low high are (from + 1) n (omega (arith, few))) in
    ascends_then (128 * from) (128 * (from + 1)) (128 * (from + suc n)) (task_commands template before base args listed from) rest
    (ascends_then (128 * from) (128 * from + 32) (128 * (from + 1)) (early_commands from listed) (late_commands template before base args from)
    (early_ascends from low high listed are) (late_ascends template form before base args from (omega (arith, few)))) later

-- each is from a rank on
abbrev AreFrom : ℕ → List (Worker × Command) → Type 0
AreFrom low [] = Unit {0}
AreFrom low (c ∷ cs) = (low ≤ order_of c.1) × AreFrom low cs

onward_from : (low : ℕ) (cs : List (Worker × Command)) → AreFrom (2 * low) (commands_onward low cs)
onward_from low [] = tt
onward_from low (c ∷ cs) = either (nat_lt c.1.id low) refl (onward_from low cs) where
  either : (b : Bool) → nat_lt c.1.id low ≡ b → AreFrom (2 * low) (commands_onward low cs)
      → AreFrom (2 * low) (if not b then c ∷ commands_onward low cs else commands_onward low cs)
  either true is rest = rest
  either false is rest = let bounds = order_bounds c.1 in (omega (arith, bounds.0, ltb-false c.1.id low is), rest)

raise_start : (from low high : ℕ) (cs : List (Worker × Command)) → RanksAscend from high cs → low ≤ high → AreFrom low cs → RanksAscend low high cs
raise_start from low high [] are above all = above
raise_start from low high (c ∷ cs) are above all = (are.0, all.0, are.2)

-- where those that were built do, the commands in order do
pub in_order_ascends : (template : WorkerTemplate) → IsInForm template → (before : Object → ℕ) (base : ℕ) (args : List ℤ) (listed : List (Worker × Command))
    (low high : ℕ) → 131072 ≤ high → RanksAscend low high listed
    → RanksAscend 0 high (commands_in_order template before base args listed 0 (length template.forms))
in_order_ascends template form before base args listed low high room are =
    let n : ℕ = length template.forms in
    let behind : List (Worker × Command) = commands_onward (64 * n) listed in
    ascends_lower 0 (128 * 0) high (commands_in_order template before base args listed 0 n) (omega arith)
    (ascends_then (128 * 0) (128 * (0 + n)) high (flat_map (task_commands template before base args listed) (range_with_len 0 n)) behind
    (tasks_ascend template form before base args listed low high are 0 n (omega arith))
    (subst (λ (from : ℕ). RanksAscend from high behind) (omega arith)
    (raise_start low (2 * (64 * n)) high behind (filter_ranks (λ (c : Worker × Command). not (nat_lt c.1.id (64 * n))) low high listed are)
    (omega (arith, room, form.many)) (onward_from (64 * n) listed))))
