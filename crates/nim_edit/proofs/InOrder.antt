-- The commands of an instance by rank, once tasks moved: task by task those of its first phases as built, and then those of
-- the later ones at its home and its owner.
use Rattle.std.proofs.Common.{◌≡◌, ℕ, zero, suc, ◌+◌, ◌≤◌, ◌<◌, Bool, true, false, List, [], ◌∷◌, ◌++◌, length, map, refl, ap, ap₂, sym, subst, ◌∙◌, arith}
use Rattle.std.proofs.Common.{inl, inr}
use Rattle.std.specs.Prelude.{◌*◌, ◌==◌, ◌⊎◌, nat_le, nat_lt, not, if◌then◌else◌, slice_index_or, ℤ}
use Rattle.std.specs.List.{filter, flat_map, range_with_len}
use Rattle.std.proofs.lemmas.Bool.{cases_lt, eq-eqb, eqb-true, ltb-true, ne_eqb}
use Rattle.std.proofs.lemmas.List.{append-nil, get_or_past, map-append}
use Rattle.nim_base.specs.declared.number.Object.{Object}
use Rattle.nim_base.specs.declared.number.Worker.{Worker}
use Rattle.nim_command.specs.declared.command.Command.{Command}
use Rattle.nim_command.specs.declared.edit.Edit.TheVariants.{Away, Here}
use Rattle.nim_command.specs.declared.edit.Spec.{Spec}
use Rattle.nim_command.specs.declared.entry.Entry.{Entry}
use Rattle.nim_command.specs.declared.template.WorkerTemplate.{WorkerTemplate}
use Rattle.nim_command.specs.Edits.{put_by, run_over}
use Rattle.nim_place.specs.Sound.{commands_of_half, commands_from}
use Rattle.nim_place.specs.Stands.{commands_for}
use Rattle.nim_place.proofs.Held.{for_append}
use Rattle.nim_template.specs.Built.{entries_for}
use Rattle.nim_template.specs.Tasks.{without_before}
use Rattle.nim_template.proofs.Sames.{AreSame}
use Rattle.nim_edit.specs.Form.{IsInForm, is_worker_below}
use Rattle.nim_edit.specs.Halves.{edited_half}
use Rattle.nim_edit.specs.Moves.{mask_for, spec_of, worker_at}
use Rattle.nim_edit.proofs.Between.{all_onward, onward}
use Rattle.nim_edit.proofs.Cells.{bare}
use Rattle.nim_edit.proofs.ByRule.{half_at}
use Rattle.nim_edit.proofs.Forms.{halves_long}
use Rattle.nim_edit.proofs.Leaves.{command_named, commands_named}
use Rattle.nim_edit.proofs.Migrations.{all_at}
use Rattle.nim_edit.proofs.Segments.{IsHalf, early_of, half_all, late_half, segment_of, segments}
use Rattle.nim_edit.proofs.LateEntries.{late_entries, late_for}

-- ---- commands

-- what an entry asks for, its before set aside
abbrev pub bare_command : (Object → ℕ) → ℕ → List ℤ → Entry → Command
bare_command before base args entry = without_before (command_named before base args entry)

abbrev pub placed_command : (Object → ℕ) → ℕ → List ℤ → Worker × Entry → Worker × Command
placed_command before base args e = (e.0, bare_command before base args e.1)

-- the commands of a task's later phases
abbrev pub late_commands : WorkerTemplate → (Object → ℕ) → ℕ → List ℤ → ℕ → List (Worker × Command)
late_commands template before base args task = map (placed_command before base args) (late_entries template (worker_at template.owners task) task)

-- commands of numbers below one, and from one on
abbrev pub commands_under : ℕ → List (Worker × Command) → List (Worker × Command)
commands_under high commands = filter (λ (c : Worker × Command). not (nat_le high c.1.id)) commands

abbrev pub commands_onward : ℕ → List (Worker × Command) → List (Worker × Command)
commands_onward low commands = filter (λ (c : Worker × Command). not (nat_lt c.1.id low)) commands

-- those of a task's first phases
abbrev pub early_commands : ℕ → List (Worker × Command) → List (Worker × Command)
early_commands task commands = commands_under (64 * task + 16) (commands_onward (64 * task) commands)

abbrev pub task_commands : WorkerTemplate → (Object → ℕ) → ℕ → List ℤ → List (Worker × Command) → ℕ → List (Worker × Command)
task_commands template before base args listed task = early_commands task listed ++ late_commands template before base args task

-- those of so many tasks from one on, and those behind all tasks
abbrev pub commands_in_order : WorkerTemplate → (Object → ℕ) → ℕ → List ℤ → List (Worker × Command) → ℕ → ℕ → List (Worker × Command)
commands_in_order template before base args listed from n =
    flat_map (task_commands template before base args listed) (range_with_len from n) ++ commands_onward (64 * length template.forms) listed

-- ---- worker by worker

filter_map : {X Y : Type 0} (f : X → Y) (p : Y → Bool) (q : X → Bool) → ((x : X) → p (f x) ≡ q x) → (xs : List X)
    → filter p (map f xs) ≡ map f (filter q xs)
filter_map f p q same [] = refl
filter_map {X} {Y} f p q same (x ∷ xs) =
    ap (λ (b : Bool). if b then f x ∷ filter p (map f xs) else filter p (map f xs)) (same x) ∙ either (q x) (filter_map f p q same xs) where
      either : (b : Bool) → filter p (map f xs) ≡ map f (filter q xs)
          → (if b then f x ∷ filter p (map f xs) else filter p (map f xs)) ≡ map f (if b then x ∷ filter q xs else filter q xs)
      either true rest = ap (λ (ys : List Y). f x ∷ ys) rest
      either false rest = rest

for_filter : (q : ℕ → Bool) (worker : Worker) (cs : List (Worker × Command))
    → commands_for worker (filter (λ (c : Worker × Command). q c.1.id) cs) ≡ filter (λ (c : Command). q c.id) (commands_for worker cs)
for_filter q worker [] = refl
for_filter q worker (c ∷ cs) = either (q c.1.id) refl (c.0.0 == worker.0) refl (for_filter q worker cs) where
  mine : List (Worker × Command) → List (Worker × Command)
  mine xs = filter (λ (d : Worker × Command). d.0.0 == worker.0) xs

  passed : List (Worker × Command)
  passed = filter (λ (d : Worker × Command). q d.1.id) cs

  only : List (Worker × Command) → List Command
  only xs = map (λ (d : Worker × Command). d.1) xs

  either : (a : Bool) → q c.1.id ≡ a → (b : Bool) → (c.0.0 == worker.0) ≡ b
      → commands_for worker passed ≡ filter (λ (d : Command). q d.id) (commands_for worker cs)
      → commands_for worker (if a then c ∷ passed else passed) ≡ filter (λ (d : Command). q d.id) (only (if b then c ∷ mine cs else mine cs))
  either true passes true here rest =
      ap (λ (b : Bool). only (if b then c ∷ mine passed else mine passed)) here
      ∙ ap (λ (ds : List Command). c.1 ∷ ds) rest
      ∙ sym (ap (λ (b : Bool). if b then c.1 ∷ filter (λ (d : Command). q d.id) (commands_for worker cs) else filter (λ (d : Command). q d.id)
      (commands_for worker cs)) passes)
  either true passes false there rest = ap (λ (b : Bool). only (if b then c ∷ mine passed else mine passed)) there ∙ rest
  either false fails true here rest =
      rest
      ∙ sym (ap (λ (b : Bool). if b then c.1 ∷ filter (λ (d : Command). q d.id) (commands_for worker cs) else filter (λ (d : Command). q d.id)
      (commands_for worker cs)) fails)
  either false fails false there rest = rest

-- a worker's commands are those of these entries, before sets aside
abbrev pub AreOfHalf : (Object → ℕ) → ℕ → List ℤ → Worker → List (Worker × Command) → List Entry → Type 0
AreOfHalf before base args worker commands entries = map without_before (commands_for worker commands) ≡ map (bare_command before base args) entries

half_filter : (before : Object → ℕ) (base : ℕ) (args : List ℤ) (worker : Worker) (q : ℕ → Bool) (cs : List (Worker × Command)) (es : List Entry)
    → AreOfHalf before base args worker cs es
    → AreOfHalf before base args worker (filter (λ (c : Worker × Command). q c.1.id) cs) (filter (λ (e : Entry). q e.id) es)
half_filter before base args worker q cs es are =
    ap (map without_before) (for_filter q worker cs)
    ∙ sym (filter_map without_before (λ (c : Command). q c.id) (λ (c : Command). q c.id) (λ c. refl) (commands_for worker cs))
    ∙ ap (filter (λ (c : Command). q c.id)) are
    ∙ filter_map (bare_command before base args) (λ (c : Command). q c.id) (λ (e : Entry). q e.id) (λ e. refl) es

half_append : (before : Object → ℕ) (base : ℕ) (args : List ℤ) (worker : Worker) (cs ds : List (Worker × Command)) (es fs : List Entry)
    → AreOfHalf before base args worker cs es → AreOfHalf before base args worker ds fs → AreOfHalf before base args worker (cs ++ ds) (es ++ fs)
half_append before base args worker cs ds es fs first second =
    ap (map without_before) (for_append worker cs ds)
    ∙ map-append without_before (commands_for worker cs) (commands_for worker ds)
    ∙ ap₂ (λ (xs ys : List Command). xs ++ ys) first second
    ∙ sym (map-append (bare_command before base args) es fs)

bare_again : (before : Object → ℕ) (base : ℕ) (args : List ℤ) (es : List Entry)
    → map (bare_command before base args) (map bare es) ≡ map (bare_command before base args) es
bare_again before base args [] = refl
bare_again before base args (e ∷ es) = ap (λ (cs : List Command). bare_command before base args e ∷ cs) (bare_again before base args es)

half_bare : (before : Object → ℕ) (base : ℕ) (args : List ℤ) (worker : Worker) (cs : List (Worker × Command)) (es : List Entry)
    → AreOfHalf before base args worker cs es → AreOfHalf before base args worker cs (map bare es)
half_bare before base args worker cs es are = are ∙ sym (bare_again before base args es)

-- the commands of entries at their workers
half_placed : (before : Object → ℕ) (base : ℕ) (args : List ℤ) (worker : Worker) (es : List (Worker × Entry))
    → AreOfHalf before base args worker (map (placed_command before base args) es) (entries_for worker es)
half_placed before base args worker [] = refl
half_placed before base args worker (e ∷ es) = either (e.0.0 == worker.0) (half_placed before base args worker es) where
  commands : List (Worker × Command)
  commands = filter (λ (c : Worker × Command). c.0.0 == worker.0) (map (placed_command before base args) es)

  entries : List (Worker × Entry)
  entries = filter (λ (d : Worker × Entry). d.0.0 == worker.0) es

  either : (b : Bool) → AreOfHalf before base args worker (map (placed_command before base args) es) (entries_for worker es)
      → map without_before (map (λ (c : Worker × Command). c.1) (if b then placed_command before base args e ∷ commands else commands))
      ≡ map (bare_command before base args) (map (λ (d : Worker × Entry). d.1) (if b then e ∷ entries else entries))
  either true rest = ap (λ (cs : List Command). bare_command before base args e.1 ∷ cs) rest
  either false rest = rest

-- those of a task's first phases
pub half_early : (before : Object → ℕ) (base : ℕ) (args : List ℤ) (worker : Worker) (listed : List (Worker × Command)) (built : List Entry)
    → AreOfHalf before base args worker listed built → (task : ℕ)
    → AreOfHalf before base args worker (early_commands task listed) (early_of task built)
half_early before base args worker listed built are task =
    half_filter before base args worker (λ n. not (nat_le (64 * task + 16) n)) (commands_onward (64 * task) listed) (onward (64 * task) built)
    (half_filter before base args worker (λ n. not (nat_lt n (64 * task))) listed built are)

-- and of its later ones
pub half_late : (template : WorkerTemplate) (before : Object → ℕ) (base : ℕ) (args : List ℤ) (worker : Worker) (task : ℕ)
    → AreOfHalf before base args worker (late_commands template before base args task) (late_half template (worker_at template.owners task) task worker)
half_late template before base args worker task =
    subst (AreOfHalf before base args worker (late_commands template before base args task)) (late_for template (worker_at template.owners task) task worker)
    (half_placed before base args worker (late_entries template (worker_at template.owners task) task))

-- of a task
half_task : (template : WorkerTemplate) (before : Object → ℕ) (base : ℕ) (args : List ℤ) (worker : Worker) (listed : List (Worker × Command))
    (built : List Entry)
    → AreOfHalf before base args worker listed built → (task : ℕ)
    → AreOfHalf before base args worker (task_commands template before base args listed task) (segment_of template built worker task)
half_task template before base args worker listed built are task =
    let owner : Worker = worker_at template.owners task in
    half_append before base args worker (early_commands task listed) (late_commands template before base args task) (map bare (early_of task built))
    (map bare (late_half template owner task worker))
    (half_bare before base args worker (early_commands task listed) (early_of task built) (half_early before base args worker listed built are task))
    (half_bare before base args worker (late_commands template before base args task) (late_half template owner task worker)
    (half_late template before base args worker task))

half_tasks : (template : WorkerTemplate) (before : Object → ℕ) (base : ℕ) (args : List ℤ) (worker : Worker) (listed : List (Worker × Command))
    (built : List Entry)
    → AreOfHalf before base args worker listed built → (from n : ℕ)
    → AreOfHalf before base args worker (flat_map (task_commands template before base args listed) (range_with_len from n))
    (flat_map (segment_of template built worker) (range_with_len from n))
half_tasks template before base args worker listed built are from zero = refl
half_tasks template before base args worker listed built are from (suc n) =
    half_append before base args worker (task_commands template before base args listed from)
    (flat_map (task_commands template before base args listed) (range_with_len (from + 1) n)) (segment_of template built worker from)
    (flat_map (segment_of template built worker) (range_with_len (from + 1) n))
    (half_task template before base args worker listed built are from) (half_tasks template before base args worker listed built are (from + 1) n)

-- ---- all halves

pub commands_of_one : (worker : Worker) (number : ℕ) (cs : List Command) (b : Bool) → (number == worker.0) ≡ b
    → commands_for worker (map (λ (c : Command). (let here : Worker = record { 0 = number } in (here, c))) cs) ≡ (if b then cs else [])
commands_of_one worker number [] true is = refl
commands_of_one worker number [] false is = refl
commands_of_one worker number (c ∷ cs) true is =
    let here : Worker = record { 0 = number } in
    let others : List (Worker × Command) = filter (λ (d : Worker × Command). d.0.0 == worker.0) (map (λ (d : Command). (here, d)) cs) in
    ap (λ (b : Bool). map (λ (d : Worker × Command). d.1) (if b then (here, c) ∷ others else others)) is
    ∙ ap (λ (ds : List Command). c ∷ ds) (commands_of_one worker number cs true is)
commands_of_one worker number (c ∷ cs) false is =
    let here : Worker = record { 0 = number } in
    let others : List (Worker × Command) = filter (λ (d : Worker × Command). d.0.0 == worker.0) (map (λ (d : Command). (here, d)) cs) in
    ap (λ (b : Bool). map (λ (d : Worker × Command). d.1) (if b then (here, c) ∷ others else others)) is
    ∙ commands_of_one worker number cs false is

named_bare : (before : Object → ℕ) (base : ℕ) (args : List ℤ) (half : List Entry)
    → map without_before (map (command_named before base args) half) ≡ map (bare_command before base args) half
named_bare before base args [] = refl
named_bare before base args (e ∷ half) = ap (λ (cs : List Command). bare_command before base args e ∷ cs) (named_bare before base args half)

one_half : (before : Object → ℕ) (base : ℕ) (args : List ℤ) (worker : Worker) (number : ℕ) (half : List Entry) (b : Bool) → (number == worker.0) ≡ b
    → AreOfHalf before base args worker (commands_of_half before base args (record { 0 = number }) half) (if b then half else [])
one_half before base args worker number half b is =
    ap (λ (cs : List Command). map without_before (commands_for worker (map (λ (c : Command). (let here : Worker = record { 0 = number } in (here, c))) cs)))
    (commands_named before base args [] half)
    ∙ ap (map without_before) (commands_of_one worker number (map (command_named before base args) half) b is)
    ∙ either b where
      either : (b : Bool) → map without_before (if b then map (command_named before base args) half else [])
          ≡ map (bare_command before base args) (if b then half else [])
      either true = named_bare before base args half
      either false = refl

none_of : (before : Object → ℕ) (base : ℕ) (args : List ℤ) (worker : Worker) (number : ℕ) (halves : List (List Entry)) → worker.0 < number
    → AreOfHalf before base args worker (commands_from before base args number halves) []
none_of before base args worker number [] below = refl
none_of before base args worker number (half ∷ halves) below =
    half_append before base args worker (commands_of_half before base args (record { 0 = number }) half)
    (commands_from before base args (number + 1) halves) [] []
    (one_half before base args worker number half false (ne_eqb number worker.0 (λ same. absurd (omega (arith, same, below)))))
    (none_of before base args worker (number + 1) halves (omega (arith, below)))

half_from : (before : Object → ℕ) (base : ℕ) (args : List ℤ) (worker : Worker) (number i : ℕ) (halves : List (List Entry)) → worker.0 ≡ number + i
    → AreOfHalf before base args worker (commands_from before base args number halves) (slice_index_or halves i [])
half_from before base args worker number zero [] at = refl
half_from before base args worker number (suc i) [] at = refl
half_from before base args worker number zero (half ∷ halves) at =
    subst (AreOfHalf before base args worker (commands_from before base args number (half ∷ halves))) (append-nil half)
    (half_append before base args worker (commands_of_half before base args (record { 0 = number }) half)
    (commands_from before base args (number + 1) halves) half
    []
    (one_half before base args worker number half true (eq-eqb number worker.0 (omega (arith, at))))
    (none_of before base args worker (number + 1) halves (omega (arith, at))))
half_from before base args worker number (suc i) (half ∷ halves) at =
    half_append before base args worker (commands_of_half before base args (record { 0 = number }) half) (commands_from before base args (number + 1) halves) []
    (slice_index_or halves i [])
    (one_half before base args worker number half false (ne_eqb number worker.0 (λ same. absurd (omega (arith, same, at)))))
    (half_from before base args worker (number + 1) i halves (omega (arith, at)))

-- the commands of halves are, worker by worker, those of its half
pub commands_halves : (before : Object → ℕ) (base : ℕ) (args : List ℤ) (worker : Worker) (halves : List (List Entry))
    → AreOfHalf before base args worker (commands_from before base args 0 halves) (slice_index_or halves worker.0 [])
commands_halves before base args worker halves = half_from before base args worker 0 worker.0 halves (omega arith)

-- a worker that isn't there has no segments
no_segments : (template : WorkerTemplate) → IsInForm template → (worker : Worker) → length template.built ≤ worker.0 → (from n : ℕ)
    → from + n ≤ length template.forms → flat_map (segment_of template [] worker) (range_with_len from n) ≡ []
no_segments template form worker past from zero few = refl
no_segments template form worker past from (suc n) few =
    ap₂ (λ (xs ys : List Entry). map bare xs ++ ys)
    (chosen (owner.0 == home.0) (worker.0 == home.0) refl (worker.0 == owner.0) refl)
    (no_segments template form worker past (from + 1) n (omega (arith, few))) where
      home : Worker
      home = worker_at template.homes from

      owner : Worker
      owner = worker_at template.owners from

      spec : Spec
      spec = spec_of template.forms from

      mask : ℕ
      mask = mask_for template from owner

      home_below : home.0 < length template.built
      home_below =
          ltb-true home.0 (length template.built)
          (all_at (is_worker_below (length template.built)) template.homes from (record { 0 = 0 }) form.placed (omega (arith, form.homes, few)))

      owner_below : owner.0 < length template.built
      owner_below =
          ltb-true owner.0 (length template.built)
          (all_at (is_worker_below (length template.built)) template.owners from (record { 0 = 0 }) form.owned (omega (arith, form.owners, few)))

      chosen : (a b : Bool) → (worker.0 == home.0) ≡ b → (c : Bool) → (worker.0 == owner.0) ≡ c
          → (if a then (if b then run_over false from spec ∷ [] else [])
          else if b then put_by (Away from owner mask spec) else if c then put_by (Here from home mask spec) else []) ≡ []
      chosen a true at_home c at_owner = absurd (omega (arith, past, home_below, eqb-true worker.0 home.0 at_home))
      chosen a false at_home true at_owner = absurd (omega (arith, past, owner_below, eqb-true worker.0 owner.0 at_owner))
      chosen true false at_home false at_owner = refl
      chosen false false at_home false at_owner = refl

-- So the commands of a template in form are those of its tasks in order, worker by worker, by commands that are those of
-- what was built.
pub in_order_same : (template : WorkerTemplate) → IsInForm template → (before : Object → ℕ) (base : ℕ) (args : List ℤ) (listed : List (Worker × Command))
    → ((worker : Worker) → AreOfHalf before base args worker listed (slice_index_or template.built worker.0 []))
    → AreSame (commands_from before base args 0 template.halves) (commands_in_order template before base args listed 0 (length template.forms))
in_order_same template form before base args listed are worker =
    commands_halves before base args worker template.halves
    ∙ either (cases_lt worker.0 (length template.built))
    ∙ sym (half_append before base args worker (flat_map (task_commands template before base args listed) (range_with_len 0 n))
    (commands_onward (64 * n) listed)
    (flat_map (segment_of template built worker) (range_with_len 0 n)) (map bare (onward (64 * n) built))
    (half_tasks template before base args worker listed built (are worker) 0 n)
    (half_bare before base args worker (commands_onward (64 * n) listed) (onward (64 * n) built)
    (half_filter before base args worker (λ number. not (nat_lt number (64 * n))) listed built (are worker)))) where
      n : ℕ
      n = length template.forms

      built : List Entry
      built = slice_index_or template.built worker.0 []

      half : List Entry
      half = edited_half template template.owners worker

      asked : List Entry → List Command
      asked es = map (bare_command before base args) es

      all : List Entry → List Entry
      all from = flat_map (segment_of template from worker) (range_with_len 0 n) ++ map bare (onward (64 * n) from)

      none : 64 * 0 ≡ 0
      none = omega arith

      either : (worker.0 < length template.built) ⊎ (length template.built ≤ worker.0)
          → asked (slice_index_or template.halves worker.0 []) ≡ asked (flat_map (segment_of template built worker) (range_with_len 0 n)
          ++ map bare (onward (64 * n) built))
      either (inl below) =
          let is : IsHalf template worker = record { form = form; below = below } in
          ap asked (half_at template form worker.0 below)
          ∙ sym (bare_again before base args half)
          ∙ ap asked (ap (map bare) (sym (all_onward 0 0 half (half_all template worker is).ascend (omega arith)))
          ∙ ap (λ (low : ℕ). map bare (onward low half)) (sym none)
          ∙ segments template worker is 0 n (omega arith))
      either (inr past) =
          ap asked (get_or_past template.halves worker.0 [] (omega (arith, halves_long template form, past)))
          ∙ sym (ap (λ (from : List Entry). asked (all from)) (get_or_past template.built worker.0 [] past)
          ∙ ap (λ (es : List Entry). asked (es ++ [])) (no_segments template form worker past 0 n (omega arith)))
