-- What is sent in an instance whose tasks moved is received in the same order, and which tasks it runs.
use Rattle.std.proofs.Common.{◌≡◌, ℕ, zero, suc, ◌+◌, ◌≤◌, ◌<◌, Bool, true, false, List, [], ◌∷◌, ◌++◌, length, take, refl, ap, ap₂, sym, ◌∙◌, arith}
use Rattle.std.specs.Prelude.{◌^◌, ◌-◌, ◌==◌, slice_index_or, ℤ}
use Rattle.std.specs.List.{flat_map, range_with_len}
use Rattle.std.proofs.lemmas.List.Concat.{flat_map-append}
use Rattle.nim_base.specs.declared.number.Object.{Object}
use Rattle.nim_base.specs.declared.number.Worker.{Worker}
use Rattle.nim_base.specs.declared.task.TaskForm.{TaskForm}
use Rattle.nim_command.specs.declared.command.Command.{Command}
use Rattle.nim_command.specs.declared.edit.Spec.{Spec}
use Rattle.nim_command.specs.declared.template.WorkerTemplate.{WorkerTemplate}
use Rattle.nim_command.specs.Edits.{first_reads}
use Rattle.nim_command.specs.Numbers.{counted_from, entry_number, task_of}
use Rattle.nim_place.specs.Sound.{run_by}
use Rattle.nim_template.specs.Fits.{are_below, is_fit}
use Rattle.nim_template.proofs.Ranked.{runs_of}
use Rattle.nim_template.proofs.RankedEnds.{both_ends, ends_received, ends_sent}
use Rattle.nim_edit.specs.Form.{IsInForm}
use Rattle.nim_edit.specs.Masks.{is_left}
use Rattle.nim_edit.specs.Moves.{mask_for, no_task, spec_of, worker_at}
use Rattle.nim_edit.proofs.Ascending.{late_is}
use Rattle.nim_edit.proofs.Ends.{away_ends, early_ends}
use Rattle.nim_edit.proofs.InOrder.{early_commands, late_commands, task_commands}
use Rattle.nim_edit.proofs.Listed.{AreCopied}
use Rattle.nim_edit.proofs.Migrations.{all_at}
use Rattle.nim_edit.proofs.Turn.{form_objects, reads_low}
use Rattle.nim_edit.proofs.Parts.{copies_run, early_copies, late_run}
use Rattle.nim_edit.proofs.Puts.{task_is}
use Rattle.nim_edit.proofs.ReadFacts.{firsts_by, writes_low}

-- ---- what is sent and received

late_ends : (template : WorkerTemplate) → IsInForm template → (before : Object → ℕ) (base : ℕ) (args : List ℤ) (task : ℕ) → task < length template.forms
    → ends_sent (late_commands template before base args task) ≡ ends_received (late_commands template before base args task)
late_ends template form before base args task within = either (owner.0 == home.0) refl where
  home : Worker
  home = worker_at template.homes task

  owner : Worker
  owner = worker_at template.owners task

  spec : Spec
  spec = spec_of template.forms task

  given : TaskForm
  given = slice_index_or template.forms task no_task

  low : (are_below 512 given.writes ≡ true) × (are_below 512 given.reads ≡ true)
  low = form_objects given (all_at (is_fit 512) template.forms task no_task form.fit within)

  either : (b : Bool) → (owner.0 == home.0) ≡ b
      → ends_sent (late_commands template before base args task) ≡ ends_received (late_commands template before base args task)
  either true same =
      ap ends_sent (late_is template before base args task true same) ∙ sym (ap ends_received (late_is template before base args task true same))
  either false apart =
      ap ends_sent (late_is template before base args task false apart)
      ∙ away_ends before base args home owner task spec (first_reads [] (mask_for template task owner) spec.reads)
      (firsts_by (λ (o : Object) (offset : ℕ) (b : Bool). o.0 < 512) (is_left template task owner) [] spec.reads
      (reads_low (take task template.forms) given.reads (writes_low given.reads low.1)))
      (writes_low given.writes low.0)
      ∙ sym (ap ends_received (late_is template before base args task false apart))

pub tasks_ends : (template : WorkerTemplate) → IsInForm template → (before : Object → ℕ) (base : ℕ) (args : List ℤ) (listed : List (Worker × Command))
    → AreCopied (length template.forms) listed → ends_sent listed ≡ ends_received listed → (from n : ℕ) → from + n ≤ length template.forms
    → ends_sent (flat_map (task_commands template before base args listed) (range_with_len from n))
    ≡ ends_received (flat_map (task_commands template before base args listed) (range_with_len from n))
tasks_ends template form before base args listed copied same from zero few = refl
tasks_ends template form before base args listed copied same from (suc n) few =
    both_ends (task_commands template before base args listed from)
    (flat_map (task_commands template before base args listed) (range_with_len (from + 1) n))
    (both_ends (early_commands from listed) (late_commands template before base args from)
    (early_ends from (length template.forms) listed (omega (arith, few, form.many)) copied same)
    (late_ends template form before base args from (omega (arith, few))))
    (tasks_ends template form before base args listed copied same (from + 1) n (omega (arith, few)))

-- ---- runs

pub tasks_run : (template : WorkerTemplate) → IsInForm template → (before : Object → ℕ) (base : ℕ) (args : List ℤ) (listed : List (Worker × Command))
    → AreCopied (length template.forms) listed → base + 1024 < 2 ^ 64 - 1 → (from n : ℕ) → from + n ≤ length template.forms
    → runs_of (flat_map (task_commands template before base args listed) (range_with_len from n))
    ≡ flat_map (λ (t : ℕ). (worker_at template.owners t, base + t) ∷ []) (range_with_len from n)
tasks_run template form before base args listed copied room from zero few = refl
tasks_run template form before base args listed copied room from (suc n) few =
    runs_append (task_commands template before base args listed from) (flat_map (task_commands template before base args listed) (range_with_len (from + 1) n))
    ∙ ap₂ (λ (xs ys : List (Worker × ℕ)). xs ++ ys)
    (runs_append (early_commands from listed) (late_commands template before base args from)
    ∙ ap₂ (λ (xs ys : List (Worker × ℕ)). xs ++ ys)
    (copies_run (early_commands from listed) (early_copies from (length template.forms) listed copied).copies)
    (late_run template before base args from ∙ ap (λ (k : ℕ). (worker_at template.owners from, k) ∷ []) position))
    (tasks_run template form before base args listed copied room (from + 1) n (omega (arith, few))) where
      runs_append : (xs ys : List (Worker × Command)) → runs_of (xs ++ ys) ≡ runs_of xs ++ runs_of ys
      runs_append xs ys = flat_map-append (λ (c : Worker × Command). run_by c.0 c.1.kind) xs ys

      small : from < 1024
      small = omega (arith, few, form.many)

      position : counted_from base (task_of (entry_number from 4 0)) ≡ base + from
      position = (let at = task_is from 4 0 small (omega arith) (omega arith) in omega (arith, at, room, small))
