-- The commands that an instance has for one worker, and of which workers they are.
use Rattle.std.proofs.Common.{◌≡◌, ℕ, zero, suc, ◌+◌, ◌<◌, ◌≤◌, Bool, true, false, List, [], ◌∷◌, ◌++◌, length, map, refl, ap₂, ◌∙◌}
use Rattle.std.proofs.Common.{arith}
use Rattle.std.specs.Prelude.{◌&&◌, slice_index_or, ℤ}
use Rattle.std.specs.List.{AllByRecursion, list_all, list_any}
use Rattle.std.proofs.lemmas.Bool.{eq-eqb, ne_eqb}
use Rattle.std.proofs.lemmas.List.{append-nil}
use Rattle.nim_base.specs.declared.number.Object.{Object}
use Rattle.nim_base.specs.declared.number.Worker.{Worker}
use Rattle.nim_base.specs.declared.task.TaskForm.{TaskForm}
use Rattle.nim_command.specs.declared.command.Command.{Command}
use Rattle.nim_command.specs.declared.entry.Entry.{Entry}
use Rattle.nim_place.specs.declared.placement.Placement.{Placement}
use Rattle.nim_place.specs.Extends.{is_live}
use Rattle.nim_place.specs.Sound.{commands_of_half, commands_from}
use Rattle.nim_place.specs.Stands.{commands_for}
use Rattle.nim_place.proofs.Held.{for_append}
use Rattle.nim_place.proofs.LiveOnce.{live_within}
use Rattle.nim_place.proofs.Places.{both_true}
use Rattle.nim_template.specs.Fits.{is_fit}
use Rattle.nim_template.specs.Walk.{home_of}
use Rattle.nim_template.proofs.Entries.{own_commands}
use Rattle.nim_template.proofs.InTurn.{home_lives}
use Rattle.nim_template.proofs.Sames.{AllBelow, below_append}
use Rattle.nim_edit.proofs.InOrder.{commands_of_one}

-- ---- the commands of one worker

none_from : (before : Object → ℕ) (base : ℕ) (args : List ℤ) (worker : Worker) (number : ℕ) (halves : List (List Entry)) → worker.0 < number
    → commands_for worker (commands_from before base args number halves) ≡ []
none_from before base args worker number [] below = refl
none_from before base args worker number (half ∷ halves) below =
    for_append worker (commands_of_half before base args (record { 0 = number }) half) (commands_from before base args (number + 1) halves)
    ∙ ap₂ (λ (xs ys : List Command). xs ++ ys)
    (commands_of_one worker number (own_commands before base args half) false (ne_eqb number worker.0 (λ same. absurd (omega (arith, same, below)))))
    (none_from before base args worker (number + 1) halves (omega (arith, below)))

one_of : (before : Object → ℕ) (base : ℕ) (args : List ℤ) (worker : Worker) (number i : ℕ) (halves : List (List Entry)) → worker.0 ≡ number + i
    → commands_for worker (commands_from before base args number halves) ≡ own_commands before base args (slice_index_or halves i [])
one_of before base args worker number zero [] at = refl
one_of before base args worker number (suc i) [] at = refl
one_of before base args worker number zero (half ∷ halves) at =
    for_append worker (commands_of_half before base args (record { 0 = number }) half) (commands_from before base args (number + 1) halves)
    ∙ ap₂ (λ (xs ys : List Command). xs ++ ys)
    (commands_of_one worker number (own_commands before base args half) true (eq-eqb number worker.0 (omega (arith, at))))
    (none_from before base args worker (number + 1) halves (omega (arith, at)))
    ∙ append-nil (own_commands before base args half)
one_of before base args worker number (suc i) (half ∷ halves) at =
    for_append worker (commands_of_half before base args (record { 0 = number }) half) (commands_from before base args (number + 1) halves)
    ∙ ap₂ (λ (xs ys : List Command). xs ++ ys)
    (commands_of_one worker number (own_commands before base args half) false (ne_eqb number worker.0 (λ same. absurd (omega (arith, same, at)))))
    (one_of before base args worker (number + 1) i halves (omega (arith, at)))

pub own_of : (before : Object → ℕ) (base : ℕ) (args : List ℤ) (worker : Worker) (halves : List (List Entry))
    → commands_for worker (commands_from before base args 0 halves) ≡ own_commands before base args (slice_index_or halves worker.0 [])
own_of before base args worker halves = one_of before base args worker 0 worker.0 halves (omega arith)

-- all are of so many workers
at_below : (workers number : ℕ) (cs : List Command) → number < workers
    → AllBelow workers (map (λ (c : Command). (let here : Worker = record { 0 = number } in (here, c))) cs)
at_below workers number [] below = tt
at_below workers number (c ∷ cs) below = (below, at_below workers number cs below)

pub from_below : (before : Object → ℕ) (base : ℕ) (args : List ℤ) (workers number : ℕ) (halves : List (List Entry)) → number + length halves ≤ workers
    → AllBelow workers (commands_from before base args number halves)
from_below before base args workers number [] few = tt
from_below before base args workers number (half ∷ halves) few =
    below_append workers (commands_of_half before base args (record { 0 = number }) half) (commands_from before base args (number + 1) halves)
    (at_below workers number (own_commands before base args half) (omega (arith, few)))
    (from_below before base args workers (number + 1) halves (omega (arith, few)))

pub live_below : (live : List Bool) (cs : List (Worker × Command)) → AllByRecursion (λ (c : Worker × Command). is_live live c.0 ≡ true) cs
    → AllBelow (length live) cs
live_below live [] all = tt
live_below live (c ∷ cs) all = (live_within live c.0 all.0, live_below live cs all.1)

-- the home of each task is live
pub homes_live : (place : Placement) (objects : ℕ) (live : List Bool) (forms : List TaskForm) → list_any (λ (flag : Bool). flag) live ≡ true
    → list_all (is_fit objects) forms ≡ true → list_all (is_live live) (map (home_of place objects live) forms) ≡ true
homes_live place objects live [] some fit = refl
homes_live place objects live (form ∷ forms) some fit =
    let each = both_true (is_fit objects form) (list_all (is_fit objects) forms) fit in
    ap₂ (λ (a b : Bool). a && b) (home_lives place live objects form some each.0) (homes_live place objects live forms some each.1)
