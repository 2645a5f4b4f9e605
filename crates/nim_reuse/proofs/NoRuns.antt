-- The commands of a patch run no task.
use Rattle.std.proofs.Common.{◌≡◌, ℕ, zero, suc, ◌+◌, Bool, true, false, cond, List, [], ◌∷◌, ◌++◌, map, refl, ap, ap₂, ◌∙◌, arith}
use Rattle.std.specs.Prelude.{◌==◌, All, if◌then◌else◌, slice_index_or}
use Rattle.std.specs.List.{AllByRecursion, list_any}
use Rattle.std.proofs.lemmas.List.Elements.{All-from_recursion}
use Rattle.std.proofs.lemmas.List.Sums.{sum_by-append}
use Rattle.nim_base.specs.declared.number.Worker.{Worker}
use Rattle.nim_command.specs.declared.command.Command.{Command}
use Rattle.nim_command.specs.declared.command.Kind.{Kind}
use Rattle.nim_command.specs.declared.command.Kind.TheVariants.{Create, Load, Send, Receive, Copy, Run, Fetch}
use Rattle.nim_command.specs.declared.edit.PatchPart.{PatchPart}
use Rattle.nim_command.specs.Before.{Footprint, footprint_of}
use Rattle.nim_command.specs.Expansion.{copied, taken_past}
use Rattle.nim_command.specs.Numbers.{main_slot, patch_number}
use Rattle.nim_command.specs.Ruled.{commands_by_rule}
use Rattle.nim_job.specs.declared.job.Job.{Job}
use Rattle.nim_place.specs.declared.placement.Placement.{Placement}
use Rattle.nim_place.specs.Extends.{worker_of}
use Rattle.nim_place.specs.TaskRuns.{RunsAtHome, position_run, times_run}
use Rattle.nim_place.specs.Versions.{Versions}
use Rattle.nim_patch.specs.declared.patch.PatchCopy.{PatchCopy}
use Rattle.nim_patch.specs.Parts.{patch_commands_of, patch_parts_of, run_commands, run_commands_from, versions_taken}

-- a command runs no task
abbrev RunsNone : Command → Type 0
RunsNone command = position_run command.kind ≡ []

-- nor do placed ones
abbrev pub AllRunNone : List (Worker × Command) → Type 0
AllRunNone commands = AllByRecursion (λ (one : Worker × Command). position_run one.1.kind ≡ []) commands

-- those of ends
copied_none : (versions : List ℕ) (taken : ℕ) (parts : List PatchPart) → AllByRecursion RunsNone (copied versions taken parts)
copied_none versions taken [] = tt
copied_none versions taken (part ∷ parts) = (by part.receives, copied_none versions (taken_past taken part) parts) where
  by : (b : Bool)
      → position_run (if b then Receive (main_slot part.object) (slice_index_or versions taken 0)
      else Send (main_slot part.object) part.peer (patch_number part.number)) ≡ []
  by true = refl
  by false = refl

-- with their before sets
ruled_none : (past : List Footprint) (commands : List Command) → AllByRecursion RunsNone commands → AllByRecursion RunsNone (commands_by_rule past commands)
ruled_none past [] none = tt
ruled_none past (command ∷ commands) none = (none.0, ruled_none (past ++ footprint_of command ∷ []) commands none.1)

-- of one worker, before others
placed_none : (worker : Worker) (own : List Command) (rest : List (Worker × Command)) → AllByRecursion RunsNone own → AllRunNone rest
    → AllRunNone (map (λ (c : Command). (worker, c)) own ++ rest)
placed_none worker [] rest none others = others
placed_none worker (command ∷ own) rest none others = (none.0, placed_none worker own rest none.1 others)

-- of so many workers
workers_none : (copies : List PatchCopy) (versions : Versions) (number workers : ℕ) → AllRunNone (run_commands_from copies versions number workers)
workers_none copies versions number zero = tt
workers_none copies versions number (suc workers) =
    let parts : List PatchPart = patch_parts_of copies (worker_of number) in
    placed_none (worker_of number) (run_commands versions parts) (run_commands_from copies versions (number + 1) workers)
    (ruled_none [] (copied (versions_taken versions parts) 0 parts) (copied_none (versions_taken versions parts) 0 parts))
    (workers_none copies versions (number + 1) workers)

pub patch_none : (copies : List PatchCopy) (versions : Versions) → AllRunNone (patch_commands_of copies versions)
patch_none copies versions = workers_none copies versions 0 versions.workers

-- a count in two parts
pub times_append : (position : ℕ) (xs ys : List (Worker × Command)) → times_run position (xs ++ ys) ≡ times_run position xs + times_run position ys
times_append position xs ys =
    sum_by-append (λ (one : Worker × Command). cond (list_any (λ (p : ℕ). p == position) (position_run one.1.kind)) 1 0) xs ys

-- so before others they change no count
none_times : (position : ℕ) (commands : List (Worker × Command)) → AllRunNone commands → times_run position commands ≡ 0
none_times position [] none = refl
none_times position (one ∷ commands) none =
    times_append position (one ∷ []) commands
    ∙ ap₂ (λ (a b : ℕ). a + b) (ap (λ (ps : List ℕ). 0 + cond (list_any (λ (p : ℕ). p == position) ps) 1 0) none.0) (none_times position commands none.1)

pub times_behind : (position : ℕ) (commands more : List (Worker × Command)) → AllRunNone commands
    → times_run position (commands ++ more) ≡ times_run position more
times_behind position commands more none =
    times_append position commands more ∙ ap (λ (n : ℕ). n + times_run position more) (none_times position commands none)
    ∙ none_more (times_run position more) where
      none_more : (n : ℕ) → 0 + n ≡ n
      none_more n = omega arith

-- and stand where they may
pub none_home : (job : Job) (place : Placement) (live : List Bool) (worker : Worker) (kind : Kind) → position_run kind ≡ []
    → RunsAtHome job place live worker kind
none_home job place live worker (Run position func params reads writes) is = absurd cc
none_home job place live worker (Create slot iota number) is = tt
none_home job place live worker (Load slot version value) is = tt
none_home job place live worker (Send slot peer entry) is = tt
none_home job place live worker (Receive slot version) is = tt
none_home job place live worker (Copy from to) is = tt
none_home job place live worker (Fetch slot ticket) is = tt

all_home : (job : Job) (place : Placement) (live : List Bool) (commands : List (Worker × Command)) → AllRunNone commands
    → AllByRecursion (λ (one : Worker × Command). RunsAtHome job place live one.0 one.1.kind) commands
all_home job place live [] none = tt
all_home job place live (one ∷ commands) none = (none_home job place live one.0 one.1.kind none.0, all_home job place live commands none.1)

pub none_homes : (job : Job) (place : Placement) (live : List Bool) (commands : List (Worker × Command)) → AllRunNone commands
    → All (λ (one : Worker × Command). RunsAtHome job place live one.0 one.1.kind) commands
none_homes job place live commands none =
    All-from_recursion (λ (one : Worker × Command). RunsAtHome job place live one.0 one.1.kind) commands (all_home job place live commands none)
