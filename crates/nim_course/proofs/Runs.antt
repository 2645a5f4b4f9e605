-- How often commands run a position, and commands that run nothing.
use Rattle.std.proofs.Common.{◌≡◌, ℕ, ◌+◌, ◌-◌, ◌≤◌, Bool, false, cond, List, [], ◌∷◌, ◌++◌, refl, ap, ap₂, sym, ◌∙◌, arith}
use Rattle.std.specs.Prelude.{◌==◌, ◌&&◌, ◌||◌, if◌then◌else◌, nat_le, nat_lt, All}
use Rattle.std.specs.List.{AllByRecursion, list_any}
use Rattle.std.proofs.lemmas.Bool.Decides.{nat_tests}
use Rattle.std.proofs.lemmas.List.Elements.{All-append, All-from_recursion}
use Rattle.std.proofs.lemmas.List.Sums.{sum_by-cons}
use Rattle.nim_base.specs.declared.number.Worker.{Worker}
use Rattle.nim_command.specs.declared.command.Command.{Command}
use Rattle.nim_job.specs.declared.job.Job.{Job}
use Rattle.nim_place.specs.declared.placement.Placement.{Placement}
use Rattle.nim_place.specs.TaskRuns.{AreRunOnce, RunsAtHome, position_run, times_run}
use Rattle.nim_reuse.proofs.NoRuns.{none_home, times_append}

-- ---- commands that run nothing

-- commands that run nothing
abbrev pub AreQuiet : List (Worker × Command) → Type 0
AreQuiet commands = AllByRecursion (λ (c : Worker × Command). position_run c.1.kind ≡ []) commands

quiet_each : (job : Job) (place : Placement) (live : List Bool) (commands : List (Worker × Command)) → AreQuiet commands
    → AllByRecursion (λ (one : Worker × Command). RunsAtHome job place live one.0 one.1.kind) commands
quiet_each job place live [] quiet = tt
quiet_each job place live (c ∷ cs) quiet = (none_home job place live c.0 c.1.kind quiet.0, quiet_each job place live cs quiet.1)

pub quiet_homes : (job : Job) (place : Placement) (live : List Bool) (commands : List (Worker × Command)) → AreQuiet commands
    → All (λ (one : Worker × Command). RunsAtHome job place live one.0 one.1.kind) commands
quiet_homes job place live commands quiet =
    All-from_recursion (λ (one : Worker × Command). RunsAtHome job place live one.0 one.1.kind) commands (quiet_each job place live commands quiet)

pub homes_more : (job : Job) (place : Placement) (live : List Bool) (commands more : List (Worker × Command))
    → All (λ (one : Worker × Command). RunsAtHome job place live one.0 one.1.kind) commands → AreQuiet more
    → All (λ (one : Worker × Command). RunsAtHome job place live one.0 one.1.kind) (commands ++ more)
homes_more job place live commands more homes quiet =
    All-append (λ (one : Worker × Command). RunsAtHome job place live one.0 one.1.kind) commands more homes (quiet_homes job place live more quiet)

-- ---- how often a position is run

-- whether a command runs it, as a number
abbrev weight : ℕ → Worker × Command → ℕ
weight position c = cond (list_any (λ (p : ℕ). p == position) (position_run c.1.kind)) 1 0

quiet_times : (position : ℕ) (commands : List (Worker × Command)) → AreQuiet commands → times_run position commands ≡ 0
quiet_times position [] quiet = refl
quiet_times position (c ∷ cs) quiet =
    sum_by-cons (weight position) c cs
    ∙ ap₂ (λ (ps : List ℕ) (n : ℕ). cond (list_any (λ (p : ℕ). p == position) ps) 1 0 + n) quiet.0 (quiet_times position cs quiet.1)

-- whether a position is one of so many, as a number
abbrev within : ℕ → ℕ → ℕ → ℕ
within first count position = if nat_le first position && nat_lt position (first + count) then 1 else 0

none_within : (first count position : ℕ) → count ≡ 0 → (nat_le first position && nat_lt position (first + count)) ≡ false
none_within first count position none = grind (arith, nat_tests)

-- commands that run nothing run none
pub quiet_once : (first count : ℕ) (commands : List (Worker × Command)) → count ≡ 0 → AreQuiet commands → AreRunOnce first count commands
quiet_once first count commands none quiet position =
    quiet_times position commands quiet ∙ sym (ap (λ (b : Bool). if b then 1 else 0) (none_within first count position none))

-- with them as many are run
pub once_quiet : (first count : ℕ) (commands more : List (Worker × Command)) → AreRunOnce first count commands → AreQuiet more
    → AreRunOnce first count (commands ++ more)
once_quiet first count commands more once quiet position = omega (arith, times_append position commands more, quiet_times position more quiet) ∙ once position

-- and so with them before
pub once_before : (first count : ℕ) (before commands : List (Worker × Command)) → AreRunOnce first count commands → AreQuiet before
    → AreRunOnce first count (before ++ commands)
once_before first count before commands once quiet position =
    omega (arith, times_append position before commands, quiet_times position before quiet) ∙ once position

one_is : (p position : ℕ) → (p == position || false) ≡ (nat_le p position && nat_lt position (p + 1))
one_is p position = grind (arith, nat_tests)

-- one Run runs its position
pub run_once : (first : ℕ) (run : Worker × Command) → position_run run.1.kind ≡ first ∷ [] → AreRunOnce first 1 (run ∷ [])
run_once first run is position =
    sum_by-cons (weight position) run []
    ∙ ap (λ (ps : List ℕ). cond (list_any (λ (p : ℕ). p == position) ps) 1 0 + 0) is
    ∙ omega arith ∙ ap (λ (b : Bool). cond b 1 0) (one_is first position)

-- the positions from one on, and those from the end of these on
within_both : (from middle count end position : ℕ) → from ≤ middle → end ≡ middle + count
    → within from (middle - from) position + within middle count position ≡ within from (end - from) position
within_both from middle count end position since is = either (nat_le from position) (nat_lt position middle) (nat_lt position end) refl refl refl where
  either : (a b c : Bool) → nat_le from position ≡ a → nat_lt position middle ≡ b → nat_lt position end ≡ c
      → within from (middle - from) position + within middle count position ≡ within from (end - from) position
  either a b c low mid high = grind (arith, nat_tests)

-- what follows is run once too
pub once_more : (from middle count end : ℕ) (commands more : List (Worker × Command)) → from ≤ middle → end ≡ middle + count
    → AreRunOnce from (middle - from) commands → AreRunOnce middle count more → AreRunOnce from (end - from) (commands ++ more)
once_more from middle count end commands more since is first second position =
    times_append position commands more ∙ ap₂ (λ (a b : ℕ). a + b) (first position) (second position) ∙ within_both from middle count end position since is
