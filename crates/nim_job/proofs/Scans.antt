-- What the test of a statement gives, of the tests of what it holds.
use Rattle.std.proofs.Common.{◌≡◌, ℕ, true, List, map, ap, sym, ◌∙◌, Some, None}
use Rattle.std.specs.Option.{option_and_then}
use Rattle.std.proofs.lemmas.Bool.{cond-true}
use Rattle.nim_job.specs.declared.job.Job.{Job}
use Rattle.nim_job.specs.declared.stmt.Cond.{Cond}
use Rattle.nim_job.specs.declared.stmt.Stmt.{Stmt, fold-roll-Stmt}
use Rattle.nim_job.specs.declared.stmt.Stmt.TheOpen.{Stmt-F}
use Rattle.nim_job.specs.declared.stmt.Stmt.TheVariants.{If, rolls-If}
use Rattle.nim_job.specs.Whole.{Scan, is_cond, scan_body, scan_of, scan_stmt}

-- an `if` whose first part sets so many scalars goes on with its second
pub scan_if : (job : Job) (cond : Cond) (first second : List Stmt) (depth scalars behind : ℕ) → is_cond scalars cond ≡ true
    → scan_body (map (scan_of job) first) depth scalars ≡ Some behind
    → scan_of job (If cond first second) depth scalars ≡ scan_body (map (scan_of job) second) depth behind
scan_if job cond first second depth scalars behind is set =
    ap (λ (stmt : Stmt). scan_of job stmt depth scalars) (sym (rolls-If cond first second))
    ∙ ap (λ (scan : Scan). scan depth scalars) (fold-roll-Stmt Scan (scan_stmt job) (Stmt-F.If cond first second))
    ∙ cond-true (is_cond scalars cond) _ None is
    ∙ ap (option_and_then (λ (now : ℕ). scan_body (map (scan_of job) second) depth now)) set
