use Rattle.std.proofs.Common.{◌≡◌, ◌∙◌, List, Some, map, ap, sym}
use Rattle.nim_job.specs.declared.stmt.Stmt.{Stmt}
use Rattle.nim_job.specs.Whole.{scan_body, scan_of}
use Rattle.nim_job.proofs.Scans.{scan_if}
use Rattle.nim_job.proofs.wholeness.statements.+scan.Goals as goal

pub scan-returns-in-Some : goal.scan-returns-in-Some
scan-returns-in-Some t c =
    let job = c.args.job.now in
    let set : scan_body (map (scan_of job) c.in-If.first) c.args.depth c.args.scalars ≡ Some c.in-Some.behind =
    ap (λ (body : List Stmt). scan_body (map (scan_of job) body) c.args.depth c.args.scalars) (sym c.as_slice-in-If.ensures) ∙ sym c.scan_body-in-If.ensures
    ∙ c.in-Some.is in
    c.scan_body-in-Some.ensures
    ∙ ap (λ (body : List Stmt). scan_body (map (scan_of job) body) c.args.depth c.in-Some.behind) c.as_slice-in-Some.ensures
    ∙ sym (ap (λ (stmt : Stmt). scan_of job stmt c.args.depth c.args.scalars) c.in-If.is
    ∙ scan_if job c.in-If.cond c.in-If.first c.in-If.second c.args.depth c.args.scalars c.in-Some.behind (sym c.is_cond-in-If.ensures ∙ c.if-not-is_cond.false)
    set)
