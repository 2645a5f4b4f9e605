-- what is left to look at
use Rattle.std.proofs.Common.{◌≡◌, map, drop}
use Rattle.nim_job.specs.Whole.{scan_all, scan_of}
use Rattle.nim_job.proofs.wholeness.statements.+scan.Given as goal

abbrev pub invariant-scan_all-loop-stmt : goal.invariant-scan_all-loop-stmt
invariant-scan_all-loop-stmt l =
    scan_all (map (scan_of l.job) (drop l.stmt-index l.body)) l.depth l.behind ≡ scan_all (map (scan_of l.job) l.body) l.depth l.scalars
