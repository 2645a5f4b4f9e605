use Rattle.nim_printed.proofs.JobRead.{job_read}
use Rattle.nim_printed.proofs.laws.job_is_read.Goals as goal

pub returns : goal.returns
returns c = job_read c.args.job.now
