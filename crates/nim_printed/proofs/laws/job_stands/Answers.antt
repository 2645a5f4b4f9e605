use Rattle.nim_printed.proofs.JobWhole.{job_stands}
use Rattle.nim_printed.proofs.laws.job_stands.Goals as goal

pub returns : goal.returns
returns c = job_stands c.args.job.now
