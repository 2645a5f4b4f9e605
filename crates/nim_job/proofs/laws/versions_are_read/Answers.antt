use Rattle.nim_job.proofs.Versions.{reads_versions, keeps_versions}
use Rattle.nim_job.proofs.laws.versions_are_read.Goals as goal

pub returns-clause-reads : goal.returns-clause-reads
returns-clause-reads c = reads_versions c.args.job.now

pub returns-clause-keeps : goal.returns-clause-keeps
returns-clause-keeps c = keeps_versions c.args.job.now
