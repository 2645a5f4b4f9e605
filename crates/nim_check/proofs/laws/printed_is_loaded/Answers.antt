use Rattle.nim_check.proofs.PrintedJob.{printed_loaded}
use Rattle.nim_check.proofs.PrintedSize.{printed_short}
use Rattle.nim_check.proofs.laws.printed_is_loaded.Goals as goal

pub returns : goal.returns
returns c =
    let job = c.args.job.now in
    let short = printed_short job c.requires.whole c.requires.names c.requires.values in
    let law = printed_loaded job c.requires.whole c.requires.names c.requires.values short in
    record { accepted = law.0; same = law.1 }
