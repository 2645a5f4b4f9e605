use Rattle.std.proofs.lemmas.Result.{IfOk-weaker}
use Rattle.nim_cluster.proofs.cluster.Cluster.run_by.Goals as goal

pub returns : goal.returns
returns c = λ s stands.
    let followed = c.in_ok-follow.ensures s stands in
    let rested = c.in_ok-go_on.ensures followed.0 followed.1.1 in
    IfOk-weaker c.end.result _ _
    (λ outcome ended. (
      rested.0,
      (
        record {
          behind = followed.0;
          by_lines = followed.1.0;
          count = rested.1.0.count;
          reaches = rested.1.0.reaches;
          rests = rested.1.0.rests;
        },
        (rested.1.1, ended),
      ),
    ))
    (c.end.ensures rested.0 rested.1.1)
