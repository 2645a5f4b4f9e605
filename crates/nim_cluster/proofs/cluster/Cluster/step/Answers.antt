use Rattle.std.proofs.Common.{◌∙◌, ap, is_err}
use Rattle.nim_cluster.proofs.Answered.{at_ok}
use Rattle.nim_cluster.proofs.Events.{marked}
use Rattle.nim_cluster.proofs.cluster.Cluster.step.Goals as goal

pub returns-clause-in_step : goal.returns-clause-in_step
returns-clause-in_step c = λ s stands reached.
    at_ok c.give-step.result
    (λ step is found.
    let followed = c.events_go_on.ensures.step s c.args.event.now step.done found.0 reached found.1.0 in (
      found.0,
      (
        found.1.0,
        record {
          stands = marked c.give-step.new.self found.0 c.is_err-self.result (c.is_err-self.ensures.value ∙ ap is_err is) found.1.1;
          reached = followed.reached;
          in_step = c.clusters_stay_in_step.ensures found.0 followed.reached;
        },
      ),
    ))
    (c.give-step.ensures.step s stands)
