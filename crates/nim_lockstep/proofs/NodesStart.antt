-- Workers that nothing happened at are under way.
use Rattle.std.proofs.Common.{◌≡◌, ℕ, true, false, [], refl, subst, All}
use Rattle.std.proofs.lemmas.Bool.{both_ways}
use Rattle.std.proofs.lemmas.List.{length-replicate}
use Rattle.std.proofs.lemmas.List.Elements.{All-nil, All-replicate}
use Rattle.nim_job.specs.declared.job.Job.{Job}
use Rattle.nim_job.specs.Whole.{is_whole}
use Rattle.nim_plan.specs.Good.{IsGood, IsGoodFrame}
use Rattle.nim_plan.specs.Legal.{IsLegal}
use Rattle.nim_course.specs.declared.setup.Setup.{Setup}
use Rattle.nim_history.specs.History.{IsHistory}
use Rattle.nim_history.specs.Truth.{AreCovered, IsHandedTruth}
use Rattle.nim_lockstep.specs.Cluster.{new_node, unbegun}
use Rattle.nim_lockstep.proofs.NodesLists.{get_replicate}
use Rattle.nim_lockstep.proofs.UnderWay.{AreUnderWay, IsNodeUnderWay, IsTold}

no_history : IsHistory []
unfolding IsHistory
no_history = tt

none_handed : (job : Job) → IsHandedTruth job []
unfolding IsLegal AreCovered
none_handed job = record { legal = tt; covered = tt; frames = All-nil (IsGoodFrame job) }

new_way : (job : Job) (workers number : ℕ) → IsNodeUnderWay job workers number [] [] (new_node workers)
new_way job workers number = record {
  link = refl;
  history = no_history;
  handed = none_handed job;
  senders = length-replicate workers [];
  waiting = record {
    reports = All-nil (IsGood job);
    frames = All-replicate (All (IsGoodFrame job)) workers [] (All-nil (IsGoodFrame job));
  };
  ran = λ place position is at. absurd (both_ways false refl is);
  told = All-nil (IsTold [] []);
  batch = tt;
}

pub starts : (job : Job) (setup : Setup) → is_whole job ≡ true → AreUnderWay (unbegun job setup)
starts job setup whole = record {
  nodes = length-replicate setup.workers (new_node setup.workers);
  each = λ number node found.
      subst (IsNodeUnderWay job setup.workers number [] []) (get_replicate setup.workers (new_node setup.workers) number node found)
      (new_way job setup.workers number);
}
