-- Legal orders, one step at a time.
use Rattle.std.proofs.Common.{List, [], ◌∷◌, ◌++◌}
use Rattle.std.specs.List.{fold}
use Rattle.nim_job.specs.declared.job.Job.{Job}
use Rattle.nim_message.specs.declared.order.ToWorker.{ToWorker}
use Rattle.nim_message.specs.Orders.{Session, after_order, no_session}
use Rattle.nim_plan.specs.Legal.{AreLegalFrom, IsLegal, LegalBySteps}

joined : (job : Job) (session : Session) (xs ys : List ToWorker) → AreLegalFrom job session xs → AreLegalFrom job (fold after_order session xs) ys
    → AreLegalFrom job session (xs ++ ys)
joined job session [] ys first second = second
joined job session (x ∷ xs) ys first second = (first.0, joined job (after_order session x) xs ys first.1 second)

front_of : (job : Job) (session : Session) (xs ys : List ToWorker) → AreLegalFrom job session (xs ++ ys) → AreLegalFrom job session xs
front_of job session [] ys all = tt
front_of job session (x ∷ xs) ys all = (all.0, front_of job (after_order session x) xs ys all.1)

behind : (job : Job) (session : Session) (xs ys : List ToWorker) → AreLegalFrom job session (xs ++ ys) → AreLegalFrom job (fold after_order session xs) ys
behind job session [] ys all = all
behind job session (x ∷ xs) ys all = behind job (after_order session x) xs ys all.1

pub by_steps : LegalBySteps
unfolding IsLegal
by_steps = record {
  longer = λ job orders order legal may. joined job no_session orders (order ∷ []) legal (may, tt);
  last = λ job orders order legal. (behind job no_session orders (order ∷ []) legal).0;
  front = λ job orders more legal. front_of job no_session orders more legal;
}
