use Rattle.std.proofs.Common.{◌≡◌, ℕ, false, List, take, All}
use Rattle.std.specs.List.{list_any}
use Rattle.nim_command.specs.Waits.{Group}
use Rattle.nim_order.specs.Progress.{is_one_of}
use Rattle.nim_worker.specs.Admitted.{IsAdmitted}
use Rattle.nim_worker.specs.Stands.{tickets_of}
use Rattle.nim_worker.specs.Taken.{do_meet}
use Rattle.nim_worker.proofs.meets.meets_any.Given as goal

-- none of the works so far meets the command
abbrev pub invariant-loop-work : goal.invariant-loop-work
invariant-loop-work l =
    (groups : List Group) (ran : List ℕ) → IsAdmitted l.admitted groups ran → All (λ (earlier : ℕ). is_one_of ran earlier ≡ false) (tickets_of l.works)
    → is_one_of ran l.ticket ≡ false → list_any (λ (earlier : ℕ). do_meet groups earlier l.ticket) (take l.work-index (tickets_of l.works)) ≡ false
