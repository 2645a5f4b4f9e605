-- The text of a summary.
use Rattle.std.specs.Prelude.{ℕ, ◌+◌, Bool, true, false, codes, List, [], ◌∷◌, ◌++◌, length, Option, None, Some}
use Rattle.std.specs.Fmt.{decimal}
use Rattle.std.specs.List.{flat_map}
use Rattle.nim_edit.specs.declared.fault.EditRefused.{EditRefused}
use Rattle.nim_edit.specs.declared.fault.EditRefused.TheVariants.{NoSuchBlock, NotInstalled, NoSuchTask, NotLive, SamePlace, TooMany}
use Rattle.nim_course.specs.declared.summary.EditLine.{EditLine}
use Rattle.nim_course.specs.declared.summary.Rollback.{Rollback}
use Rattle.nim_course.specs.declared.summary.Summary.{Summary}
use Rattle.nim_course.specs.declared.summary.WorkerLine.{WorkerLine}

-- the instances
abbrev pub instances_line : Summary → List ℕ
instances_line s =
    codes "instances "
    ++ (decimal s.instances
    ++ (codes " single "
    ++ (decimal s.single
    ++ (codes " installed "
    ++ (decimal s.installed ++ (codes " cached " ++ (decimal s.cached ++ 10 ∷ [])))))))

-- the patches
abbrev pub patches_line : Summary → List ℕ
patches_line s =
    codes "patches made " ++ (decimal s.made ++ (codes " repeated " ++ (decimal s.repeated ++ 10 ∷ [])))

-- the edits
abbrev pub edits_line : Summary → List ℕ
edits_line s = codes "edits taken " ++ (decimal s.taken ++ (codes " refused " ++ (decimal s.refused ++ 10 ∷ [])))

-- all three
abbrev pub counts_lines : Summary → List ℕ
counts_lines s = instances_line s ++ (patches_line s ++ edits_line s)

-- what came of a proposal
abbrev pub answer_text : Option EditRefused → List ℕ
answer_text None = codes "taken"
answer_text (Some NoSuchBlock) = codes "refused no-such-block"
answer_text (Some NotInstalled) = codes "refused not-installed"
answer_text (Some NoSuchTask) = codes "refused no-such-task"
answer_text (Some NotLive) = codes "refused not-live"
answer_text (Some SamePlace) = codes "refused same-place"
answer_text (Some TooMany) = codes "refused too-many"

-- a proposal: the block, the task and the worker, and what came of it
abbrev pub edit_line : EditLine → List ℕ
edit_line e =
    codes "edit "
    ++ (e.block ++ 32 ∷ (decimal e.task ++ 32 ∷ (decimal e.to ++ 32 ∷ (answer_text e.refused ++ 10 ∷ []))))

-- a rollback, by its number
abbrev pub rollback_line : ℕ → Rollback → List ℕ
rollback_line number r =
    codes "rollback "
    ++ (decimal number
    ++ (codes " worker " ++ (decimal r.worker.0 ++ (codes " position " ++ (decimal r.position ++ 10 ∷ [])))))

-- rollbacks, from a number on
abbrev pub rollback_lines : ℕ → List Rollback → List ℕ
rollback_lines number [] = []
rollback_lines number (r ∷ rollbacks) = rollback_line number r ++ rollback_lines (number + 1) rollbacks

-- how many rollbacks there are, and each
abbrev pub rollbacks_lines : List Rollback → List ℕ
rollbacks_lines rollbacks =
    codes "rollbacks " ++ (decimal (length rollbacks) ++ 10 ∷ rollback_lines 0 rollbacks)

-- the bytes of all orders
abbrev pub control_line : ℕ → List ℕ
control_line control = codes "control " ++ (decimal control ++ 10 ∷ [])

-- whether a worker is live, as a word
abbrev pub live_text : Bool → List ℕ
live_text true = codes "live"
live_text false = codes "lost"

-- a worker, by its number
abbrev pub worker_line : ℕ → WorkerLine → List ℕ
worker_line number line =
    codes "worker "
    ++ (decimal number
    ++ 32 ∷ (live_text line.live
    ++ (codes " tasks " ++ (decimal line.tasks ++ (codes " orders " ++ (decimal line.orders ++ 10 ∷ []))))))

-- workers, from a number on
abbrev pub worker_lines : ℕ → List WorkerLine → List ℕ
worker_lines number [] = []
worker_lines number (line ∷ lines) = worker_line number line ++ worker_lines (number + 1) lines

-- A summary, a line each.
abbrev pub text_of_summary : Summary → List ℕ
text_of_summary s =
    counts_lines s
    ++ (flat_map edit_line s.edits
    ++ (rollbacks_lines s.rollbacks ++ (control_line s.control ++ worker_lines 0 s.workers)))
