-- A controller's job stays, whatever it is handed and however it moves.
use Rattle.std.proofs.Common.{◌≡◌, ℕ, zero, suc, Bool, true, false, ℤ, List, refl, ap, ◌∙◌}
use Rattle.std.specs.Prelude.{◌==◌, if◌then◌else◌}
use Rattle.nim_base.specs.declared.number.Worker.{Worker}
use Rattle.nim_job.specs.declared.ask.Ask.{Ask}
use Rattle.nim_job.specs.Machine.{ask_of}
use Rattle.nim_message.specs.declared.report.FromWorker.{FromWorker}
use Rattle.nim_message.specs.declared.report.FromWorker.TheVariants.{Value, Ran, Through, NoMemory}
use Rattle.nim_place.specs.Extends.{is_live}
use Rattle.nim_reuse.specs.Decisions.{is_recorded}
use Rattle.nim_course.specs.declared.pending.Pending.{Pending}
use Rattle.nim_course.specs.declared.pending.Pending.TheVariants.{Begin, Idle, Block, Cell, Parts, Ended}
use Rattle.nim_course.specs.Controller.{Controller}
use Rattle.nim_place.specs.Directed.{Directed}
use Rattle.nim_course.specs.Moves.{IsTurned, after_moves, asked, after_pending, with_block}
use Rattle.nim_course.specs.Reports.{after_report, reported}

-- ---- reports

one_of : (b : Bool) (x y c : Controller) → x.job ≡ c.job → y.job ≡ c.job → (if b then x else y).job ≡ c.job
one_of true x y c first second = first
one_of false x y c first second = second

told_job : (c : Controller) (from : Worker) (report : FromWorker) → (reported c from report).job ≡ c.job
told_job c from (Value epoch ticket object version value) = one_of (epoch == c.epoch) _ c c refl refl
told_job c from (Ran epoch position reads) = one_of (epoch == c.epoch) _ c c refl refl
told_job c from (Through epoch instance) = one_of (epoch == c.epoch) _ c c refl refl
told_job c from NoMemory = refl
told_job c from report = refl

pub reported_job : (c : Controller) (from : Worker) (report : FromWorker) → (after_report c from report).job ≡ c.job
reported_job c from report =
    let due : Controller = record c { due = true } in
    one_of (is_live c.live from) (reported due from report) due c (told_job due from report) refl

-- ---- turns

asked_job : (c : Controller) (ask : Ask) → (asked c ask).job ≡ c.job
asked_job c (Ask.Run block args) = refl
asked_job c (Ask.Get object row cell) = refl
asked_job c Ask.Checkpoint = refl
asked_job c (Ask.Output var) = refl
asked_job c Ask.Finished = refl
asked_job c Ask.Limit = refl

block_job : (again : Bool) (c : Controller) (block : ℕ) (args : List ℤ) → (with_block again c block args).job ≡ c.job
block_job true c block args = refl
block_job false c block args = refl

done_job : (c : Controller) (pending : Pending) → (after_pending c pending).job ≡ c.job
done_job c Begin = refl
done_job c Idle = asked_job c (ask_of c.machine)
done_job c (Block block args) = block_job (is_recorded c.decisions block) c block args
done_job c (Cell row cell) = refl
done_job c (Parts var) = refl
done_job c Ended = refl

moved_job : (count : ℕ) (c : Controller) → (after_moves count c).job ≡ c.job
moved_job zero c = refl
moved_job (suc count) c = let before = after_moves count c in done_job before before.pending ∙ moved_job count c

pub turned_job : (before after : Controller) (orders : List Directed) → IsTurned before orders after → after.job ≡ before.job
turned_job before after orders turned =
    ap (λ (c : Controller). c.job) turned.rests ∙ ap (λ (c : Controller). c.job) turned.moved.state ∙ moved_job turned.moved.count before
