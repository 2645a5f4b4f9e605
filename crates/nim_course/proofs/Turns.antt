-- A controller leads its job after a move, and so after a turn.
use Rattle.std.proofs.Common.{◌≡◌, ℕ, zero, suc, Bool, true, false, ℤ, List, ◌++◌, refl, sym, subst, None}
use Rattle.std.proofs.lemmas.List.{append-nil, append_assoc}
use Rattle.nim_job.specs.declared.job.Job.{Job}
use Rattle.nim_reuse.specs.Decisions.{is_recorded}
use Rattle.nim_course.specs.declared.pending.Pending.{Pending}
use Rattle.nim_course.specs.declared.pending.Pending.TheVariants.{Begin, Idle, Block, Cell, Parts, Ended}
use Rattle.nim_course.specs.Controller.{Controller}
use Rattle.nim_place.specs.Directed.{Directed}
use Rattle.nim_course.specs.Leads.{Leads}
use Rattle.nim_course.specs.Moves.{AreFree, IsTurned, after_moves, does_wait, after_pending, is_held_up, moved, orders_of_moves, orders_of, orders_of_block, orders_with, with_block}
use Rattle.nim_course.specs.Summaries.{orders_counted}
use Rattle.nim_course.proofs.Asked.{asked_leads, plain}
use Rattle.nim_course.proofs.Begun.{begun_leads}
use Rattle.nim_course.proofs.Instances.{instance_leads}
use Rattle.nim_course.proofs.Kept.{counted_leads, due_leads}
use Rattle.nim_course.proofs.Reused.{reused_leads}
use Rattle.nim_course.proofs.Standing.{GoesOn, held_parts, leads_goes}
use Rattle.nim_course.proofs.Values.{cell_leads, ended_leads, parts_lead}

-- ---- one move

-- an instance of a block is given, as a whole where the block was recorded
block_leads : (c : Controller) (given : List Directed) (block : ℕ) (args : List ℤ) → c.outcome ≡ None → c.pending ≡ Block block args → GoesOn c given
    → Leads c.job (after_pending c (Block block args)) (given ++ orders_with c (Block block args))
block_leads c given block args none is on = either (is_recorded c.decisions block) refl where
  either : (b : Bool) → is_recorded c.decisions block ≡ b → Leads c.job (with_block b c block args) (given ++ orders_of_block b c block args)
  either false new = instance_leads c given block args none is on
  either true recorded = reused_leads c given block args none is recorded on

with_leads : (c : Controller) (given : List Directed) (pending : Pending) → c.outcome ≡ None → c.pending ≡ pending → does_wait c pending ≡ false
    → GoesOn c given → Leads c.job (after_pending c pending) (given ++ orders_with c pending)
with_leads c given Begin none is free on = begun_leads c given none is on
with_leads c given Idle none is free on = asked_leads c given none is on
with_leads c given (Block block args) none is free on = block_leads c given block args none is on
with_leads c given (Cell row cell) none is free on = plain c (after_pending c (Cell row cell)) given (cell_leads c given row cell none is free on)
with_leads c given (Parts var) none is free on = plain c (after_pending c (Parts var)) given (parts_lead c given var none is free on)
with_leads c given Ended none is free on = plain c (after_pending c Ended) given (ended_leads c given is on)

own_leads : (c : Controller) (given : List Directed) → Leads c.job c given → is_held_up c ≡ false → Leads c.job (moved c) (given ++ orders_of c)
own_leads c given leads free =
    let parts = held_parts c.outcome (does_wait c c.pending) free in
    let next : Controller = after_pending c c.pending in
    counted_leads c.job next (given ++ orders_of c) (orders_counted next.decisions (orders_of c) next.summary)
    (with_leads c given c.pending parts.0 refl parts.1 (leads_goes c given parts.0 leads))

-- the law of one move
pub move_leads : (job : Job) (c : Controller) (given : List Directed) → Leads job c given → is_held_up c ≡ false
    → Leads job (moved c) (given ++ orders_of c)
move_leads job c given leads free =
    subst (λ (j : Job). Leads j (moved c) (given ++ orders_of c)) leads.is_job
    (own_leads c given (subst (λ (j : Job). Leads j c given) (sym leads.is_job) leads) free)

-- ---- one after another

pub moves_lead : (job : Job) (c : Controller) (given : List Directed) (count : ℕ) → Leads job c given → AreFree count c
    → Leads job (after_moves count c) (given ++ orders_of_moves count c)
moves_lead job c given zero leads free = subst (Leads job c) (sym (append-nil given)) leads
moves_lead job c given (suc count) leads free =
    let now : Controller = after_moves count c in
    subst (Leads job (moved now)) (append_assoc given (orders_of_moves count c) (orders_of now))
    (move_leads job now (given ++ orders_of_moves count c) (moves_lead job c given count leads free.0) free.1)

pub turn_leads : (job : Job) (before after : Controller) (given orders : List Directed) → Leads job before given → IsTurned before orders after
    → Leads job after (given ++ orders)
turn_leads job before after given orders leads turned =
    let moves = turned.moved in
    let end : Leads job turned.end (given ++ orders) =
    subst (λ (ds : List Directed). Leads job turned.end (given ++ ds)) (sym moves.gave)
    (subst (λ (c : Controller). Leads job c (given ++ orders_of_moves moves.count before)) (sym moves.state)
    (moves_lead job before given moves.count leads moves.free)) in
    subst (λ (c : Controller). Leads job c (given ++ orders)) (sym turned.rests) (due_leads job turned.end (given ++ orders) false end)
