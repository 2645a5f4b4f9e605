-- The course of a controller: its workers stay live, and its one epoch is begun once.
use Rattle.std.proofs.Common.{◌≡◌, ℕ, zero, suc, ◌<◌, Bool, true, false, ℤ, List, ◌++◌, length, replicate, refl, ap, sym, subst, ◌∙◌, append_assoc, append-nil}
use Rattle.std.specs.Prelude.{◌==◌, if◌then◌else◌, slice_index_or}
use Rattle.std.proofs.lemmas.Bool.{both_ways}
use Rattle.std.proofs.lemmas.List.{get_or-replicate}
use Rattle.nim_base.specs.declared.number.Worker.{Worker}
use Rattle.nim_message.specs.declared.report.FromWorker.{FromWorker}
use Rattle.nim_message.specs.declared.report.FromWorker.TheVariants.{Value, Ran, Through, NoMemory}
use Rattle.nim_job.specs.declared.ask.Ask.{Ask}
use Rattle.nim_job.specs.Machine.{ask_of}
use Rattle.nim_place.specs.Directed.{Directed, orders_to}
use Rattle.nim_place.specs.Extends.{is_live, worker_of}
use Rattle.nim_place.proofs.Directed.{to_append}
use Rattle.nim_reuse.specs.Decisions.{is_recorded}
use Rattle.nim_course.specs.declared.pending.Pending.{Pending}
use Rattle.nim_course.specs.declared.pending.Pending.TheVariants.{Begin, Idle, Block, Ended}
use Rattle.nim_course.specs.declared.setup.Setup.{Setup}
use Rattle.nim_course.specs.Controller.{Controller}
use Rattle.nim_course.specs.Moves.{IsTurned, after_moves, asked, after_pending, moved, orders_of_moves, orders_of, orders_with, with_block}
use Rattle.nim_course.specs.OrdersGiven.{epoch_orders}
use Rattle.nim_course.specs.PutLists.{is_begin}
use Rattle.nim_course.specs.Reports.{after_report, flight_after, flight_through, reported, value_reported}
use Rattle.nim_place.proofs.LiveOnce.{live_within}
use Rattle.nim_lockstep.proofs.BegunOnce.{HasBegun, begun_once, epoch_begins, more_begun, move_plain, once_begun}
use Rattle.nim_lockstep.proofs.UnderWay.{BeginOnce}

-- ---- moves

-- the workers that are live, the placement and the epoch stay
record KeepsCourse (before after : Controller) : Type 0 where
  live : after.live ≡ before.live
  place : after.place ≡ before.place
  epoch : after.epoch ≡ before.epoch

asked_alike : (c : Controller) (ask : Ask) → KeepsCourse c (asked c ask)
asked_alike c Ask.Checkpoint = record { live = refl; place = refl; epoch = refl }
asked_alike c ask = record { live = refl; place = refl; epoch = refl }

block_alike : (recorded : Bool) (c : Controller) (block : ℕ) (args : List ℤ) → KeepsCourse c (with_block recorded c block args)
block_alike false c block args = record { live = refl; place = refl; epoch = refl }
block_alike true c block args = record { live = refl; place = refl; epoch = refl }

done_alike : (c : Controller) (pending : Pending) → KeepsCourse c (after_pending c pending)
done_alike c Idle = asked_alike c (ask_of c.machine)
done_alike c (Block block args) = block_alike (is_recorded c.decisions block) c block args
done_alike c pending = record { live = refl; place = refl; epoch = refl }

asked_begun : (c : Controller) (ask : Ask) → is_begin c.pending ≡ false → is_begin (asked c ask).pending ≡ false
asked_begun c Ask.Checkpoint is = is
asked_begun c Ask.Limit is = is
asked_begun c ask is = refl

block_begun : (recorded : Bool) (c : Controller) (block : ℕ) (args : List ℤ) → is_begin (with_block recorded c block args).pending ≡ false
block_begun false c block args = refl
block_begun true c block args = refl

pub done_begun : (c : Controller) (pending : Pending) → c.pending ≡ pending → is_begin (after_pending c pending).pending ≡ false
done_begun c Idle is = asked_begun c (ask_of c.machine) (ap is_begin is)
done_begun c (Block block args) is = block_begun (is_recorded c.decisions block) c block args
done_begun c Ended is = ap is_begin is
done_begun c pending is = refl

once_later : (c : Controller) (given : List Directed) (pending : Pending) (number : ℕ) → c.pending ≡ pending → is_begin pending ≡ false
    → number < length c.live → BeginOnce pending (orders_to number given)
    → BeginOnce (after_pending c pending).pending (orders_to number (given ++ orders_with c pending))
once_later c given pending number is later below once =
    let more : List Directed = orders_with c pending in
    begun_once (after_pending c pending).pending (orders_to number (given ++ more)) (done_begun c pending is)
    (subst HasBegun (sym (to_append number given more))
    (more_begun (orders_to number given) (orders_to number more) (once_begun pending (orders_to number given) later once)
    (move_plain c pending number below later)))

once_moved : (c : Controller) (given : List Directed) (pending : Pending) (number : ℕ) → c.pending ≡ pending → is_live c.live (worker_of number) ≡ true
    → BeginOnce pending (orders_to number given) → BeginOnce (after_pending c pending).pending (orders_to number (given ++ orders_with c pending))
once_moved c given pending number is there once = either (is_begin pending) refl where
  below : number < length c.live
  below = live_within c.live (worker_of number) there

  either : (b : Bool) → is_begin pending ≡ b → BeginOnce (after_pending c pending).pending (orders_to number (given ++ orders_with c pending))
  either true first = begins pending first once where
    begins : (p : Pending) → is_begin p ≡ true → BeginOnce p (orders_to number given)
        → BeginOnce (after_pending c p).pending (orders_to number (given ++ orders_with c p))
    begins Begin begin none = begun_once (after_pending c Begin).pending (orders_to number (given ++ epoch_orders c)) refl
        (epoch_begins c given number there none)
    begins p begin none = absurd (both_ways false refl begin)
  either false later = once_later c given pending number is later below once

-- ---- the course

-- A controller keeps to its course: all workers are live, and orders of epoch 0 begin it once.
pub record KeepsTo (setup : Setup) (c : Controller) (given : List Directed) : Type 0 where
  pub live : c.live ≡ replicate setup.workers true
  pub place : c.place ≡ setup.place
  pub epoch : c.epoch ≡ 0
  pub once : (number : ℕ) → number < setup.workers → BeginOnce c.pending (orders_to number given)

pub move_keeps : (setup : Setup) (c : Controller) (given : List Directed) → KeepsTo setup c given → KeepsTo setup (moved c) (given ++ orders_of c)
move_keeps setup c given keeps =
    let alike : KeepsCourse c (after_pending c c.pending) = done_alike c c.pending in
    record {
      live = alike.live ∙ keeps.live;
      place = alike.place ∙ keeps.place;
      epoch = alike.epoch ∙ keeps.epoch;
      once = λ number below.
          once_moved c given c.pending number refl
          (ap (λ (flags : List Bool). slice_index_or flags number false) keeps.live ∙ get_or-replicate setup.workers number true false below)
          (keeps.once number below);
    }

moves_keep : (setup : Setup) (c : Controller) (given : List Directed) (count : ℕ) → KeepsTo setup c given
    → KeepsTo setup (after_moves count c) (given ++ orders_of_moves count c)
moves_keep setup c given zero keeps = subst (KeepsTo setup c) (sym (append-nil given)) keeps
moves_keep setup c given (suc count) keeps =
    let now : Controller = after_moves count c in
    subst (KeepsTo setup (moved now)) (append_assoc given (orders_of_moves count c) (orders_of now))
    (move_keeps setup now (given ++ orders_of_moves count c) (moves_keep setup c given count keeps))

-- where only the turn that is due changes
due_keeps : (setup : Setup) (c : Controller) (given : List Directed) → KeepsTo setup c given → KeepsTo setup (record c { due = false }) given
due_keeps setup c given keeps = record { live = keeps.live; place = keeps.place; epoch = keeps.epoch; once = keeps.once }

pub turn_keeps : (setup : Setup) (before after : Controller) (given orders : List Directed) → KeepsTo setup before given → IsTurned before orders after
    → KeepsTo setup after (given ++ orders)
turn_keeps setup before after given orders keeps turned =
    let moves = turned.moved in
    let end : KeepsTo setup turned.end (given ++ orders) =
    subst (λ (ds : List Directed). KeepsTo setup turned.end (given ++ ds)) (sym moves.gave)
    (subst (λ (c : Controller). KeepsTo setup c (given ++ orders_of_moves moves.count before)) (sym moves.state)
    (moves_keep setup before given moves.count keeps)) in
    subst (λ (c : Controller). KeepsTo setup c (given ++ orders)) (sym turned.rests) (due_keeps setup turned.end (given ++ orders) end)

-- ---- reports

-- a report leaves this as it is
pub record IsStill (before after : Controller) : Type 0 where
  pub live : after.live ≡ before.live
  pub place : after.place ≡ before.place
  pub epoch : after.epoch ≡ before.epoch
  pub pending : after.pending ≡ before.pending
  pub position : after.position ≡ before.position

reported_still : (c : Controller) (from : Worker) (report : FromWorker) → IsStill c (reported c from report)
reported_still c from (Value epoch ticket object version value) = either (epoch == c.epoch) where
  either : (b : Bool) → IsStill c (if b then record c { fetched = value_reported c ticket object version value } else c)
  either true = record { live = refl; place = refl; epoch = refl; pending = refl; position = refl }
  either false = record { live = refl; place = refl; epoch = refl; pending = refl; position = refl }
reported_still c from (Ran epoch position reads) = either (epoch == c.epoch) where
  either : (b : Bool) → IsStill c (if b then record c { flight = flight_after from position c.flight } else c)
  either true = record { live = refl; place = refl; epoch = refl; pending = refl; position = refl }
  either false = record { live = refl; place = refl; epoch = refl; pending = refl; position = refl }
reported_still c from (Through epoch instance) = either (epoch == c.epoch) where
  either : (b : Bool) → IsStill c (if b then record c { flight = flight_through from instance c.flight } else c)
  either true = record { live = refl; place = refl; epoch = refl; pending = refl; position = refl }
  either false = record { live = refl; place = refl; epoch = refl; pending = refl; position = refl }
reported_still c from NoMemory = record { live = refl; place = refl; epoch = refl; pending = refl; position = refl }
reported_still c from report = record { live = refl; place = refl; epoch = refl; pending = refl; position = refl }

pub report_still : (c : Controller) (from : Worker) (report : FromWorker) → IsStill c (after_report c from report)
report_still c from report = either (is_live c.live from) (reported_still (record c { due = true }) from report) where
  either : (b : Bool) → IsStill (record c { due = true }) (reported (record c { due = true }) from report)
      → IsStill c (if b then reported (record c { due = true }) from report else record c { due = true })
  either true still = record { live = still.live; place = still.place; epoch = still.epoch; pending = still.pending; position = still.position }
  either false still = record { live = refl; place = refl; epoch = refl; pending = refl; position = refl }

pub report_keeps : (setup : Setup) (c : Controller) (given : List Directed) (from : Worker) (report : FromWorker) → KeepsTo setup c given
    → KeepsTo setup (after_report c from report) given
report_keeps setup c given from report keeps =
    let still : IsStill c (after_report c from report) = report_still c from report in
    record {
      live = still.live ∙ keeps.live;
      place = still.place ∙ keeps.place;
      epoch = still.epoch ∙ keeps.epoch;
      once = λ number below. subst (λ (pending : Pending). BeginOnce pending (orders_to number given)) (sym still.pending) (keeps.once number below);
    }
