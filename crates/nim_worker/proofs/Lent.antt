-- A batch whose works were performed is out still.
use Rattle.std.proofs.Common.{◌≡◌, ℕ, Bool, true, false, List, [], ◌∷◌, length, refl, ap, ap₂, sym, subst, ◌∙◌, arith, Option}
use Rattle.std.specs.Prelude.{if◌then◌else◌}
use Rattle.std.proofs.lemmas.List.{length-map}
use Rattle.nim_base.specs.declared.number.Shape.{Shape}
use Rattle.nim_base.specs.declared.number.Slot.{Slot}
use Rattle.nim_store.specs.declared.held.Held.{Held}
use Rattle.nim_store.specs.Stored.{slot_at}
use Rattle.nim_history.specs.History.{MayAllHappen, WorkerState, state_of}
use Rattle.nim_worker.specs.declared.batch.Batch.{Batch}
use Rattle.nim_worker.specs.declared.batch.Work.{Work}
use Rattle.nim_worker.specs.declared.worker.WorkerCore.{WorkerCore}
use Rattle.nim_worker.specs.Chains.{AreWorks}
use Rattle.nim_worker.specs.Lent.{IsLent, LentBatchesStand}
use Rattle.nim_worker.specs.Stands.{IsAtWork, IsOut, begun_of, completions, tickets_of}
use Rattle.nim_worker.specs.Works.{Begun}
use Rattle.nim_worker.proofs.Chains.{works_kept}

-- works of the same commands have the same tickets
same_tickets : (shapes : List Shape) (before now : Slot → Option Held) (begun : List Begun) (olds news : List Work)
    → AreWorks shapes before now begun olds → AreWorks shapes before now begun news → tickets_of olds ≡ tickets_of news
same_tickets shapes before now begun olds news = either before before begun olds news where
  either : (f g : Slot → Option Held) (bs : List Begun) (ws vs : List Work) → AreWorks shapes f now bs ws → AreWorks shapes g now bs vs
      → tickets_of ws ≡ tickets_of vs
  either f g [] [] [] first second = refl
  either f g [] [] (v ∷ vs) first second = absurd second
  either f g [] (w ∷ ws) vs first second = absurd first
  either f g (b ∷ bs) [] vs first second = absurd first
  either f g (b ∷ bs) (w ∷ ws) [] first second = absurd second
  either f g (b ∷ bs) (w ∷ ws) (v ∷ vs) first second =
      ap₂ (λ (n : ℕ) (ns : List ℕ). n ∷ ns) (first.1.0.ticket ∙ sym second.1.0.ticket) (either first.0 second.0 bs ws vs first.1.1.1 second.1.1.1)

-- what is out once works were performed
record IsOutStill (core : WorkerCore) (old new : Batch) (state : WorkerState) : Type 0 where
  work : IsAtWork core new.works.items state
  same : tickets_of old.works.items ≡ tickets_of new.works.items

out_still : (core : WorkerCore) (old new : Batch) (state : WorkerState) → IsLent old new → IsAtWork core old.works.items state → IsOutStill core old new state
out_still core old new state lent out =
    let groups = state.session.groups in
    let kept = works_kept state.session.shapes state.slots (slot_at core.store) (begun_of groups (tickets_of old.works.items)) old.works.items new.works.items
    lent.works out.chain in
    let same = same_tickets state.session.shapes state.slots (slot_at core.store) (begun_of groups (tickets_of old.works.items)) old.works.items new.works.items
    out.chain kept in
    record {
      work = record {
        may = subst (λ (tickets : List ℕ). MayAllHappen state (completions tickets)) same out.may;
        chain =
            subst (λ (tickets : List ℕ). AreWorks state.session.shapes state.slots (slot_at core.store) (begun_of groups tickets) new.works.items) same kept;
      };
      same = same;
    }

lent_out : (core : WorkerCore) (old new : Batch) (state : WorkerState) (stale : Bool) → IsLent old new → IsOut core stale old state
    → IsOut core stale new state × ((if stale then [] else completions (tickets_of new.works.items))
    ≡ (if stale then [] else completions (tickets_of old.works.items)))
lent_out core old new state true lent out = (out, refl)
lent_out core old new state false lent out =
    let still = out_still core old new state lent out.0 in
    let many : length old.works.items ≡ length new.works.items =
    sym (length-map old.works.items (λ (w : Work). w.ticket)) ∙ ap length still.same ∙ length-map new.works.items (λ (w : Work). w.ticket) in (
      (
        still.work,
        λ begun.
            let room = out.1 begun in
            record { works = omega (arith, room.works, lent.room); inputs = omega (arith, room.inputs, many, ap (λ spare. length spare.items) lent.spare) },
      ),
      ap completions (sym still.same),
    )

-- a batch whose works were performed, any of them, completes what it did
pub lent_batches_stand : LentBatchesStand
lent_batches_stand core old new happened lent stands =
    let out = lent_out core old new (state_of happened) core.stale lent stands.at.out in
    (record { history = stands.history; at = record { has = stands.at.has; busy = stands.at.busy; out = out.0 } }, out.1)
