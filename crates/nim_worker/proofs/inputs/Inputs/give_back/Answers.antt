use Rattle.std.proofs.Common.{◌≡◌, ◌∙◌, ap, ap₂, sym, arith, List, length}
use Rattle.std.proofs.lemmas.List.{length_push}
use Rattle.nim_base.specs.Value.{Grid}
use Rattle.nim_command.specs.Holds.{put_at}
use Rattle.nim_worker.specs.declared.inputs.Taken.{Taken}
use Rattle.nim_worker.specs.Inputs.{given_back}
use Rattle.nim_store.specs.Stored.{slot_at}
use Rattle.nim_worker.proofs.GivenBack.{given_back-snoc}
use Rattle.nim_worker.proofs.inputs.Inputs.give_back.Goals as goal

pub loop-value-preserved-in-Continue-1 : goal.loop-value-preserved-in-Continue-1
loop-value-preserved-in-Continue-1 c =
    let inv = c.loop-value.invariant in
    let ts = c.pop-in-Some.new.self.items in
    let vs = c.pop.new.self.items in
    let f = slot_at c.loop-value.store in
    let paired : length ts ≡ length vs = omega (
      arith,
      inv.paired,
      ap length c.in-Some.ensures.items,
      ap length c.in-Some-pop.ensures.items,
      length_push ts
          c.in-Some-pop.from,
      length_push vs c.in-Some.value,
    ) in
    record {
      back = ap (given_back ts vs) (c.in_ok-set.ensures.ok ∙ ap (λ h. put_at c.in-Some-pop.from.slot h f) c.held_of.ensures)
          ∙ sym (given_back-snoc ts vs c.in-Some-pop.from c.in-Some.value f paired)
          ∙ ap₂ (λ (all : List Taken) (values : List Grid). given_back all values f) (sym c.in-Some-pop.ensures.items) (sym c.in-Some.ensures.items)
          ∙ inv.back;
      stays = c.set.ensures.shapes ∙ inv.stays;
      params = inv.params;
      paired = paired;
      places = inv.places;
      contents = inv.contents;
      shapes = inv.shapes;
      room = (omega (arith, c.in-Some-pop.ensures.capacity, inv.room), omega (arith, c.in-Some.ensures.capacity, inv.room));
    }
