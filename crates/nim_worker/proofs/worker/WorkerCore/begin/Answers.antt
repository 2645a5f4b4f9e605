use Rattle.std.proofs.Common.{◌≡◌, ◌∙◌, true, List, [], Option, None, ap, sym}
use Rattle.nim_history.specs.History.{Happening, state_of}
use Rattle.nim_worker.specs.declared.room.Room.{Room}
use Rattle.nim_worker.specs.declared.worker.WorkerCore.{WorkerCore}
use Rattle.nim_worker.specs.Stands.{IsBeginning, CoreStands, tickets_of}
use Rattle.nim_worker.proofs.Begun.{begins_none, none_begun, reads_begun, stands_begun}
use Rattle.nim_worker.proofs.Released.{none_may}
use Rattle.nim_worker.proofs.Runs.{works_run}
use Rattle.nim_worker.proofs.worker.WorkerCore.begin.Goals as goal

-- no work is out of a core whose room was taken
room_taken : (core : WorkerCore) (room : Option Room) (history : List Happening) → CoreStands core None history
    → IsBeginning (record core { room = room; busy = true }) [] (state_of history)
room_taken core room history stands =
    let has = stands.at.has in
    begins_none (record core { room = room; busy = true }) (state_of history)
    (record {
      failed = has.failed;
      session = record { begun = has.session.begun; epoch = has.session.epoch; shapes = has.session.shapes; installed = has.session.installed };
      admitted = has.admitted;
      inbox = has.inbox;
    })
    stands.at.out.1.slots

pub returns-in-Some-clause-stands : goal.returns-in-Some-clause-stands
returns-in-Some-clause-stands c = λ history stands.
    let rest = c.fill.ensures.rest in
    let begins = room_taken c.args.self.now c.take.new.self history stands in
    stands_begun c.args.self.now c.fill.new.self c.fill.result history c.args.most stands
    (record {
      failed = ap (λ (core : WorkerCore). core.failed) rest;
      begun = ap (λ (core : WorkerCore). core.begun) rest;
      stale = ap (λ (core : WorkerCore). core.stale) rest;
      busy = ap (λ (core : WorkerCore). core.busy) rest;
    })
    (c.fill.ensures.begins (state_of history) begins) (c.fill.ensures.taken (state_of history) begins) (λ begun. c.fill.ensures.room)

pub returns-in-Some-clause-empty : goal.returns-in-Some-clause-empty
returns-in-Some-clause-empty c = λ history stands none.
    none_may (state_of history) c.args.most c.requires.least
    (sym (c.fill.ensures.taken (state_of history) (room_taken c.args.self.now c.take.new.self history stands)) ∙ ap tickets_of none)

pub returns-in-Some-clause-reads : goal.returns-in-Some-clause-reads
returns-in-Some-clause-reads c = λ job history whole handed stands.
    let begins = room_taken c.args.self.now c.take.new.self history stands in
    reads_begun job c.fill.new.self c.fill.result.works.items history c.args.most whole handed stands.history (c.fill.ensures.begins (state_of history) begins)
    (c.fill.ensures.taken (state_of history) begins)

pub returns-in-Some-clause-runs : goal.returns-in-Some-clause-runs
returns-in-Some-clause-runs c = λ history stands.
    works_run c.fill.new.self c.fill.result.works.items (state_of history)
    (c.fill.ensures.begins (state_of history) (room_taken c.args.self.now c.take.new.self history stands))

pub returns-in-None-clause-taken : goal.returns-in-None-clause-taken
returns-in-None-clause-taken c = λ history stands.
    let room : c.args.self.now.room ≡ None = sym c.take.ensures.value ∙ c.in-None.is in
    ap tickets_of c.empty_batch-in-None.ensures.works ∙ none_begun c.args.self.now history c.args.most stands room

pub returns-in-None-clause-empty : goal.returns-in-None-clause-empty
returns-in-None-clause-empty c = λ history stands none.
    let room : c.args.self.now.room ≡ None = sym c.take.ensures.value ∙ c.in-None.is in
    none_may (state_of history) c.args.most c.requires.least (sym (none_begun c.args.self.now history c.args.most stands room))
