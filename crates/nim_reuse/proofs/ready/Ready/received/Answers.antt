use Rattle.std.proofs.Common.{◌<◌, length, sym}
use Rattle.std.proofs.lemmas.Bool.{ltb-true}
use Rattle.nim_reuse.proofs.Steps.{received_at}
use Rattle.nim_reuse.proofs.ready.Ready.received.Goals as goal

pub returns-in-Some : goal.returns-in-Some
returns-in-Some c =
    let within : c.args.worker.0 < length c.self.inside.received.items =
    rw (← c.from.ensures, ← c.deref.ensures.value) (ltb-true c.from.result (length c.deref.result.now) (sym c.in-Some.ensures.lookup.0)) in
    rw (c.as_slice.ensures.value, c.in-Some.ensures.lookup.1, c.deref.ensures.value, c.from.ensures, ← c.self.view_is)
    (received_at c.self.inside.received.items c.self.inside.template.halves c.args.worker.0 _ c.self.invariant.1 within)
