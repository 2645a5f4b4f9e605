use Rattle.std.proofs.Common.{◌∙◌, Bool, List, ap, ap₂}
use Rattle.std.specs.Prelude.{◌||◌}
use Rattle.std.specs.List.{list_any}
use Rattle.nim_base.specs.declared.number.Slot.{Slot}
use Rattle.nim_command.specs.LastUses.{is_in, is_writer, readers_of, writer_of}
use Rattle.nim_command.proofs.last_uses.LastUses.met.Goals as goal

pub returns : goal.returns
returns g c place =
    let wrote : List Slot → Bool = list_any (λ (slot : Slot). is_writer place (writer_of c.args.self.now slot)) in
    let read : List Slot → Bool = list_any (λ (slot : Slot). is_in place (readers_of c.args.self.now slot)) in
    let either : Bool → Bool → Bool = λ a b. a || b in
    c.in_ok-push_readers.ensures place
    ∙ ap₂ either
    (c.in_ok-push_writers-2.ensures place
    ∙ ap₂ either
    (c.in_ok-push_writers.ensures place ∙ ap₂ either (ap (is_in place) c.clear.ensures.items) (ap wrote c.reads-read.ensures))
    (ap wrote c.writes-written.ensures))
    (ap read c.writes-written.ensures)
