use Rattle.std.proofs.Common.{◌∙◌, [], Bool, List, nat_eq, ap, ap₂}
use Rattle.std.specs.Prelude.{◌||◌, unwrap_or}
use Rattle.std.specs.HashMap.{get}
use Rattle.std.specs.HashSet as bag
use Rattle.std.specs.List.{list_any}
use Rattle.nim_base.specs.declared.number.Slot.{Slot}
use Rattle.nim_queue.specs.Used.{used_in}
use Rattle.nim_queue.specs.Arrived.{Sight, is_user_met}
use Rattle.nim_queue.specs.Counts.{is_in}
use Rattle.nim_queue.specs.Stands.{is_reader, is_writer}
use Rattle.nim_queue.proofs.arrivals.Arrivals.reach.Goals as goal

pub returns : goal.returns
returns c e =
    let sight : Sight = record {
      kept = get nat_eq c.args.waiting.now;
      used = used_in c.args.slots.now.items;
      named = λ n. unwrap_or (get nat_eq c.args.self.now.numbers n) [];
      written = bag.contains nat_eq c.args.self.now.written;
    } in
    let either : Bool → Bool → Bool = λ a b. a || b in
    c.in_ok-add_readers.ensures e
    ∙ ap₂ either
    (c.in_ok-add_writers-2.ensures e
    ∙ ap₂ either
    (c.in_ok-add_writers.ensures e
    ∙ ap₂ either
    (c.in_ok-add_named.ensures e
    ∙ ap₂ either (ap (is_in e) c.new-tickets.ensures) (ap (list_any (λ number. is_in e (sight.named number))) c.as_slice.ensures))
    (ap (λ (slots : List Slot). is_user_met sight is_writer slots e) c.reads.ensures))
    (ap (λ (slots : List Slot). is_user_met sight is_writer slots e) c.writes.ensures))
    (ap (λ (slots : List Slot). is_user_met sight is_reader slots e) c.writes-2.ensures)
