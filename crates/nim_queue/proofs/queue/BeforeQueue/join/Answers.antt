use Rattle.std.proofs.Common.{◌≡◌, ◌∙◌, ◌==◌, ℕ, List, Option, Some, length, nat_eq, ap, ap₂, arith}
use Rattle.std.specs.Prelude.{if◌then◌else◌}
use Rattle.std.specs.HashMap.{get}
use Rattle.std.specs.Option.{option_map}
use Rattle.std.proofs.lemmas.List.{length-map}
use Rattle.nim_base.specs.declared.number.Slot.{Slot}
use Rattle.nim_command.specs.Slots.{is_among}
use Rattle.nim_queue.specs.Used.{used_in}
use Rattle.nim_queue.specs.Arrived.{link_to}
use Rattle.nim_queue.specs.Joined.{followed, gathered, gathered_reads, more_read, rewritten}
use Rattle.nim_queue.specs.declared.arrivals.Link.{Link}
use Rattle.nim_queue.specs.declared.waiting.Waiting.{Waiting}
use Rattle.nim_queue.proofs.Linking.{brief_written}
use Rattle.nim_queue.proofs.queue.BeforeQueue.join.Goals as goal

pub returns-clause-waiting : goal.returns-clause-waiting
returns-clause-waiting c k d short is fits room t =
    let old = c.args.self.now in
    let count : c.len-pending.result ≡ length d = c.len-pending.ensures.value ∙ ap length is ∙ length-map d (link_to old.given) in
    c.enter.ensures.entered (omega (arith, room, c.follow.ensures.spare)) t
    ∙ ap₂ (λ (w : Waiting) (o : Option Waiting). if old.given == t then Some w else o)
    (ap₂ (λ (p : ℕ) (fs : List ℕ). let w : Waiting = record { group = old.groups; command = c.args.arrival.command; pending = p; followers = fs } in w) count
    c.new.ensures)
    (c.follow.ensures.followers k old.given d short is fits t
    ∙ ap (λ (ls : List Link). option_map (followed (gathered t ls)) (get nat_eq old.waiting t)) is)

pub returns-clause-slots : goal.returns-clause-slots
returns-clause-slots c k d brief is fits s =
    let old = c.args.self.now in
    let written = λ (i : ℕ).
    c.write.ensures i
    ∙ ap (λ (slots : List Slot). if is_among slots (record { 0 = i }) then option_map (rewritten old.given) (used_in old.slots.items i)
    else used_in old.slots.items i)
    c.writes.ensures in
    c.read.ensures k old.given d
    (brief_written (used_in old.slots.items) (used_in c.write.new.slots.items) (λ i. is_among c.writes.result.now (record { 0 = i })) old.given k
    c.write.ensures brief) is fits s
    ∙ ap (option_map (more_read (gathered_reads s c.args.arrival.reads.items))) (written s)
