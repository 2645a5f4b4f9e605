use Rattle.nim_command.proofs.LastUses.{past_noted}
use Rattle.nim_command.proofs.last_uses.LastUses.note.Goals as goal

pub returns : goal.returns
returns g c past at before =
    past_noted c.args.self.now c.note_writes.new.self c.note_reads.new.self past (g.T.Waits.footprint c.args.next.now) c.reads.result.now
    c.writes.result.now c.args.place c.reads.ensures c.writes.ensures at before c.in_ok-note_writes.ensures c.in_ok-note_reads.ensures.writers
    c.in_ok-note_reads.ensures.readers
