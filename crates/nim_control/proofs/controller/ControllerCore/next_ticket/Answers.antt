use Rattle.std.proofs.Common.{length, ap, arith}
use Rattle.nim_control.proofs.controller.ControllerCore.next_ticket.Goals as goal

pub overflow_cast-open : goal.overflow_cast-open
overflow_cast-open c = omega (arith, c.first_open-open.ensures.within, ap length c.as_slice.ensures.value, c.self.invariant.1.fetched)
