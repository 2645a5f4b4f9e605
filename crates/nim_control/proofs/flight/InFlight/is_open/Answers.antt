use Rattle.std.proofs.Common.{◌≡◌, ◌∙◌, ap, length, rules}
use Rattle.std.specs.Vec.{vec_len}
use Rattle.nim_course.specs.Controller.{is_in_flight}
use Rattle.nim_control.proofs.Flights.{runs_open, through_open}
use Rattle.nim_control.proofs.flight.InFlight.is_open.Goals as goal

pub returns-then-self-gt0 : goal.returns-then-self-gt0
returns-then-self-gt0 c =
    runs_open c.self.inside.left c.self.inside.runs.items c.self.inside.through.items c.self.invariant c.if-self-gt0.true ∙ ap is_in_flight c.self.view_is

pub returns-else-self-gt0 : goal.returns-else-self-gt0
returns-else-self-gt0 c =
    let long : vec_len c.self.inside.through ≡ length c.self.inside.through.items = search rules in
    through_open c.self.inside.left (vec_len c.self.inside.through) c.is_empty.result c.self.inside.runs.items c.self.inside.through.items c.self.invariant
    c.if-self-gt0.false c.is_empty.ensures long
    ∙ ap is_in_flight c.self.view_is
