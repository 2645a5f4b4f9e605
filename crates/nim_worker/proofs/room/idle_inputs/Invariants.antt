use Rattle.std.proofs.Common.{◌≡◌, ◌≤◌}
use Rattle.std.specs.Vec.{vec_capacity, vec_len}
use Rattle.nim_worker.specs.Inputs.{AreIdle}
use Rattle.nim_worker.proofs.room.idle_inputs.Given as goal

-- so many idle inputs were made, and there is room for all
abbrev pub invariant-loop : goal.invariant-loop
invariant-loop l = record {
  idle : AreIdle l.inputs.items;
  count : vec_len l.inputs ≡ l.counter;
  fits : 16 ≤ vec_capacity l.inputs;
}
