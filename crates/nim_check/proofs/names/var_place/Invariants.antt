use Rattle.std.proofs.Common.{◌≡◌, ◌+◌, drop}
use Rattle.nim_check.specs.Made.{var_names}
use Rattle.nim_check.specs.Names.{place_in}
use Rattle.nim_check.proofs.names.var_place.Given as goal

abbrev pub invariant-loop-at : goal.invariant-loop-at
invariant-loop-at l = l.at + place_in (var_names (drop l.at l.vars)) l.word ≡ place_in (var_names l.vars) l.word
