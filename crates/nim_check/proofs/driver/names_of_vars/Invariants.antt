use Rattle.std.proofs.Common.{◌≡◌, take}
use Rattle.nim_check.specs.Made.{var_names}
use Rattle.nim_check.proofs.driver.names_of_vars.Given as goal

abbrev pub invariant-loop-var : goal.invariant-loop-var
invariant-loop-var l = l.names ≡ var_names (take l.var-index l.vars)
