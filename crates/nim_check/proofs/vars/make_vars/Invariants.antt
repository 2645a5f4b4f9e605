use Rattle.std.proofs.Common.{◌≡◌, true, map, take, drop, []}
use Rattle.std.specs.List.{list_all, sum_by}
use Rattle.nim_job.specs.Objects.{objects_of}
use Rattle.nim_job.specs.Whole.{cells_in, is_var}
use Rattle.nim_check.specs.Made.{var_of}
use Rattle.nim_check.specs.Refusals.{first_refusal}
use Rattle.nim_check.specs.Rules.{are_few}
use Rattle.nim_check.specs.DriverPlaces.{places_of_vars}
use Rattle.nim_check.proofs.vars.make_vars.Given as goal

abbrev pub invariant-loop-at : goal.invariant-loop-at
invariant-loop-at l = record {
  places : first_refusal (places_of_vars (take l.at l.vars) (drop l.at l.vars)) ≡ first_refusal (places_of_vars [] l.vars);
  made : l.made ≡ map var_of (take l.at l.vars);
  each : list_all is_var l.made ≡ true;
  few : are_few l.made ≡ true;
  objects : l.objects ≡ objects_of l.made;
  cells : l.cells ≡ sum_by cells_in l.made;
}
