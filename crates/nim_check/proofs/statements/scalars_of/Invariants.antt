use Rattle.std.proofs.Common.{◌≡◌, ◌≤◌, drop, length}
use Rattle.nim_check.specs.Refusals.{first_refusal}
use Rattle.nim_check.specs.DriverPlaces.{empty_scope, places_of_statements, scope_of}
use Rattle.nim_check.proofs.statements.scalars_of.Given as goal

abbrev pub invariant-loop-at : goal.invariant-loop-at
invariant-loop-at l = record {
  places : first_refusal (places_of_statements l.sections l.scope (drop l.at l.sections.statements))
      ≡ first_refusal (places_of_statements l.sections empty_scope l.sections.statements);
  scope : scope_of l.scope (drop l.at l.sections.statements) ≡ scope_of empty_scope l.sections.statements;
  few : length l.scope.scalars ≤ 64;
  depth : l.scope.depth ≤ l.at;
}
