-- the commands so far are appended, and the rest is as it was
use Rattle.std.proofs.Common.{◌≡◌, ◌++◌}
use Rattle.nim_plan.specs.Listing.{members_at}
use Rattle.nim_plan.proofs.listing.Listing.push_group.Given as goal

abbrev pub invariant-loop-command : goal.invariant-loop-command
invariant-loop-command l = record {
  members : l.self.members.items ≡ l.initial.self.members.items ++ members_at l.initial.self.groups l.yielded;
  rest : l.self ≡ record l.initial.self { members = l.self.members };
}
