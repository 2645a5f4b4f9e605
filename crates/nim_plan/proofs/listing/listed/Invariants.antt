-- the listing has what the orders so far come to
use Rattle.std.proofs.Common.{◌≤◌, take}
use Rattle.nim_message.specs.Orders.{session_of}
use Rattle.nim_plan.specs.Listing.{IsListing}
use Rattle.nim_plan.proofs.listing.listed.Given as goal

abbrev pub invariant-loop-order : goal.invariant-loop-order
invariant-loop-order l = record {
  listing : IsListing l.listing (session_of (take l.order-index l.orders));
  groups : l.listing.groups ≤ l.order-index;
}
