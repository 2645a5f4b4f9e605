use Rattle.std.proofs.Common.{◌∙◌, ◌≡◌, ℕ, false, sym, ap, true}
use Rattle.std.specs.Prelude.{Option}
use Rattle.nim_message.specs.Orders.{does_count}
use Rattle.nim_plan.specs.Listing.{is_epoch}
use Rattle.nim_plan.proofs.Listed.{counts_same, order_taken}
use Rattle.nim_plan.proofs.listing.Listing.take.Goals as goal

pub returns-then-is_current-clause-listing : goal.returns-then-is_current-clause-listing
returns-then-is_current-clause-listing c = λ session listing.
    let counts : does_count session c.args.order.now ≡ true =
    sym (counts_same c.args.self.now session c.args.order.now listing) ∙ ap (λ (e : Option ℕ). is_epoch c.args.self.now.epoch e) (sym c.epoch_named.ensures)
    ∙ sym c.is_current.ensures ∙ c.if-is_current.true in
    order_taken c.count.result c.count.new.self session c.args.order.now counts (c.count.ensures.listing session listing)

pub returns-else-is_current-clause-listing : goal.returns-else-is_current-clause-listing
returns-else-is_current-clause-listing c = λ session listing.
    let passed : does_count session c.args.order.now ≡ false =
    sym (counts_same c.args.self.now session c.args.order.now listing) ∙ ap (λ (e : Option ℕ). is_epoch c.args.self.now.epoch e) (sym c.epoch_named.ensures)
    ∙ sym c.is_current.ensures ∙ c.if-is_current.false in
    c.pass.ensures.listing session passed listing
