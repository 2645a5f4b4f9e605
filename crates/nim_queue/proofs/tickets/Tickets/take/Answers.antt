use Rattle.std.proofs.Common.{rules, ◌++◌, ℕ, List, drop, nat_lt, ap, ap₂, sym, ◌∙◌}
use Rattle.std.proofs.lemmas.List.Sorted.{IsPartitionPoint-from_clause, IsPartitionedBy-ltb}
use Rattle.nim_queue.proofs.Rising.{cut, drop_one, taken_at}
use Rattle.nim_queue.proofs.tickets.Tickets.take.Goals as goal

pub returns-clause-items : goal.returns-clause-items
returns-clause-items c rises =
    let xs = c.args.self.now.items.items in
    let t = c.args.ticket in
    let at = c.partition_point-index.result in
    let parts =
    cut (λ x. nat_lt x t) xs at
    (IsPartitionPoint-from_clause (λ x. nat_lt x t) xs at c.partition_point-index.ensures.partitioned (IsPartitionedBy-ltb (λ x. x) xs t rises)
    (λ a r f' called. search rules)) in
    taken_at c.remove.result xs c.remove.new.self.items at c.args.self.now.items.len c.remove.ensures.items (search rules) c.remove.ensures.variant
    c.args.self.now.items.ok.0
    ∙ ap₂ (λ (front back : List ℕ). front ++ back) parts.0 (sym (drop_one at xs) ∙ ap (drop 1) parts.1)
