use Rattle.std.proofs.Common.{rules, ◌++◌, ◌∷◌, ℕ, List, nat_lt, ap₂, ◌∙◌, arith}
use Rattle.std.proofs.lemmas.List.Sorted.{IsPartitionPoint-from_clause, IsPartitionedBy-ltb}
use Rattle.nim_queue.proofs.Rising.{cut, ok_only}
use Rattle.nim_queue.proofs.tickets.Tickets.put.Goals as goal

pub returns-clause-items : goal.returns-clause-items
returns-clause-items c rises room =
    let xs = c.args.self.now.items.items in
    let t = c.args.ticket in
    let parts =
    cut (λ x. nat_lt x t) xs c.partition_point-index.result
    (IsPartitionPoint-from_clause (λ x. nat_lt x t) xs c.partition_point-index.result c.partition_point-index.ensures.partitioned
    (IsPartitionedBy-ltb (λ x. x) xs t rises) (λ a r f' called. search rules)) in
    ok_only c.insert.result c.insert.ensures.items c.insert.ensures.full (λ full. absurd (omega (arith, full, room)))
    ∙ ap₂ (λ (front back : List ℕ). front ++ t ∷ back) parts.0 parts.1
