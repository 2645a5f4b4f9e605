use Rattle.std.proofs.Common.{rules, ◌≡◌, ℕ, true, List, Option, IfSome, nat_lt, ap, subst, sym, ◌∙◌}
use Rattle.std.specs.Prelude.{slice_get, nat_le}
use Rattle.std.proofs.lemmas.List.Sorted.{IsPartitionPoint-from_clause, IsPartitionedBy-leb}
use Rattle.nim_queue.specs.Stands.{first_to_pass}
use Rattle.nim_queue.proofs.Rising.{cut, first_passes, first_passing, get_dropped, past_all, read_at}
use Rattle.nim_queue.proofs.tickets.Tickets.past.Goals as goal

pub returns-clause-first : goal.returns-clause-first
returns-clause-first c rises =
    let xs = c.args.self.now.items.items in
    let t = c.args.after in
    let at = c.partition_point-index.result in
    let parts =
    cut (λ x. nat_le x t) xs at
    (IsPartitionPoint-from_clause (λ x. nat_le x t) xs at c.partition_point-index.ensures.partitioned (IsPartitionedBy-leb (λ x. x) xs t rises)
    (λ a r f' called. search rules)) in
    let is : c.copied.result ≡ first_to_pass (nat_lt t) xs =
    c.copied.ensures ∙ read_at c.get.result xs at c.args.self.now.items.len c.get.ensures.variant c.get.ensures.lookup c.args.self.now.items.ok.0
    ∙ sym (get_dropped at xs) ∙ ap (λ (ys : List ℕ). slice_get ys 0) (parts.1 ∙ past_all t xs) ∙ sym (first_passing (nat_lt t) xs) in
    c.only_past.ensures.same (subst (λ (o : Option ℕ). IfSome o (λ x. nat_lt t x ≡ true)) (sym is) (first_passes (nat_lt t) xs)) ∙ is
