use Rattle.std.proofs.Common.{ℕ, ◌≤◌, None, Some, subst}
use Rattle.nim_patch.proofs.Calls.{chosen_below, count_free, oldest_free}
use Rattle.nim_patch.proofs.cache.PatchCache.free_number.Goals as goal

pub returns-then-count-lt-MOST-clause-value : goal.returns-then-count-lt-MOST-clause-value
returns-then-count-lt-MOST-clause-value c =
    count_free c.self.inside.kept.entries c.args.self.now c.len-count.result c.self.view_is c.self.invariant.1 c.len-count.ensures.len c.if-count-lt-MOST.true

pub returns-in-Some-clause-value : goal.returns-in-Some-clause-value
returns-in-Some-clause-value c =
    oldest_free c.self.inside.kept.entries c.args.self.now (Some (c.in-Some.field-0-0.now, c.in-Some.kept.now)) c.self.view_is c.self.invariant.1
    (subst (λ (n : ℕ). 64 ≤ n) c.len-count.ensures.len c.if-count-lt-MOST.false) c.in-Some.ensures

pub returns-in-Some-clause-below : goal.returns-in-Some-clause-below
returns-in-Some-clause-below c =
    chosen_below c.self.inside.kept.entries c.args.self.now c.in-Some.kept.now.number c.self.view_is c.self.invariant.1
    (oldest_free c.self.inside.kept.entries c.args.self.now (Some (c.in-Some.field-0-0.now, c.in-Some.kept.now)) c.self.view_is c.self.invariant.1
    (subst (λ (n : ℕ). 64 ≤ n) c.len-count.ensures.len c.if-count-lt-MOST.false) c.in-Some.ensures)

pub returns-in-None-clause-value : goal.returns-in-None-clause-value
returns-in-None-clause-value c =
    oldest_free c.self.inside.kept.entries c.args.self.now None c.self.view_is c.self.invariant.1
    (subst (λ (n : ℕ). 64 ≤ n) c.len-count.ensures.len c.if-count-lt-MOST.false) c.in-None.ensures
