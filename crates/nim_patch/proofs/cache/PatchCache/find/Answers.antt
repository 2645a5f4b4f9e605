use Rattle.std.proofs.Common.{ap, rules, ◌∙◌}
use Rattle.lru.specs.LruCache.{LruCache}
use Rattle.nim_patch.specs.declared.kept.Key.{Key}
use Rattle.nim_patch.specs.declared.kept.Kept.{Kept}
use Rattle.nim_patch.specs.Uses.{patch_key}
use Rattle.nim_patch.proofs.Calls.{finds, misses}
use Rattle.nim_patch.proofs.cache.PatchCache.find.Goals as goal

pub invariant_of-self : goal.invariant_of-self
invariant_of-self c =
    let moved = ap (λ (l : LruCache Key Kept). l.entries) c.promote.ensures.entries in
    let is = finds (patch_key c.args.previous c.args.next) c.args.patch.now.copies c.in-Some.number c.self.inside.kept.entries c.args.self.now
    c.promote.new.self.entries c.self.view_is c.self.invariant.1 (search rules) moved in
    (ap (λ (l : LruCache Key Kept). l.cap) c.promote.ensures.entries ∙ c.self.invariant.0, is.valid)

pub returns-in-Some : goal.returns-in-Some
returns-in-Some c =
    let moved = ap (λ (l : LruCache Key Kept). l.entries) c.promote.ensures.entries in
    let is = finds (patch_key c.args.previous c.args.next) c.args.patch.now.copies c.in-Some.number c.self.inside.kept.entries c.args.self.now
    c.promote.new.self.entries c.self.view_is c.self.invariant.1 (search rules) moved in
    record { value = search rules; kept = is.kept; valid = is.valid; hit = is.hits; stands = is.stands }

pub returns-in-None-clause-hit : goal.returns-in-None-clause-hit
returns-in-None-clause-hit c = misses (patch_key c.args.previous c.args.next) c.args.patch.now.copies c.args.self.now (search rules)
