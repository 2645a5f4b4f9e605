use Rattle.std.proofs.Common.{ap, rules, ◌∙◌}
use Rattle.lru.specs.LruCache.{LruCache}
use Rattle.nim_patch.specs.declared.kept.Key.{Key}
use Rattle.nim_patch.specs.declared.kept.Kept.{Kept}
use Rattle.nim_patch.specs.Uses.{patch_key}
use Rattle.nim_patch.proofs.Calls.{keeps}
use Rattle.nim_patch.proofs.cache.PatchCache.keep.Goals as goal

pub invariant_of-self-2 : goal.invariant_of-self-2
invariant_of-self-2 c =
    let put = ap (λ (l : LruCache Key Kept). l.entries) c.in_ok-put.ensures.entries in
    let is = keeps (patch_key c.args.previous c.args.next) c.args.patch.copies c.number_for-number.result c.self.inside.kept c.args.self.now
    c.put.new.self.entries c.self.view_is c.self.invariant.0 c.self.invariant.1 c.number_for-number.ensures.value put in
    (ap (λ (l : LruCache Key Kept). l.cap) c.in_ok-put.ensures.entries ∙ c.self.invariant.0, is.valid)

pub returns : goal.returns
returns c =
    let put = ap (λ (l : LruCache Key Kept). l.entries) c.in_ok-put.ensures.entries in
    let is = keeps (patch_key c.args.previous c.args.next) c.args.patch.copies c.number_for-number.result c.self.inside.kept c.args.self.now
    c.put.new.self.entries c.self.view_is c.self.invariant.0 c.self.invariant.1 c.number_for-number.ensures.value put in
    record { number = search rules; below = search rules; kept = is.kept; err = search rules; valid = is.valid; stands = is.stands }
