use Rattle.std.proofs.Common.{◌≡◌, ◌<◌, ◌∙◌, ap, arith, length, get_or, ℕ}
use Rattle.std.proofs.lemmas.Grind.{get_or_default_zero}
use Rattle.nim_job.specs.Objects.{first_object}
use Rattle.nim_job.proofs.Whole.{ref_fits, ref_there}
use Rattle.nim_job.proofs.layout.Layout.object.Goals as goal

pub part-part-requires-clause-parts : goal.part-part-requires-clause-parts
part-part-requires-clause-parts c =
    omega (arith, (ref_fits c.args.self.now.vars.now c.args.reference c.args.self.now.whole c.requires.reference).0, c.parts.ensures)

pub overflow_cast-result : goal.overflow_cast-result
overflow_cast-result c = omega (
  arith,
  (ref_fits c.args.self.now.vars.now c.args.reference c.args.self.now.whole c.requires.reference).1,
  c.parts.ensures,
  c.part-part.ensures.within,
)

pub overflow_add-result : goal.overflow_add-result
overflow_add-result c =
    let vars = c.args.self.now.vars.now in
    let firsts = c.args.self.now.firsts.items in
    let var = c.args.reference.var in
    let within = ref_there vars c.args.reference c.requires.reference in
    let fits = ref_fits vars c.args.reference c.args.self.now.whole c.requires.reference in
    let found : c.from.result < length firsts = omega (arith, within, c.from.ensures, c.args.self.now.length) in
    let first : c.index.result.now ≡ first_object vars var =
    c.index.ensures ∙ get_or_default_zero firsts c.from.result c.index.result.now found ∙ ap (λ (k : ℕ). get_or firsts k 0) c.from.ensures
    ∙ c.args.self.now.each var within in
    omega (arith, fits.2, first, c.parts.ensures, c.part-part.ensures.within)
