use Rattle.std.proofs.Common.{arith}
use Rattle.nim_job.proofs.Whole.{ref_fits}
use Rattle.nim_job.proofs.layout.object.Goals as goal

pub part-part-requires-clause-parts : goal.part-part-requires-clause-parts
part-part-requires-clause-parts c = omega (arith, (ref_fits c.args.vars.now c.args.reference c.requires.vars c.requires.reference).0, c.parts.ensures)

pub overflow_cast-result : goal.overflow_cast-result
overflow_cast-result c =
    omega (arith, (ref_fits c.args.vars.now c.args.reference c.requires.vars c.requires.reference).1, c.parts.ensures, c.part-part.ensures.within)

pub overflow_add-result : goal.overflow_add-result
overflow_add-result c =
    let fits = ref_fits c.args.vars.now c.args.reference c.requires.vars c.requires.reference in
    omega (arith, fits.2, c.parts.ensures, c.first_object.ensures, c.part-part.ensures.within)
