use Rattle.std.proofs.Common.{arith}
use Rattle.nim_template.proofs.Fits.{first_of}
use Rattle.nim_template.proofs.build.homes_of.Goals as goal

pub home_of-requires-clause-writes : goal.home_of-requires-clause-writes
home_of-requires-clause-writes c =
    first_of c.args.objects c.args.forms.now c.loop-form.form-index c.form-item.result c.requires.all_fit (omega (arith, c.loop-form-test.true)) c.form-item.is
