-- the homes of the tasks so far
use Rattle.std.proofs.Common.{◌≡◌, map, take}
use Rattle.nim_template.specs.Walk.{home_of}
use Rattle.nim_template.proofs.build.homes_of.Given as goal

abbrev pub invariant-loop-form : goal.invariant-loop-form
invariant-loop-form l = l.homes.items ≡ map (home_of l.place l.objects l.live) (take l.form-index l.forms)
