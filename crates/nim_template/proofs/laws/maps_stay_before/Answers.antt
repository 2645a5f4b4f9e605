use Rattle.nim_template.proofs.StaysBefore.{maps_stay_before}
use Rattle.nim_template.proofs.laws.maps_stay_before.Goals as goal

pub returns : goal.returns
returns c = maps_stay_before
