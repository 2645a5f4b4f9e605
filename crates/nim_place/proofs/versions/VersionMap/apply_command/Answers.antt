use Rattle.nim_place.proofs.History.{stands_on}
use Rattle.nim_place.proofs.versions.VersionMap.apply_command.Goals as goal

pub returns-clause-stands : goal.returns-clause-stands
returns-clause-stands c = stands_on c.args.self.now c.put_by.new.self c.args.worker c.args.command.now c.put_by.ensures
