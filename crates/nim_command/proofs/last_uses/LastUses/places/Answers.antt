use Rattle.std.proofs.Common.{◌∙◌, eqb}
use Rattle.std.proofs.lemmas.List.Filters.{dedup_is}
use Rattle.nim_command.proofs.Rises.{sorted_in, sorted_rises}
use Rattle.nim_command.proofs.last_uses.LastUses.places.Goals as goal

pub returns-clause-rise : goal.returns-clause-rise
returns-clause-rise g c =
    sorted_rises c.sort_unstable.new.self.items c.dedup.new.self.items c.sort_unstable.ensures.sorted
    (dedup_is eqb c.sort_unstable.new.self.items c.dedup.new.self.items c.dedup.ensures.filtered)

pub returns-clause-met : goal.returns-clause-met
returns-clause-met g c place =
    sorted_in c.met.new.places.items c.sort_unstable.new.self.items c.dedup.new.self.items place c.sort_unstable.ensures.permutation
    (dedup_is eqb c.sort_unstable.new.self.items c.dedup.new.self.items c.dedup.ensures.filtered)
    ∙ c.in_ok-met.ensures place
