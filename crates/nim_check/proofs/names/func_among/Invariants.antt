-- what the functions that are left give is what all give
use Rattle.std.proofs.Common.{◌≡◌, drop, map}
use Rattle.nim_check.specs.Names.{func_among}
use Rattle.nim_check.proofs.names.func_among.Given as goal

abbrev pub invariant-loop-name : goal.invariant-loop-name
invariant-loop-name l =
    func_among (map (λ f. (f.0.now, f.1)) (drop l.name-index l.functions)) l.word ≡ func_among (map (λ f. (f.0.now, f.1)) l.functions) l.word
