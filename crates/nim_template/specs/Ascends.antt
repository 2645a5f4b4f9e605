-- When the entries of a half ascend by number.
use Rattle.std.specs.Prelude.{ℕ, ◌+◌, nat_le, Bool, true, ◌&&◌, List, [], ◌∷◌}
use Rattle.nim_command.specs.declared.entry.Entry.{Entry}

-- whether the numbers ascend, each greater than the one before, from a number on
abbrev pub does_ascend : ℕ → List Entry → Bool
does_ascend low [] = true
does_ascend low (entry ∷ entries) = nat_le low entry.id && does_ascend (entry.id + 1) entries
