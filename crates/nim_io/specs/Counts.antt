-- Counts of faults. An adapter keeps its count as a u64 that stops at the greatest number.
use Rattle.std.specs.Prelude.{ℕ, ◌-◌, ◌^◌, ◌<◌, ◌≤◌, ◌⊎◌}

-- a fault came: the count is greater now, or it stands at its greatest number
abbrev pub Rose : ℕ → ℕ → Type 0
Rose old new = (old < new) ⊎ (2 ^ 64 - 1 ≤ new)

-- the count is what it was, or more
abbrev pub NeverFalls : ℕ → ℕ → Type 0
NeverFalls old new = old ≤ new
