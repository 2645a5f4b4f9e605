-- What a Create makes.
use Rattle.std.specs.Prelude.{ℤ, Bool, if◌then◌else◌}
use Rattle.nim_base.specs.declared.number.Shape.{Shape}
use Rattle.nim_base.specs.Value.{Grid, filled, iota_of}

-- a value of the shape: each cell the number, or counting up from it, row by row
abbrev pub created : Shape → Bool → ℤ → Grid
created shape iota number = if iota then iota_of shape number else filled shape number
