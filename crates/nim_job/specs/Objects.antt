-- Variables as objects: one a part, numbered in order of declaration and then of part.
use Rattle.std.specs.Prelude.{ℕ, ◌*◌, pos, List, take, drop, map, replicate, slice_get, slice_index_or}
use Rattle.std.specs.List.{flat_map, range_with_len, sum_by}
use Rattle.std.specs.Option.{option_map_or}
use Rattle.nim_base.specs.declared.number.Object.{Object}
use Rattle.nim_base.specs.declared.number.Shape.{Shape}
use Rattle.nim_base.specs.Value.{Grid, empty_grid, filled, iota_of}
use Rattle.nim_job.specs.declared.job.Init.{Init}
use Rattle.nim_job.specs.declared.job.Init.TheVariants.{Fill, Iota, Loaded}
use Rattle.nim_job.specs.declared.job.Var.{Var}

-- how many parts a variable has; there is none past the last
abbrev pub parts_of : List Var → ℕ → ℕ
parts_of vars var = option_map_or (λ v. v.parts) (slice_get vars var) 0

-- how many objects variables have
abbrev pub objects_of : List Var → ℕ
objects_of vars = sum_by (λ v. v.parts) vars

-- the object that is part 0 of a variable
abbrev pub first_object : List Var → ℕ → ℕ
first_object vars var = objects_of (take var vars)

-- the shapes of all objects
abbrev pub shapes_of : List Var → List Shape
shapes_of vars = flat_map (λ v. replicate v.parts v.shape) vars

-- the number of the first cell of a part, where the cells of all parts are counted from 0, row by row
abbrev pub first_cell : Shape → ℕ → ℕ
first_cell shape part = part * (shape.rows * shape.width)

-- what the parts of a variable hold at first
abbrev pub initial_parts : Var → Init → List Grid
initial_parts v (Fill number) = replicate v.parts (filled v.shape number)
initial_parts v Iota = map (λ part. iota_of v.shape (pos (first_cell v.shape part))) (range_with_len 0 v.parts)
initial_parts v (Loaded values) = values

-- what all objects hold at first
abbrev pub initial_values : List Var → List Grid
initial_values vars = flat_map (λ v. initial_parts v v.init) vars

-- what an object holds
abbrev pub value_at : List Grid → Object → Grid
value_at values object = slice_index_or values object.0 empty_grid

-- the shape of an object; one that isn't there has no rows
abbrev pub shape_at : List Shape → Object → Shape
shape_at shapes object = slice_index_or shapes object.0 (record { width = 1; rows = 0 })

-- what the parts of a variable hold
abbrev pub parts_at : List Var → List Grid → ℕ → List Grid
parts_at vars values var = take (parts_of vars var) (drop (first_object vars var) values)
