-- What tasks compute: the table of the functions. What each of them gives stands in Functions.antt.
use Rattle.std.specs.Prelude.{◌≡◌, ℕ, ◌≤◌, ◌==◌, Bool, ◌&&◌, nat_le, ℤ, List, [], ◌∷◌, length}
use Rattle.nim_base.specs.declared.number.Shape.{Shape}
use Rattle.nim_base.specs.declared.task.Func.{Func}
use Rattle.nim_base.specs.declared.task.Func.TheVariants.{Set, Copy, Addc, Mulc, Add, Sub, Max, Sum, Total, Count, Stencil, Keep, Group, Merge, Split}
use Rattle.nim_base.specs.Value.{Grid, filled, fitted}
use Rattle.nim_base.specs.Functions.{param_at, read_of, addc_of, mulc_of, add_of, sub_of, max_of, sum_of, total_of, count_of, stencil_of, keep_of, group_of, merge_of, below_of, split_rest}

-- how many parameters a function has
abbrev pub params_of : Func → ℕ
params_of Set = 1
params_of Addc = 1
params_of Mulc = 1
params_of Stencil = 2
params_of Keep = 3
params_of Group = 2
params_of Split = 2
params_of _ = 0

-- the fewest values that a function reads
abbrev pub fewest_reads : Func → ℕ
fewest_reads Set = 0
fewest_reads Add = 2
fewest_reads Sub = 2
fewest_reads Max = 2
fewest_reads Stencil = 3
fewest_reads _ = 1

-- the most values that a function reads
abbrev pub most_reads : Func → ℕ
most_reads Set = 0
most_reads Add = 2
most_reads Sub = 2
most_reads Max = 2
most_reads Sum = 8
most_reads Total = 8
most_reads Count = 8
most_reads Stencil = 3
most_reads Merge = 8
most_reads _ = 1

-- how many results a function has
abbrev pub result_count : Func → ℕ
result_count Split = 2
result_count _ = 1

-- the numbers of parameters, reads and results are the function's
pub record HasCounts {A B C : Type 0} (func : Func) (numbers : List A) (sources : List B) (results : List C) : Type 0
  where
    pub params : length numbers ≡ params_of func
    pub fewest : fewest_reads func ≤ length sources
    pub most : length sources ≤ most_reads func
    pub writes : length results ≡ result_count func

-- the same as a test, of how many there are
abbrev pub has_counts : Func → ℕ → ℕ → ℕ → Bool
has_counts func params reads writes =
    (params == params_of func) && nat_le (fewest_reads func) reads && nat_le reads (most_reads func)
    && (writes == result_count func)

-- What a function gives for its parameters and the values that it reads, before each result is fitted. The
-- shape is the first that it writes.
abbrev pub results_of : Func → List ℤ → List Grid → Shape → List Grid
results_of Set params reads shape = filled shape (param_at params 0) ∷ []
results_of Copy params reads shape = read_of reads 0 ∷ []
results_of Addc params reads shape = addc_of (param_at params 0) (read_of reads 0) ∷ []
results_of Mulc params reads shape = mulc_of (param_at params 0) (read_of reads 0) ∷ []
results_of Add params reads shape = add_of (read_of reads 0) (read_of reads 1) ∷ []
results_of Sub params reads shape = sub_of (read_of reads 0) (read_of reads 1) ∷ []
results_of Max params reads shape = max_of (read_of reads 0) (read_of reads 1) ∷ []
results_of Sum params reads shape = sum_of reads ∷ []
results_of Total params reads shape = total_of reads ∷ []
results_of Count params reads shape = count_of reads ∷ []
results_of Stencil params reads shape =
    stencil_of (param_at params 0) (param_at params 1) (read_of reads 0) (read_of reads 1) (read_of reads 2) ∷ []
results_of Keep params reads shape =
    keep_of (param_at params 0) (param_at params 1) (param_at params 2) (read_of reads 0) ∷ []
results_of Group params reads shape = group_of (param_at params 0) (param_at params 1) (read_of reads 0) ∷ []
results_of Merge params reads shape = merge_of reads ∷ []
results_of Split params reads shape =
    below_of (param_at params 0) (param_at params 1) (read_of reads 0)
    ∷ split_rest (param_at params 0) (param_at params 1) (read_of reads 0) ∷ []

-- each result fitted to the shape that it is written into
abbrev pub fit_all : List Grid → List Shape → List Grid
fit_all (grid ∷ grids) (shape ∷ shapes) = fitted grid shape ∷ fit_all grids shapes
fit_all _ _ = []

-- what a task writes, one value a shape
abbrev pub apply_of : Func → List ℤ → List Grid → List Shape → List Grid
apply_of func params reads [] = []
apply_of func params reads (shape ∷ shapes) = fit_all (results_of func params reads shape) (shape ∷ shapes)
