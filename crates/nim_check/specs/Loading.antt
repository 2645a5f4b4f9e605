-- Loaded data put into a job: a part for each part of each loaded variable, in order of declaration and of part.
use Rattle.std.specs.Prelude.{ℕ, Bool, true, false, if◌then◌else◌, List, [], ◌∷◌, take, drop, map, Option, None, Some}
use Rattle.std.specs.List.{flat_map, range_with_len}
use Rattle.nim_base.specs.Value.{Grid}
use Rattle.nim_lex.specs.declared.fault.Refusal.{Refusal}
use Rattle.nim_job.specs.declared.job.Init.{Init}
use Rattle.nim_job.specs.declared.job.Init.TheVariants.{Loaded}
use Rattle.nim_job.specs.declared.job.Job.{Job}
use Rattle.nim_job.specs.declared.job.Var.{Var}
use Rattle.nim_data.specs.declared.wanted.Wanted.{Wanted}
use Rattle.nim_data.specs.Wanted.{data_file_refusal, values_in}

-- ---- what is to be loaded

-- whether what a variable holds at first comes from a data file
abbrev pub is_load : Init → Bool
is_load (Loaded values) = true
is_load _ = false

-- one part that a data file is to give: the variable's name and shape, and the part's number
abbrev pub want : Var → ℕ → Wanted
want v part = record { name = v.name; part = part; shape = v.shape }

-- so many parts of a variable, from this number on
abbrev pub wants : Var → ℕ → ℕ → List Wanted
wants v part count = map (want v) (range_with_len part count)

-- the parts of a variable that a data file is to give: all of them, or none where it isn't loaded
abbrev pub wanted_of : Var → List Wanted
wanted_of v = if is_load v.init then wants v 0 v.parts else []

-- all that a data file is to give, in order of declaration and then of part
abbrev pub wanted : List Var → List Wanted
wanted vars = flat_map wanted_of vars

-- why a data file is refused for a job, if it is
abbrev pub data_refusal : Job → List ℕ → Option Refusal
data_refusal job bytes = data_file_refusal (wanted job.vars) bytes

-- ---- what is loaded

-- the values that a loaded variable is given: the next ones, one a part
abbrev pub given_by : Var → List Grid → Option (List Grid)
given_by v values = if is_load v.init then Some (take v.parts values) else None

-- the values that a variable leaves for the next ones
abbrev pub values_left : Var → List Grid → List Grid
values_left v values = if is_load v.init then drop v.parts values else values

-- a variable with the values that it is given
abbrev pub holding : Var → Option (List Grid) → Var
holding v None = v
holding v (Some values) = record v { init = Loaded values }

-- the loaded variables take values one after another
abbrev pub with_values_loaded : List Var → List Grid → List Var
with_values_loaded [] values = []
with_values_loaded (v ∷ vars) values = holding v (given_by v values) ∷ with_values_loaded vars (values_left v values)

-- the job with the data of a file
abbrev pub loaded : Job → List ℕ → Job
loaded job bytes = record job { vars = with_values_loaded job.vars (values_in bytes) }

-- ---- on the way

-- for each variable the parts that it is given
abbrev pub parts_by_var : List Var → List Grid → List (Option (List Grid))
parts_by_var [] values = []
parts_by_var (v ∷ vars) values = given_by v values ∷ parts_by_var vars (values_left v values)

-- variables with what they are given, as far as it goes
abbrev pub holding_all : List Var → List (Option (List Grid)) → List Var
holding_all [] given = []
holding_all (v ∷ vars) [] = v ∷ vars
holding_all (v ∷ vars) (var_parts ∷ given) = holding v var_parts ∷ holding_all vars given
