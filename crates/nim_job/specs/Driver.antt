-- Where a driver stands, apart from what the objects hold.
use Rattle.std.specs.Prelude.{ℕ, Bool, ℤ, pos, Option, None, Some, List, [], map, replicate, slice_index_or}
use Rattle.std.specs.Option.{option_map_or}
use Rattle.nim_job.specs.declared.item.Item.{Item}
use Rattle.nim_job.specs.declared.item.Item.TheVariants.{Run}
use Rattle.nim_job.specs.declared.job.Job.{Job}
use Rattle.nim_job.specs.declared.stmt.Arith.{Arith}
use Rattle.nim_job.specs.declared.stmt.Atom.{Atom}
use Rattle.nim_job.specs.declared.stmt.Atom.TheVariants.{Const, Scalar}
use Rattle.nim_job.specs.declared.stmt.Cond.{Cond}
use Rattle.nim_job.specs.Arith.{arith_value, compared}
use Rattle.nim_job.specs.Whole.{scalars_set}

-- the items still to do, the scalars, how many statements were counted, and the output so far
pub record Driver : Type 0 where
  pub todo : List Item
  pub scalars : List ℤ
  pub count : ℕ
  pub output : List ℕ

-- how many scalars a job has
abbrev pub scalar_count : Job → ℕ
scalar_count job = option_map_or (λ count. count) (scalars_set job) 0

-- at the start the whole body is to do, and each scalar is 0
abbrev pub start_driver : Job → Driver
start_driver job =
    record { todo = map Run job.body; scalars = replicate (scalar_count job) (pos 0); count = 0; output = [] }

-- the most bytes that a run may print
abbrev pub output_limit : ℕ
output_limit = 16777216

-- what an atom stands for
abbrev pub atom_value : List ℤ → Atom → ℤ
atom_value scalars (Const number) = number
atom_value scalars (Scalar s) = slice_index_or scalars s (pos 0)

-- what a `let` sets its scalar to
abbrev pub let_value : List ℤ → Atom → Option (Arith × Atom) → ℤ
let_value scalars first None = atom_value scalars first
let_value scalars first (Some rest) = arith_value rest.0 (atom_value scalars first) (atom_value scalars rest.1)

-- whether a condition holds
abbrev pub is_met : List ℤ → Cond → Bool
is_met scalars cond = compared cond.cmp (atom_value scalars cond.left) (atom_value scalars cond.right)
