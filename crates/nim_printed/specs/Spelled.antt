-- Which trees and jobs a printer can print: their names are names, and their numbers are in the ranges of the language.
use Rattle.std.specs.Prelude.{ℕ, Bool, true, not, ◌&&◌, nat_le, ℤ, pos, negsuc, List, [], ◌++◌, map, Option, None, Some}
use Rattle.std.specs.List.{list_all}
use Rattle.nim_base.specs.declared.task.Param.{Param}
use Rattle.nim_base.specs.declared.task.Param.TheVariants as param
use Rattle.nim_job.specs.declared.block.Block.{Block as job_block}
use Rattle.nim_job.specs.declared.block.Place.{Place}
use Rattle.nim_job.specs.declared.block.Place.TheVariants.{Fixed, Plus, Minus}
use Rattle.nim_job.specs.declared.block.Ref.{Ref as job_ref}
use Rattle.nim_job.specs.declared.block.Stage.{Stage as job_stage}
use Rattle.nim_job.specs.declared.job.Init.{Init as job_init}
use Rattle.nim_job.specs.declared.job.Init.TheVariants as init
use Rattle.nim_job.specs.declared.job.Job.{Job}
use Rattle.nim_job.specs.declared.job.Var.{Var as job_var}
use Rattle.nim_job.specs.declared.stmt.Arith.{Arith}
use Rattle.nim_job.specs.declared.stmt.Atom.{Atom as job_atom}
use Rattle.nim_job.specs.declared.stmt.Atom.TheVariants as atom
use Rattle.nim_job.specs.declared.stmt.Cond.{Cond}
use Rattle.nim_job.specs.declared.stmt.Stmt.{Stmt, fold-Stmt}
use Rattle.nim_job.specs.declared.stmt.Stmt.TheOpen.{Stmt-F}
use Rattle.nim_check.specs.Names.{has_twice, is_in, reserved}
use Rattle.nim_printed.specs.Words.{Word, is_short_name}

-- a name that isn't a reserved word
abbrev pub is_unreserved : Word → Bool
is_unreserved word = is_short_name word && not (is_in reserved word)

-- a number that the language can write
abbrev pub is_small : ℕ → Bool
is_small n = nat_le n 9223372036854775808

-- a number of 64 bits with its sign
abbrev pub is_int : ℤ → Bool
is_int (pos n) = nat_le n 9223372036854775807
is_int (negsuc n) = nat_le n 9223372036854775807

-- ---- jobs

-- a number that fills the variable is one of 64 bits
abbrev pub is_spelled_init : job_init → Bool
is_spelled_init (init.Fill number) = is_int number
is_spelled_init _ = true

-- the number of a part, or what is added to the task's own number or taken away, can be written
abbrev pub is_spelled_place : Place → Bool
is_spelled_place (Fixed n) = is_small n
is_spelled_place (Plus n) = is_small n
is_spelled_place (Minus n) = is_small n

-- a parameter that is a number is one of 64 bits
abbrev pub is_spelled_param : Param → Bool
is_spelled_param (param.Const number) = is_int number
is_spelled_param (param.Arg arg) = true

-- all numbers in the references and parameters of a stage can be written
abbrev pub is_spelled_stage : job_stage → Bool
is_spelled_stage stage =
    list_all (λ (ref : job_ref). is_spelled_place ref.place)
    (stage.reads ++ stage.writes) && list_all is_spelled_param stage.params

-- an atom that is a number is one of 64 bits
abbrev pub is_spelled_atom : job_atom → Bool
is_spelled_atom (atom.Const number) = is_int number
is_spelled_atom (atom.Scalar scalar) = true

-- the second atom of a `let`, if it has one, can be written
abbrev pub is_spelled_rest : Option (Arith × job_atom) → Bool
is_spelled_rest None = true
is_spelled_rest (Some rest) = is_spelled_atom rest.1

-- both atoms of a condition can be written
abbrev pub is_spelled_cond : Cond → Bool
is_spelled_cond cond = is_spelled_atom cond.left && is_spelled_atom cond.right

-- all parts of a body can be written
abbrev pub all_true : List Bool → Bool
all_true parts = list_all (λ part. part) parts

-- the numbers of a statement can be written, and so can the statements that it holds
abbrev pub is_stmt : Stmt-F Bool → Bool
is_stmt (Stmt-F.Do block args) = list_all is_spelled_atom args
is_stmt (Stmt-F.Let scalar first rest) = is_spelled_atom first && is_spelled_rest rest
is_stmt (Stmt-F.Get scalar var part row cell) = is_small part && is_small row && is_small cell
is_stmt (Stmt-F.Loop turns body) = is_spelled_atom turns && all_true body
is_stmt (Stmt-F.While cond body) = is_spelled_cond cond && all_true body
is_stmt (Stmt-F.If cond first second) = is_spelled_cond cond && all_true first && all_true second
is_stmt Stmt-F.Checkpoint = true
is_stmt (Stmt-F.Output var) = true

-- the names of all variables and then of all blocks of a job
abbrev pub names_in : Job → List Word
names_in job = map (λ v. v.name) job.vars ++ map (λ b. b.name) job.blocks

-- Variables and blocks have names of their own that aren't reserved, and each number can be written.
abbrev pub is_spelled : Job → Bool
is_spelled job = list_all is_unreserved (names_in job) && not (has_twice (names_in job))
    && list_all (λ (v : job_var). is_spelled_init v.init) job.vars
    && list_all (λ (b : job_block). list_all is_spelled_stage b.stages) job.blocks
    && list_all (λ (stmt : Stmt). fold-Stmt Bool is_stmt stmt) job.body

-- the same job, loaded data not yet there
abbrev pub without_data : job_init → job_init
without_data (init.Loaded values) = init.Loaded []
without_data i = i

-- the job as it is before any data are loaded
abbrev pub unloaded : Job → Job
unloaded job = record job { vars = map (λ (v : job_var). record v { init = without_data v.init }) job.vars }
