-- How many objects a task reads and writes.
use Rattle.std.proofs.Common.{◌≡◌, ℕ, ◌≤◌, true, length, arith}
use Rattle.std.proofs.lemmas.Bool.Decides.{nat_tests}
use Rattle.nim_base.specs.declared.task.Func.{Func}
use Rattle.nim_base.specs.declared.task.Func.TheVariants.{Set, Split}
use Rattle.nim_base.specs.declared.task.Task.{Task}
use Rattle.nim_base.specs.Apply.{has_counts, most_reads, result_count}
use Rattle.nim_job.specs.Whole.{is_whole_task}

pub reads_few : (func : Func) → most_reads func ≤ 8
reads_few Set = omega arith
reads_few func = omega arith

pub writes_some : (func : Func) → 1 ≤ result_count func
writes_some Split = omega arith
writes_some func = omega arith

pub writes_few : (func : Func) → result_count func ≤ 2
writes_few Split = omega arith
writes_few func = omega arith

pub counts_of : (func : Func) (params reads writes : ℕ) → has_counts func params reads writes ≡ true → (reads ≤ most_reads func) × (writes ≡ result_count func)
counts_of func params reads writes is = grind (arith, nat_tests)

pub task_counts : (n : ℕ) (task : Task) → is_whole_task n task ≡ true
    → has_counts task.func (length task.params) (length task.reads) (length task.writes) ≡ true
task_counts n task is = grind (arith, nat_tests)
