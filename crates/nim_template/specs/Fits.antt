-- Which forms a block may have.
use Rattle.std.specs.Prelude.{ℕ, nat_le, nat_lt, Bool, ◌&&◌, List, length}
use Rattle.std.specs.List.{list_all}
use Rattle.nim_base.specs.declared.number.Object.{Object}
use Rattle.nim_base.specs.declared.task.TaskForm.{TaskForm}

-- whether objects are among the first so many
abbrev pub are_below : ℕ → List Object → Bool
are_below objects all = list_all (λ (object : Object). nat_lt object.0 objects) all

-- one or two objects are written and at most eight are read, of so many objects
abbrev pub is_fit : ℕ → TaskForm → Bool
is_fit objects form =
    nat_le 1 (length form.writes) && nat_le (length form.writes) 2 && nat_le (length form.reads) 8
    && are_below objects form.writes && are_below objects form.reads
