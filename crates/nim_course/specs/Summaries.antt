-- What a controller counts of what it gives.
use Rattle.std.specs.Prelude.{ℕ, ◌+◌, min, Bool, true, false, List, [], replicate, slice_get, slice_set}
use Rattle.std.specs.List.{count_by, fold}
use Rattle.std.specs.Option.{option_map_or}
use Rattle.nim_base.specs.declared.number.Worker.{Worker}
use Rattle.nim_command.specs.declared.command.Command.{Command}
use Rattle.nim_command.specs.declared.command.Kind.{Kind}
use Rattle.nim_command.specs.Numbers.{counted_from}
use Rattle.nim_message.specs.declared.order.ToWorker.{ToWorker}
use Rattle.nim_message.specs.declared.order.ToWorker.TheVariants.{Single, Instantiate}
use Rattle.nim_message.specs.Lengths.{order_length_of}
use Rattle.nim_place.specs.Directed.{Directed}
use Rattle.nim_reuse.specs.declared.reused.Patched.{Patched}
use Rattle.nim_reuse.specs.declared.reused.Patched.TheVariants.{Not, Repeated, Made}
use Rattle.nim_reuse.specs.Decisions.{Decisions, half_tasks}
use Rattle.nim_course.specs.declared.summary.Summary.{Summary}
use Rattle.nim_course.specs.declared.summary.WorkerLine.{WorkerLine}

-- a number of 32 bits that counts on; the greatest one stays
abbrev pub counted_on : ℕ → ℕ → ℕ
counted_on number by = min (number + by) 4294967295

-- nothing of so many workers, all of them live
abbrev pub new_summary : ℕ → Summary
new_summary workers = record {
  instances = 0;
  single = 0;
  installed = 0;
  cached = 0;
  made = 0;
  repeated = 0;
  taken = 0;
  refused = 0;
  edits = [];
  rollbacks = [];
  control = 0;
  workers = replicate workers (record { live = true; tasks = 0; orders = 0 });
}

-- ---- instances

-- one more instance, given task by task
abbrev pub single_counted : Summary → Summary
single_counted summary =
    record summary { instances = counted_on summary.instances 1; single = counted_on summary.single 1 }

-- one more that is asked for as a whole: its template is installed for it, or the one is used that workers have
abbrev pub whole_counted : Bool → Summary → Summary
whole_counted true summary =
    record summary { instances = counted_on summary.instances 1; installed = counted_on summary.installed 1 }
whole_counted false summary =
    record summary { instances = counted_on summary.instances 1; cached = counted_on summary.cached 1 }

-- the patch before it: none, a kept one again, or a new one
abbrev pub patch_counted : Patched → Summary → Summary
patch_counted Not summary = summary
patch_counted (Repeated number) summary = record summary { repeated = counted_on summary.repeated 1 }
patch_counted (Made number) summary = record summary { made = counted_on summary.made 1 }

-- both
abbrev pub reused_counted : Bool → Patched → Summary → Summary
reused_counted new patched summary = patch_counted patched (whole_counted new summary)

-- ---- orders

-- whether a command runs a task
abbrev pub is_run : Kind → Bool
is_run (Kind.Run position func params reads writes) = true
is_run _ = false

-- how many of these commands do
abbrev pub runs_among : List Command → ℕ
runs_among commands = count_by (λ (command : Command). is_run command.kind) commands

-- how many tasks an order stands for at a worker, where these templates are installed
abbrev pub tasks_for : Decisions → Worker → ToWorker → ℕ
tasks_for decisions worker (Single epoch instance commands) = runs_among commands
tasks_for decisions worker (Instantiate epoch instance block base args versions edits) =
    half_tasks decisions block worker.0
tasks_for decisions worker _ = 0

-- a worker's line with one more order, which stands for so many tasks
abbrev pub line_counted : ℕ → WorkerLine → WorkerLine
line_counted tasks line =
    record line { tasks = counted_from line.tasks tasks; orders = counted_from line.orders 1 }

-- one more order to a worker: its bytes, and at the worker what it stands for
abbrev pub order_counted : Summary → Worker → ToWorker → ℕ → Summary
order_counted summary worker order tasks = record summary {
  control = counted_from summary.control (order_length_of order);
  workers = option_map_or (λ (line : WorkerLine). slice_set summary.workers worker.0 (line_counted tasks line))
      (slice_get summary.workers worker.0) summary.workers;
}

-- the orders of a move, each with the worker that it is for
abbrev pub orders_counted : Decisions → List Directed → Summary → Summary
orders_counted decisions orders summary =
    fold (λ (counted : Summary) (d : Directed). order_counted counted d.0 d.1 (tasks_for decisions d.0 d.1)) summary
    orders
