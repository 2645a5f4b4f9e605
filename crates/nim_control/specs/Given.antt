-- What is given at sites: the orders behind those before them, and where the versions lie then.
use Rattle.std.specs.Prelude.{◌≡◌, ℕ, ◌+◌, Bool, if◌then◌else◌, ℤ, List, [], ◌∷◌, ◌++◌, map}
use Rattle.std.specs.List.{range_with_len}
use Rattle.nim_base.specs.declared.number.Object.{Object}
use Rattle.nim_base.specs.declared.number.Worker.{Worker}
use Rattle.nim_base.specs.declared.task.Task.{Task}
use Rattle.nim_base.specs.declared.task.TaskForm.{TaskForm}
use Rattle.nim_command.specs.declared.command.Command.{Command}
use Rattle.nim_job.specs.Tasks.{block_forms_of}
use Rattle.nim_place.specs.Directed.{Directed}
use Rattle.nim_place.specs.Versions.{after_commands}
use Rattle.nim_reuse.specs.declared.instance.InstanceAt.{InstanceAt}
use Rattle.nim_reuse.specs.Decisions.{Decisions}
use Rattle.nim_course.specs.declared.summary.Summary.{Summary}
use Rattle.nim_course.specs.Controller.{Controller, Flight, is_in_flight}
use Rattle.nim_course.specs.Moves.{orders_of_block, with_block}
use Rattle.nim_course.specs.OrdersGiven.{after_instance, awaited_worker, instance_at, instance_orders, single_for}
use Rattle.nim_control.specs.Sites.{HasSites, Sites, controller_sites}

-- Commands were given, each alone in a Single, and the map took them in.
pub record AreAlone (epoch : ℕ) (commands : List (Worker × Command)) (before : List Directed) (old : Sites)
    (after : List Directed) (new : Sites) : Type 0 where
  pub orders : after ≡ before ++ map (single_for epoch) commands
  pub sites : new ≡ record old { versions = after_commands old.versions commands }

-- a controller is to give this instance at these sites
pub record IsToRun (c : Controller) (at : InstanceAt) (sites : Sites) : Type 0 where
  pub has : HasSites c sites
  pub epoch : c.epoch ≡ at.epoch
  pub instance : c.instance ≡ at.instance
  pub position : c.position ≡ at.base

-- The tasks of an instance from this number on were given, and the map took their commands in.
pub record AreTasks (c : Controller) (number : ℕ) (tasks : List Task) (before : List Directed) (old : Sites)
    (after : List Directed) (new : Sites) : Type 0 where
  pub orders : after ≡ before ++ instance_orders c number old.versions tasks
  pub sites : new ≡ record old { versions = after_instance c number old.versions tasks }

-- a report of each of an instance's tasks is awaited
abbrev pub awaiting : Controller → List Task → Flight
awaiting c tasks =
    record { instance = c.instance; base = c.position; runs = map (awaited_worker c) tasks; through = [] }

-- a controller is to give this instance of a block of these forms, with these sites, decisions and counts
pub record IsToGive (c : Controller) (at : InstanceAt) (forms : List TaskForm) (sites : Sites) (decisions : Decisions)
    (summary : Summary) : Type 0 where
  pub is_next : at ≡ instance_at c at.block
  pub has_forms : forms ≡ block_forms_of c.job at.block
  pub has_sites : sites ≡ controller_sites c
  pub has_decisions : decisions ≡ c.decisions
  pub has_counts : summary ≡ c.summary

-- An instance of a block was given, by whether the block was recorded: its orders, where the versions lie then, what is
-- decided, what is counted, and what is in flight.
pub record IsGiven (recorded : Bool) (c : Controller) (block : ℕ) (args : List ℤ) (before after : List Directed)
    (sites : Sites) (decisions : Decisions) (summary : Summary) (flight : Flight) : Type 0 where
  pub orders : after ≡ before ++ orders_of_block recorded c block args
  pub has_sites : sites ≡ record (controller_sites c) { versions = (with_block recorded c block args).versions }
  pub has_decisions : decisions ≡ (with_block recorded c block args).decisions
  pub has_counts : summary ≡ (with_block recorded c block args).summary
  pub has_flight : c.flight ++ (if is_in_flight flight then flight ∷ [] else [])
      ≡ (with_block recorded c block args).flight

-- so many objects, from the one with this number on
abbrev pub objects_from : ℕ → ℕ → List Object
objects_from first count = map (λ (part : ℕ). record { 0 = first + part }) (range_with_len 0 count)
