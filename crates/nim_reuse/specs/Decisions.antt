-- What a controller decided of its blocks in an epoch.
use Rattle.std.specs.Prelude.{ℕ, Bool, true, false, List, [], replicate, slice_index_or, slice_set}
use Rattle.nim_template.specs.declared.template.ControllerTemplate.{ControllerTemplate}
use Rattle.nim_template.specs.Instance.{half_of}
use Rattle.nim_reuse.specs.declared.decided.Decided.{Decided}
use Rattle.nim_reuse.specs.declared.decided.Decided.TheVariants.{Open, Recorded, Installed}
use Rattle.nim_patch.specs.Uses.{Use}
use Rattle.nim_reuse.specs.HalfTasks.{tasks_in}

-- What was decided of each block, by its number; the block of the last instance; and the patches that are kept.
pub record Decisions : Type 0 where
  pub blocks : List Decided
  pub previous : ℕ
  pub patches : List Use

-- the number that stands for no block
abbrev pub no_block : ℕ
no_block = 32

-- nothing of so many blocks, before any instance
abbrev pub no_decisions : ℕ → Decisions
no_decisions blocks = record { blocks = replicate blocks Open; previous = no_block; patches = [] }

-- what was decided of a block
abbrev pub decided_of : Decisions → ℕ → Decided
decided_of decisions block = slice_index_or decisions.blocks block Open

-- whether it was recorded, or installed since
abbrev pub is_reusable : Decided → Bool
is_reusable Open = false
is_reusable (Recorded recorded) = true
is_reusable (Installed template) = true

-- whether a block was recorded
abbrev pub is_recorded : Decisions → ℕ → Bool
is_recorded decisions block = is_reusable (decided_of decisions block)

-- A block was recorded, its first instance just scheduled.
abbrev pub after_recording : ControllerTemplate → Decisions → Decisions
after_recording recorded decisions = record decisions {
  blocks = slice_set decisions.blocks recorded.block (Recorded recorded);
  previous = recorded.block;
}

-- how many tasks the worker with a number runs in an instance of a block, by what was decided of it
abbrev pub tasks_decided : Decided → ℕ → ℕ
tasks_decided (Installed template) number = tasks_in (half_of template number)
tasks_decided _ number = 0

-- How many tasks the worker with a number runs in an instance of a block whose template is installed.
abbrev pub half_tasks : Decisions → ℕ → ℕ → ℕ
half_tasks decisions block number = tasks_decided (decided_of decisions block) number
