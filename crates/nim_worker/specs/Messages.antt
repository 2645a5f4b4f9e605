-- What an order makes of a core.
use Rattle.std.specs.Prelude.{◌≡◌, ℕ, true, List, [], ◌∷◌, ◌++◌, None}
use Rattle.std.specs.FinMap as map
use Rattle.std.specs.Option.{is_some}
use Rattle.nim_base.specs.declared.number.Shape.{Shape}
use Rattle.nim_base.specs.declared.number.Slot.{Slot}
use Rattle.nim_command.specs.declared.entry.Entry.{Entry}
use Rattle.nim_command.specs.Edits.{edited_by}
use Rattle.nim_command.specs.Expansion.{expanded}
use Rattle.nim_command.specs.Waits.{Group}
use Rattle.nim_message.specs.Orders.{none_yet, with_list}
use Rattle.nim_plan.specs.declared.installed.Installed.{Installed}
use Rattle.nim_plan.specs.Installed.{Has, halves_of, patches_of}
use Rattle.nim_store.specs.Keys.{is_not_before}
use Rattle.nim_store.specs.Stored.{slot_at}
use Rattle.nim_worker.specs.declared.admitted.Admitted.{Admitted}
use Rattle.nim_worker.specs.declared.head.GroupHead.{GroupHead}
use Rattle.nim_worker.specs.declared.messages.Asked.{Asked}
use Rattle.nim_worker.specs.declared.worker.WorkerCore.{WorkerCore}
use Rattle.nim_worker.specs.Admitted.{IsAdmitted, IsGroupOf}

-- a core after a Reset
pub record IsReset (old : WorkerCore) (number : ℕ) (all : List Shape) (new : WorkerCore) : Type 0 where
  pub begun : new.begun ≡ true
  pub epoch : new.epoch ≡ number
  pub shapes : new.store.shapes ≡ all
  pub slots : slot_at new.store ≡ λ (slot : Slot). None
  pub inbox : new.inbox ≡ map.retain_keys old.inbox (is_not_before number)
  pub installed : Has new.installed none_yet none_yet
  pub admitted : IsAdmitted new.admitted [] []
  pub room : is_some new.room ≡ true
  pub busy : new.busy ≡ old.busy
  pub stale : new.stale ≡ old.busy
  pub failed : new.failed ≡ old.failed
  pub worker : new.worker ≡ old.worker

-- the half of a block as an instance edits it
abbrev pub half_asked : Installed → ℕ → Asked → List Entry
half_asked installed block asked = edited_by asked.edits (halves_of installed block)

-- An instance of a block was asked for: its half is edited, and the commands that it then stands for were admitted.
pub record IsInstantiated (old : Installed) (waited : Admitted) (head : GroupHead) (block : ℕ) (asked : Asked)
    (new : Installed) (waits : Admitted) : Type 0 where
  pub has : Has new (with_list block (half_asked old block asked) (halves_of old)) (patches_of old)
  pub admitted : (groups : List Group) (ran : List ℕ) (next : Group) → IsAdmitted waited groups ran
      → IsGroupOf head true (expanded asked.base asked.args asked.versions 0 (half_asked old block asked)) next
      → IsAdmitted waits (groups ++ next ∷ []) ran

-- what is installed and what was admitted are as they were
pub record IsKept (old : Installed) (waited : Admitted) (new : Installed) (waits : Admitted) : Type 0 where
  pub has : Has new (halves_of old) (patches_of old)
  pub admitted : (groups : List Group) (ran : List ℕ) → IsAdmitted waited groups ran → IsAdmitted waits groups ran
