-- What a command leaves and gives once its inputs are given back.
use Rattle.std.specs.Prelude.{◌≡◌, ℕ, if◌then◌else◌, List, [], ◌∷◌, Option, None, Some}
use Rattle.nim_base.specs.declared.number.Object.{Object}
use Rattle.nim_base.specs.declared.number.Shape.{Shape}
use Rattle.nim_base.specs.declared.number.Slot.{Slot}
use Rattle.nim_base.specs.Value.{Grid}
use Rattle.nim_command.specs.declared.command.Kind.{Kind}
use Rattle.nim_command.specs.declared.command.Kind.TheVariants.{Run}
use Rattle.nim_command.specs.Holds.{version_after}
use Rattle.nim_command.specs.Waits.{Group}
use Rattle.nim_message.specs.declared.report.FromWorker.TheVariants.{Ran}
use Rattle.nim_store.specs.declared.held.Held.{Held}
use Rattle.nim_history.specs.declared.out.Out.{Out}
use Rattle.nim_history.specs.Kept.{is_single, kept_by, own_outs, put_results}
use Rattle.nim_worker.specs.declared.head.GroupHead.{GroupHead}

-- what is known of a group
pub record IsHeadOf (head : GroupHead) (group : Group) : Type 0 where
  pub epoch : head.epoch ≡ group.epoch
  pub instance : head.instance ≡ group.instance
  pub single : head.single ≡ is_single group.source

-- a Run leaves its results, where it has some
abbrev pub left_with : List Shape → Option Grid → Kind → Option (List Grid) → (Slot → Option Held) → Slot → Option Held
left_with shapes frame (Run position func params reads writes) (Some results) before =
    put_results shapes (version_after position) writes results before
left_with shapes frame (Run position func params reads writes) None before = before
left_with shapes frame kind results before = kept_by shapes frame kind before

-- a Run of a Single tells what it read
abbrev pub told_with : Group → Kind → List (Object × ℕ) → (Slot → Option Held) → List Out
told_with group (Run position func params reads writes) contents before =
    if is_single group.source then Out.Report (Ran group.epoch position contents) ∷ [] else []
told_with group kind contents before = own_outs group kind before
