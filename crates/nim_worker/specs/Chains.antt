-- Works that are out at once: each was begun behind those before it, and no two of their commands touch one slot.
use Rattle.std.specs.Prelude.{◌≡◌, Bool, true, false, List, [], ◌∷◌, map, Option}
use Rattle.std.specs.List.{list_any}
use Rattle.nim_base.specs.declared.number.Shape.{Shape}
use Rattle.nim_base.specs.declared.number.Slot.{Slot}
use Rattle.nim_base.specs.Functions.{read_values}
use Rattle.nim_command.specs.declared.command.Kind.{Kind}
use Rattle.nim_command.specs.Slots.{does_touch}
use Rattle.nim_store.specs.declared.held.Held.{Held}
use Rattle.nim_history.specs.Kept.{content_seen, held_or_empty}
use Rattle.nim_worker.specs.declared.batch.Work.{Work}
use Rattle.nim_worker.specs.Works.{Begun, IsWork, KeepsWork, reads_taken}

-- whether one of these commands touches a slot
abbrev pub do_touch : List Begun → Slot → Bool
do_touch begun slot = list_any (λ (b : Begun). does_touch b.kind slot) begun

-- a command touches no slot that one of these touches
abbrev pub IsApart : Kind → List Begun → Type 0
IsApart kind begun = (slot : Slot) → does_touch kind slot ≡ true → do_touch begun slot ≡ false

-- The works of these commands, in order, where the slots had this before the first was begun and have that now.
abbrev pub AreWorks : List Shape → (Slot → Option Held) → (Slot → Option Held) → List Begun → List Work → Type 0
AreWorks shapes before now [] [] = before ≡ now
AreWorks shapes before now (begun ∷ more) (work ∷ works) =
    (between : Slot → Option Held) × (IsWork shapes before between begun work
    × (IsApart begun.kind more × AreWorks shapes between now more works))
AreWorks shapes before now _ _ = ⊥

-- each work is what one of the others was, or that one performed
abbrev pub KeepWorks : List Work → List Work → Type 0
KeepWorks [] [] = Unit {0}
KeepWorks (old ∷ olds) (new ∷ news) = KeepsWork old new × KeepWorks olds news
KeepWorks _ _ = ⊥

-- a work's inputs have what its command reads of these slots
pub record HasRead (before : Slot → Option Held) (kind : Kind) (work : Work) : Type 0 where
  pub contents : work.inputs.value.contents.items ≡ map (content_seen before) (reads_taken kind)
  pub values : read_values work.inputs.value.values.items work.inputs.value.places.items
      ≡ map (λ slot. (held_or_empty before slot).value) (reads_taken kind)

-- the same of each of these works
abbrev pub HaveRead : (Slot → Option Held) → List Begun → List Work → Type 0
HaveRead before [] [] = Unit {0}
HaveRead before (begun ∷ more) (work ∷ works) = HasRead before begun.kind work × HaveRead before more works
HaveRead before _ _ = ⊥
