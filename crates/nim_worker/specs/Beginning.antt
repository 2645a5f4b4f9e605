-- What the beginning of a work makes of the store and of the works.
use Rattle.std.specs.Prelude.{◌≡◌, ℕ, List, [], ◌∷◌, ◌++◌, Option, None, Some}
use Rattle.nim_command.specs.declared.command.Command.{Command}
use Rattle.nim_store.specs.Stored.{Stored, slot_at}
use Rattle.nim_worker.specs.declared.batch.Work.{Work}
use Rattle.nim_worker.specs.Works.{IsWork, begun_as}

-- one more work is out, of this command
pub record IsBegun (old : Stored) (works : List Work) (ticket : ℕ) (new : Stored) (more : List Work)
    (command : Command) : Type 0 where
  pub work : Work
  pub last : more ≡ works ++ work ∷ []
  pub is : IsWork old.shapes (slot_at old) (slot_at new) (begun_as ticket command.kind) work

-- the same where there is a command; where there is none nothing changes
abbrev pub MayBeBegun : Stored → List Work → ℕ → Stored → List Work → Option Command → Type 0
MayBeBegun old works ticket new more (Some command) = IsBegun old works ticket new more command
MayBeBegun old works ticket new more None = (new ≡ old) × (more ≡ works)
