-- What the answers of the calls tell.
use Rattle.std.specs.Prelude.{◌≡◌, List, ℤ, Option, None, Some, Result, Ok, Err}
use Rattle.nim_lex.specs.declared.fault.Refusal.{Refusal}
use Rattle.nim_data.specs.declared.fault.DataFault.{DataFault}
use Rattle.nim_data.specs.declared.fault.DataFault.TheVariants.{At, NoMemory}
use Rattle.nim_data.specs.declared.fault.Unread.{Unread}
use Rattle.nim_data.specs.declared.fault.Unread.TheVariants.{Malformed}

-- the refused line that a fault of `read_data` tells
abbrev pub told : DataFault → Option Refusal
told (At refusal) = Some refusal
told NoMemory = None

-- what a call that reads gave is this, unless memory was refused
abbrev pub Gives : {A : Type 0} → Option A → Result A Unread → Type 0
Gives outcome (Ok x) = outcome ≡ Some x
Gives outcome (Err e) = e ≡ Malformed → outcome ≡ None

-- what a call that reads cells left is this, unless memory was refused
abbrev pub Fills : Option (List ℤ) → Result (Unit {0}) Unread → List ℤ → Type 0
Fills outcome (Ok done) cells = outcome ≡ Some cells
Fills outcome (Err e) cells = e ≡ Malformed → outcome ≡ None
