-- What the faults of the calls tell.
use Rattle.std.specs.Prelude.{◌≡◌, Option, None, Some}
use Rattle.nim_lex.specs.declared.fault.Refusal.{Refusal}
use Rattle.nim_check.specs.declared.fault.CheckFault.{CheckFault}
use Rattle.nim_check.specs.declared.fault.CheckFault.TheVariants as check
use Rattle.nim_check.specs.declared.fault.Input.{Input}
use Rattle.nim_check.specs.declared.fault.ReadFault.{ReadFault}
use Rattle.nim_check.specs.declared.fault.ReadFault.TheVariants as read

-- the refused line that a fault tells
abbrev pub told : CheckFault → Option Refusal
told (check.At refusal) = Some refusal
told check.NoMemory = None

-- the fault of a file
abbrev pub within : Input → CheckFault → ReadFault
within input (check.At refusal) = read.At input refusal
within input check.NoMemory = read.NoMemory

-- a refused line, and the file that it stands in
pub record FileRefusal : Type 0 where
  pub input : Input
  pub refusal : Refusal

-- a fault that tells a refused line tells this one; the other says that memory was refused
abbrev pub TellsFile : Option FileRefusal → ReadFault → Type 0
TellsFile refused (read.At input refusal) = refused ≡ Some (record { input = input; refusal = refusal })
TellsFile refused read.NoMemory = Unit {0}
