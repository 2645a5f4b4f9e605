-- What the answers of the calls tell.
use Rattle.std.specs.Prelude.{◌≡◌, Option, None, Some, Result, Ok, Err}
use Rattle.nim_lex.specs.declared.fault.Refusal.{Refusal}
use Rattle.nim_schedule.specs.declared.fault.ScheduleFault.{ScheduleFault}
use Rattle.nim_schedule.specs.declared.fault.ScheduleFault.TheVariants.{NoMemory, Refused}
use Rattle.nim_schedule.specs.declared.fault.Unread.{Unread}
use Rattle.nim_schedule.specs.declared.fault.Unread.TheVariants.{Malformed}

-- the refused line that a fault of `read_schedule` tells
abbrev pub told : ScheduleFault → Option Refusal
told (Refused refusal) = Some refusal
told NoMemory = None

-- what a call that reads gave is this, unless memory was refused
abbrev pub Gives : {A : Type 0} → Option A → Result A Unread → Type 0
Gives outcome (Ok x) = outcome ≡ Some x
Gives outcome (Err e) = e ≡ Malformed → outcome ≡ None
