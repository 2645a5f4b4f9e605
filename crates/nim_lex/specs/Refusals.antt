-- What the answer of a reader tells of the first refused line.
use Rattle.std.specs.Prelude.{◌≡◌, ℕ, Option, None, Some, Result, Ok, Err}
use Rattle.std.specs.Option.{option_map}
use Rattle.nim_lex.specs.declared.fault.LexFault.{LexFault}
use Rattle.nim_lex.specs.declared.fault.LexFault.TheVariants.{At, NoMemory}
use Rattle.nim_lex.specs.declared.fault.Refusal.{Refusal}

-- a line with the rule that refuses it, if one does
abbrev pub refused : ℕ → Option ℕ → Option Refusal
refused line rule = option_map (λ r. record { line = line; rule = r }) rule

-- a fault that tells a refused line tells this one; one that tells none says that memory was refused
abbrev pub Tells : Option Refusal → Option Refusal → Type 0
Tells refusal None = Unit {0}
Tells refusal (Some one) = refusal ≡ Some one

-- A reader answers Ok only where nothing is refused. `told` is the refused line that its fault tells.
abbrev pub Answers : {A F : Type 0} → (F → Option Refusal) → Option Refusal → Result A F → Type 0
Answers told refusal (Ok value) = refusal ≡ None
Answers told refusal (Err fault) = Tells refusal (told fault)

-- the refused line that a fault of `tokens` tells
abbrev pub told : LexFault → Option Refusal
told (At refusal) = Some refusal
told NoMemory = None
