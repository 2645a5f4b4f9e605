-- What loading a whole file may answer.
use Rattle.std.specs.Prelude.{◌≡◌, ◌<◌, ◌≤◌, ℕ, List, length, Option, Some, Result, Ok, Err, IsSomeAnd, Vec, ⊤, Bool, true, false}
use Rattle.std.specs.declared.alloc.Global.{Global}
use Rattle.nim_io.specs.declared.load.LoadFault.{LoadFault}
use Rattle.nim_io.specs.declared.load.LoadFault.TheVariants.{Open, Read, TooLong, NoMemory}

-- the answer where no fault came: the entry's bytes, or that they are too many; memory may be refused
abbrev pub Loads : Option (List ℕ) → ℕ → Result (Vec ℕ Global) LoadFault → Type 0
Loads entry most (Ok bytes) = (entry ≡ Some bytes.items) × (length bytes.items ≤ most)
Loads entry most (Err TooLong) = IsSomeAnd entry (λ bytes. most < length bytes)
Loads entry most (Err NoMemory) = ⊤
Loads entry most (Err Open) = ⊥
Loads entry most (Err Read) = ⊥

-- the answer blames the files: an open or a read failed
abbrev pub is_fault : {A : Type 0} → Result A LoadFault → Bool
is_fault (Err Open) = true
is_fault (Err Read) = true
is_fault (Err TooLong) = false
is_fault (Err NoMemory) = false
is_fault (Ok bytes) = false
