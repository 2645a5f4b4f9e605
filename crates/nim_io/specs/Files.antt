-- What files tell of their content, where they tell it: a list of names with their bytes.
use Rattle.std.specs.Prelude.{◌≡◌, ℕ, List, [], ◌∷◌, Option, None, Some, if◌then◌else◌, IsSome, IfSome, IsSomeAnd}
use Rattle.std.specs.Str.{bytes_eq}

-- the bytes of the first entry of this name
abbrev pub content : List ℕ → List (List ℕ × List ℕ) → Option (List ℕ)
content name [] = None
content name (file ∷ files) = if bytes_eq file.0 name then Some file.1 else content name files

-- where files are told, one has this name, and the first such has these bytes
abbrev pub TellsBytes : Option (List (List ℕ × List ℕ)) → List ℕ → List ℕ → Type 0
TellsBytes told name bytes = IfSome told (λ files. content name files ≡ Some bytes)

-- where files are told, one has this name, and the bytes of the first such meet P
abbrev pub TellsSome : Option (List (List ℕ × List ℕ)) → List ℕ → (List ℕ → Type 0) → Type 0
TellsSome told name P = IfSome told (λ files. IsSomeAnd (content name files) P)

-- where files are told, one has this name, and a source with this left to give gives the first such
abbrev pub OpensFile : Option (List (List ℕ × List ℕ)) → List ℕ → Option (List ℕ) → Type 0
OpensFile told name left = IfSome told (λ files. (content name files ≡ left) × IsSome left)
