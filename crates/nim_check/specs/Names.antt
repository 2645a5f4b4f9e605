-- The names of a driver: the words that have a meaning of their own, and where a name stands among others.
use Rattle.std.specs.Prelude.{ℕ, Bool, false, ◌||◌, nat_lt, if◌then◌else◌, List, [], ◌∷◌, length, bytes_eq, codes, Option, None, Some}
use Rattle.std.specs.List.{position_or_len}
use Rattle.nim_base.specs.declared.task.Func.{Func}
use Rattle.nim_base.specs.declared.task.Func.TheVariants as func

-- a name is its bytes
abbrev pub Word : Type 0
Word = List ℕ

-- the place of a word among these; behind the last where it isn't there
abbrev pub place_in : List Word → Word → ℕ
place_in words word = position_or_len (λ w. bytes_eq w word) words

-- whether a word is one of these
abbrev pub is_in : List Word → Word → Bool
is_in words word = nat_lt (place_in words word) (length words)

-- a word stands twice
abbrev pub has_twice : List Word → Bool
has_twice [] = false
has_twice (word ∷ words) = is_in words word || has_twice words

-- the words of the language, which nothing that is declared or set may be called
unfoldable pub reserved : List Word
reserved =
    codes "nimbus" ∷ codes "steps" ∷ codes "var" ∷ codes "block" ∷ codes "end" ∷ codes "else" ∷ codes "do" ∷ codes "let"
    ∷ codes "get"
    ∷ codes "loop" ∷ codes "while" ∷ codes "if" ∷ codes "checkpoint" ∷ codes "output" ∷ codes "with" ∷ codes "each"
    ∷ codes "i" ∷ []

-- the functions by their names
unfoldable pub functions : List (Word × Func)
functions =
    (codes "set", func.Set) ∷ (codes "copy", func.Copy) ∷ (codes "addc", func.Addc) ∷ (codes "mulc", func.Mulc)
    ∷ (codes "add", func.Add)
    ∷ (codes "sub", func.Sub) ∷ (codes "max", func.Max) ∷ (codes "sum", func.Sum) ∷ (codes "total", func.Total)
    ∷ (codes "count", func.Count)
    ∷ (codes "stencil", func.Stencil) ∷ (codes "keep", func.Keep) ∷ (codes "group", func.Group)
    ∷ (codes "merge", func.Merge) ∷ (codes "split", func.Split) ∷ []

-- the function behind this name in a list, if the name stands there
abbrev pub func_among : List (Word × Func) → Word → Option Func
func_among [] word = None
func_among (f ∷ fs) word = if bytes_eq f.0 word then Some f.1 else func_among fs word

-- the function that a stage names, if there is one
unfoldable pub func_of : Word → Option Func
func_of word = func_among functions word
