-- What the bytes of a driver are.
use Rattle.std.specs.Prelude.{ℕ, ◌==◌, ◌||◌, Bool, not}
use Rattle.std.specs.Char.{is_ascii_alphanumeric}

-- a newline ends a line
abbrev pub is_newline : ℕ → Bool
is_newline b = b == 10

-- `#` begins a comment
abbrev pub is_hash : ℕ → Bool
is_hash b = b == 35

-- space, tab and carriage return separate tokens
abbrev pub is_blank : ℕ → Bool
is_blank b = (b == 32) || ((b == 9) || (b == 13))

-- words are of all other bytes
abbrev pub is_word_byte : ℕ → Bool
is_word_byte b = not (is_blank b)

-- a name goes on with letters, digits and underscores
abbrev pub is_name_byte : ℕ → Bool
is_name_byte b = is_ascii_alphanumeric b || (b == 95)
