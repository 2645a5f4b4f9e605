-- What a `Cursor` shows.
use Rattle.nim_parse.specs.declared.cursor.Cursor.TheInside.{Inside}
use Rattle.nim_parse.specs.Input.{Input}

-- the driver's bytes, the tokens that are left of the line, and whether each int so far was in range
abbrev pub input_of : Inside → Input
input_of c = record { source = c.source.now; tokens = c.tokens.now; fits = c.fits }
