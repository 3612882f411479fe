-- The messages of the errors.
use Rattle.std.specs.Prelude.{ℕ, List, codes}
use Rattle.octets_literal.specs.declared.error.LiteralError.{LiteralError}
use Rattle.octets_literal.specs.declared.error.LiteralError.TheVariants.{Short, Length, Value, OutOfMemory}

-- the message of the error
abbrev pub literal_error_text : LiteralError → List ℕ
literal_error_text Short = codes "the bytes end before the string literal does"
literal_error_text Length = codes "the string literal's length has more than six bytes or exceeds 4294967295"
literal_error_text Value = codes "the string literal has no value within the limit"
literal_error_text OutOfMemory = codes "out of memory"
