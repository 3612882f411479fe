-- What a move of the automaton's tables says.
use Rattle.std.specs.Prelude.{◌≡◌, ◌<◌, Bool, List, ◌++◌}
use Rattle.octets_code.specs.declared.entries.Move.{Move}
use Rattle.octets_code.specs.declared.entries.Move.TheVariants.{On, Byte, End}
use Rattle.octets_code.specs.Codes.{code}
use Rattle.octets_code.specs.States.{path}

-- the move leads from the path p over the bits x
abbrev pub IsMove : List Bool → List Bool → Move → Type 0
IsMove p x (On j) = (j < 256) × (path j ≡ p ++ x)
IsMove p x (Byte j b) = (j < 256) × (b < 256) × (p ++ x ≡ code b ++ path j)
IsMove p x End = (r : List Bool) × (p ++ x ≡ code 256 ++ r)
