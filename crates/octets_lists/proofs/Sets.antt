-- Sets of lemmas that the callers name, for `using(..)`.
use Rattle.std.proofs.lemmas.Nat.{mod-mul-add}
use Rattle.octets.proofs.CallerLemmas.{begins_width, keeps, length_network, parts, written}

-- at a function that writes a field to a cursor
pub ruleset fields = (keeps, written, length_network)

-- at a function that states the width of a varint by its first byte, and at one that states the number by its bytes
pub ruleset widths = (parts, begins_width)

pub ruleset numbers = (mod-mul-add)
