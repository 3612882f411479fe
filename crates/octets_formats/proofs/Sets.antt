-- Sets of lemmas that the callers name, for `using(..)`.
use Rattle.std.proofs.lemmas.Nat.{mod-mul-add}
use Rattle.octets.proofs.CallerLemmas.{begins_width, length_network, length_varint, parts, rows, written}

-- at a function that writes the length of a message last
pub ruleset messages = (written)

-- at a function that states the width of a varint by its first byte, and at one that states the number by its bytes
pub ruleset widths = (parts, begins_width)

pub ruleset numbers = (mod-mul-add)

-- how long a varint is, and how a frame is written
pub ruleset sizes = (length_varint)

pub ruleset streams = (rows, length_network, length_varint)
