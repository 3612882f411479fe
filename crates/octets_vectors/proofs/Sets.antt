-- Sets of lemmas that the laws and the callers name, for `using(..)`.
use Rattle.octets.proofs.lemmas.CasedCodes.{code_lengths}
use Rattle.octets.proofs.CallerLemmas.{begins_some, begins_width, begins_within, joined, length_network, text_of-false}

-- a varint that is there or isn't; an address with a text
pub ruleset varints = (begins_some, begins_width, begins_within)

pub ruleset addresses = (text_of-false, joined, length_network)

-- how long a code is
pub ruleset codes = (code_lengths)
