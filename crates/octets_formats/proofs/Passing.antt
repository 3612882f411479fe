-- What a cursor passed, what it read, and what is unchanged.
use Rattle.std.proofs.Common.{ℕ, arith, ◌∙◌}
use Rattle.octets.specs.Cursor.{Passes, IsUnchanged}
use Rattle.octets.specs.Octets.{Octets}
use Rattle.octets.proofs.lemmas.Outcomes.{same_rest}

pub still : (a b : Octets) → IsUnchanged a b → Passes a b 0
still a b h = (omega (arith, h.0), h.1, same_rest a b h)

pub stays : (a b c : Octets) (m : ℕ) → Passes a b m → IsUnchanged b c → Passes a c m
stays a b c m h k = (k.0 ∙ h.0, k.1 ∙ h.1, same_rest b c k ∙ h.2)
