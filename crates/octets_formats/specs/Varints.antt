-- A varint as it is written (RFC 9000, section 16).
use Rattle.std.specs.Prelude.{ℕ, List}
use Rattle.octets.specs.Varints.{shortest, varint}

-- the varint of n in the least width that holds it
abbrev pub least : ℕ → List ℕ
least n = varint (shortest n) n
