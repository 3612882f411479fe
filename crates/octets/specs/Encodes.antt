-- What an encode writes.
use Rattle.std.specs.Prelude.{ℕ, Bool, true, false, List, if◌then◌else◌}
use Rattle.octets_code.specs.Texts.{lower, lower_byte, text}

-- the byte that is encoded: in lower case if to_lower is true
abbrev pub cased_byte : Bool → ℕ → ℕ
cased_byte to_lower b = if to_lower then lower_byte b else b

-- the value that is encoded: v, or v in lower case
unfoldable pub cased : Bool → List ℕ → List ℕ
cased true v = lower v
cased false v = v

-- the text that an encode of v writes
abbrev pub text_of : Bool → List ℕ → List ℕ
text_of to_lower v = text (cased to_lower v)
