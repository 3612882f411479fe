-- An encode piece by piece: its state, and what it has still to write.
use Rattle.std.specs.Prelude.{◌≡◌, ℕ, ◌+◌, ◌-◌, ◌/◌, ◌%◌, ◌^◌, ◌<◌, ◌≤◌, ◌==◌, Bool, List}
use Rattle.std.specs.Prelude.{◌++◌, length, drop, replicate, nat_le, ◌&&◌, if◌then◌else◌}
use Rattle.octets_code.specs.Bits.{bits_of}
use Rattle.octets_code.specs.Texts.{codes, bytes_of}
use Rattle.octets.specs.Encodes.{cased}
use Rattle.octets.specs.Pieces.{pieces_of_bits}
use Rattle.octets_c.specs.declared.pieces.Place.{Place}

-- the bits that wait, which are the highest ones of the word in the place
abbrev pub waiting : Place → List Bool
waiting p = bits_of p.count (p.bits / 2 ^ (64 - p.count))

-- fewer than 64 bits wait, and no other bit is set
abbrev pub HoldsBits : Place → Type 0
HoldsBits p = (p.count < 64) × (p.bits % 2 ^ (64 - p.count) ≡ 0)

-- p satisfies what holds for each place that an encode of v leaves: it holds bits, it isn't past v, and the last
-- bytes are begun only after all of v
abbrev pub CanBePlace : List ℕ → Place → Type 0
CanBePlace v p = HoldsBits p × (p.at ≤ length v) × (0 < p.given → length v ≤ p.at)

-- the bits from the place on: those that wait, and the codes of the rest of v
abbrev pub bits_left : Bool → List ℕ → Place → List Bool
bits_left to_lower v p = waiting p ++ codes (drop p.at (cased to_lower v))

-- what remains of the text: its last bytes, without those that were already given
unfoldable pub text_left : Bool → List ℕ → Place → List ℕ
text_left to_lower v p = drop p.given (bytes_of (bits_left to_lower v p))

-- how many bytes each of the remaining pieces has; once the last bytes are begun, each has one byte
unfoldable pub pieces_left : Bool → List ℕ → Place → List ℕ
pieces_left to_lower v p =
    if p.given == 0 then pieces_of_bits (length (bits_left to_lower v p))
    else replicate (length (text_left to_lower v p)) 1

-- p is the start of an encode
abbrev pub IsStart : Place → Type 0
IsStart p = (p.at ≡ 0) × (p.bits ≡ 0) × (p.count ≡ 0) × (p.given ≡ 0)

-- how many bytes the next piece has, where n bits remained at the end and some of their bytes were given
unfoldable pub next_of : ℕ → ℕ → ℕ
next_of n given = if nat_le ((n + 7) / 8) given then 0 else if given == 0 && nat_le 4 ((n + 7) / 8) then 4 else 1
