-- What an encode that fails has written.
use Rattle.std.specs.Prelude.{◌≡◌, ℕ, ◌+◌, ◌-◌, Bool, List, length, take}
use Rattle.octets.specs.Bytes.{splice}
use Rattle.octets.specs.Encodes.{cased, text_of}
use Rattle.octets.specs.Pieces.{kept_length}

-- the greatest prefix of the text of v, in whole pieces, that fits into c bytes
abbrev pub kept_front : Bool → List ℕ → ℕ → List ℕ
kept_front to_lower v c = take (kept_length c (cased to_lower v)) (text_of to_lower v)

-- the prefix that fits into the bytes from the offset on is written there, and the offset is past it
abbrev pub WritesFront : List ℕ → List ℕ → ℕ → ℕ → (ℕ → List ℕ) → Type 0
WritesFront b new i j front =
    let w = front (length b - i) in
    (new ≡ splice b i w) × (j ≡ i + length w)
