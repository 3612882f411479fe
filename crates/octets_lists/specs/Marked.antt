use Rattle.std.specs.Prelude.{◌≡◌, ◌≤◌, ◌<◌, ◌+◌, ℕ, List, length, drop}
use Rattle.octets.specs.Bytes.{number, part}

-- l begins with a record of a kind from 1 to 254, which has n bytes: the kind, the length of the value, and the value
unfoldable pub BeginsTlv : List ℕ → ℕ → Type 0
BeginsTlv l n = (1 ≤ number (part l 0 1)) × (number (part l 0 1) < 255) × (2 ≤ length l)
    × (n ≡ 2 + number (part l 1 1)) × (n ≤ length l)

-- l doesn't begin with such a record
unfoldable pub LacksTlv : List ℕ → Type 0
LacksTlv l = (n : ℕ) → BeginsTlv l n → ⊥

-- l is records, as many as there are, followed by the list m
pub data EndsAt : List ℕ → List ℕ → Type 0 where
  here : {l : List ℕ} → LacksTlv l → EndsAt l l
  later : {l m : List ℕ} (n : ℕ) → BeginsTlv l n → EndsAt (drop n l) m → EndsAt l m
