use Rattle.std.specs.Prelude.{◌≡◌, ◌≤◌, ℕ, ◌+◌, List, length, drop}
use Rattle.octets.specs.Bytes.{part}
use Rattle.octets.specs.Varints.{BeginsVarint}

-- l begins with a varint of id, the length of v as a varint, and v, which have n bytes together
unfoldable pub BeginsParam : List ℕ → ℕ → List ℕ → ℕ → Type 0
BeginsParam l id v n = (i j : ℕ) × BeginsVarint l i id × BeginsVarint (drop i l) j (length v)
    × (v ≡ part l (i + j) (length v)) × (n ≡ i + j + length v)

-- l doesn't begin with two varints and as many bytes as the second one says
unfoldable pub LacksParam : List ℕ → Type 0
LacksParam l = (i j id len : ℕ) → BeginsVarint l i id → BeginsVarint (drop i l) j len
    → i + j + len ≤ length l → ⊥
