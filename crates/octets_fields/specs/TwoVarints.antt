use Rattle.std.specs.Prelude.{◌≡◌, ℕ, ◌+◌, List, drop}
use Rattle.octets.specs.Varints.{BeginsVarint}

-- l begins with a varint of a and then a varint of b, which have n bytes together
unfoldable pub BeginsTwo : List ℕ → ℕ → ℕ → ℕ → Type 0
BeginsTwo l n a b = (i j : ℕ) × BeginsVarint l i a × BeginsVarint (drop i l) j b × (n ≡ i + j)
