use Rattle.std.specs.Prelude.{ℕ, List, ◌+◌, ◌++◌, ◌≤◌, ◌<◌, ◌^◌, length}
use Rattle.octets.specs.Bytes.{network, number, part, prefixed}

-- l is n records, and m remains
pub data AreRecords (l : List ℕ) : ℕ → List ℕ → Type 0 where
  none : AreRecords l 0 l
  more : {n : ℕ} (kind : ℕ) (body after : List ℕ)
      → AreRecords l n (network 1 kind ++ prefixed 1 body ++ after)
      → length body < 2 ^ 8 → AreRecords l (n + 1) after

-- l is some records, and bytes remain that don't begin with a whole record
unfoldable pub EndInRecord : List ℕ → Type 0
EndInRecord l = (n : ℕ) × (m : List ℕ) × AreRecords l n m × (1 ≤ length m)
    × (length m < 2 + number (part m 1 1))
