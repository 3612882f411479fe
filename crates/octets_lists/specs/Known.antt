use Rattle.std.specs.Prelude.{◌≡◌, ◌≢◌, ◌≤◌, ◌<◌, ℕ, List, Option, None, Some, length, drop}
use Rattle.octets.specs.Bytes.{number, part}

-- m begins with a record
unfoldable pub BeginsRecord : List ℕ → ℕ → ℕ → Type 0
BeginsRecord m kind n = (3 ≤ length m) × (kind ≡ number (part m 0 1)) × (n ≡ number (part m 1 2))

-- l begins with records, and m remains. p is the number of the last record of the kind 1, and s that of the last
-- record of the kind 2. If there is no such record, it is None
pub data HasKnown (l : List ℕ) : Option ℕ → Option ℕ → List ℕ → Type 0 where
  nothing : HasKnown l None None l
  port : {p s : Option ℕ} {m : List ℕ} (n : ℕ) → HasKnown l p s m → BeginsRecord m 1 n
      → HasKnown l (Some n) s (drop 3 m)
  size : {p s : Option ℕ} {m : List ℕ} (n : ℕ) → HasKnown l p s m → BeginsRecord m 2 n
      → HasKnown l p (Some n) (drop 3 m)
  other : {p s : Option ℕ} {m : List ℕ} (kind n : ℕ) → HasKnown l p s m → BeginsRecord m kind n
      → kind ≢ 1 → kind ≢ 2 → HasKnown l p s (drop 3 m)

-- l begins with records, and one or two bytes remain
unfoldable pub EndsShort : List ℕ → Type 0
EndsShort l = (p s : Option ℕ) × (m : List ℕ) × HasKnown l p s m × (1 ≤ length m) × (length m < 3)
