use Rattle.std.specs.Prelude.{ℕ, List, ◌++◌, length}
use Rattle.octets.specs.Bytes.{network}

-- a kind, the length of v, and v
unfoldable pub record_bytes : ℕ → List ℕ → List ℕ
record_bytes kind v = network 1 kind ++ network 1 (length v) ++ v
