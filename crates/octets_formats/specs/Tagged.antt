use Rattle.std.specs.Prelude.{ℕ, List, ◌++◌, length}
use Rattle.octets.specs.Bytes.{network}

-- a kind, the length of v in two bytes, and v
unfoldable pub tagged : ℕ → List ℕ → List ℕ
tagged kind v = network 1 kind ++ network 2 (length v) ++ v
