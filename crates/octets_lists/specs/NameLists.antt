use Rattle.std.specs.Prelude.{ℕ, List, [], ◌<◌, ◌^◌, ◌++◌, length}
use Rattle.octets.specs.Bytes.{network}

-- the bytes are names, each after its length in one byte
pub data AreNames : List ℕ → Type 0 where
  nothing : AreNames []
  another : {others : List ℕ} (name : List ℕ) → length name < 2 ^ 8 → AreNames others
      → AreNames (network 1 (length name) ++ (name ++ others))
