use Rattle.std.specs.Prelude.{ℕ, List, [], ◌≢◌, ◌<◌, ◌^◌, ◌++◌, length}
use Rattle.octets.specs.Bytes.{network, prefixed}

-- the bytes are items, none of which has this kind
pub data AreOthers (wanted : ℕ) : List ℕ → Type 0 where
  nothing : AreOthers wanted []
  another : {before : List ℕ} (kind : ℕ) (body : List ℕ) → AreOthers wanted before
      → kind < 2 ^ 16 → kind ≢ wanted → length body < 2 ^ 16
      → AreOthers wanted (before ++ (network 2 kind ++ prefixed 2 body))
