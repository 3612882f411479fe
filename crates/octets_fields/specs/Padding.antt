use Rattle.std.specs.Prelude.{ℕ, List, [], ◌++◌}
use Rattle.octets.specs.Bytes.{network}

-- each of the bytes is 0
pub data IsPadding : List ℕ → Type 0 where
  nothing : IsPadding []
  another : {before : List ℕ} → IsPadding before → IsPadding (before ++ network 1 0)
