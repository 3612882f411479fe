use Rattle.std.specs.Prelude.{ℕ, List, ◌≢◌, ◌++◌, All}
use Rattle.octets.specs.Bytes.{network}

-- a text has no zero byte
unfoldable pub IsText : List ℕ → Type 0
IsText text = All (λ b. b ≢ 0) text

-- a text, and the zero byte that ends it
unfoldable pub ended : List ℕ → List ℕ
ended text = text ++ network 1 0
