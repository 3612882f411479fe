use Rattle.std.specs.Prelude.{◌<◌, ◌++◌, ◌∷◌, ℕ, List, [], length, drop}
use Rattle.octets.specs.Varints.{BeginsVarint, HasNoVarint}

-- l begins with the varints of the numbers vs, and m remains
pub data AreVarints (l : List ℕ) : List ℕ → List ℕ → Type 0 where
  nothing : AreVarints l [] l
  another : {vs m : List ℕ} (w v : ℕ) → AreVarints l vs m → BeginsVarint m w v
      → AreVarints l (vs ++ v ∷ []) (drop w m)

-- l is fewer than n varints, and bytes after them that don't begin with a complete varint
unfoldable pub LacksVarints : List ℕ → ℕ → Type 0
LacksVarints l n = (vs m : List ℕ) × AreVarints l vs m × (length vs < n) × HasNoVarint m
