use Rattle.std.specs.Prelude.{◌≢◌, ◌+◌, ◌++◌, ◌∷◌, ℕ, List, [], drop}
use Rattle.octets.specs.Varints.{BeginsVarint}

-- l begins with the settings ps, each an identifier and a value, and m remains
pub data AreSettings (l : List ℕ) : List (ℕ × ℕ) → List ℕ → Type 0 where
  nothing : AreSettings l [] l
  another : {ps : List (ℕ × ℕ)} {m : List ℕ} (w u : ℕ) (p : ℕ × ℕ) → AreSettings l ps m
      → BeginsVarint m w p.0 → BeginsVarint (drop w m) u p.1
      → AreSettings l (ps ++ p ∷ []) (drop (w + u) m)

-- l doesn't begin with a setting
unfoldable pub LacksSetting : List ℕ → Type 0
LacksSetting l = (w u i v : ℕ) → BeginsVarint l w i → BeginsVarint (drop w l) u v → ⊥

-- l begins with some settings; bytes remain after them, and these don't begin with a setting
unfoldable pub EndsInSetting : List ℕ → Type 0
EndsInSetting l = (ps : List (ℕ × ℕ)) × (m : List ℕ) × AreSettings l ps m × (m ≢ []) × LacksSetting m
