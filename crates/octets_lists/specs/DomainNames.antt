use Rattle.std.specs.Prelude.{◌≡◌, ◌≤◌, ◌<◌, ◌+◌, ℕ, List, length, drop}
use Rattle.octets.specs.Bytes.{number, part}

-- m begins with a label of n bytes, after its length, which has one byte
unfoldable pub BeginsLabel : List ℕ → ℕ → Type 0
BeginsLabel m n = (1 ≤ length m) × (n ≡ number (part m 0 1)) × (n < 64) × (1 + n ≤ length m)

-- l is labels that aren't empty, followed by the list m
pub data HasLabels (l : List ℕ) : List ℕ → Type 0 where
  nothing : HasLabels l l
  another : {m : List ℕ} (n : ℕ) → HasLabels l m → BeginsLabel m n → 1 ≤ n → HasLabels l (drop (1 + n) m)

-- l is a name, which is labels and an empty label, followed by the list after
unfoldable pub BeginsName : List ℕ → List ℕ → Type 0
BeginsName l after = (m : List ℕ) × HasLabels l m × BeginsLabel m 0 × (after ≡ drop 1 m)

-- l doesn't begin with a label
unfoldable pub LacksLabel : List ℕ → Type 0
LacksLabel l = (n : ℕ) → BeginsLabel l n → ⊥

-- l doesn't begin with a name: after some labels there is no label
unfoldable pub LacksName : List ℕ → Type 0
LacksName l = (m : List ℕ) × HasLabels l m × LacksLabel m
