-- Which fault of a text a decode into a slice meets first.
use Rattle.std.specs.Prelude.{◌≡◌, ◌⊎◌, ℕ, ◌<◌, Bool, List, ◌++◌, length}
use Rattle.octets_code.specs.Codes.{code}
use Rattle.octets_code.specs.Texts.{bits, codes, HasNoCode}
use Rattle.octets.specs.declared.error.IntoError.{IntoError}
use Rattle.octets.specs.declared.error.IntoError.TheVariants.{NotText, NoRoom}

-- in the bits x, the code of a byte follows the codes of v
abbrev pub HasByteBehind : List ℕ → List Bool → Type 0
HasByteBehind v x = (b : ℕ) × (r : List Bool) × (b < 256) × (x ≡ codes v ++ (code b ++ r))

-- in the bits x, the end code or no code follows the codes of v
abbrev pub HasNoByteBehind : List ℕ → List Bool → Type 0
HasNoByteBehind v x = ((r : List Bool) × (x ≡ codes v ++ (code 256 ++ r)))
    ⊎ ((r : List Bool) × HasNoCode r × (x ≡ codes v ++ r))

-- A decode of the text t under the limit m read v, and then stopped for this reason: no byte follows v,
-- or a byte beyond the limit does.
unfoldable pub IsStoppedBy : IntoError → List ℕ → List ℕ → ℕ → Type 0
IsStoppedBy (NotText n) v t m = (length v ≡ n) × HasNoByteBehind v (bits t)
IsStoppedBy NoRoom v t m = (length v ≡ m) × HasByteBehind v (bits t)
