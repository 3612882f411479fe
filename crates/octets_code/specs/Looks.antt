-- Which codes some bits begin with.
use Rattle.std.specs.Prelude.{◌≡◌, ℕ, ◌*◌, ◌^◌, ◌/◌, ◌%◌, ◌≤◌, ◌<◌, Bool, List, [], ◌∷◌, ◌++◌, length, take}
use Rattle.octets_code.specs.Codes.{code}
use Rattle.octets_code.specs.Steps.{IsOpen}
use Rattle.octets_code.specs.Texts.{codes}

-- the first cut / 64 of the two bytes in pair
abbrev pub bytes_of_look : ℕ → ℕ → List ℕ
bytes_of_look cut pair = take (cut / 64) (pair % 256 ∷ pair / 256 ∷ [])

-- the bits x begin with the codes of these bytes
pub record IsLook (x : List Bool) (cut pair : ℕ) : Type 0 where
  pub few : cut / 64 ≤ 2
  pub small : pair < 2 ^ (8 * (cut / 64))
  pub len : length (codes (bytes_of_look cut pair)) ≡ cut % 64
  pub rest : List Bool
  pub parts : x ≡ codes (bytes_of_look cut pair) ++ rest
  -- if there are fewer than two codes, the bits that remain contain no complete code
  pub all : cut / 64 < 2 → IsOpen rest
  -- if there is no code, the first code is longer than x
  pub none : cut ≡ 0 → IsOpen x

-- the bits x begin with the code of the symbol s
abbrev pub BeginsWithCode : List Bool → ℕ → Type 0
BeginsWithCode x s = (r : List Bool) × (x ≡ code s ++ r)
