-- How far the bits of a text were read.
use Rattle.std.specs.Prelude.{◌≡◌, ℕ, ◌+◌, ◌-◌, ◌/◌, ◌<◌, ◌≤◌, Bool, ◌⊎◌, List, ◌++◌, length}
use Rattle.octets_code.specs.Answers.{IsFaultBehind}
use Rattle.octets_code.specs.Steps.{IsOpen}
use Rattle.octets_code.specs.Texts.{bits, codes, AreBytes, HasNoCode}

-- the bits x are the codes of v, which is within the limit m, and then a prefix of a code
pub record IsRead (x : List Bool) (m : ℕ) (v : List ℕ) (front : List Bool) : Type 0 where
  pub bytes : AreBytes v
  pub within : length v ≤ m
  pub open_front : IsOpen front
  pub parts : x ≡ codes v ++ front

-- v is what was read of the text t before a decode under the limit m failed: after the codes of these
-- bytes comes the end code, a symbol beyond the limit, or no code
pub record IsReadBefore (v t : List ℕ) (m : ℕ) : Type 0 where
  pub are_bytes : AreBytes v
  pub stopped : ((e : ℕ) × IsFaultBehind v (bits t) m e)
      ⊎ ((after : List Bool) × HasNoCode after × (bits t ≡ codes v ++ after))

-- of the bits y after x, the fault after v under the limit m ends in the half byte number n, counted
-- from 1
abbrev pub IsStopped : List ℕ → List Bool → List Bool → ℕ → ℕ → Type 0
IsStopped v x y m n = (e : ℕ) × IsFaultBehind v (x ++ y) m e × (length x < e) × (n ≡ (e - length x + 3) / 4)

-- the count went from old to new over y, up to the half byte in which the fault after v ends
abbrev pub CountsToStop : List ℕ → List Bool → List Bool → ℕ → ℕ → ℕ → Type 0
CountsToStop v x y m old new = (n : ℕ) × IsStopped v x y m n × (new ≡ old + n)
